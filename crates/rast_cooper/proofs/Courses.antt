-- The outcome of states, one part after the other.
use Rattle.std.proofs.Common.{◌≡◌, ℕ, zero, suc, ◌+◌, ◌-◌, ◌<◌, ◌≤◌, Bool, true, false, ◌&&◌, List, [], ◌∷◌, ◌++◌, length, get_or, take, drop, map, sym, ◌∙◌, ap, ap₂, refl, arith, subst, cond, append_assoc, append-nil, add-one, Option, Some, None}
use Rattle.std.specs.List.{list_any}
use Rattle.std.proofs.Math.Seq.{take-suc}
use Rattle.std.proofs.lemmas.List.{take-append-drop}
use Rattle.rast_cooper.specs.declared.literal.Literal.{Literal}
use Rattle.rast_cooper.specs.declared.solution.Solution.{Solution}
use Rattle.rast_cooper.specs.declared.explore.Course.{Course}
use Rattle.rast_cooper.specs.declared.explore.Course.TheVariants as course
use Rattle.rast_cooper.specs.declared.rewrite.Prepared.{Prepared}
use Rattle.rast_cooper.specs.Arithmetic.{Linear}
use Rattle.rast_cooper.specs.Course.{continued, Explores, Advances, IsBelow, IsAtMost, broken}
use Rattle.rast_cooper.specs.Eliminate.{at_point, substituted, bound, bounds, is_lower}
use Rattle.rast_cooper.specs.Search.{State, state, Step, Ended, Beyond, Solved, Next, step, bare, settled, first_solved, varied, fails, all_in_bounds, tested, test, fit, left, lowest, point_states, bound_states, Exhausted, Found, TooMany, TooGreat, run, after}

-- ---- one turn of the search
pub run_none : (n : ℕ) → run n [] ≡ Exhausted
unfolding run
run_none zero = refl
run_none (suc n) = refl

pub run_over : (s : State) (ss : List State) → run 0 (s ∷ ss) ≡ TooMany
unfolding run
run_over s ss = refl

pub run_great : (n : ℕ) (s : State) (ss : List State) → (all_in_bounds s.literals && all_in_bounds s.rows) ≡ false → run (suc n) (s ∷ ss) ≡ TooGreat
unfolding run
run_great n s ss e = ap (λ b. cond b (after (run n) (step s) s ss) TooGreat) e

pub run_step : (n : ℕ) (s : State) (ss : List State) → (all_in_bounds s.literals && all_in_bounds s.rows) ≡ true → run (suc n) (s ∷ ss) ≡ after (run n) (step s) s ss
unfolding run
run_step n s ss e = ap (λ b. cond b (after (run n) (step s) s ss) TooGreat) e

-- ---- parts of the search
abbrev pub IsEnd : Course → Type 0
IsEnd (course.Done m) = ⊥
IsEnd (course.Found rows) = Unit {0}
IsEnd course.TooMany = Unit {0}
IsEnd course.TooGreat = Unit {0}

pub is_end : (c : Course) → ((m : ℕ) → c ≡ course.Done m → ⊥) → IsEnd c
is_end (course.Done m) h = h m refl
is_end (course.Found rows) h = tt
is_end course.TooMany h = tt
is_end course.TooGreat h = tt

pub explores_none : (n : ℕ) → Explores n [] (course.Done n)
explores_none n = record { goes = λ ss. refl }

pub explores_then : (n m : ℕ) (cs ds : List State) (c : Course) → Explores n cs (course.Done m) → Explores m ds c → Explores n (cs ++ ds) c
explores_then n m cs ds c h k = record { goes = λ ss. ap (run n) (append_assoc cs ds ss) ∙ h.goes (ds ++ ss) ∙ k.goes ss }

pub same_end : (c : Course) (ss ts : List State) → IsEnd c → continued c ss ≡ continued c ts
same_end (course.Done m) ss ts h = absurd h
same_end (course.Found rows) ss ts h = refl
same_end course.TooMany ss ts h = refl
same_end course.TooGreat ss ts h = refl

pub explores_stop : (n : ℕ) (cs ds : List State) (c : Course) → Explores n cs c → IsEnd c → Explores n (cs ++ ds) c
explores_stop n cs ds c h e = record { goes = λ ss. ap (run n) (append_assoc cs ds ss) ∙ h.goes (ds ++ ss) ∙ same_end c (ds ++ ss) ss e }

pub explores_over : (s : State) → Explores 0 (s ∷ []) course.TooMany
explores_over s = record { goes = λ ss. run_over s ss }

pub explores_broken : (n : ℕ) (s : State) → (all_in_bounds s.literals && all_in_bounds s.rows) ≡ false → Explores n (s ∷ []) (broken n)
explores_broken zero s e = explores_over s
explores_broken (suc n) s e = record { goes = λ ss. run_great n s ss e }

pub broken_at_most : (n : ℕ) → IsAtMost n (broken n)
broken_at_most zero = tt
broken_at_most (suc n) = tt

-- a state without pending claims is visited
step_of : (ls rows : List Literal) → step (state [] ls rows) ≡ bare ls rows
unfolding step
step_of ls rows = refl

pub explores_ended : (n : ℕ) (ls rows : List Literal) → all_in_bounds ls ≡ true → all_in_bounds rows ≡ true → list_any fails ls ≡ true → 0 < n → Explores n (state [] ls rows ∷ []) (course.Done (n - 1))
explores_ended zero ls rows h k e l = absurd (omega arith)
explores_ended (suc n) ls rows h k e l = record {
  goes = λ ss.
      run_step n (state [] ls rows) ss (ap₂ (λ a b. a && b) h k)
      ∙ ap (λ t. after (run n) t (state [] ls rows) ss) (step_of ls rows ∙ ap (λ b. cond b Ended (settled (first_solved (varied ls)) (varied ls) rows)) e)
      ∙ ap (λ m. run m ss) (let f : n ≡ suc n - 1 = omega arith in f);
}

pub explores_settled : (n : ℕ) (ls rows : List Literal) (c : Course) → all_in_bounds ls ≡ true → all_in_bounds rows ≡ true → list_any fails ls ≡ false → 0 < n →
    ((ss : List State) → after (run (n - 1)) (settled (first_solved (varied ls)) (varied ls) rows) (state [] (varied ls) rows) ss ≡ continued c ss) → Explores n (state [] ls rows ∷ []) c
explores_settled zero ls rows c h k e l f = absurd (omega arith)
explores_settled (suc n) ls rows c h k e l f = record {
  goes = λ ss.
      run_step n (state [] ls rows) ss (ap₂ (λ a b. a && b) h k)
      ∙ ap (λ t. after (run n) t (state [] ls rows) ss) (step_of ls rows ∙ ap (λ b. cond b Ended (settled (first_solved (varied ls)) (varied ls) rows)) e)
      ∙ same_state (settled (first_solved (varied ls)) (varied ls) rows) ss
      ∙ (let g : n ≡ suc n - 1 = omega arith in ap (λ m. after (run m) (settled (first_solved (varied ls)) (varied ls) rows) (state [] (varied ls) rows) ss) g)
      ∙ f ss;
}
  where
    same_state : (t : Step) (ss : List State) → after (run n) t (state [] ls rows) ss ≡ after (run n) t (state [] (varied ls) rows) ss
    same_state Ended ss = refl
    same_state Beyond ss = refl
    same_state Solved ss = refl
    same_state (Next cs) ss = refl

pub below_of : (n : ℕ) (c : Course) → 0 < n → IsAtMost (n - 1) c → IsBelow n c
below_of n (course.Done m) h k = omega arith
below_of n (course.Found rows) h k = tt
below_of n course.TooMany h k = tt
below_of n course.TooGreat h k = tt

pub at_most_of : (n : ℕ) (c : Course) → IsBelow n c → IsAtMost n c
at_most_of n (course.Done m) h = omega arith
at_most_of n (course.Found rows) h = tt
at_most_of n course.TooMany h = tt
at_most_of n course.TooGreat h = tt

pub at_most_trans : (m n : ℕ) (c : Course) → m ≤ n → IsAtMost m c → IsAtMost n c
at_most_trans m n (course.Done k) h l = omega arith
at_most_trans m n (course.Found rows) h l = tt
at_most_trans m n course.TooMany h l = tt
at_most_trans m n course.TooGreat h l = tt

-- ---- what follows from a state
pub settled_solved : (n : ℕ) (ls rows : List Literal) (s : State) (o : Option Solution) (x : Solution) (c : Course) → o ≡ Some x →
    Explores n (state [] (map (substituted x.variable x.term) ls) (map (substituted x.variable x.term) rows) ∷ []) c → (ss : List State) → after (run n) (settled o ls rows) s ss ≡ continued c ss
settled_solved n ls rows s o x c e h ss = ap (λ p. after (run n) (settled p ls rows) s ss) e ∙ h.goes ss

pub settled_tested : (n x : ℕ) (ls rows : List Literal) (s : State) (o : Option Solution) (c : Course) → o ≡ None → lowest (ls ++ rows) ≡ Some x →
    Advances n (tested x (test x ls rows)) c → (ss : List State) → after (run n) (settled o ls rows) s ss ≡ continued c ss
settled_tested n x ls rows s o c e l h ss = ap (λ p. after (run n) (settled p ls rows) s ss) e ∙ ap (λ p. after (run n) (left p ls rows) s ss) l ∙ h.goes s ss

pub settled_found : (n : ℕ) (ls rows : List Literal) (o : Option Solution) → o ≡ None → lowest (ls ++ rows) ≡ None → (ss : List State) → after (run n) (settled o ls rows) (state [] ls rows) ss ≡ Found rows
settled_found n ls rows o e l ss = ap (λ p. after (run n) (settled p ls rows) (state [] ls rows) ss) e ∙ ap (λ p. after (run n) (left p ls rows) (state [] ls rows) ss) l

pub advances_beyond : (n x : ℕ) (t : Prepared) → fit t ≡ false → Advances n (tested x t) course.TooGreat
advances_beyond n x t e = record { goes = λ s ss. ap (λ b. after (run n) (cond b (Next (bound_states x (bounds x t.literals) t.period t.literals t.rows)) Beyond) s ss) e }

pub advances_tested : (n x : ℕ) (t : Prepared) (c : Course) → fit t ≡ true → Explores n (bound_states x (bounds x t.literals) t.period t.literals t.rows) c → Advances n (tested x t) c
advances_tested n x t c e h = record { goes = λ s ss. ap (λ b. after (run n) (cond b (Next (bound_states x (bounds x t.literals) t.period t.literals t.rows)) Beyond) s ss) e ∙ h.goes ss }

-- ---- the points of one bound
points_append : (x : ℕ) (b : Linear) (i n m : ℕ) (ls rows : List Literal) → point_states x b i (n + m) ls rows ≡ point_states x b i n ls rows ++ point_states x b (i + n) m ls rows
points_append x b i zero m ls rows = ap₂ (λ j k. point_states x b j k ls rows) (omega arith) (omega arith)
points_append x b i (suc n) m ls rows =
    ap (λ k. point_states x b i k ls rows) (let e : suc n + m ≡ suc (n + m) = omega arith in e)
    ∙ ap (λ t. state [] (at_point x b i ls) (at_point x b i rows) ∷ t) (points_append x b (suc i) n m ls rows
    ∙ ap (λ j. point_states x b (suc i) n ls rows ++ point_states x b j m ls rows) (omega arith))

pub points_more : (x : ℕ) (b : Linear) (j : ℕ) (ls rows : List Literal) → point_states x b 0 (j + 1) ls rows ≡ point_states x b 0 j ls rows ++ (state [] (at_point x b j ls) (at_point x b j rows) ∷ [])
points_more x b j ls rows = points_append x b 0 j 1 ls rows ∙ ap (λ k. point_states x b 0 j ls rows ++ point_states x b k 1 ls rows) (let e : 0 + j ≡ j = omega arith in e)

pub points_rest : (x : ℕ) (b : Linear) (j period : ℕ) (ls rows : List Literal) → j < period → point_states x b 0 period ls rows ≡ (point_states x b 0 j ls rows ++ (state [] (at_point x b j ls) (at_point x b j rows) ∷ [])) ++ point_states x b (0 + (j + 1)) (period - (j + 1)) ls rows
points_rest x b j period ls rows h =
    ap (λ k. point_states x b 0 k ls rows) (let e : period ≡ (j + 1) + (period - (j + 1)) = omega arith in e)
    ∙ points_append x b 0 (j + 1) (period - (j + 1)) ls rows
    ∙ ap (λ t. t ++ point_states x b (0 + (j + 1)) (period - (j + 1)) ls rows) (points_more x b j ls rows)

-- ---- the bounds
pub bounds_append : (x n : ℕ) (bs cs : List Linear) (ls rows : List Literal) → bound_states x (bs ++ cs) n ls rows ≡ bound_states x bs n ls rows ++ bound_states x cs n ls rows
bounds_append x n [] cs ls rows = refl
bounds_append x n (b ∷ bs) cs ls rows = ap (λ t. point_states x b 0 n ls rows ++ t) (bounds_append x n bs cs ls rows) ∙ sym (append_assoc (point_states x b 0 n ls rows) (bound_states x bs n ls rows) (bound_states x cs n ls rows))

of_append : (x : ℕ) (ls ms : List Literal) → bounds x (ls ++ ms) ≡ bounds x ls ++ bounds x ms
of_append x [] ms = refl
of_append x (l ∷ ls) ms = by (is_lower x l) (of_append x ls ms)
  where
    by : (b : Bool) → bounds x (ls ++ ms) ≡ bounds x ls ++ bounds x ms → cond b (bound x l ∷ bounds x (ls ++ ms)) (bounds x (ls ++ ms)) ≡ cond b (bound x l ∷ bounds x ls) (bounds x ls) ++ bounds x ms
    by true e = ap (λ t. bound x l ∷ t) e
    by false e = e

step_at : (x : ℕ) (ls : List Literal) (i : ℕ) (lit : Literal) → i < length ls → lit ≡ get_or ls i lit → bounds x (take (i + 1) ls) ≡ bounds x (take i ls) ++ bounds x (lit ∷ [])
step_at x ls i lit h e = ap (bounds x) (ap (λ n. take n ls) (add-one i) ∙ take-suc ls i lit h ∙ ap (λ (m : Literal). take i ls ++ m ∷ []) (sym e)) ∙ of_append x (take i ls) (lit ∷ [])

pub bounds_same : (x : ℕ) (ls : List Literal) (i : ℕ) (lit : Literal) → i < length ls → lit ≡ get_or ls i lit → is_lower x lit ≡ false → bounds x (take (i + 1) ls) ≡ bounds x (take i ls)
bounds_same x ls i lit h e f = step_at x ls i lit h e ∙ ap (λ b. bounds x (take i ls) ++ cond b (bound x lit ∷ []) []) f ∙ append-nil (bounds x (take i ls))

pub bounds_more : (x n : ℕ) (ls rows : List Literal) (i : ℕ) (lit : Literal) → i < length ls → lit ≡ get_or ls i lit → is_lower x lit ≡ true →
    bound_states x (bounds x (take (i + 1) ls)) n ls rows ≡ bound_states x (bounds x (take i ls)) n ls rows ++ point_states x (bound x lit) 0 n ls rows
bounds_more x n ls rows i lit h e f =
    ap (λ bs. bound_states x bs n ls rows) (step_at x ls i lit h e ∙ ap (λ b. bounds x (take i ls) ++ cond b (bound x lit ∷ []) []) f)
    ∙ bounds_append x n (bounds x (take i ls)) (bound x lit ∷ []) ls rows
    ∙ ap (λ t. bound_states x (bounds x (take i ls)) n ls rows ++ t) (append-nil (point_states x (bound x lit) 0 n ls rows))

pub bounds_rest : (x n : ℕ) (ls rows : List Literal) (i : ℕ) (lit : Literal) → i < length ls → lit ≡ get_or ls i lit → is_lower x lit ≡ true →
    bound_states x (bounds x ls) n ls rows ≡ (bound_states x (bounds x (take i ls)) n ls rows ++ point_states x (bound x lit) 0 n ls rows) ++ bound_states x (bounds x (drop (i + 1) ls)) n ls rows
bounds_rest x n ls rows i lit h e f =
    ap (λ ms. bound_states x (bounds x ms) n ls rows) (sym (take-append-drop (i + 1) ls))
    ∙ ap (λ bs. bound_states x bs n ls rows) (of_append x (take (i + 1) ls) (drop (i + 1) ls))
    ∙ bounds_append x n (bounds x (take (i + 1) ls)) (bounds x (drop (i + 1) ls)) ls rows
    ∙ ap (λ t. t ++ bound_states x (bounds x (drop (i + 1) ls)) n ls rows) (bounds_more x n ls rows i lit h e f)

-- ---- one bound more
module _ (most left x n : ℕ) (ls rows : List Literal) (i : ℕ) (lit : Literal) (b : Linear) (h : i < length ls) (e : lit ≡ get_or ls i lit) (f : is_lower x lit ≡ true) (g : b ≡ bound x lit)
    (before : Explores most (bound_states x (bounds x (take i ls)) n ls rows) (course.Done left)) where
  both_parts : (c : Course) → Explores left (point_states x b 0 n ls rows) c → Explores most (bound_states x (bounds x (take i ls)) n ls rows ++ point_states x (bound x lit) 0 n ls rows) c
  both_parts c k = explores_then most left (bound_states x (bounds x (take i ls)) n ls rows) (point_states x (bound x lit) 0 n ls rows) c before
      (subst (λ d. Explores left (point_states x d 0 n ls rows) c) g k)

  pub bounds_done : (c : Course) → Explores left (point_states x b 0 n ls rows) c → Explores most (bound_states x (bounds x (take (i + 1) ls)) n ls rows) c
  bounds_done c k = subst (λ ss. Explores most ss c) (sym (bounds_more x n ls rows i lit h e f)) (both_parts c k)

  pub bounds_stopped : (c : Course) → Explores left (point_states x b 0 n ls rows) c → IsEnd c → Explores most (bound_states x (bounds x ls) n ls rows) c
  bounds_stopped c k l = subst (λ ss. Explores most ss c) (sym (bounds_rest x n ls rows i lit h e f))
      (explores_stop most (bound_states x (bounds x (take i ls)) n ls rows ++ point_states x (bound x lit) 0 n ls rows) (bound_states x (bounds x (drop (i + 1) ls)) n ls rows) c (both_parts c k) l)

-- ---- one point more
module _ (most left x : ℕ) (b : Linear) (j n : ℕ) (ls rows : List Literal) (h : j < n) (before : Explores most (point_states x b 0 j ls rows) (course.Done left)) where
  with_point : (c : Course) → Explores left (state [] (at_point x b j ls) (at_point x b j rows) ∷ []) c → Explores most (point_states x b 0 j ls rows ++ (state [] (at_point x b j ls) (at_point x b j rows) ∷ [])) c
  with_point c k = explores_then most left (point_states x b 0 j ls rows) (state [] (at_point x b j ls) (at_point x b j rows) ∷ []) c before k

  pub points_done : (c : Course) → Explores left (state [] (at_point x b j ls) (at_point x b j rows) ∷ []) c → Explores most (point_states x b 0 (j + 1) ls rows) c
  points_done c k = subst (λ ss. Explores most ss c) (sym (points_more x b j ls rows)) (with_point c k)

  pub points_stopped : (c : Course) → Explores left (state [] (at_point x b j ls) (at_point x b j rows) ∷ []) c → IsEnd c → Explores most (point_states x b 0 n ls rows) c
  points_stopped c k l = subst (λ ss. Explores most ss c) (sym (points_rest x b j n ls rows h))
      (explores_stop most (point_states x b 0 j ls rows ++ (state [] (at_point x b j ls) (at_point x b j rows) ∷ [])) (point_states x b (0 + (j + 1)) (n - (j + 1)) ls rows) c (with_point c k) l)
