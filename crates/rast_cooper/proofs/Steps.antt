-- The steps of the search, and what its verdict says.
use Rattle.std.proofs.Common.{◌≡◌, ◌⊎◌, inl, inr, ⊎_elim, ℕ, zero, suc, ◌+◌, ◌<◌, ◌≤◌, List, [], ◌∷◌, ◌++◌, length, set, map, sym, ◌∙◌, ap, refl, arith, ℤ, pos, Bool, true, false, not, ◌&&◌, ◌||◌, subst, cond, Option, Some, None, length-set, eq-or-lt_of_le}
use Rattle.std.specs.List.{list_any}
use Rattle.std.proofs.lemmas.List.{set-get_or}
use Rattle.rast_cooper.specs.Arithmetic.{value, shifted}
use Rattle.rast_cooper.specs.declared.literal.Literal.{Literal}
use Rattle.rast_cooper.specs.Meaning.{Hold}
use Rattle.rast_cooper.specs.Eliminate.{is_zero, has, scaled, without_equations, common, period, bounds, prepared_by}
use Rattle.rast_cooper.specs.Claims.{Claim, node_of}
use Rattle.rast_cooper.specs.declared.solution.Solution.{Solution}
use Rattle.rast_cooper.specs.Search.{State, state, Step, Ended, Beyond, Solved, Next, free, ground, fails, varied, first_solved, lowest_from, lowest, own, bound_states, test, test_by, fit, tested, left, settled, bare, step_from, step}
use Rattle.rast_cooper.specs.Eliminate.{Positive}
use Rattle.rast_cooper.proofs.Multiples.{AllFit, common_fits}
use Rattle.rast_cooper.proofs.Points.{In}
use Rattle.rast_cooper.proofs.Test.{put_all, forward, backward, coefficient_variable}
use Rattle.rast_cooper.proofs.Apart.{ClaimsTrue, node_same}
use Rattle.rast_cooper.proofs.States.{Sat, OneSat, Rows, Kept, Back, AllBack, Within, True_at, apart_kept, apart_back, solved_is, in_bound_states, of_bounds, in_append_left, in_map, in_without, lower_some, own_lower, none_failed, varied_hold, hold_varied, rows_scaled, rows_put, one_back}

-- each variable that is left has the literal that it is no less than 0
abbrev pub Covered : List Literal → List Literal → Type 0
Covered ls rows = (x : ℕ) → x < 16 → (list_any (has x) ls ≡ true) ⊎ (list_any (has x) rows ≡ true) → In (own x) ls

any_append : {A : Type 0} (p : A → Bool) (xs ys : List A) → list_any p (xs ++ ys) ≡ true → (list_any p xs ≡ true) ⊎ (list_any p ys ≡ true)
any_append p [] ys h = inr h
any_append p (x ∷ xs) ys h = by (p x) h (any_append p xs ys)
  where
    by : (b : Bool) → (b || list_any p (xs ++ ys)) ≡ true → (list_any p (xs ++ ys) ≡ true → (list_any p xs ≡ true) ⊎ (list_any p ys ≡ true)) → ((b || list_any p xs) ≡ true) ⊎ (list_any p ys ≡ true)
    by true e r = inl refl
    by false e r = r e

any_varied : (x : ℕ) (ls : List Literal) → list_any (has x) (varied ls) ≡ true → list_any (has x) ls ≡ true
any_varied x [] h = h
any_varied x (lit ∷ ls) h = by (not (ground lit)) h (any_varied x ls)
  where
    or_right : (a b : Bool) → b ≡ true → (a || b) ≡ true
    or_right true b e = refl
    or_right false b e = e

    or_more : (a b c : Bool) → (b ≡ true → c ≡ true) → (a || b) ≡ true → (a || c) ≡ true
    or_more true b c f e = refl
    or_more false b c f e = f e

    by : (b : Bool) → list_any (has x) (cond b (lit ∷ varied ls) (varied ls)) ≡ true → (list_any (has x) (varied ls) ≡ true → list_any (has x) ls ≡ true) → (has x lit || list_any (has x) ls) ≡ true
    by true e r = or_more (has x lit) _ _ r e
    by false e r = or_right (has x lit) _ (r e)

-- a literal with a variable is kept
pub not_free : (x i n : ℕ) (lit : Literal) → has x lit ≡ true → i ≤ x → x < i + n → free i n lit ≡ false
not_free x i zero lit e h k = absurd (omega arith)
not_free x i (suc n) lit e h k = ⊎_elim
    (λ (same : i ≡ x). subst (λ j. (not (has j lit) && free (suc i) n lit) ≡ false) (sym same) (subst (λ b. (not b && free (suc i) n lit) ≡ false) (sym e) refl))
    (λ (lt : i < x). and_false _ _ (not_free x (suc i) n lit e (omega arith) (omega arith)))
    (eq-or-lt_of_le h)
  where
    and_false : (a b : Bool) → b ≡ false → (a && b) ≡ false
    and_false true b e = e
    and_false false b e = refl

pub not_ground : (x : ℕ) (lit : Literal) → has x lit ≡ true → x < 16 → ground lit ≡ false
unfolding ground
not_ground x lit e h = not_free x 0 16 lit e (omega arith) (omega arith)

pub in_varied : (m : Literal) (ls : List Literal) → ground m ≡ false → In m ls → In m (varied ls)
in_varied m [] e h = absurd h
in_varied m (lit ∷ ls) e h = ⊎_elim
    (λ f. subst (λ b. In m (cond (not b) (lit ∷ varied ls) (varied ls))) (sym e ∙ ap ground f) (inl f))
    (λ f. by (not (ground lit)) (in_varied m ls e f)) h
  where
    by : (b : Bool) → In m (varied ls) → In m (cond b (lit ∷ varied ls) (varied ls))
    by true r = inr r
    by false r = r

pub covered_varied : (ls rows : List Literal) → Covered ls rows → Covered (varied ls) rows
covered_varied ls rows c x h a =
    let i = c x h (⊎_elim (λ e. inl (any_varied x ls e)) (λ e. inr e) a) in
    let e : has x (own x) ≡ true = ap (λ z. not (is_zero z)) (coefficient_variable x h) in
    in_varied (own x) ls (not_ground x (own x) e h) i

pub positive_varied : (ls : List Literal) → Positive ls → Positive (varied ls)
positive_varied [] p = tt
positive_varied (lit ∷ ls) p = by (not (ground lit)) (positive_varied ls p.1)
  where
    by : (b : Bool) → Positive (varied ls) → Positive (cond b (lit ∷ varied ls) (varied ls))
    by true r = (p.0, r)
    by false r = r

abbrev pub LowIs : List Literal → Option ℕ → Type 0
LowIs ls None = Unit {0}
LowIs ls (Some x) = (x < 16) × (list_any (has x) ls ≡ true)

pub lowest_is : (x n : ℕ) (ls : List Literal) → x + n ≡ 16 → LowIs ls (lowest_from x n ls)
lowest_is x zero ls e = tt
lowest_is x (suc n) ls e = by (list_any (has x) ls) refl (lowest_is (suc x) n ls (omega arith))
  where
    by : (b : Bool) → list_any (has x) ls ≡ b → LowIs ls (lowest_from (suc x) n ls) → LowIs ls (cond b (Some x) (lowest_from (suc x) n ls))
    by true f more = (omega arith, f)
    by false f more = more

pub lowest_low : (ls : List Literal) → LowIs ls (lowest ls)
unfolding lowest
lowest_low ls = lowest_is 0 16 ls refl

pub fit_split : (x l : ℕ) (ls ms : List Literal) → AllFit x l (ls ++ ms) → AllFit x l ls × AllFit x l ms
fit_split x l [] ms f = (tt, f)
fit_split x l (lit ∷ ls) ms f = let r = fit_split x l ls ms f.1 in ((f.0, r.0), r.1)

-- ---- a state that holds has a child that holds
module _ (vs : List ℤ) (n : length vs ≡ 16) where
  tested_kept : (x : ℕ) (ls rows : List Literal) → x < 16 → In (own x) ls → Positive ls → Hold ls vs → Kept (tested x (test x ls rows)) vs
  unfolding test
  tested_kept x ls rows h i p k =
      let split = without_equations x ls in
      let facts = common_fits x (split ++ rows) in
      let l = common x (split ++ rows) in
      let parts = fit_split x l split rows facts.1 in
      let ready = prepared_by x l split in
      let j = in_append_left (scaled x l (own x)) (map (scaled x l) split) _ (in_map (scaled x l) (own x) split (in_without x (own x) ls refl i)) in
      let low = lower_some x (scaled x l (own x)) ready (own_lower x l h) j in
      let f = forward x h ls p l (facts.0, parts.0) low.0 low.1 low.2 vs (omega arith) k in
      by (fit (test_by x l split rows)) (in_bound_states x (bounds x ready) (period x ready) f.0 f.1 ready (map (scaled x l) rows) vs f.2 f.3 f.4)
    where
      by : (b : Bool) → OneSat (bound_states x (bounds x (test x ls rows).literals) (test x ls rows).period (test x ls rows).literals (test x ls rows).rows) vs →
          Kept (cond b (Next (bound_states x (bounds x (test x ls rows).literals) (test x ls rows).period (test x ls rows).literals (test x ls rows).rows)) Beyond) vs
      by true r = r
      by false r = tt

  left_kept : (ls rows : List Literal) → Covered ls rows → Positive ls → Hold ls vs → (o : Option ℕ) → LowIs (ls ++ rows) o → Kept (left o ls rows) vs
  left_kept ls rows c p k None w = tt
  left_kept ls rows c p k (Some x) w = tested_kept x ls rows w.0 (c x w.0 (any_append (has x) ls rows w.1)) p k

  settled_kept : (ls rows : List Literal) → Covered ls rows → Positive ls → Hold ls vs → (o : Option Solution) → Within o → True_at o vs → Kept (settled o ls rows) vs
  settled_kept ls rows c p k None w e = left_kept ls rows c p k (lowest (ls ++ rows)) (lowest_low (ls ++ rows))
  settled_kept ls rows c p k (Some s) w e =
      let same : set vs s.variable (value s.term vs) ≡ vs = ap (set vs s.variable) e ∙ set-get_or vs s.variable (pos 0) in
      inl (tt, (put_all s.variable s.term ls vs (omega arith)).1 (subst (λ us. Hold ls us) (sym same) k))

  bare_kept : (ls rows : List Literal) → Covered ls rows → Positive ls → Hold ls vs → Kept (bare ls rows) vs
  bare_kept ls rows c p k =
      let v = varied_hold ls vs k in
      let w = solved_is (varied ls) in
      subst (λ b. Kept (cond b Ended (settled (first_solved (varied ls)) (varied ls) rows)) vs) (sym (none_failed ls vs n k))
      (settled_kept (varied ls) rows (covered_varied ls rows c) (positive_varied ls p) v (first_solved (varied ls)) w.0 (w.1 vs v))

  step_from_kept : (cs : List Claim) (ls rows : List Literal) → Covered ls rows → Positive ls → ClaimsTrue cs vs → Hold ls vs → Kept (step_from cs ls rows) vs
  step_from_kept [] ls rows c p t k = bare_kept ls rows c p k
  step_from_kept (d ∷ cs) ls rows c p t k = apart_kept (node_of d) cs ls rows vs ((node_same vs d).0 t.0) t.1 k

  pub step_kept : (s : State) → Covered s.literals s.rows → Positive s.literals → Sat s vs → Kept (step s) vs
  unfolding step
  step_kept s c p h = step_from_kept s.pending s.literals s.rows c p h.0 h.1

-- ---- a child that holds gives numbers at which the state holds
abbrev Back_to : List Literal → List Literal → State → Type 0
Back_to ls rows c = Back (state [] ls rows) c

tested_back : (x : ℕ) (ls rows : List Literal) → x < 16 → Positive ls → AllBack (state [] ls rows) (tested x (test x ls rows))
unfolding test
tested_back x ls rows h p = by (fit (test x ls rows))
  where
    each : (c : State) → In c (bound_states x (bounds x (test x ls rows).literals) (test x ls rows).period (test x ls rows).literals (test x ls rows).rows) → Back (state [] ls rows) c
    each c i =
        let split = without_equations x ls in
        let facts = common_fits x (split ++ rows) in
        let l = common x (split ++ rows) in
        let parts = fit_split x l split rows facts.1 in
        let ready = prepared_by x l split in
        let a = of_bounds x (bounds x ready) (period x ready) ready (map (scaled x l) rows) c i in
        subst (Back (state [] ls rows)) (sym a.2) (λ vs n k.
        let m : x < length vs = omega arith in
        let b = backward x h ls p l (facts.0, parts.0) a.0 a.1 vs m k.1 in (
          set vs x b.0,
          omega (arith, length-set vs x b.0),
          (tt, b.2),
          λ ws r. rows_put x (shifted a.1 a.0) (map (scaled x l) rows) ws vs m
              (subst (λ z. Rows (map (scaled x l) rows) ws (set vs x z)) (sym b.1) (rows_scaled x l rows ws b.0 vs m parts.1 r)),
        ))

    by : (b : Bool) → AllBack (state [] ls rows) (cond b (Next (bound_states x (bounds x (test x ls rows).literals) (test x ls rows).period (test x ls rows).literals (test x ls rows).rows)) Beyond)
    by true = each
    by false = tt

left_back : (ls rows : List Literal) → Positive ls → (o : Option ℕ) → LowIs (ls ++ rows) o → AllBack (state [] ls rows) (left o ls rows)
left_back ls rows p None w = tt
left_back ls rows p (Some x) w = tested_back x ls rows w.0 p

settled_back : (ls rows : List Literal) → Positive ls → (o : Option Solution) → Within o → AllBack (state [] ls rows) (settled o ls rows)
settled_back ls rows p None w = left_back ls rows p (lowest (ls ++ rows)) (lowest_low (ls ++ rows))
settled_back ls rows p (Some s) w = λ c i. one_back (state [] ls rows) c _ (λ vs n k.
    let m : s.variable < length vs = omega arith in (
      set vs s.variable (value s.term vs),
      omega (arith, length-set vs s.variable (value s.term vs)),
      (tt, (put_all s.variable s.term ls vs m).0 k.1),
      λ ws r. rows_put s.variable s.term rows ws vs m r,
    )) i

all_back_varied : (ls rows : List Literal) → list_any fails ls ≡ false → (t : Step) → AllBack (state [] (varied ls) rows) t → AllBack (state [] ls rows) t
all_back_varied ls rows e Ended b = tt
all_back_varied ls rows e Beyond b = tt
all_back_varied ls rows e Solved b = tt
all_back_varied ls rows e (Next cs) b = λ c i vs n k. let r = b c i vs n k in (r.0, r.1, (tt, hold_varied ls r.0 r.1 e r.2.1), r.3)

bare_back : (ls rows : List Literal) → Positive ls → AllBack (state [] ls rows) (bare ls rows)
bare_back ls rows p = by (list_any fails ls) refl
  where
    by : (b : Bool) → list_any fails ls ≡ b → AllBack (state [] ls rows) (cond b Ended (settled (first_solved (varied ls)) (varied ls) rows))
    by true e = tt
    by false e = all_back_varied ls rows e _ (settled_back (varied ls) rows (positive_varied ls p) (first_solved (varied ls)) (solved_is (varied ls)).0)

step_from_back : (cs : List Claim) (ls rows : List Literal) → Positive ls → AllBack (state cs ls rows) (step_from cs ls rows)
step_from_back [] ls rows p = bare_back ls rows p
step_from_back (d ∷ cs) ls rows p = apart_back (state (d ∷ cs) ls rows) (node_of d) cs (λ vs t c h. (((node_same vs d).1 t, c), h))

pub step_back : (s : State) → Positive s.literals → AllBack s (step s)
unfolding step
step_back s p = step_from_back s.pending s.literals s.rows p
