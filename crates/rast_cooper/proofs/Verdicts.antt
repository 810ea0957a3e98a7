-- What the verdicts of the search say.
use Rattle.std.proofs.Common.{◌≡◌, inl, inr, ⊎_elim, ℕ, zero, suc, List, [], ◌∷◌, ◌++◌, length, sym, ◌∙◌, ap, refl, ℤ, Bool, true, false, not, ◌&&◌, ◌||◌, subst, cond, Option, Some, None}
use Rattle.std.specs.List.{list_any}
use Rattle.rast_cooper.specs.declared.literal.Literal.{Literal}
use Rattle.rast_cooper.specs.Meaning.{Hold}
use Rattle.rast_cooper.specs.Eliminate.{has}
use Rattle.rast_cooper.specs.Claims.{Claim, node_of, Node, Always, Never, Atom, Every, Some_of}
use Rattle.rast_cooper.specs.declared.rewrite.Prepared.{Prepared}
use Rattle.rast_cooper.specs.declared.solution.Solution.{Solution}
use Rattle.rast_cooper.specs.Search.{State, Step, Ended, Beyond, Solved, Next, apart, free, ground, fails, varied, first_solved, lowest_from, lowest, test, fit, tested, left, settled, bare, step_from, step, step_states, all_in_bounds, Exhausted, Found, TooGreat, after, run}
use Rattle.rast_cooper.specs.Eliminate.{Positive}
use Rattle.rast_cooper.proofs.Points.{In}
use Rattle.rast_cooper.proofs.Apart.{ClaimsTrue}
use Rattle.rast_cooper.proofs.States.{Sat, OneSat, Rows, Kept, AllBack, one_append, in_append_left, in_split, hold_varied}
use Rattle.rast_cooper.proofs.Steps.{Covered, step_kept, step_back}

-- what must be known of each state, and that the children have it too
pub record IsKept (Good : State → Type 0) : Type 0 where
  pub covered : (s : State) → Good s → Covered s.literals s.rows
  pub positive : (s : State) → Good s → Positive s.literals
  pub children : (s : State) → Good s → (c : State) → In c (step_states (step s)) → Good c

module _ (Good : State → Type 0) (g : IsKept Good) where
  abbrev pub AllGood : List State → Type 0
  AllGood ss = (s : State) → In s ss → Good s

  more_good : (s : State) (ss cs : List State) → AllGood (s ∷ ss) → step s ≡ Next cs → AllGood (cs ++ ss)
  more_good s ss cs h e c i = ⊎_elim
      (λ k. g.children s (h s (inl refl)) c (subst (λ t. In c (step_states t)) (sym e) k))
      (λ k. h c (inr k)) (in_split c cs ss i)

  -- where all states were visited, no numbers make one of them true
  pub valid : (n : ℕ) (ss : List State) → AllGood ss → run n ss ≡ Exhausted → (vs : List ℤ) → length vs ≡ 16 → OneSat ss vs → ⊥
  unfolding run
  valid zero [] h e vs k s = s
  valid zero (t ∷ ss) h e vs k s = absurd (cc)
  valid (suc n) [] h e vs k s = s
  valid (suc n) (t ∷ ss) h e vs k s = by (all_in_bounds t.literals && all_in_bounds t.rows) e (valid n)
    where
      by : (b : Bool) → cond b (after (run n) (step t) t ss) TooGreat ≡ Exhausted →
          ((rs : List State) → AllGood rs → run n rs ≡ Exhausted → (us : List ℤ) → length us ≡ 16 → OneSat rs us → ⊥) → ⊥
      by true f more = at (step t) refl f
        where
          at : (o : Step) → step t ≡ o → after (run n) o t ss ≡ Exhausted → ⊥
          at Ended q f = ⊎_elim (λ a. subst (λ z. Kept z vs) q (step_kept vs k t (g.covered t (h t (inl refl))) (g.positive t (h t (inl refl))) a)) (λ a. more ss (λ c i. h c (inr i)) f vs k a) s
          at Beyond q f = absurd (cc)
          at Solved q f = absurd (cc)
          at (Next cs) q f = more (cs ++ ss) (more_good t ss cs h q) f vs k
              (one_append cs ss vs (⊎_elim (λ a. inl (subst (λ z. Kept z vs) q (step_kept vs k t (g.covered t (h t (inl refl))) (g.positive t (h t (inl refl))) a))) (λ a. inr a) s))
      by false f more = absurd (cc)

  -- ---- a solution
  module _ (Init : List ℤ → Type 0) where
    -- numbers that make a state true give, by its rows, numbers that are wanted
    abbrev pub Sound : State → Type 0
    Sound s = (vs : List ℤ) → length vs ≡ 16 → Sat s vs → (ws : List ℤ) × Rows s.rows ws vs × Init ws

    abbrev pub AllSound : List State → Type 0
    AllSound ss = (s : State) → In s ss → Sound s

    child_sound : (s : State) → Sound s → Positive s.literals → (cs : List State) → step s ≡ Next cs → (c : State) → In c cs → Sound c
    child_sound s h p cs e c i vs n k =
        let b = subst (AllBack s) e (step_back s p) in
        let r = b c i vs n k in
        let w = h r.0 r.1 r.2 in
        (w.0, r.3 w.0 w.1, w.2)

    more_sound : (s : State) (ss cs : List State) → Good s → AllSound (s ∷ ss) → step s ≡ Next cs → AllSound (cs ++ ss)
    more_sound s ss cs a h e c i = ⊎_elim (λ k. child_sound s (h s (inl refl)) (g.positive s a) cs e c k) (λ k. h c (inr k)) (in_split c cs ss i)

    -- the state at which the search found a solution
    pub record IsFinal (rows : List Literal) (t : State) : Type 0 where
      pub good : Good t
      pub sound : Sound t
      pub solved : step t ≡ Solved
      pub same : t.rows ≡ rows

    pub failed : (n : ℕ) (ss : List State) → AllGood ss → AllSound ss → (rows : List Literal) → run n ss ≡ Found rows → (t : State) × IsFinal rows t
    unfolding run
    failed zero [] h a rows e = absurd (cc)
    failed zero (t ∷ ss) h a rows e = absurd (cc)
    failed (suc n) [] h a rows e = absurd (cc)
    failed (suc n) (t ∷ ss) h a rows e = by (all_in_bounds t.literals && all_in_bounds t.rows) e (failed n)
      where
        by : (b : Bool) → cond b (after (run n) (step t) t ss) TooGreat ≡ Found rows →
            ((rs : List State) → AllGood rs → AllSound rs → (ms : List Literal) → run n rs ≡ Found ms → (u : State) × IsFinal ms u) → (u : State) × IsFinal rows u
        by true f more = at (step t) refl f
          where
            at : (o : Step) → step t ≡ o → after (run n) o t ss ≡ Found rows → (u : State) × IsFinal rows u
            at Ended q f = more ss (λ c i. h c (inr i)) (λ c i. a c (inr i)) rows f
            at Beyond q f = absurd (cc)
            at Solved q f = (t, record { good = h t (inl refl); sound = a t (inl refl); solved = q; same = cc })
            at (Next cs) q f = more (cs ++ ss) (more_good t ss cs h q) (more_sound t ss cs (h t (inl refl)) a q) rows f
        by false f more = absurd (cc)

-- ---- a state without variables that did not end is true
two_false : (a b : Bool) → (a || b) ≡ false → (a ≡ false) × (b ≡ false)
two_false true b f = absurd (cc)
two_false false b f = (refl, f)

absent : (x : ℕ) (lit : Literal) (ms : List Literal) → list_any (has x) ms ≡ false → In lit ms → has x lit ≡ false
absent x lit [] f j = absurd j
absent x lit (m ∷ ms) f j = let p = two_false (has x m) _ f in ⊎_elim (λ q. ap (has x) q ∙ p.0) (λ q. absent x lit ms p.1 q) j

pub none_left : (x n : ℕ) (ms : List Literal) → lowest_from x n ms ≡ None → (lit : Literal) → In lit ms → free x n lit ≡ true
none_left x zero ms e lit i = refl
none_left x (suc n) ms e lit i = by (list_any (has x) ms) refl e (λ f. none_left (suc x) n ms f lit i)
  where
    by : (b : Bool) → list_any (has x) ms ≡ b → cond b (Some x) (lowest_from (suc x) n ms) ≡ None → (lowest_from (suc x) n ms ≡ None → free (suc x) n lit ≡ true) → (not (has x lit) && free (suc x) n lit) ≡ true
    by true f q more = absurd (cc)
    by false f q more = subst (λ b. (not b && free (suc x) n lit) ≡ true) (sym (absent x lit ms f i)) (more q)

pub none_low : (ms : List Literal) → lowest ms ≡ None → (lit : Literal) → In lit ms → ground lit ≡ true
unfolding lowest ground
none_low ms e lit i = none_left 0 16 ms e lit i

none_hold : (ls : List Literal) (vs : List ℤ) → ((lit : Literal) → In lit (varied ls) → ground lit ≡ true) → Hold (varied ls) vs
none_hold [] vs h = tt
none_hold (lit ∷ ls) vs h = by (ground lit) refl h (none_hold ls vs)
  where
    by : (b : Bool) → ground lit ≡ b → ((m : Literal) → In m (cond (not b) (lit ∷ varied ls) (varied ls)) → ground m ≡ true) →
        (((m : Literal) → In m (varied ls) → ground m ≡ true) → Hold (varied ls) vs) → Hold (cond (not b) (lit ∷ varied ls) (varied ls)) vs
    by true e k more = more k
    by false e k more = absurd (let f = k lit (inl refl) in let t : false ≡ true = sym e ∙ f in cc)

never : (b : Bool) (cs : List State) → cond b (Next cs) Beyond ≡ Solved → ⊥
never true cs f = absurd (cc)
never false cs f = absurd (cc)

pub tested_not : (x : ℕ) (t : Prepared) → tested x t ≡ Solved → ⊥
tested_not x t e = never (fit t) _ e

bare_solved : (ls rows : List Literal) (vs : List ℤ) → length vs ≡ 16 → bare ls rows ≡ Solved → Hold ls vs
bare_solved ls rows vs n e = by (list_any fails ls) refl e
  where
    at_low : (o : Option ℕ) → lowest (varied ls ++ rows) ≡ o → left o (varied ls) rows ≡ Solved → Hold (varied ls) vs
    at_low None f g = none_hold ls vs (λ lit i. none_low (varied ls ++ rows) f lit (in_append_left lit (varied ls) rows i))
    at_low (Some x) f g = absurd (tested_not x (test x (varied ls) rows) g)

    at_first : (o : Option Solution) → settled o (varied ls) rows ≡ Solved → Hold (varied ls) vs
    at_first None g = at_low (lowest (varied ls ++ rows)) refl g
    at_first (Some s) g = absurd (cc)

    by : (b : Bool) → list_any fails ls ≡ b → cond b Ended (settled (first_solved (varied ls)) (varied ls) rows) ≡ Solved → Hold ls vs
    by true f g = absurd (cc)
    by false f g = hold_varied ls vs n f (at_first (first_solved (varied ls)) g)

pub apart_not : (n : Node) (cs : List Claim) (ls rows : List Literal) → apart n cs ls rows ≡ Solved → ⊥
apart_not Always cs ls rows e = absurd (cc)
apart_not Never cs ls rows e = absurd (cc)
apart_not (Atom lit) cs ls rows e = absurd (cc)
apart_not (Every ds) cs ls rows e = absurd (cc)
apart_not (Some_of ds) cs ls rows e = absurd (cc)

step_from_solved : (cs : List Claim) (ls rows : List Literal) (vs : List ℤ) → length vs ≡ 16 → step_from cs ls rows ≡ Solved → ClaimsTrue cs vs × Hold ls vs
step_from_solved [] ls rows vs n e = (tt, bare_solved ls rows vs n e)
step_from_solved (c ∷ cs) ls rows vs n e = absurd (apart_not (node_of c) cs ls rows e)

-- a solution is true at whatever numbers the variables have, since none is left
pub solved_true : (s : State) → step s ≡ Solved → (vs : List ℤ) → length vs ≡ 16 → Sat s vs
unfolding step
solved_true s e vs n = step_from_solved s.pending s.literals s.rows vs n e
