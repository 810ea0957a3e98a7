-- What is known of each state of the search: variables that are left have lower bounds, and divisors are above 0.
use Rattle.std.proofs.Common.{◌≡◌, ◌⊎◌, inl, inr, ⊎_elim, ℕ, zero, suc, ◌*◌, ◌<◌, ◌≤◌, List, [], ◌∷◌, ◌++◌, map, sym, ◌∙◌, ap, refl, arith, pos, Bool, true, false, not, subst, unsigned_abs, cond, ◌/◌, mul-pos, eqb, eqb-true, Option, Some, None}
use Rattle.std.specs.List.{list_any}
use Rattle.rast_cooper.specs.Arithmetic.{Linear, coefficient, shifted, exchanged}
use Rattle.rast_cooper.specs.Meaning.{literal}
use Rattle.rast_cooper.specs.declared.literal.Literal.{Literal}
use Rattle.rast_cooper.specs.Eliminate.{is_zero, has, multiplied, scaled, substituted, without_equations, common, period, bounds, prepared_by, at_point}
use Rattle.rast_cooper.specs.Claims.{Claim, Node, Always, Never, Atom, Every, Some_of, node_of}
use Rattle.rast_cooper.specs.declared.solution.Solution.{Solution}
use Rattle.rast_cooper.specs.Search.{State, state, Ended, Beyond, Next, apart, fails, varied, first_solved, lowest, own, point_states, bound_states, test, fit, tested, left, settled, bare, step_from, step, step_states}
use Rattle.rast_cooper.specs.Eliminate.{Positive, AllAbove}
use Rattle.rast_cooper.proofs.Multiples.{Of, AllFit, common_fits}
use Rattle.rast_cooper.proofs.Scaled.{quotient, above}
use Rattle.rast_cooper.proofs.Points.{In}
use Rattle.rast_cooper.proofs.Test.{positive_append, positive_put, positive_ready, coefficient_variable, equal}
use Rattle.rast_cooper.proofs.States.{in_split, in_append_left, in_map, in_without}
use Rattle.rast_cooper.proofs.Steps.{Covered, positive_varied, LowIs, lowest_low, fit_split, in_varied, not_ground}
use Rattle.rast_cooper.proofs.Occurs.{AllLack, all_lack, lack_substituted, gone_all, lack_scaled, lack_without, lack_prepared, lack_varied, bound_gone, bound_lacks, FromLacks, Gone, solution_gone, solution_lacks, own_substituted, own_scaled}
use Rattle.rast_cooper.proofs.Closed.{ClosedTerm, ClosedClaim, ClosedClaims, ClosedNode, node_closed}
use Rattle.rast_cooper.proofs.Verdicts.{IsKept}

-- a variable occurs nowhere, or it has the literal that it is at least 0
abbrev pub Cover : ℕ → List Literal → List Literal → Type 0
Cover y ls rows = (AllLack y ls × AllLack y rows) ⊎ In (own y) ls

abbrev pub Covers : List Literal → List Literal → Type 0
Covers ls rows = (y : ℕ) → y < 16 → Cover y ls rows

pub covered : (ls rows : List Literal) → Covers ls rows → Covered ls rows
covered ls rows c x h a = ⊎_elim (λ k. absurd (⊎_elim (λ e. clash _ e (all_lack x ls k.0)) (λ e. clash _ e (all_lack x rows k.1)) a)) (λ i. i) (c x h)
  where
    clash : (b : Bool) → b ≡ true → b ≡ false → ⊥
    clash b e f = absurd (let g : true ≡ false = sym e ∙ f in cc)

differ : (x y : ℕ) → eqb x y ≡ false → x ≡ y → ⊥
differ x y e f = absurd (let g : true ≡ false = sym (ap (λ z. eqb x z) (sym f) ∙ equal x) ∙ e in cc)

-- ---- a term in the place of a variable
put_cover : (x y : ℕ) (t : Linear) (ls rows : List Literal) → coefficient t x ≡ pos 0 → ((x ≡ y → ⊥) → Cover y ls rows → (AllLack y ls × AllLack y rows × (coefficient t y ≡ pos 0)) ⊎ In (own y) ls) →
    Cover y ls rows → Cover y (map (substituted x t) ls) (map (substituted x t) rows)
put_cover x y t ls rows e f c = by (eqb x y) refl
  where
    by : (b : Bool) → eqb x y ≡ b → Cover y (map (substituted x t) ls) (map (substituted x t) rows)
    by true g = inl (subst (λ z. AllLack z (map (substituted x t) ls) × AllLack z (map (substituted x t) rows)) (eqb-true x y g) (gone_all x t ls e, gone_all x t rows e))
    by false g = let d = differ x y g in ⊎_elim
        (λ k. inl (lack_substituted x y t ls d k.2 k.0, lack_substituted x y t rows d k.2 k.1))
        (λ i. inr (subst (λ m. In m (map (substituted x t) ls)) (own_substituted x y t (λ h. d (sym h))) (in_map (substituted x t) (own y) ls i)))
        (f d c)

-- ---- an equation is solved
put_covers : (x : ℕ) (t : Linear) (ls rows : List Literal) → coefficient t x ≡ pos 0 → ((y : ℕ) → AllLack y ls → (x ≡ y → ⊥) → coefficient t y ≡ pos 0) →
    Covers ls rows → Covers (map (substituted x t) ls) (map (substituted x t) rows)
put_covers x t ls rows e f c y h = put_cover x y t ls rows e (λ d k. ⊎_elim (λ m. inl (m.0, m.1, f y m.0 d)) (λ i. inr i) k) (c y h)

-- ---- a variable is tested
abbrev pub AtBound : ℕ → List Linear → List Literal → List Literal → State → Type 0
AtBound x bs ls rows c = (b : Linear) × (j : ℕ) × In b bs × (c ≡ state [] (at_point x b j ls) (at_point x b j rows))

of_points : (x : ℕ) (b : Linear) (i n : ℕ) (ls rows : List Literal) (c : State) → In c (point_states x b i n ls rows) → (j : ℕ) × (c ≡ state [] (at_point x b j ls) (at_point x b j rows))
of_points x b i zero ls rows c h = absurd h
of_points x b i (suc n) ls rows c h = ⊎_elim (λ e. (i, e)) (λ e. of_points x b (suc i) n ls rows c e) h

of_bounds : (x : ℕ) (bs : List Linear) (n : ℕ) (ls rows : List Literal) (c : State) → In c (bound_states x bs n ls rows) → AtBound x bs ls rows c
of_bounds x [] n ls rows c h = absurd h
of_bounds x (b ∷ bs) n ls rows c h = ⊎_elim
    (λ e. let p = of_points x b 0 n ls rows c e in (b, p.0, inl refl, p.1))
    (λ e. let p = of_bounds x bs n ls rows c e in (p.0, p.1, inr p.2, p.3))
    (in_split c (point_states x b 0 n ls rows) _ h)

prepared_cover : (x y l : ℕ) (ls rows : List Literal) → (x ≡ y → ⊥) → Cover y ls rows → Cover y (prepared_by x l (without_equations x ls)) (map (scaled x l) rows)
prepared_cover x y l ls rows d c = ⊎_elim
    (λ k. inl (lack_prepared x y l (without_equations x ls) d (lack_without x y ls k.0), lack_scaled x y l rows d k.1))
    (λ i. inr (in_append_left (own y) (map (scaled x l) (without_equations x ls)) _
    (subst (λ m. In m (map (scaled x l) (without_equations x ls))) (own_scaled x y l (λ h. d (sym h)))
    (in_map (scaled x l) (own y) (without_equations x ls) (in_without x (own y) ls refl i)))))
    c

point_covers : (x l : ℕ) (ls rows : List Literal) (b : Linear) (j : ℕ) → Covers ls rows → In b (bounds x (prepared_by x l (without_equations x ls))) →
    Covers (at_point x b j (prepared_by x l (without_equations x ls))) (at_point x b j (map (scaled x l) rows))
point_covers x l ls rows b j c i y h = by (eqb x y) refl
  where
    by : (t : Bool) → eqb x y ≡ t → Cover y (at_point x b j (prepared_by x l (without_equations x ls))) (at_point x b j (map (scaled x l) rows))
    by true g = inl (subst (λ z. AllLack z (at_point x b j (prepared_by x l (without_equations x ls))) × AllLack z (at_point x b j (map (scaled x l) rows))) (eqb-true x y g)
        (gone_all x (shifted j b) (prepared_by x l (without_equations x ls)) (bound_gone x (prepared_by x l (without_equations x ls)) b i), gone_all x (shifted j b) (map (scaled x l) rows) (bound_gone x (prepared_by x l (without_equations x ls)) b i)))
    by false g = let d = differ x y g in
        put_cover x y (shifted j b) (prepared_by x l (without_equations x ls)) (map (scaled x l) rows) (bound_gone x (prepared_by x l (without_equations x ls)) b i)
        (λ d' k. ⊎_elim (λ m. inl (m.0, m.1, bound_lacks x y (prepared_by x l (without_equations x ls)) b d m.0 i)) (λ m. inr m) k)
        (prepared_cover x y l ls rows d (c y h))

-- ---- the divisors of rows stay above 0
above_put : (x : ℕ) (t : Linear) (ls : List Literal) → AllAbove ls → AllAbove (map (substituted x t) ls)
above_put x t [] h = tt
above_put x t (lit ∷ ls) h = (by (has x lit), above_put x t ls h.1)
  where
    by : (b : Bool) → 0 < (cond b (literal lit.sort lit.divisor (exchanged x t lit.term)) lit).divisor
    by true = h.0
    by false = h.0

above_by : (x l : ℕ) (b : Bool) (lit : Literal) → 0 < l → has x lit ≡ b → (has x lit ≡ true → Of (unsigned_abs (coefficient lit.term x)) l) → 0 < lit.divisor →
    0 < (cond b (multiplied x (l / unsigned_abs (coefficient lit.term x)) lit) lit).divisor
above_by x l true lit some e fit h = let m = fit e in subst (λ k. 0 < k * lit.divisor) (sym (quotient _ l m.0 e m.1)) (mul-pos (above m.0 _ l m.1 some) h)
above_by x l false lit some e fit h = h

above_scaled : (x l : ℕ) (ls : List Literal) → 0 < l → AllFit x l ls → AllAbove ls → AllAbove (map (scaled x l) ls)
above_scaled x l [] some fit h = tt
above_scaled x l (lit ∷ ls) some fit h = (above_by x l (has x lit) lit some refl fit.0 h.0, above_scaled x l ls some fit.1 h.1)

-- ---- states without pending claims
pub record IsLate (s : State) : Type 0 where
  pub pending : s.pending ≡ []
  pub covers : Covers s.literals s.rows
  pub literals : Positive s.literals
  pub rows : AllAbove s.rows

tested_late : (x : ℕ) (ls rows : List Literal) → x < 16 → Covers ls rows → Positive ls → AllAbove rows → (c : State) → In c (step_states (tested x (test x ls rows))) → IsLate c
unfolding test
tested_late x ls rows h k p q c i = by (fit (test x ls rows)) i
  where
    each : In c (bound_states x (bounds x (test x ls rows).literals) (test x ls rows).period (test x ls rows).literals (test x ls rows).rows) → IsLate c
    each i =
        let split = without_equations x ls in
        let facts = common_fits x (split ++ rows) in
        let l = common x (split ++ rows) in
        let parts = fit_split x l split rows facts.1 in
        let ready = prepared_by x l split in
        let a = of_bounds x (bounds x ready) (period x ready) ready (map (scaled x l) rows) c i in
        subst IsLate (sym a.3) (record {
          pending = refl;
          covers = point_covers x l ls rows a.0 a.1 k a.2;
          literals = positive_put x (shifted a.1 a.0) ready (positive_ready x h ls p l (facts.0, parts.0));
          rows = above_put x (shifted a.1 a.0) (map (scaled x l) rows) (above_scaled x l rows facts.0 parts.1 q);
        })

    by : (b : Bool) → In c (step_states (cond b (Next (bound_states x (bounds x (test x ls rows).literals) (test x ls rows).period (test x ls rows).literals (test x ls rows).rows)) Beyond)) → IsLate c
    by true j = each j
    by false j = absurd j

left_late : (ls rows : List Literal) → Covers ls rows → Positive ls → AllAbove rows → (o : Option ℕ) → LowIs (ls ++ rows) o → (c : State) → In c (step_states (left o ls rows)) → IsLate c
left_late ls rows k p q None w c i = absurd i
left_late ls rows k p q (Some x) w c i = tested_late x ls rows w.0 k p q c i

settled_late : (ls rows : List Literal) → Covers ls rows → Positive ls → AllAbove rows → (o : Option Solution) → Gone o → ((y : ℕ) → AllLack y ls → FromLacks y o) → (c : State) → In c (step_states (settled o ls rows)) → IsLate c
settled_late ls rows k p q None g f c i = left_late ls rows k p q (lowest (ls ++ rows)) (lowest_low (ls ++ rows)) c i
settled_late ls rows k p q (Some s) g f c i = ⊎_elim (λ e. subst IsLate (sym e) (record {
  pending = refl;
  covers = put_covers s.variable s.term ls rows g (λ y m d. f y m d) k;
  literals = positive_put s.variable s.term ls p;
  rows = above_put s.variable s.term rows q;
})) (λ e. absurd e) i

varied_covers : (ls rows : List Literal) → Covers ls rows → Covers (varied ls) rows
varied_covers ls rows c y h = ⊎_elim
    (λ k. inl (lack_varied y ls k.0, k.1))
    (λ i. let e : has y (own y) ≡ true = ap (λ z. not (is_zero z)) (coefficient_variable y h) in
    inr (in_varied (own y) ls (not_ground y (own y) e h) i))
    (c y h)

bare_late : (ls rows : List Literal) → Covers ls rows → Positive ls → AllAbove rows → (c : State) → In c (step_states (bare ls rows)) → IsLate c
bare_late ls rows k p q c i = by (list_any fails ls) i
  where
    by : (b : Bool) → In c (step_states (cond b Ended (settled (first_solved (varied ls)) (varied ls) rows))) → IsLate c
    by true j = absurd j
    by false j = settled_late (varied ls) rows (varied_covers ls rows k) (positive_varied ls p) q (first_solved (varied ls)) (solution_gone (varied ls)) (λ y m. solution_lacks y (varied ls) m) c j

-- ---- states of the first part of the search
pub record IsEarly (n : ℕ) (s : State) : Type 0 where
  pub owned : (x : ℕ) → x < n → In (own x) s.literals
  pub pending : ClosedClaims n s.pending
  pub literals : (lit : Literal) → In lit s.literals → ClosedTerm n lit.term
  pub rows : (lit : Literal) → In lit s.rows → ClosedTerm n lit.term
  pub positive : Positive s.literals
  pub above : AllAbove s.rows

lack_closed : (n y : ℕ) (ls : List Literal) → n ≤ y → y < 16 → ((lit : Literal) → In lit ls → ClosedTerm n lit.term) → AllLack y ls
lack_closed n y [] h k f = tt
lack_closed n y (lit ∷ ls) h k f = (f lit (inl refl) y h k, lack_closed n y ls h k (λ m i. f m (inr i)))

early_covers : (n : ℕ) (s : State) → IsEarly n s → Covers s.literals s.rows
early_covers n s e y h = ⊎_elim (λ (lt : y < n). inr (e.owned y lt)) (λ (le : n ≤ y). inl (lack_closed n y s.literals le h e.literals, lack_closed n y s.rows le h e.rows)) (lt_or_le y n)
  where
    lt_or_le : (a b : ℕ) → (a < b) ⊎ (b ≤ a)
    lt_or_le zero zero = inr (omega arith)
    lt_or_le zero (suc b) = inl (omega arith)
    lt_or_le (suc a) zero = inr (omega arith)
    lt_or_le (suc a) (suc b) = ⊎_elim (λ (h : a < b). inl (omega arith)) (λ (h : b ≤ a). inr (omega arith)) (lt_or_le a b)

claims_append : (n : ℕ) (cs ds : List Claim) → ClosedClaims n cs → ClosedClaims n ds → ClosedClaims n (cs ++ ds)
claims_append n cs ds h k c i = ⊎_elim (λ j. h c j) (λ j. k c j) (in_split c cs ds i)

terms_append : (n : ℕ) (ls : List Literal) (m : Literal) → ((lit : Literal) → In lit ls → ClosedTerm n lit.term) → ClosedTerm n m.term → (lit : Literal) → In lit (ls ++ m ∷ []) → ClosedTerm n lit.term
terms_append n ls m h k lit i = ⊎_elim (λ j. h lit j) (λ j. ⊎_elim (λ e. subst (λ (l : Literal). ClosedTerm n l.term) (sym e) k) (λ e. absurd e) j) (in_split lit ls (m ∷ []) i)

-- the same literals and rows, with other claims
with_claims : (n : ℕ) (s : State) (cs : List Claim) → IsEarly n s → ClosedClaims n cs → IsEarly n (state cs s.literals s.rows)
with_claims n s cs e h = record { owned = e.owned; pending = h; literals = e.literals; rows = e.rows; positive = e.positive; above = e.above }

members_early : (n : ℕ) (s : State) (cs ds : List Claim) → IsEarly n s → ClosedClaims n cs → ClosedClaims n ds → (c : State) → In c (map (λ d. state (d ∷ cs) s.literals s.rows) ds) → IsEarly n c
members_early n s cs [] e h k c i = absurd i
members_early n s cs (d ∷ ds) e h k c i = ⊎_elim
    (λ g. subst (IsEarly n) (sym g) (with_claims n s (d ∷ cs) e (λ a j. ⊎_elim (λ f. subst (ClosedClaim n) (sym f) (k d (inl refl))) (λ f. h a f) j)))
    (λ j. members_early n s cs ds e h (λ a m. k a (inr m)) c j) i

apart_early : (n : ℕ) (s : State) (node : Node) (cs : List Claim) → IsEarly n s → ClosedNode n node → ClosedClaims n cs → (c : State) → In c (step_states (apart node cs s.literals s.rows)) → IsEarly n c
apart_early n s Always cs e m h c i = ⊎_elim (λ g. subst (IsEarly n) (sym g) (with_claims n s cs e h)) (λ g. absurd g) i
apart_early n s Never cs e m h c i = absurd i
apart_early n s (Atom lit) cs e m h c i = ⊎_elim (λ g. subst (IsEarly n) (sym g) (record {
  owned = λ x k. in_append_left (own x) s.literals (lit ∷ []) (e.owned x k);
  pending = h;
  literals = terms_append n s.literals lit e.literals m.0;
  rows = e.rows;
  positive = positive_append s.literals (lit ∷ []) e.positive (m.1, tt);
  above = e.above;
})) (λ g. absurd g) i
apart_early n s (Every ds) cs e m h c i = ⊎_elim (λ g. subst (IsEarly n) (sym g) (with_claims n s (ds ++ cs) e (claims_append n ds cs m h))) (λ g. absurd g) i
apart_early n s (Some_of ds) cs e m h c i = members_early n s cs ds e h m c i

-- ---- all states
abbrev pub IsGood : ℕ → State → Type 0
IsGood n s = IsEarly n s ⊎ IsLate s

early_kept : (n : ℕ) (cs : List Claim) (ls rows : List Literal) → IsEarly n (state cs ls rows) → (c : State) → In c (step_states (step_from cs ls rows)) → IsGood n c
early_kept n [] ls rows e c i = inr (bare_late ls rows (early_covers n (state [] ls rows) e) e.positive e.above c i)
early_kept n (d ∷ cs) ls rows e c i = inl (apart_early n (state (d ∷ cs) ls rows) (node_of d) cs e (node_closed n d (e.pending d (inl refl))) (λ a j. e.pending a (inr j)) c i)

late_kept : (n : ℕ) (cs : List Claim) (ls rows : List Literal) → cs ≡ [] → Covers ls rows → Positive ls → AllAbove rows → (c : State) → In c (step_states (step_from cs ls rows)) → IsGood n c
late_kept n [] ls rows e k p q c i = inr (bare_late ls rows k p q c i)
late_kept n (d ∷ cs) ls rows e k p q c i = absurd (cc)

good_kept : (n : ℕ) (s : State) → IsGood n s → (c : State) → In c (step_states (step s)) → IsGood n c
unfolding step
good_kept n s g c i = ⊎_elim
    (λ e. early_kept n s.pending s.literals s.rows e c i)
    (λ l. late_kept n s.pending s.literals s.rows l.pending l.covers l.literals l.rows c i) g

pub good : (n : ℕ) → IsKept (IsGood n)
good n = record {
  covered = λ s g. covered s.literals s.rows (⊎_elim (λ e. early_covers n s e) (λ l. l.covers) g);
  positive = λ s g. ⊎_elim (λ e. e.positive) (λ l. l.literals) g;
  children = good_kept n;
}
