-- A verdict is right about its obligation.
use Rattle.std.proofs.Common.{◌≡◌, ◌⊎◌, inl, inr, ⊎_elim, ℕ, zero, suc, ◌+◌, ◌*◌, ◌-◌, ◌/◌, ◌<◌, ◌≤◌, List, [], ◌∷◌, ◌++◌, length, get_or, take, drop, map, replicate, sym, ◌∙◌, ap, ap₂, refl, arith, ℤ, pos, negsuc, ◌≤ℤ◌, Bool, true, false, ◌&&◌, subst, unsigned_abs, cond, Option, Some, None, add-one, drop-cons, length-append, mul-div_cancel}
use Rattle.std.specs.List.{list_all, list_any, range_with_len}
use Rattle.std.proofs.lemmas.Int.{ints}
use Rattle.std.proofs.lemmas.List.{length-map, length-replicate}
use Rattle.rast_index.specs.Linear.{whole}
use Rattle.rast_index.specs.Truth.{truth, Follows}
use Rattle.rast_index.specs.declared.formula.Formula.{Formula}
use Rattle.rast_cooper.specs.Arithmetic.{variable}
use Rattle.rast_cooper.specs.declared.literal.Literal.{Literal}
use Rattle.rast_cooper.specs.Meaning.{Hold}
use Rattle.rast_cooper.specs.Claims.{Claim, Whole, node_of}
use Rattle.rast_cooper.specs.declared.solution.Solution.{Solution}
use Rattle.rast_cooper.specs.Search.{State, Ended, Solved, ground, fails, varied, first_solved, lowest, test, left, settled, bare, step_from, step, own, row, first, Outcome, Exhausted, Found, TooMany, TooGreat, run}
use Rattle.rast_cooper.specs.Verdicts.{is_within, verdict_of, verdict, Refutes, Tells}
use Rattle.rast_cooper.specs.Rows.{number_of, numbers}
use Rattle.rast_cooper.specs.Eliminate.{Positive, AllAbove}
use Rattle.rast_cooper.proofs.Points.{In}
use Rattle.rast_cooper.proofs.Test.{value_variable}
use Rattle.rast_cooper.proofs.Apart.{ClaimsTrue}
use Rattle.rast_cooper.proofs.States.{Sat, Rows, RowIs, value_ground, in_map, in_split, in_append_right, claims_append}
use Rattle.rast_cooper.proofs.Occurs.{variable_other}
use Rattle.rast_cooper.proofs.Closed.{and_true, ClosedTerm, ClosedClaim, ClosedClaims, truth_closed}
use Rattle.rast_cooper.proofs.Verdicts.{valid, failed, solved_true, none_low, tested_not, apart_not}
use Rattle.rast_cooper.proofs.Kept.{IsEarly, IsGood, good}

-- ---- the first state
in_range : (a n x : ℕ) → a ≤ x → x < a + n → In x (range_with_len a n)
in_range a zero x h k = absurd (omega arith)
in_range a (suc n) x h k = ⊎_elim (λ (e : a ≡ x). inl (sym e)) (λ (lt : a < x). inr (in_range (a + 1) n x (omega arith) (omega arith))) (split a x h)
  where
    split : (a x : ℕ) → a ≤ x → (a ≡ x) ⊎ (a < x)
    split zero zero h = inl refl
    split zero (suc x) h = inr (omega arith)
    split (suc a) zero h = absurd (omega arith)
    split (suc a) (suc x) h = ⊎_elim (λ (e : a ≡ x). inl (ap suc e)) (λ (lt : a < x). inr (omega arith)) (split a x (omega arith))

of_range : (make : ℕ → Literal) (n a k : ℕ) → a + k ≤ n → (lit : Literal) → In lit (map make (range_with_len a k)) → (x : ℕ) × (x < n) × (lit ≡ make x)
of_range make n a zero h lit i = absurd i
of_range make n a (suc k) h lit i = ⊎_elim (λ e. (a, omega arith, e)) (λ j. of_range make n (a + 1) k (omega arith) lit j) i

alone_closed : (n x : ℕ) → x < n → ClosedTerm n (variable x)
alone_closed n x h y i j = variable_other x y (λ e. omega (arith, e))

own_positive : (xs : List ℕ) → Positive (map own xs)
own_positive [] = tt
own_positive (x ∷ xs) = (λ e. absurd (cc), own_positive xs)

rows_above : (xs : List ℕ) → AllAbove (map row xs)
rows_above [] = tt
rows_above (x ∷ xs) = (omega arith, rows_above xs)

claims_closed : (n : ℕ) (b : Bool) (fs : List Formula) → list_all (is_within n) fs ≡ true → ClosedClaims n (map (λ f. Whole f b) fs)
claims_closed n b [] e c i = absurd i
claims_closed n b (f ∷ fs) e c i = let p = and_true _ _ e in ⊎_elim (λ g. subst (ClosedClaim n) (sym g) (and_true _ _ p.0)) (λ j. claims_closed n b fs p.1 c j) i

-- ---- what the first state says
numbers_from : ℕ → ℕ → List ℤ → List ℤ
numbers_from a k vs = map (λ i. get_or vs i (pos 0)) (range_with_len a k)

numbers_are : (a k : ℕ) (vs : List ℤ) → a + k ≤ length vs → map (λ i. get_or vs i (pos 0)) (range_with_len a k) ≡ take k (drop a vs)
numbers_are a zero vs h = refl
numbers_are a (suc k) vs h =
    let lt : a < length vs = omega arith in
    ap (λ t. get_or vs a (pos 0) ∷ t) (numbers_are (a + 1) k vs (omega arith) ∙ ap (λ m. take k (drop m vs)) (add-one a))
    ∙ sym (ap (take (suc k)) (drop-cons vs a (pos 0) lt))

rows_are : (a k : ℕ) (vs : List ℤ) → a + k ≤ 16 → Rows (map row (range_with_len a k)) (map (λ i. get_or vs i (pos 0)) (range_with_len a k)) vs
rows_are a zero vs h = tt
rows_are a (suc k) vs h = (value_variable a vs (omega arith) ∙ (let z = get_or vs a (pos 0) in omega (arith, ints)), rows_are (a + 1) k vs (omega arith))

natural : (z : ℤ) → pos 0 ≤ℤ z → pos (unsigned_abs z) ≡ z
natural (pos n) h = refl
natural (negsuc n) h = absurd (omega (arith, ints, h))

naturals : (a k : ℕ) (vs : List ℤ) → a + k ≤ 16 → Hold (map own (range_with_len a k)) vs → whole (map (λ i. unsigned_abs (get_or vs i (pos 0))) (range_with_len a k)) ≡ map (λ i. get_or vs i (pos 0)) (range_with_len a k)
naturals a zero vs h k = refl
naturals a (suc n) vs h k = ap₂ (λ x xs. x ∷ xs) (natural _ (subst (λ z. pos 0 ≤ℤ z) (value_variable a vs (omega arith)) k.0)) (naturals (a + 1) n vs (omega arith) k.1)

length_range : (a k : ℕ) (f : ℕ → ℕ) → length (map f (range_with_len a k)) ≡ k
length_range a zero f = refl
length_range a (suc k) f = let r = length_range (a + 1) k f in omega arith

module _ (n : ℕ) (premises : List Formula) (goal : Formula) (few : n ≤ 16) (premises_in : list_all (is_within n) premises ≡ true) (goal_in : is_within n goal ≡ true) where
  start : State
  start = first n premises goal

  early : IsEarly n (first n premises goal)
  early = record {
    owned = λ x h. in_map own x (range_with_len 0 n) (in_range 0 n x (omega arith) (omega arith));
    pending = λ c i. ⊎_elim (λ j. claims_closed n true premises premises_in c j) (λ j. claims_closed n false (goal ∷ []) (ap (λ b. b && true) goal_in) c j) (in_split c (map (λ f. Whole f true) premises) _ i);
    literals = λ lit i. let p = of_range own n 0 n (omega arith) lit i in subst (λ (l : Literal). ClosedTerm n l.term) (sym p.2) (alone_closed n p.0 p.1);
    rows = λ lit i. let p = of_range row n 0 n (omega arith) lit i in subst (λ (l : Literal). ClosedTerm n l.term) (sym p.2) (alone_closed n p.0 p.1);
    positive = own_positive (range_with_len 0 n);
    above = rows_above (range_with_len 0 n);
  }

  abbrev pub Counter : List ℕ → Type 0
  Counter us = (length us ≡ n) × (list_all (λ f. truth f (whole us)) premises ≡ true) × (truth goal (whole us) ≡ false)

  abbrev pub Init : List ℤ → Type 0
  Init ws = (us : List ℕ) × (ws ≡ whole us) × Counter us

  truth_at : (vs : List ℤ) → length vs ≡ 16 → (us : List ℕ) → whole us ≡ take n vs → (f : Formula) → is_within n f ≡ true → truth f vs ≡ truth f (whole us)
  truth_at vs h us e f w = truth_closed n vs h f (and_true _ _ w).0 ∙ ap (truth f) (sym e)

  premises_at : (fs : List Formula) → list_all (is_within n) fs ≡ true → (vs : List ℤ) → length vs ≡ 16 → (us : List ℕ) → whole us ≡ take n vs → ClaimsTrue (map (λ f. Whole f true) fs) vs → list_all (λ f. truth f (whole us)) fs ≡ true
  premises_at [] w vs h us e c = refl
  premises_at (f ∷ fs) w vs h us e c = let p = and_true _ _ w in ap₂ (λ a b. a && b) (sym (truth_at vs h us e f p.0) ∙ c.0) (premises_at fs p.1 vs h us e c.1)

  claims_at : (fs : List Formula) → list_all (is_within n) fs ≡ true → (vs : List ℤ) → length vs ≡ 16 → (us : List ℕ) → whole us ≡ take n vs → list_all (λ f. truth f (whole us)) fs ≡ true → ClaimsTrue (map (λ f. Whole f true) fs) vs
  claims_at [] w vs h us e c = tt
  claims_at (f ∷ fs) w vs h us e c = let p = and_true _ _ w in let q = and_true _ _ c in (truth_at vs h us e f p.0 ∙ q.0, claims_at fs p.1 vs h us e q.1)

  split_claims : (fs : List Formula) (vs : List ℤ) → ClaimsTrue (map (λ f. Whole f true) fs ++ Whole goal false ∷ []) vs → ClaimsTrue (map (λ f. Whole f true) fs) vs × (truth goal vs ≡ false)
  split_claims [] vs h = (tt, h.0)
  split_claims (f ∷ fs) vs h = let r = split_claims fs vs h.1 in ((h.0, r.0), r.1)

  sound : (vs : List ℤ) → length vs ≡ 16 → Sat (first n premises goal) vs → (ws : List ℤ) × Rows (first n premises goal).rows ws vs × Init ws
  sound vs h s =
      let us = map (λ i. unsigned_abs (get_or vs i (pos 0))) (range_with_len 0 n) in
      let few : 0 + n ≤ 16 = omega arith in
      let e = naturals 0 n vs few s.1 in
      let f : whole us ≡ take n vs = e ∙ numbers_are 0 n vs (omega arith) in
      let c = split_claims premises vs s.0 in (
        map (λ i. get_or vs i (pos 0)) (range_with_len 0 n),
        rows_are 0 n vs few,
        (us, sym e, (length_range 0 n (λ i. unsigned_abs (get_or vs i (pos 0))), premises_at premises premises_in vs h us f c.0, sym (truth_at vs h us f goal goal_in) ∙ c.1)),
      )

  pub all_good : (s : State) → In s (first n premises goal ∷ []) → IsGood n s
  all_good s i = ⊎_elim (λ e. subst (IsGood n) (sym e) (inl early)) (λ e. absurd e) i

  all_sound : (s : State) → In s (first n premises goal ∷ []) → (vs : List ℤ) → length vs ≡ 16 → Sat s vs → (ws : List ℤ) × Rows s.rows ws vs × Init ws
  all_sound s i = ⊎_elim (λ e. subst (λ (t : State). (vs : List ℤ) → length vs ≡ 16 → Sat t vs → (ws : List ℤ) × Rows t.rows ws vs × Init ws) (sym e) sound) (λ e. absurd e) i

  -- ---- every state was visited
  padded_holds : (a k : ℕ) (us : List ℕ) (more : List ℤ) → a + k ≤ 16 → ((i : ℕ) → i < a + k → pos 0 ≤ℤ get_or (whole us ++ more) i (pos 0)) → Hold (map own (range_with_len a k)) (whole us ++ more)
  padded_holds a zero us more h f = tt
  padded_holds a (suc k) us more h f = (subst (λ z. pos 0 ≤ℤ z) (sym (value_variable a (whole us ++ more) (omega arith))) (f a (omega arith)), padded_holds (a + 1) k us more (omega arith) (λ i m. f i (omega arith)))

  not_below : (us : List ℕ) (k i : ℕ) → pos 0 ≤ℤ get_or (whole us ++ replicate k (pos 0)) i (pos 0)
  not_below [] zero i = omega (arith, ints)
  not_below [] (suc k) zero = omega (arith, ints)
  not_below [] (suc k) (suc i) = not_below [] k i
  not_below (u ∷ us) k zero = omega (arith, ints)
  not_below (u ∷ us) k (suc i) = not_below us k i

  take_whole : (m : ℕ) (us : List ℕ) (more : List ℤ) → length us ≡ m → take m (whole us ++ more) ≡ whole us
  take_whole zero [] more e = refl
  take_whole zero (u ∷ us) more e = absurd (omega (arith, e))
  take_whole (suc m) [] more e = absurd (omega (arith, e))
  take_whole (suc m) (u ∷ us) more e = ap (λ t. pos u ∷ t) (take_whole m us more (omega (arith, e)))

  pub follows : (most : ℕ) → run most (first n premises goal ∷ []) ≡ Exhausted → Follows n premises goal
  follows most e us sized p = by (truth goal (whole us)) refl
    where
      no_counter : truth goal (whole us) ≡ false → ⊥
      no_counter f =
          let vs = whole us ++ replicate (16 - n) (pos 0) in
          let sixteen : length vs ≡ 16 = length-append (whole us) (replicate (16 - n) (pos 0)) ∙ ap₂ (λ a b. a + b) (length-map us pos ∙ sized) (length-replicate (16 - n) (pos 0)) ∙ (omega arith) in
          let here : whole us ≡ take n vs = sym (take_whole n us (replicate (16 - n) (pos 0)) sized) in
          valid (IsGood n) (good n) most (first n premises goal ∷ []) all_good e vs sixteen
          (inl (
            claims_append (map (λ f. Whole f true) premises) (Whole goal false ∷ []) vs (claims_at premises premises_in vs sixteen us here p) (truth_at vs sixteen us here goal goal_in ∙ f, tt),
            padded_holds 0 n us (replicate (16 - n) (pos 0)) (omega arith) (λ i m. not_below us (16 - n) i),
          ))

      by : (b : Bool) → truth goal (whole us) ≡ b → b ≡ true
      by true f = refl
      by false f = absurd (no_counter f)

  -- ---- a solution was found
  number_is : (r : Literal) (u : ℕ) (vs : List ℤ) → length vs ≡ 16 → ground r ≡ true → 0 < r.divisor → RowIs r (pos u) vs → number_of r ≡ u
  number_is r u vs h g d e =
      let f : r.term.constant ≡ pos (u * r.divisor) = sym (value_ground r vs h g) ∙ e in
      ap (λ z. unsigned_abs z / r.divisor) f ∙ mul-div_cancel u d

  numbers_of : (rows : List Literal) (us : List ℕ) (vs : List ℤ) → length vs ≡ 16 → ((r : Literal) → In r rows → ground r ≡ true) → AllAbove rows → Rows rows (whole us) vs → map number_of rows ≡ us
  numbers_of [] [] vs h g a r = refl
  numbers_of [] (u ∷ us) vs h g a r = absurd r
  numbers_of (x ∷ rows) [] vs h g a r = absurd r
  numbers_of (x ∷ rows) (u ∷ us) vs h g a r = ap₂ (λ m ms. m ∷ ms) (number_is x u vs h (g x (inl refl)) a.0 r.0) (numbers_of rows us vs h (λ m i. g m (inr i)) a.1 r.1)

  above_of : (s : State) → IsGood n s → AllAbove s.rows
  above_of s g = ⊎_elim (λ e. e.above) (λ l. l.rows) g

  bare_ground : (ls rows : List Literal) → bare ls rows ≡ Solved → (r : Literal) → In r rows → ground r ≡ true
  bare_ground ls rows e r i = by (list_any fails ls) e
    where
      at_low : (o : Option ℕ) → lowest (varied ls ++ rows) ≡ o → left o (varied ls) rows ≡ Solved → ground r ≡ true
      at_low None f g = none_low (varied ls ++ rows) f r (in_append_right r (varied ls) rows i)
      at_low (Some x) f g = absurd (tested_not x (test x (varied ls) rows) g)

      at_first : (o : Option Solution) → settled o (varied ls) rows ≡ Solved → ground r ≡ true
      at_first None g = at_low (lowest (varied ls ++ rows)) refl g
      at_first (Some s) g = absurd (cc)

      by : (b : Bool) → cond b Ended (settled (first_solved (varied ls)) (varied ls) rows) ≡ Solved → ground r ≡ true
      by true g = absurd (cc)
      by false g = at_first (first_solved (varied ls)) g

  step_from_ground : (cs : List Claim) (ls rows : List Literal) → step_from cs ls rows ≡ Solved → (r : Literal) → In r rows → ground r ≡ true
  step_from_ground [] ls rows e r i = bare_ground ls rows e r i
  step_from_ground (c ∷ cs) ls rows e r i = absurd (apart_not (node_of c) cs ls rows e)

  solved_ground : (s : State) → step s ≡ Solved → (r : Literal) → In r s.rows → ground r ≡ true
  unfolding step
  solved_ground s e r i = step_from_ground s.pending s.literals s.rows e r i

  zeros : List ℤ
  zeros = replicate 16 (pos 0)

  length_rows : (rows : List Literal) (us : List ℕ) → map number_of rows ≡ us → length rows ≡ length us
  length_rows rows us e = sym (length-map rows number_of) ∙ ap length e

  take_front : (m : ℕ) (us more : List ℕ) → length us ≡ m → (take m (us ++ more) ≡ us) × (drop m (us ++ more) ≡ more)
  take_front zero [] more e = (refl, refl)
  take_front zero (u ∷ us) more e = absurd (omega (arith, e))
  take_front (suc m) [] more e = absurd (omega (arith, e))
  take_front (suc m) (u ∷ us) more e = let r = take_front m us more (omega (arith, e)) in (ap (λ t. u ∷ t) r.0, r.1)

  refuted_by : (us values : List ℕ) → values ≡ us ++ replicate (16 - length us) 0 → Counter us → Refutes n premises goal values
  refuted_by us values e c =
      let front = take_front n us (replicate (16 - length us) 0) c.0 in
      let same : take n values ≡ us = ap (take n) e ∙ front.0 in
      record {
        sized = ap length e ∙ length-append us (replicate (16 - length us) 0) ∙ ap (λ m. length us + m) (length-replicate (16 - length us) 0) ∙ (let k = c.0 in omega (arith, k));
        premises_true = subst (λ ws. list_all (λ f. truth f (whole ws)) premises ≡ true) (sym same) c.1;
        goal_false = subst (λ ws. truth goal (whole ws) ≡ false) (sym same) c.2;
        others = ap (drop n) e ∙ front.1 ∙ ap (λ m. replicate (16 - m) 0) c.0;
      }

  pub refutes : (most : ℕ) (rows : List Literal) → run most (first n premises goal ∷ []) ≡ Found rows → Refutes n premises goal (numbers rows)
  refutes most rows e =
      let f = failed (IsGood n) (good n) Init most (first n premises goal ∷ []) all_good all_sound rows e in
      let s = f.1.sound (replicate 16 (pos 0)) refl (solved_true f.0 f.1.solved (replicate 16 (pos 0)) refl) in
      let us = s.2.0 in
      let r : Rows rows (whole us) (replicate 16 (pos 0)) = subst (λ (rs : List Literal). Rows rs (whole us) (replicate 16 (pos 0))) f.1.same (subst (λ ws. Rows f.0.rows ws (replicate 16 (pos 0))) s.2.1 s.1) in
      let all : (m : Literal) → In m rows → ground m ≡ true = subst (λ (rs : List Literal). (m : Literal) → In m rs → ground m ≡ true) f.1.same (solved_ground f.0 f.1.solved) in
      let a : AllAbove rows = subst AllAbove f.1.same (above_of f.0 f.1.good) in
      let is = numbers_of rows us (replicate 16 (pos 0)) refl all a r in
      refuted_by us (numbers rows) (ap₂ (λ ms k. ms ++ replicate (16 - k) 0) is (length_rows rows us is)) s.2.2

  -- a solution has a row for each variable, whose divisor is above 0
  pub found_rows : (most : ℕ) (rows : List Literal) → run most (first n premises goal ∷ []) ≡ Found rows → (length rows ≡ n) × AllAbove rows
  found_rows most rows e =
      let f = failed (IsGood n) (good n) Init most (first n premises goal ∷ []) all_good all_sound rows e in
      let s = f.1.sound (replicate 16 (pos 0)) refl (solved_true f.0 f.1.solved (replicate 16 (pos 0)) refl) in
      let us = s.2.0 in
      let r : Rows rows (whole us) (replicate 16 (pos 0)) = subst (λ (rs : List Literal). Rows rs (whole us) (replicate 16 (pos 0))) f.1.same (subst (λ ws. Rows f.0.rows ws (replicate 16 (pos 0))) s.2.1 s.1) in
      let all : (m : Literal) → In m rows → ground m ≡ true = subst (λ (rs : List Literal). (m : Literal) → In m rs → ground m ≡ true) f.1.same (solved_ground f.0 f.1.solved) in
      let a : AllAbove rows = subst AllAbove f.1.same (above_of f.0 f.1.good) in
      (length_rows rows us (numbers_of rows us (replicate 16 (pos 0)) refl all a r) ∙ s.2.2.0, a)

  tells_of : (most : ℕ) (o : Outcome) → run most (first n premises goal ∷ []) ≡ o → Tells n premises goal (verdict_of o)
  tells_of most Exhausted e = follows most e
  tells_of most (Found rows) e = refutes most rows e
  tells_of most TooMany e = tt
  tells_of most TooGreat e = tt

  pub tells : (most : ℕ) → Tells n premises goal (verdict most n premises goal)
  unfolding verdict
  tells most = tells_of most (run most (first n premises goal ∷ [])) refl

  -- ---- the verdict, by the outcome
  pub verdict_is : (most : ℕ) (o : Outcome) → run most (first n premises goal ∷ []) ≡ o → verdict_of o ≡ verdict most n premises goal
  unfolding verdict
  verdict_is most o e = ap verdict_of (sym e)
