-- A state can be made true exactly where one of its children can.
use Rattle.std.proofs.Common.{◌≡◌, ◌⊎◌, inl, inr, ⊎_elim, ℕ, zero, suc, ◌+◌, ◌<◌, ◌≤◌, ◌↔◌, List, [], ◌∷◌, ◌++◌, length, get_or, set, map, sym, ◌∙◌, ap, ap₂, refl, arith, ℤ, pos, negsuc, ◌+ℤ◌, ◌*ℤ◌, neg_ℤ, Bool, true, false, not, ◌&&◌, ◌||◌, subst, unsigned_abs, cond, eqb, eqb-true, Option, Some, None, eq-or-lt_of_le, ◌/◌}
use Rattle.std.specs.List.{list_any}
use Rattle.std.proofs.lemmas.Int.{ints}
use Rattle.std.proofs.lemmas.List.{set-get_or, length-map}
use Rattle.rast_cooper.specs.Arithmetic.{Linear, weighted, value, coefficient, put, times, exchanged, variable}
use Rattle.rast_cooper.specs.declared.literal.Sort.{Sort}
use Rattle.rast_cooper.specs.declared.literal.Sort.TheVariants.{AtLeast, Equals, Multiple, NotMultiple}
use Rattle.rast_cooper.specs.declared.literal.Literal.{Literal}
use Rattle.rast_cooper.specs.Meaning.{Says, Holds, Hold, literal}
use Rattle.rast_cooper.specs.Eliminate.{is_equation, is_zero, sign, has, multiplied, scaled, substituted, without_equations, bounds, is_lower, bound, is_one, halves, at_point}
use Rattle.rast_cooper.specs.Claims.{Claim, Node, Always, Never, Atom, Every, Some_of}
use Rattle.rast_cooper.specs.declared.solution.Solution.{Solution}
use Rattle.rast_cooper.specs.Search.{State, state, Step, Ended, Beyond, Solved, Next, apart, free, ground, says, fails, varied, unit_from, unit, solution, solved_one, first_solved, own, point_states, bound_states, fit}
use Rattle.rast_index.proofs.Whole.{mul_assoc_ℤ, mul_comm_ℤ, zero_mul_ℤ}
use Rattle.rast_cooper.proofs.Values.{value_times, value_here, value_exchanged, get_or_set}
use Rattle.rast_cooper.proofs.Multiples.{Of, AllFit}
use Rattle.rast_cooper.proofs.Scaled.{value_multiplied, value_without, zero_of, quotient, inside_of}
use Rattle.rast_cooper.proofs.Points.{In}
use Rattle.rast_cooper.proofs.Test.{hold_append, hold_split, coefficient_variable}
use Rattle.rast_cooper.proofs.Apart.{ClaimsTrue, AnyTrue, NodeTrue, divides_same}

abbrev pub Sat : State → List ℤ → Type 0
Sat s vs = ClaimsTrue s.pending vs × Hold s.literals vs

-- one of some states can be made true by these numbers
abbrev pub OneSat : List State → List ℤ → Type 0
OneSat [] vs = ⊥
OneSat (s ∷ ss) vs = Sat s vs ⊎ OneSat ss vs

-- the rows give the numbers ws
abbrev pub RowIs : Literal → ℤ → List ℤ → Type 0
RowIs lit w vs = value lit.term vs ≡ w *ℤ pos lit.divisor

abbrev pub Rows : List Literal → List ℤ → List ℤ → Type 0
Rows [] [] vs = Unit {0}
Rows [] (w ∷ ws) vs = ⊥
Rows (r ∷ rs) [] vs = ⊥
Rows (r ∷ rs) (w ∷ ws) vs = RowIs r w vs × Rows rs ws vs

-- ---- rows
row_scaled_by : (x l : ℕ) (b : Bool) (lit : Literal) (w v : ℤ) (vs : List ℤ) → x < length vs → has x lit ≡ b → (has x lit ≡ true → Of (unsigned_abs (coefficient lit.term x)) l) →
    RowIs lit w (set vs x v) → RowIs (cond b (multiplied x (l / unsigned_abs (coefficient lit.term x)) lit) lit) w (set vs x (pos l *ℤ v))
row_scaled_by x l true lit w v vs h e fit r =
    let m = fit e in
    let g = value_multiplied x l m.0 lit v vs h e m.1 in
    subst (λ k. RowIs (multiplied x k lit) w (set vs x (pos l *ℤ v))) (sym (quotient _ l m.0 e m.1))
    (g ∙ ap (λ z. pos m.0 *ℤ z) r ∙ sym (mul_assoc_ℤ (pos m.0) w (pos lit.divisor)) ∙ ap (λ z. z *ℤ pos lit.divisor) (mul_comm_ℤ (pos m.0) w) ∙ mul_assoc_ℤ w (pos m.0) (pos lit.divisor))
row_scaled_by x l false lit w v vs h e fit r =
    let z = zero_of _ e in
    value_without x (pos l *ℤ v) lit.term vs h z ∙ sym (value_without x v lit.term vs h z) ∙ r

pub rows_scaled : (x l : ℕ) (rs : List Literal) (ws : List ℤ) (v : ℤ) (vs : List ℤ) → x < length vs → AllFit x l rs →
    Rows rs ws (set vs x v) → Rows (map (scaled x l) rs) ws (set vs x (pos l *ℤ v))
rows_scaled x l [] [] v vs h fit r = tt
rows_scaled x l [] (w ∷ ws) v vs h fit r = r
rows_scaled x l (lit ∷ rs) [] v vs h fit r = r
rows_scaled x l (lit ∷ rs) (w ∷ ws) v vs h fit r = (row_scaled_by x l (has x lit) lit w v vs h refl fit.0 r.0, rows_scaled x l rs ws v vs h fit.1 r.1)

row_put_by : (x : ℕ) (t : Linear) (b : Bool) (lit : Literal) (w : ℤ) (vs : List ℤ) → x < length vs → has x lit ≡ b →
    RowIs lit w (set vs x (value t vs)) → RowIs (cond b (literal lit.sort lit.divisor (exchanged x t lit.term)) lit) w vs
row_put_by x t true lit w vs h e r = value_exchanged x t lit.term vs h ∙ r
row_put_by x t false lit w vs h e r =
    let z = zero_of _ e in
    let here : set vs x (get_or vs x (pos 0)) ≡ vs = set-get_or vs x (pos 0) in
    ap (value lit.term) (sym here) ∙ value_without x (get_or vs x (pos 0)) lit.term vs h z ∙ sym (value_without x (value t vs) lit.term vs h z) ∙ r

pub rows_put : (x : ℕ) (t : Linear) (rs : List Literal) (ws vs : List ℤ) → x < length vs → Rows rs ws (set vs x (value t vs)) → Rows (map (substituted x t) rs) ws vs
rows_put x t [] [] vs h r = tt
rows_put x t [] (w ∷ ws) vs h r = r
rows_put x t (lit ∷ rs) [] vs h r = r
rows_put x t (lit ∷ rs) (w ∷ ws) vs h r = (row_put_by x t (has x lit) lit w vs h refl r.0, rows_put x t rs ws vs h r.1)

-- ---- 2: literals without variables
free_at : (x n : ℕ) (lit : Literal) → free x n lit ≡ true → (i : ℕ) → x ≤ i → i < x + n → coefficient lit.term i ≡ pos 0
free_at x zero lit e i h k = absurd (omega arith)
free_at x (suc n) lit e i h k = by (has x lit) refl e (λ f j. free_at (suc x) n lit f i j (omega arith))
  where
    by : (b : Bool) → has x lit ≡ b → (not b && free (suc x) n lit) ≡ true → (free (suc x) n lit ≡ true → suc x ≤ i → coefficient lit.term i ≡ pos 0) → coefficient lit.term i ≡ pos 0
    by true f g more = absurd (cc)
    by false f g more = ⊎_elim (λ (same : x ≡ i). subst (λ j. coefficient lit.term j ≡ pos 0) same (zero_of _ f)) (λ (lt : x < i). more g (omega arith)) (eq-or-lt_of_le h)

pub weighted_zero : (cs vs : List ℤ) → ((i : ℕ) → i < length vs → get_or cs i (pos 0) ≡ pos 0) → weighted cs vs ≡ pos 0
weighted_zero [] vs h = refl
weighted_zero (c ∷ cs) [] h = refl
weighted_zero (c ∷ cs) (v ∷ vs) h =
    let e = h 0 (omega arith) in
    let z = zero_mul_ℤ v in
    let r = weighted_zero cs vs (λ i k. h (suc i) (omega arith)) in
    ap (λ a. (a *ℤ v) +ℤ weighted cs vs) e ∙ omega (arith, ints, z, r)

pub value_ground : (lit : Literal) (vs : List ℤ) → length vs ≡ 16 → ground lit ≡ true → value lit.term vs ≡ lit.term.constant
unfolding ground
value_ground lit vs h e =
    let r = weighted_zero lit.term.coefficients vs (λ i k. free_at 0 16 lit e i (omega arith) (omega arith)) in
    omega (arith, ints, r)

says_same : (s : Sort) (d : ℕ) (z : ℤ) → says s d z ≡ true ↔ Says s d z
says_same AtLeast d z = (λ h. omega (arith, ints, h), λ h. sym (omega (arith, ints, h)))
says_same Equals d (pos zero) = (λ h. refl, λ h. refl)
says_same Equals d (pos (suc n)) = (λ h. absurd (cc), λ h. absurd (omega (arith, ints, h)))
says_same Equals d (negsuc n) = (λ h. absurd (cc), λ h. absurd (omega (arith, ints, h)))
says_same Multiple d z = divides_same d z
says_same NotMultiple d z = let p = divides_same d z in (λ h e. clash _ h (p.1 e), λ h. refuted _ (λ e. h (p.0 e)))
  where
    refuted : (t : Bool) → (t ≡ true → ⊥) → not t ≡ true
    refuted true n = absurd (n refl)
    refuted false n = refl

    clash : (t : Bool) → not t ≡ true → t ≡ true → ⊥
    clash true e f = absurd (let g : false ≡ true = e in cc)
    clash false e f = absurd (let g : false ≡ true = f in cc)

-- a literal without variables that holds is true
not_failed : (lit : Literal) (vs : List ℤ) → length vs ≡ 16 → Holds lit vs → fails lit ≡ false
not_failed lit vs n h = by (ground lit) refl
  where
    by : (b : Bool) → ground lit ≡ b → (b && not (says lit.sort lit.divisor lit.term.constant)) ≡ false
    by true e = ap not ((says_same lit.sort lit.divisor lit.term.constant).1 (subst (λ z. Says lit.sort lit.divisor z) (value_ground lit vs n e) h))
    by false e = refl

pub none_failed : (ls : List Literal) (vs : List ℤ) → length vs ≡ 16 → Hold ls vs → list_any fails ls ≡ false
none_failed [] vs n h = refl
none_failed (lit ∷ ls) vs n h = ap₂ (λ a b. a || b) (not_failed lit vs n h.0) (none_failed ls vs n h.1)

pub varied_hold : (ls : List Literal) (vs : List ℤ) → Hold ls vs → Hold (varied ls) vs
varied_hold [] vs h = tt
varied_hold (lit ∷ ls) vs h = by (not (ground lit)) (varied_hold ls vs h.1)
  where
    by : (b : Bool) → Hold (varied ls) vs → Hold (cond b (lit ∷ varied ls) (varied ls)) vs
    by true r = (h.0, r)
    by false r = r

pub or_false : (a b : Bool) → (a || b) ≡ false → (a ≡ false) × (b ≡ false)
or_false true b e = absurd (cc)
or_false false b e = (refl, e)

pub hold_varied : (ls : List Literal) (vs : List ℤ) → length vs ≡ 16 → list_any fails ls ≡ false → Hold (varied ls) vs → Hold ls vs
hold_varied [] vs n e h = tt
hold_varied (lit ∷ ls) vs n e h = let p = or_false _ _ e in by (ground lit) refl p.0 h (hold_varied ls vs n p.1)
  where
    says_of : (t : Bool) → not t ≡ false → t ≡ true
    says_of true f = refl
    says_of false f = absurd (cc)

    by : (b : Bool) → ground lit ≡ b → (b && not (says lit.sort lit.divisor lit.term.constant)) ≡ false → Hold (cond (not b) (lit ∷ varied ls) (varied ls)) vs →
        (Hold (varied ls) vs → Hold ls vs) → Hold (lit ∷ ls) vs
    by true f g k more = (subst (λ z. Says lit.sort lit.divisor z) (sym (value_ground lit vs n f)) ((says_same lit.sort lit.divisor lit.term.constant).0 (says_of _ g)), more k)
    by false f g k more = (k.0, more k.1)

-- ---- 1: claims are taken apart
pub claims_append : (cs ds : List Claim) (vs : List ℤ) → ClaimsTrue cs vs → ClaimsTrue ds vs → ClaimsTrue (cs ++ ds) vs
claims_append [] ds vs h k = k
claims_append (c ∷ cs) ds vs h k = (h.0, claims_append cs ds vs h.1 k)

claims_split : (cs ds : List Claim) (vs : List ℤ) → ClaimsTrue (cs ++ ds) vs → ClaimsTrue cs vs × ClaimsTrue ds vs
claims_split [] ds vs h = (tt, h)
claims_split (c ∷ cs) ds vs h = let r = claims_split cs ds vs h.1 in ((h.0, r.0), r.1)

-- what a step keeps: some child is made true by the same numbers
abbrev pub Kept : Step → List ℤ → Type 0
Kept Ended vs = ⊥
Kept Beyond vs = Unit {0}
Kept Solved vs = Unit {0}
Kept (Next cs) vs = OneSat cs vs

any_kept : (ds cs : List Claim) (ls rows : List Literal) (vs : List ℤ) → AnyTrue ds vs → ClaimsTrue cs vs → Hold ls vs → OneSat (map (λ d. state (d ∷ cs) ls rows) ds) vs
any_kept [] cs ls rows vs a c h = absurd a
any_kept (d ∷ ds) cs ls rows vs a c h = ⊎_elim (λ e. inl ((e, c), h)) (λ e. inr (any_kept ds cs ls rows vs e c h)) a

pub apart_kept : (n : Node) (cs : List Claim) (ls rows : List Literal) (vs : List ℤ) → NodeTrue n vs → ClaimsTrue cs vs → Hold ls vs → Kept (apart n cs ls rows) vs
apart_kept Always cs ls rows vs t c h = inl (c, h)
apart_kept Never cs ls rows vs t c h = t
apart_kept (Atom lit) cs ls rows vs t c h = inl (c, hold_append ls (lit ∷ []) vs h (t, tt))
apart_kept (Every ds) cs ls rows vs t c h = inl (claims_append ds cs vs t c, h)
apart_kept (Some_of ds) cs ls rows vs t c h = any_kept ds cs ls rows vs t c h

-- what a child gives back: numbers for the state, with the same rows
abbrev pub Back : State → State → Type 0
Back s c = (vs : List ℤ) → length vs ≡ 16 → Sat c vs → (us : List ℤ) × (length us ≡ 16) × Sat s us × ((ws : List ℤ) → Rows s.rows ws us → Rows c.rows ws vs)

abbrev pub AllBack : State → Step → Type 0
AllBack s Ended = Unit {0}
AllBack s Beyond = Unit {0}
AllBack s Solved = Unit {0}
AllBack s (Next cs) = (c : State) → In c cs → Back s c

same_back : (s c : State) → c.rows ≡ s.rows → ((vs : List ℤ) → Sat c vs → Sat s vs) → Back s c
same_back s c e f vs n h = (vs, n, f vs h, λ ws r. subst (λ (rs : List Literal). Rows rs ws vs) (sym e) r)

any_back : (s : State) (ds cs : List Claim) (ls rows : List Literal) → s.rows ≡ rows → ((vs : List ℤ) → AnyTrue ds vs → ClaimsTrue cs vs → Hold ls vs → Sat s vs) →
    (c : State) → In c (map (λ d. state (d ∷ cs) ls rows) ds) → Back s c
any_back s [] cs ls rows e f c i = absurd i
any_back s (d ∷ ds) cs ls rows e f c i = ⊎_elim
    (λ g. subst (Back s) (sym g) (same_back s (state (d ∷ cs) ls rows) (sym e) (λ vs h. f vs (inl h.0.0) h.0.1 h.1)))
    (λ g. any_back s ds cs ls rows e (λ vs a k h. f vs (inr a) k h) c g) i

pub one_back : (s c d : State) → Back s d → In c (d ∷ []) → Back s c
one_back s c d b i = ⊎_elim (λ g. subst (Back s) (sym g) b) (λ g. absurd g) i

pub apart_back : (s : State) (n : Node) (cs : List Claim) → ((vs : List ℤ) → NodeTrue n vs → ClaimsTrue cs vs → Hold s.literals vs → Sat s vs) → AllBack s (apart n cs s.literals s.rows)
apart_back s Always cs f = λ c i. one_back s c _ (same_back s _ refl (λ vs h. f vs tt h.0 h.1)) i
apart_back s Never cs f = tt
apart_back s (Atom lit) cs f = λ c i. one_back s c _ (same_back s _ refl (λ vs h. let r = hold_split s.literals (lit ∷ []) vs h.1 in f vs r.1.0 h.0 r.0)) i
apart_back s (Every ds) cs f = λ c i. one_back s c _ (same_back s _ refl (λ vs h. let r = claims_split ds cs vs h.0 in f vs r.0 r.1 h.1)) i
apart_back s (Some_of ds) cs f = any_back s ds cs s.literals s.rows refl f

-- ---- 3: an equation is solved
abbrev pub Unit_at : Linear → Option ℕ → Type 0
Unit_at l None = Unit {0}
Unit_at l (Some i) = (i < 16) × (unsigned_abs (coefficient l i) ≡ 1)

pub unit_is : (x n : ℕ) (l : Linear) → x + n ≡ 16 → Unit_at l (unit_from x n l)
unit_is x zero l e = tt
unit_is x (suc n) l e = by (eqb (unsigned_abs (coefficient l x)) 1) refl (unit_is (suc x) n l (omega arith))
  where
    by : (b : Bool) → eqb (unsigned_abs (coefficient l x)) 1 ≡ b → Unit_at l (unit_from (suc x) n l) → Unit_at l (cond b (Some x) (unit_from (suc x) n l))
    by true f more = (omega arith, eqb-true _ 1 f)
    by false f more = more

pub unit_unit : (l : Linear) → Unit_at l (unit l)
unfolding unit
unit_unit l = unit_is 0 16 l refl

abbrev pub Within : Option Solution → Type 0
Within None = Unit {0}
Within (Some s) = s.variable < 16

abbrev pub True_at : Option Solution → List ℤ → Type 0
True_at None vs = Unit {0}
True_at (Some s) vs = value s.term vs ≡ get_or vs s.variable (pos 0)

one_case : (c v r : ℤ) → unsigned_abs c ≡ 1 → (c *ℤ v) +ℤ r ≡ pos 0 → neg_ℤ c *ℤ r ≡ v
one_case (pos zero) v r e f = absurd (omega (arith, e))
one_case (pos (suc zero)) v r e f = omega (arith, ints, f)
one_case (pos (suc (suc n))) v r e f = absurd (omega (arith, e))
one_case (negsuc zero) v r e f = omega (arith, ints, f)
one_case (negsuc (suc n)) v r e f = absurd (omega (arith, e))

solution_true : (l : Linear) (x : ℕ) (vs : List ℤ) → unsigned_abs (coefficient l x) ≡ 1 → value l vs ≡ pos 0 → value (solution l x).term vs ≡ get_or vs x (pos 0)
solution_true l x vs e f =
    value_times (neg_ℤ (coefficient l x)) (put x (pos 0) l) vs
    ∙ one_case (coefficient l x) (get_or vs x (pos 0)) (value (put x (pos 0) l) vs) e (sym (value_here x l vs) ∙ f)

says_equation : (s : Sort) (d : ℕ) (z : ℤ) → is_equation s ≡ true → Says s d z → z ≡ pos 0
says_equation Equals d z e h = h
says_equation AtLeast d z e h = absurd (cc)
says_equation Multiple d z e h = absurd (cc)
says_equation NotMultiple d z e h = absurd (cc)

pub solved_is : (ls : List Literal) → Within (first_solved ls) × ((vs : List ℤ) → Hold ls vs → True_at (first_solved ls) vs)
solved_is [] = (tt, λ vs h. tt)
solved_is (lit ∷ ls) = by (is_equation lit.sort) refl (unit lit.term) (unit_unit lit.term) (solved_is ls)
  where
    by : (b : Bool) → is_equation lit.sort ≡ b → (o : Option ℕ) → Unit_at lit.term o → (Within (first_solved ls) × ((vs : List ℤ) → Hold ls vs → True_at (first_solved ls) vs)) →
        Within (cond b (solved_one o lit.term (first_solved ls)) (first_solved ls)) × ((vs : List ℤ) → Hold (lit ∷ ls) vs → True_at (cond b (solved_one o lit.term (first_solved ls)) (first_solved ls)) vs)
    by true e None u more = (more.0, λ vs h. more.1 vs h.1)
    by true e (Some i) u more = (u.0, λ vs h. solution_true lit.term i vs u.1 (says_equation lit.sort lit.divisor _ e h.0))
    by false e o u more = (more.0, λ vs h. more.1 vs h.1)

-- ---- 5: a variable is tested
in_points : (x : ℕ) (b : Linear) (i n j : ℕ) (ls rows : List Literal) (vs : List ℤ) → j < n → Hold (at_point x b (i + j) ls) vs → OneSat (point_states x b i n ls rows) vs
in_points x b i zero j ls rows vs h k = absurd (omega arith)
in_points x b i (suc n) zero ls rows vs h k = inl (tt, subst (λ m. Hold (at_point x b m ls) vs) (omega arith) k)
in_points x b i (suc n) (suc j) ls rows vs h k = inr (in_points x b (suc i) n j ls rows vs (omega arith) (subst (λ m. Hold (at_point x b m ls) vs) (omega arith) k))

pub one_append : (ss ts : List State) (vs : List ℤ) → (OneSat ss vs ⊎ OneSat ts vs) → OneSat (ss ++ ts) vs
one_append [] ts vs h = ⊎_elim (λ e. absurd e) (λ e. e) h
one_append (s ∷ ss) ts vs h = ⊎_elim (λ e. ⊎_elim (λ f. inl f) (λ f. inr (one_append ss ts vs (inl f))) e) (λ e. inr (one_append ss ts vs (inr e))) h

pub in_bound_states : (x : ℕ) (bs : List Linear) (n : ℕ) (a : Linear) (j : ℕ) (ls rows : List Literal) (vs : List ℤ) → In a bs → j < n → Hold (at_point x a j ls) vs → OneSat (bound_states x bs n ls rows) vs
in_bound_states x [] n a j ls rows vs i h k = absurd i
in_bound_states x (b ∷ bs) n a j ls rows vs i h k = one_append (point_states x b 0 n ls rows) (bound_states x bs n ls rows) vs (⊎_elim
    (λ e. inl (in_points x b 0 n j ls rows vs h (subst (λ (c : Linear). Hold (at_point x c (0 + j) ls) vs) e (subst (λ m. Hold (at_point x a m ls) vs) (omega arith) k))))
    (λ e. inr (in_bound_states x bs n a j ls rows vs e h k)) i)

abbrev pub AtPoint : ℕ → List Literal → List Literal → State → Type 0
AtPoint x ls rows c = (b : Linear) × (j : ℕ) × (c ≡ state [] (at_point x b j ls) (at_point x b j rows))

of_points : (x : ℕ) (b : Linear) (i n : ℕ) (ls rows : List Literal) (c : State) → In c (point_states x b i n ls rows) → AtPoint x ls rows c
of_points x b i zero ls rows c h = absurd h
of_points x b i (suc n) ls rows c h = ⊎_elim (λ e. (b, i, e)) (λ e. of_points x b (suc i) n ls rows c e) h

pub in_split : {A : Type 0} (a : A) (xs ys : List A) → In a (xs ++ ys) → In a xs ⊎ In a ys
in_split a [] ys h = inr h
in_split a (x ∷ xs) ys h = ⊎_elim (λ e. inl (inl e)) (λ e. ⊎_elim (λ f. inl (inr f)) (λ f. inr f) (in_split a xs ys e)) h

pub of_bounds : (x : ℕ) (bs : List Linear) (n : ℕ) (ls rows : List Literal) (c : State) → In c (bound_states x bs n ls rows) → AtPoint x ls rows c
of_bounds x [] n ls rows c h = absurd h
of_bounds x (b ∷ bs) n ls rows c h = ⊎_elim (λ e. of_points x b 0 n ls rows c e) (λ e. of_bounds x bs n ls rows c e) (in_split c (point_states x b 0 n ls rows) _ h)

-- ---- each variable that is left has a lower bound
pub in_append_left : {A : Type 0} (a : A) (xs ys : List A) → In a xs → In a (xs ++ ys)
in_append_left a [] ys h = absurd h
in_append_left a (x ∷ xs) ys h = ⊎_elim (λ e. inl e) (λ e. inr (in_append_left a xs ys e)) h

pub in_append_right : {A : Type 0} (a : A) (xs ys : List A) → In a ys → In a (xs ++ ys)
in_append_right a [] ys h = h
in_append_right a (x ∷ xs) ys h = inr (in_append_right a xs ys h)

pub in_map : {A B : Type 0} (f : A → B) (a : A) (xs : List A) → In a xs → In (f a) (map f xs)
in_map f a [] h = absurd h
in_map f a (x ∷ xs) h = ⊎_elim (λ e. inl (ap f e)) (λ e. inr (in_map f a xs e)) h

pub in_without : (x : ℕ) (lit : Literal) (ls : List Literal) → is_equation lit.sort ≡ false → In lit ls → In lit (without_equations x ls)
in_without x lit [] e h = absurd h
in_without x lit (m ∷ ls) e h = ⊎_elim
    (λ f. in_append_left lit (cond (is_equation m.sort && has x m) (halves m) (m ∷ [])) (without_equations x ls)
    (subst (λ b. In lit (cond (b && has x m) (halves m) (m ∷ []))) (sym e ∙ ap (λ (l : Literal). is_equation l.sort) f) (inl f)))
    (λ f. in_append_right lit (cond (is_equation m.sort && has x m) (halves m) (m ∷ [])) (without_equations x ls) (in_without x lit ls e f)) h

pub lower_some : (x : ℕ) (lit : Literal) (ls : List Literal) → is_lower x lit ≡ true → In lit ls → (b : Linear) × (bs : List Linear) × (bounds x ls ≡ b ∷ bs)
lower_some x lit [] e h = absurd h
lower_some x lit (m ∷ ls) e h = by (is_lower x m) refl
    (⊎_elim (λ f. inl (sym (ap (is_lower x) f) ∙ e)) (λ f. inr (lower_some x lit ls e f)) h)
  where
    by : (t : Bool) → is_lower x m ≡ t → ((is_lower x m ≡ true) ⊎ ((b : Linear) × (bs : List Linear) × (bounds x ls ≡ b ∷ bs))) →
        (b : Linear) × (bs : List Linear) × (cond t (bound x m ∷ bounds x ls) (bounds x ls) ≡ b ∷ bs)
    by true f more = (bound x m, bounds x ls, refl)
    by false f more = ⊎_elim (λ g. absurd (let k : false ≡ true = sym f ∙ g in cc)) (λ g. g) more

pub own_lower : (x l : ℕ) → x < 16 → is_lower x (scaled x l (own x)) ≡ true
own_lower x l h =
    let c = coefficient_variable x h in
    let e : has x (own x) ≡ true = ap (λ z. not (is_zero z)) c in
    let i = inside_of (variable x).coefficients x e in
    let k = l / unsigned_abs (coefficient (variable x) x) in
    let j : x < length (times (pos k) (variable x)).coefficients = omega (arith, length-map (variable x).coefficients (λ z. pos k *ℤ z), i) in
    let d : coefficient (multiplied x k (own x)).term x ≡ pos 1 = get_or_set x (sign (coefficient (variable x) x)) (times (pos k) (variable x)).coefficients j ∙ ap sign c in
    subst (λ b. is_lower x (cond b (multiplied x k (own x)) (own x)) ≡ true) (sym e) (ap is_one d)
