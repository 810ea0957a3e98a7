-- Types that are the same by references to the equations under a table of valid definitions are equal at each valuation at which the premises are true.
use Rattle.std.proofs.Common.{◌≡◌, ℕ, zero, suc, ◌+◌, ◌≤◌, Bool, true, false, ◌&&◌, ◌||◌, List, [], ◌∷◌, ◌++◌, flat_map, length, Option, Some, None, is_some, slice_get, refl, sym, ap, ap₂, ◌∙◌, subst, arith, eqb-true, ltb-false, if◌then◌else◌}
use Rattle.std.specs.Prelude.{◌==◌}
use Rattle.std.specs.List.{list_all, All, AllByRecursion}
use Rattle.std.proofs.lemmas.List.Elements.{recursion_from_All}
use Rattle.rast_index.specs.Linear.{Linear, value, whole, is_closed, is_small}
use Rattle.rast_index.specs.Truth.{truth, Follows, put, all_small, is_equal}
use Rattle.rast_index.specs.declared.formula.Formula.{Formula}
use Rattle.rast_index.proofs.Scope.{both_true}
use Rattle.rast_index.proofs.Replaced.{truth_put}
use Rattle.rast_types.specs.declared.equation.Ref.{Ref}
use Rattle.rast_types.specs.declared.equation.Ref.TheVariants.{Refl, Eq}
use Rattle.rast_types.specs.declared.equation.Equation.{Equation}
use Rattle.rast_types.specs.declared.ty.Ty.{Ty, out-Ty}
use Rattle.rast_types.specs.Closed.{Closed, closed, Table, part_of, Agree, EqualTo, Equal, exposed}
use Rattle.rast_types.specs.Symbolic.{put_type, binders, is_deep, is_small_type, Timed, exposed_type}
use Rattle.rast_equal.specs.Sound.{IsDefined, IsDefinedEquation, AreDefined, HaveEqualSides, AreEqual}
use Rattle.rast_equal.specs.WellMadeTypes.{is_named}
use Rattle.rast_equal.specs.declared.place.Place.{Place}
use Rattle.rast_equal.specs.Valid.{Claim as ValidClaim, Asks as CAsks, Shape as CShape, Over as COver, IsTrueClaim, IsValidTable, claims_of}
use Rattle.rast_equal.specs.Walk.{Point, Asks, Wanted, IsTruePoint, IsSame, IsGoodTable, same_points, meets, top, all_of, Heads, heads_of, claim_points, side_points, tagged, equation_points, part_points, serve, or_refl, if_made, natural_points, premise_points, alike, side_alike, instance_points, by_equation, by_ref}
use Rattle.rast_equal.proofs.Equals.{SameHeads, some_of, to_sym, to_trans, equal_sym, part_across}
use Rattle.rast_equal.proofs.Proper.{Proper, proper_part, proper_equal}
use Rattle.rast_equal.proofs.Exposing.{Unnamed, ExposedAs, exposed_is}
use Rattle.rast_equal.proofs.Every.{either_false, all_get, all_from, every_left, every_right}
use Rattle.rast_equal.proofs.Within.{all_within}
use Rattle.rast_equal.proofs.Scoped.{scoped_put, exposed_scoped}
use Rattle.rast_equal.proofs.Steady.{steady_closed}
use Rattle.rast_equal.proofs.Substitution.{values_of, whole-length, put_equal}
use Rattle.rast_equal.proofs.Truths.{equal_true, nonneg_true}
use Rattle.rast_equal.proofs.WellFormed.{ValidAt, ValidDefs, table_valid, named_at, scoped_at, proper_under}
use Rattle.rast_equal.proofs.Good.{AllGood, ByName, ByRef, alike_good, serve_good, parts_good}
use Rattle.rast_equal.proofs.Agreeing.{Valued, Fit, Claim, HeadFit, heads_agree}
use Rattle.rast_equal.proofs.Walked.{by_name_equal, claim_step}
use Rattle.rast_equal.proofs.Named.{named_put, exposed_named}

-- definitions that are valid, and equations that are defined and a good table
pub record Grounds (t : Table) (es : List Equation) : Type 0 where
  pub defs : ValidDefs t
  pub equations : All (IsDefinedEquation t) es
  pub good : IsGoodTable t es

pub grounds : (t : Table) (es : List Equation) → AreDefined t es → IsValidTable t → IsGoodTable t es → Grounds t es
grounds t es d v g = record { defs = table_valid t d.defs v; equations = d.equations; good = g }

-- ---- without equations

pub alike_equal : (t : Table) (k : ℕ) → Claim ByName t k
alike_equal t zero = λ p a b vs v f g h. tt
alike_equal t (suc k) = claim_step ByName t k (alike_equal t k) (by_name_equal t (suc k))

-- ---- what is true of an equation

tagged_true : (k : ℕ) (ps : List Point) → AllByRecursion (λ (x : ℕ × Point). IsTruePoint x.1) (tagged k ps) → AllByRecursion IsTruePoint ps
tagged_true k [] h = tt
tagged_true k (p ∷ ps) h = (h.0, tagged_true k ps h.1)

claims_true : (cs : List ValidClaim) → AllByRecursion IsTruePoint (flat_map claim_points cs) → AllByRecursion IsTrueClaim cs
claims_true [] h = tt
claims_true (CAsks rule n ps goal ∷ cs) h = (h.0, claims_true cs h.1)
claims_true (CShape rule n true ∷ cs) h = (refl, claims_true cs h)
claims_true (CShape rule n false ∷ cs) h = absurd h.0
claims_true (COver ∷ cs) h = absurd h.0

made_points : (deep small : Bool) (ps : List Point) → AllByRecursion IsTruePoint (if_made deep small ps) → (deep ≡ false) × AllByRecursion IsTruePoint ps
made_points true small ps h = absurd h.0
made_points false true ps h = (refl, h)
made_points false false ps h = absurd h.0

abbrev place_of : Equation → Place
place_of e = top e.vars (e.premise ∷ [])

-- both sides are valid, their ticks are equal, and the walk of their heads is good
record Opened (t : Table) (es : List Equation) (e : Equation) : Type 0 where
  left_valid : ValidAt t e.vars (e.premise ∷ []) e.left
  right_valid : ValidAt t e.vars (e.premise ∷ []) e.right
  left_shallow : e.vars + binders (exposed_type t e.vars e.left).body ≤ 16
  right_shallow : e.vars + binders (exposed_type t e.vars e.right).body ≤ 16
  ticks : Follows e.vars (e.premise ∷ []) (is_equal (exposed_type t e.vars e.left).ticks (exposed_type t e.vars e.right).ticks)
  heads : AllGood (ByRef es) (all_of (heads_of (exposed_type t e.vars e.left).body (exposed_type t e.vars e.right).body (place_of e)))

opened : (t : Table) (es : List Equation) (e : Equation) → AllByRecursion (λ (x : ℕ × Point). IsTruePoint x.1) (equation_points t es e) → Opened t es e
opened t es e h =
    let ps : List Formula = e.premise ∷ [] in
    let a : Timed = exposed_type t e.vars e.left in
    let b : Timed = exposed_type t e.vars e.right in
    let hs : Heads = heads_of a.body b.body (top e.vars ps) in
    let F : (ℕ × Point) → Type 0 = λ x. IsTruePoint x.1 in
    let one = tagged 1 (side_points t e.vars ps e.left) in
    let two = tagged 2 (side_points t e.vars ps e.right) in
    let three = tagged 3 (if_made (is_deep e.vars a.body || is_deep e.vars b.body) (is_small a.ticks && is_small b.ticks && is_small_type a.body && is_small_type b.body) (Asks (top e.vars ps) (is_equal a.ticks b.ticks) ∷ [])) in
    let four = tagged 4 (serve es [] hs.own) in
    let five = tagged 5 (part_points es e.refs hs) in
    let h1 = every_right F one (two ++ (three ++ (four ++ five))) h in
    let h2 = every_right F two (three ++ (four ++ five)) h1 in
    let h3 = every_right F three (four ++ five) h2 in
    let m = made_points (is_deep e.vars a.body || is_deep e.vars b.body) (is_small a.ticks && is_small b.ticks && is_small_type a.body && is_small_type b.body) (Asks (top e.vars ps) (is_equal a.ticks b.ticks) ∷ []) (tagged_true 3 _ (every_left F three (four ++ five) h2)) in
    let d = either_false (is_deep e.vars a.body) (is_deep e.vars b.body) m.0 in
    record {
      left_valid = claims_true (claims_of t e.vars ps e.left) (tagged_true 1 (side_points t e.vars ps e.left) (every_left F one (two ++ (three ++ (four ++ five))) h));
      right_valid = claims_true (claims_of t e.vars ps e.right) (tagged_true 2 (side_points t e.vars ps e.right) (every_left F two (three ++ (four ++ five)) h1));
      left_shallow = ltb-false 16 (e.vars + binders a.body) d.0;
      right_shallow = ltb-false 16 (e.vars + binders b.body) d.1;
      ticks = m.1.0;
      heads = good_append hs.own hs.parts (serve_good es [] hs.own (tagged_true 4 (serve es [] hs.own) (every_left F four five h3))) (parts_good es e.refs hs.parts (tagged_true 5 (part_points es e.refs hs) (every_right F four five h3)));
    }
  where
    good_append : (xs ys : List _) → AllGood (ByRef es) xs → AllGood (ByRef es) ys → AllGood (ByRef es) (xs ++ ys)
    good_append [] ys h k = k
    good_append (x ∷ xs) ys h k = (h.0, good_append xs ys h.1 k)

-- ---- heads that agree to a depth

agree_across : (t : Table) (k : ℕ) (a b x y : Closed) → SameHeads t a x → SameHeads t b y → Agree (EqualTo t k) a b → Agree (EqualTo t k) x y
agree_across t k a b x y s u h = record {
  kind = sym s.kind ∙ (h.kind ∙ u.kind);
  figure = sym s.figure ∙ (h.figure ∙ u.figure);
  ways = λ w. sym (s.ways w) ∙ (h.ways w ∙ u.ways w);
  parts = λ w c d p q.
      let m = some_of (part_of a w) (s.ways w ∙ ap is_some p) in
      let n = some_of (part_of b w) (u.ways w ∙ ap is_some q) in
      to_trans t k c m.0 d (to_sym t k m.0 c (s.parts w m.0 c m.1 p k)) (to_trans t k m.0 n.0 d (h.parts w m.0 n.0 m.1 n.1) (u.parts w n.0 d n.1 q k));
}

-- ---- equations

-- the sides of an equation are equal to the depth at naturals at which its premise is true
abbrev EquationClaim : List Equation → Table → ℕ → Type 0
EquationClaim es t k = (i : ℕ) (e : Equation) → slice_get es i ≡ Some e → (ws : List ℕ) → length ws ≡ e.vars → truth e.premise (whole ws) ≡ true → EqualTo t k (closed e.left (whole ws)) (closed e.right (whole ws))

side_fit : (t : Table) (es : List Equation) → Grounds t es → (e : Equation) (a : Ty) (ws : List ℕ) → IsDefinedEquation t e → IsDefined t e.vars a → ValidAt t e.vars (e.premise ∷ []) a → length ws ≡ e.vars → truth e.premise (whole ws) ≡ true → Fit t e.vars ws a
side_fit t es z e b ws m mt v l q = record {
  named = mt.named;
  scoped = mt.scoped;
  proper = proper_under t e.vars (e.premise ∷ []) b ws z.defs v mt.named mt.scoped (steady_closed e.vars e.premise m.premise, tt) l (ap (λ (x : Bool). x && true) q);
}

-- the head of a side
side_head : (t : Table) (es : List Equation) → Grounds t es → (e : Equation) (a : Ty) (ws : List ℕ) → Fit t e.vars ws a → ExposedAs t ws (exposed_type t e.vars a) (exposed t (closed a (whole ws))) → HeadFit t e.vars ws (out-Ty (exposed_type t e.vars a).body)
side_head t es z e a ws f x =
    let h : Ty = (exposed_type t e.vars a).body in
    record {
      named = named_at t h (out-Ty h) refl (exposed_named t e.vars a (λ i d s. (z.defs i d s).named) f.named);
      scoped = scoped_at e.vars h (out-Ty h) refl (exposed_scoped t e.vars a f.scoped);
      parts = λ u c q.
          let m = part_across t (closed h (whole ws)) (exposed t (closed a (whole ws))).head u c x.heads q in
          proper_equal t m.0 c (equal_sym t c m.0 m.2) (proper_part t (closed a (whole ws)) u m.0 f.proper m.1);
    }

sides_equal : (t : Table) (es : List Equation) → Grounds t es → (k : ℕ) → Claim (ByRef es) t k → (e : Equation) → IsDefinedEquation t e → Opened t es e → (ws : List ℕ) → length ws ≡ e.vars → truth e.premise (whole ws) ≡ true → EqualTo t (suc k) (closed e.left (whole ws)) (closed e.right (whole ws))
sides_equal t es z k c e m o ws l q =
    let x : Timed = exposed_type t e.vars e.left in
    let y : Timed = exposed_type t e.vars e.right in
    let un : Unnamed t = λ i d s. (z.defs i d s).unnamed in
    let few : e.vars ≤ 16 = omega (arith, o.left_shallow) in
    let v : Valued (place_of e) ws = record { sized = l; holds = ap (λ (b : Bool). b && true) q; steady = (steady_closed e.vars e.premise m.premise, tt) } in
    let fl : Fit t e.vars ws e.left = side_fit t es z e e.left ws m m.left o.left_valid l q in
    let fr : Fit t e.vars ws e.right = side_fit t es z e e.right ws m m.right o.right_valid l q in
    let el : ExposedAs t ws x (exposed t (closed e.left (whole ws))) = exposed_is t e.vars e.left ws un l few m.left.scoped o.left_shallow in
    let er : ExposedAs t ws y (exposed t (closed e.right (whole ws))) = exposed_is t e.vars e.right ws un l few m.right.scoped o.right_shallow in
    let agree : Agree (EqualTo t k) (closed x.body (whole ws)) (closed y.body (whole ws)) = heads_agree (ByRef es) t k c (place_of e) ws v x.body y.body (side_head t es z e e.left ws fl el) (side_head t es z e e.right ws fr er) o.heads in
    let ticks : value x.ticks (whole ws) ≡ value y.ticks (whole ws) = equal_true x.ticks y.ticks (whole ws) (o.ticks ws l (ap (λ (b : Bool). b && true) q)) in
    (sym el.ticks ∙ (ticks ∙ er.ticks), agree_across t k (closed x.body (whole ws)) (closed y.body (whole ws)) (exposed t (closed e.left (whole ws))).head (exposed t (closed e.right (whole ws))).head el.heads er.heads agree)

equation_step : (t : Table) (es : List Equation) → Grounds t es → (k : ℕ) → Claim (ByRef es) t k → EquationClaim es t (suc k)
equation_step t es z k c i e s ws l q =
    let F : Equation → Type 0 = λ x. All (λ (y : ℕ × Point). IsTruePoint y.1) (equation_points t es x) in
    let h = recursion_from_All (λ (y : ℕ × Point). IsTruePoint y.1) (equation_points t es e) (all_get F es i e z.good s) in
    sides_equal t es z k c e (all_get (IsDefinedEquation t) es i e z.equations s) (opened t es e h) ws l q

-- ---- an instance of an equation

natural_values : (p : Place) (vs : List ℕ) (args : List Linear) → Valued p vs → AllByRecursion IsTruePoint (natural_points p args) → (ws : List ℕ) × (values_of args vs ≡ whole ws) × (length ws ≡ length args)
natural_values p vs [] v h = ([], refl, refl)
natural_values p vs (x ∷ args) v h =
    let r = nonneg_true x (whole vs) (h.0 vs v.sized v.holds) in
    let s = natural_values p vs args v h.1 in
    (r.0 ∷ s.0, ap₂ (λ z zs. z ∷ zs) r.1 s.1, ap suc s.2)

-- a side of an equation at arguments, as a type and as a closed type
side_put : (t : Table) (n : ℕ) (args : List Linear) (a : Ty) (vs ws : List ℕ) → length vs ≡ n → list_all (is_closed n) args ≡ true → is_deep n (put_type n args a) ≡ false → values_of args vs ≡ whole ws → is_named t a ≡ true → Proper t (closed a (whole ws)) → Fit t n vs (put_type n args a) × Equal t (closed (put_type n args a) (whole vs)) (closed a (whole ws))
side_put t n args a vs ws l c d e nm p =
    let eq : Equal t (closed (put_type n args a) (whole vs)) (closed a (whole ws)) = subst (λ xs. Equal t (closed (put_type n args a) (whole vs)) (closed a xs)) e (put_equal t n args a vs l (ltb-false 16 (n + binders (put_type n args a)) d) (all_within n args c)) in
    (record { named = named_put t n args a ∙ nm; scoped = scoped_put n args a (all_within n args c); proper = proper_equal t (closed a (whole ws)) (closed (put_type n args a) (whole vs)) (equal_sym t (closed (put_type n args a) (whole vs)) (closed a (whole ws)) eq) p }, eq)

instance_equal : (t : Table) (es : List Equation) → Grounds t es → (k i : ℕ) (e : Equation) → EquationClaim es t k → slice_get es i ≡ Some e → IsDefinedEquation t e → Opened t es e → (args : List Linear) (p : Place) (a b : Ty) (vs : List ℕ) → Valued p vs → Fit t p.vars vs a → Fit t p.vars vs b → length args ≡ e.vars → list_all (is_closed p.vars) args ≡ true → p.vars ≤ 16 → AllByRecursion IsTruePoint (instance_points e args p a b) → EqualTo t k (closed a (whole vs)) (closed b (whole vs))
instance_equal t es z k i e claim s m o args p a b vs v f h l c few q =
    let L : Ty = put_type p.vars args e.left in
    let R : Ty = put_type p.vars args e.right in
    let one = natural_points p args in
    let two = premise_points p args e.premise in
    let three = side_alike p a L in
    let four = side_alike p b R in
    let q1 = every_right IsTruePoint one (two ++ (three ++ four)) q in
    let q2 = every_right IsTruePoint two (three ++ four) q1 in
    let n = natural_values p vs args v (every_left IsTruePoint one (two ++ (three ++ four)) q) in
    let ws : List ℕ = n.0 in
    let pm = made_points false (all_small (put args e.premise)) (Asks p (put args e.premise) ∷ []) (every_left IsTruePoint two (three ++ four) q1) in
    let tp : truth (put args e.premise) (whole vs) ≡ true = pm.1.0 vs v.sized v.holds in
    let premise : truth e.premise (whole ws) ≡ true = subst (λ xs. truth e.premise xs ≡ true) n.1 (sym (truth_put args (whole vs) (omega (arith, whole-length vs, v.sized, few)) e.premise) ∙ tp) in
    let ml = made_points (is_deep p.vars L) (is_small_type L) (alike p a L) (every_left IsTruePoint three four q2) in
    let mr = made_points (is_deep p.vars R) (is_small_type R) (alike p b R) (every_right IsTruePoint three four q2) in
    let lw : length ws ≡ e.vars = n.2 ∙ l in
    let fl = side_fit t es z e e.left ws m m.left o.left_valid lw premise in
    let fr = side_fit t es z e e.right ws m m.right o.right_valid lw premise in
    let pl = side_put t p.vars args e.left vs ws v.sized c ml.0 n.1 fl.named fl.proper in
    let pr = side_put t p.vars args e.right vs ws v.sized c mr.0 n.1 fr.named fr.proper in
    let aL : EqualTo t k (closed a (whole vs)) (closed L (whole vs)) = alike_equal t k p a L vs v f pl.0 (alike_good (meets a L p) ml.1) in
    let bR : EqualTo t k (closed b (whole vs)) (closed R (whole vs)) = alike_equal t k p b R vs v h pr.0 (alike_good (meets b R p) mr.1) in
    let mid : EqualTo t k (closed e.left (whole ws)) (closed e.right (whole ws)) = claim i e s ws lw premise in
    to_trans t k (closed a (whole vs)) (closed L (whole vs)) (closed b (whole vs)) aL
    (to_trans t k (closed L (whole vs)) (closed e.left (whole ws)) (closed b (whole vs)) (pl.1 k)
    (to_trans t k (closed e.left (whole ws)) (closed e.right (whole ws)) (closed b (whole vs)) mid
    (to_trans t k (closed e.right (whole ws)) (closed R (whole vs)) (closed b (whole vs)) (to_sym t k (closed R (whole vs)) (closed e.right (whole ws)) (pr.1 k)) (to_sym t k (closed b (whole vs)) (closed R (whole vs)) bR))))

-- ---- references

good_equation : (t : Table) (es : List Equation) → Grounds t es → (i : ℕ) (e : Equation) → slice_get es i ≡ Some e → Opened t es e
good_equation t es z i e s =
    opened t es e (recursion_from_All (λ (y : ℕ × Point). IsTruePoint y.1) (equation_points t es e) (all_get (λ (x : Equation). All (λ (y : ℕ × Point). IsTruePoint y.1) (equation_points t es x)) es i e z.good s))

by_equation_equal : (t : Table) (es : List Equation) → Grounds t es → (k i : ℕ) (o : Option Equation) → EquationClaim es t k → slice_get es i ≡ o → (args : List Linear) (p : Place) (a b : Ty) (vs : List ℕ) → Valued p vs → Fit t p.vars vs a → Fit t p.vars vs b → p.vars ≤ 16 → AllByRecursion IsTruePoint (by_equation o args p a b) → EqualTo t k (closed a (whole vs)) (closed b (whole vs))
by_equation_equal t es z k i None claim s args p a b vs v f h few q = absurd q.0
by_equation_equal t es z k i (Some e) claim s args p a b vs v f h few q = pick ((length args == e.vars) && list_all (is_closed p.vars) args) refl q
  where
    pick : (x : Bool) → (length args == e.vars) && list_all (is_closed p.vars) args ≡ x → AllByRecursion IsTruePoint (if x then instance_points e args p a b else Wanted p.path ∷ []) → EqualTo t k (closed a (whole vs)) (closed b (whole vs))
    pick false y q = absurd q.0
    pick true y q =
        let r = both_true (length args == e.vars) (list_all (is_closed p.vars) args) y in
        instance_equal t es z k i e claim s (all_get (IsDefinedEquation t) es i e z.equations s) (good_equation t es z i e s) args p a b vs v f h (eqb-true (length args) e.vars r.0) r.1 few q

by_ref_equal : (t : Table) (es : List Equation) → Grounds t es → (k : ℕ) → EquationClaim es t k → (r : Ref) (p : Place) (a b : Ty) (vs : List ℕ) → Valued p vs → Fit t p.vars vs a → Fit t p.vars vs b → p.vars ≤ 16 → AllByRecursion IsTruePoint (by_ref es r p a b) → EqualTo t k (closed a (whole vs)) (closed b (whole vs))
by_ref_equal t es z k claim Refl p a b vs v f h few q = by_name_equal t k p a b vs v f h few q
by_ref_equal t es z k claim (Eq zero args) p a b vs v f h few q = absurd q.0
by_ref_equal t es z k claim (Eq (suc i) args) p a b vs v f h few q = by_equation_equal t es z k i (slice_get es i) claim refl args p a b vs v f h few q

-- ---- to every depth

same_claims : (t : Table) (es : List Equation) → Grounds t es → (k : ℕ) → Claim (ByRef es) t k × EquationClaim es t k
same_claims t es z zero = ((λ p x y vs v f h q. tt), (λ i e s ws l q. tt))
same_claims t es z (suc k) =
    let r = same_claims t es z k in
    let e : EquationClaim es t (suc k) = equation_step t es z k r.0 in
    (claim_step (ByRef es) t k r.0 (λ p x y vs v f h few q. by_ref_equal t es z (suc k) e q.0 p x y vs v f h few q.1), e)

-- what a premise calls the same is equal
pub same_equal : (t : Table) (es : List Equation) → Grounds t es → (n : ℕ) (ps : List Formula) (a b : Ty) (refs : List Ref) (vs : List ℕ) → IsSame es n ps a b refs → Valued (top n ps) vs → Fit t n vs a → Fit t n vs b → Equal t (closed a (whole vs)) (closed b (whole vs))
same_equal t es z n ps a b refs vs s v f h =
    λ k. (same_claims t es z k).0 (top n ps) a b vs v f h (serve_good es (or_refl refs (meets a b (top n ps))) (meets a b (top n ps)) (recursion_from_All IsTruePoint (same_points es n ps a b refs) s))

-- and so are the sides of each equation
pub equal_sides : (t : Table) (es : List Equation) → Grounds t es → HaveEqualSides t es
equal_sides t es z =
    all_from (λ e. AreEqual t e.vars (e.premise ∷ []) e.left e.right) es (λ i e s ws l q. λ k. (same_claims t es z k).1 i e s ws l (both_true (truth e.premise (whole ws)) true q).0)
