-- What Ok of a walk, and of a check of equations, says of the types.
use Rattle.std.proofs.Common.{◌≡◌, ℕ, true, List, [], ◌∷◌, ◌++◌, length, Result, Ok, Err, ap, ◌∙◌, subst, arith}
use Rattle.std.specs.Prelude.{All, IfOk}
use Rattle.std.specs.List.{list_all}
use Rattle.std.proofs.lemmas.List.Elements.{recursion_from_All}
use Rattle.rast_index.specs.Linear.{whole}
use Rattle.rast_index.specs.Truth.{truth, is_closed_formula}
use Rattle.rast_cooper.specs.Divisors.{divisors_above_zero}
use Rattle.rast_index.specs.declared.formula.Formula.{Formula}
use Rattle.rast_index.proofs.Scope.{both_true}
use Rattle.rast_cooper.specs.Verdicts.{is_within}
use Rattle.rast_types.specs.declared.equation.Ref.{Ref}
use Rattle.rast_types.specs.declared.equation.Equation.{Equation}
use Rattle.rast_types.specs.declared.ty.Ty.{Ty}
use Rattle.rast_types.specs.Closed.{Table}
use Rattle.rast_equal.specs.declared.answer.SameErr.{SameErr}
use Rattle.rast_equal.specs.declared.place.Place.{Place}
use Rattle.rast_equal.specs.declared.place.Pair.{Pair}
use Rattle.rast_equal.specs.Fault.{Decides}
use Rattle.rast_equal.specs.Fit.{AreFit}
use Rattle.rast_equal.specs.Sound.{IsSide, AreDefined, AreEqualWhereGood, HaveEqualSides}
use Rattle.rast_equal.specs.Valid.{IsTrueClaim, IsValidTable, claims_of}
use Rattle.rast_equal.specs.Walk.{IsSame, IsGoodTable, IsTruePoint, left, meets, or_refl, pair, serve, top}
use Rattle.rast_equal.proofs.Agreeing.{Fit}
use Rattle.rast_equal.proofs.Sames.{Grounds, grounds, same_equal, equal_sides}
use Rattle.rast_equal.proofs.Serving.{only_pair}
use Rattle.rast_equal.proofs.Steady.{AreSteady, steady_closed}
use Rattle.rast_equal.proofs.WellFormed.{ValidDefs, proper_under}

steady_within : (n : ℕ) (fs : List Formula) → list_all (is_within n) fs ≡ true → AreSteady n fs
steady_within n [] h = tt
steady_within n (f ∷ fs) h =
    let r = both_true (is_within n f) (list_all (is_within n) fs) h in
    (steady_closed n f (both_true (is_closed_formula n f) (divisors_above_zero f) r.0).0, steady_within n fs r.1)

-- a side is well formed at a valuation at which its premises are true
side_known : (t : Table) (n : ℕ) (ps : List Formula) (a : Ty) (vs : List ℕ) → ValidDefs t → AreSteady n ps → IsSide t n ps a → length vs ≡ n → list_all (λ f. truth f (whole vs)) ps ≡ true → Fit t n vs a
side_known t n ps a vs ds st s l h = record {
  named = s.defined.named;
  scoped = s.defined.scoped;
  proper = proper_under t n ps a vs ds (recursion_from_All IsTrueClaim (claims_of t n ps a) s.valid) s.defined.named s.defined.scoped st l h;
}

same_means : (es : List Equation) (n : ℕ) (ps : List Formula) (a b : Ty) (refs : List Ref) → list_all (is_within n) ps ≡ true → IsSame es n ps a b refs → AreEqualWhereGood es n ps a b
same_means es n ps a b refs w s t d v g x y vs l h =
    let z : Grounds t es = grounds t es d v g in
    let st : AreSteady n ps = steady_within n ps w in
    same_equal t es z n ps a b refs vs s (record { sized = l; holds = h; steady = st }) (side_known t n ps a vs z.defs st x l h) (side_known t n ps b vs z.defs st y l h)

-- where one pair was served, of these types
pub walk_means : {X : Type 0} (es : List Equation) (n : ℕ) (ps : List Formula) (q : Place) (a b x y : Ty) (refs : List Ref) (pairs new : List Pair) (r : Result X SameErr) → pairs ≡ new ++ pair q x y ∷ [] → new ≡ [] → q ≡ top n ps → x ≡ a → y ≡ b → AreFit (top n ps) a b → Decides (serve es (or_refl refs (left pairs)) (left pairs)) r → IfOk r (λ done. AreEqualWhereGood es n ps a b)
walk_means {X} es n ps q a b x y refs pairs new (Err e) k m f g h fit d = tt
walk_means {X} es n ps q a b x y refs pairs new (Ok v) k m f g h fit d =
    let here : left pairs ≡ meets a b (top n ps) = ap left (only_pair q x y pairs new k m) ∙ (ap (meets x y) f ∙ (ap (λ (z : Ty). meets z y (top n ps)) g ∙ ap (λ (z : Ty). meets a z (top n ps)) h)) in
    same_means es n ps a b refs (fit.scope.premises n (omega arith)) (subst (λ ms. All IsTruePoint (serve es (or_refl refs ms) ms)) here d.1)

pub table_means : (t : Table) (es : List Equation) → IsGoodTable t es → AreDefined t es → IsValidTable t → HaveEqualSides t es
table_means t es g d v = equal_sides t es (grounds t es d v g)
