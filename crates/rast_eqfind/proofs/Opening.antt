-- Both sides of an equation opened.
use Rattle.std.proofs.Common.{◌≡◌, Bool, true, false, [], sym, ap, ap₂, refl, subst, Some, Ok, Err}
use Rattle.rast_types.specs.Closed.{Table}
use Rattle.rast_types.specs.Symbolic.{exposed_type, within}
use Rattle.rast_types.specs.declared.equation.Equation.{Equation}
use Rattle.rast_types.specs.declared.stop.Stop.{Stop}
use Rattle.rast_types.specs.declared.stop.Stop.TheVariants as stop
use Rattle.rast_equal.specs.declared.answer.SameErr.{SameErr}
use Rattle.rast_equal.specs.declared.answer.SameErr.TheVariants as err
use Rattle.rast_equal.specs.Equated.{ExposesBoth, are_small_both, is_deep_either}
use Rattle.rast_equal.specs.Fault.{IsFault, first_fault}
use Rattle.rast_equal.specs.Walk.{if_made}
use Rattle.rast_eqfind.specs.Answer.{Opens}
use Rattle.rast_eqfind.specs.Search.{opened_mets}
use Rattle.rast_eqfind.specs.declared.finding.Finding.TheVariants as finding
use Rattle.rast_eqfind.specs.declared.finding.Halt.{Halt}
use Rattle.rast_eqfind.specs.declared.finding.Halt.TheVariants.{Ends}

pub within_made : {X : Type 0} (deep small : Bool) (x : X) → deep ≡ false → small ≡ true → within deep small x ≡ Ok x
within_made {X} deep small x e f = ap₂ (λ d s. within d s x) e f

-- the bound is that of what was to be made
pub within_stop : {X : Type 0} (deep small : Bool) (x : X) (s : Stop) → first_fault (if_made deep small []) ≡ Some (err.Bound s) → within deep small x ≡ Err s
within_stop {X} true small x s e = let f : stop.Variables ≡ s = cc in ap Err f
within_stop {X} false false x s e = let f : stop.Coefficient ≡ s = cc in ap Err f
within_stop {X} false true x s e = absurd (cc)

-- a bound was reached where both sides were opened
pub opens_stops : (t : Table) (e : Equation) (why : SameErr) (s : Stop) (h : Halt) → why ≡ err.Bound s →
    ExposesBoth e.vars (exposed_type t e.vars e.left) (exposed_type t e.vars e.right) (Err why) → h ≡ Ends (finding.Stopped s) → Opens (opened_mets t e) (Err h)
opens_stops t e why s h is k ends =
    let a = exposed_type t e.vars e.left in
    let b = exposed_type t e.vars e.right in
    let fault = subst (IsFault (first_fault (if_made (is_deep_either e.vars a b) (are_small_both a b) []))) is (k []) in
    subst (λ (x : Halt). Opens (opened_mets t e) (Err x)) (sym ends) (s, within_stop (is_deep_either e.vars a b) (are_small_both a b) _ s fault, refl)
