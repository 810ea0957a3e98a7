-- What the equations and references that were found are good for.
use Rattle.std.specs.Prelude.{◌≡◌, ◌≤◌, ℕ, List, [], ◌∷◌, ◌++◌, length, slice_get, Some, None, All}
use Rattle.rast_index.specs.Truth.{is_equal}
use Rattle.rast_index.specs.declared.formula.Formula.{Formula}
use Rattle.rast_types.specs.Closed.{Table}
use Rattle.rast_types.specs.Symbolic.{exposed_type}
use Rattle.rast_types.specs.declared.equation.Equation.{Equation}
use Rattle.rast_types.specs.declared.equation.Ref.{Ref}
use Rattle.rast_types.specs.declared.ty.Ty.{Ty}
use Rattle.rast_equal.specs.Equated.{are_small_both, first_premise, is_deep_either}
use Rattle.rast_equal.specs.Fault.{first_fault}
use Rattle.rast_equal.specs.Walk.{Point, Asks, IsGoodTable, IsTruePoint, equation_points, head_layers, if_made, part_points, same_points, serve, side_points, tagged, top}
use Rattle.rast_eqfind.specs.Search.{most_made}
use Rattle.rast_eqfind.specs.declared.finding.Finding.{Finding}
use Rattle.rast_eqfind.specs.declared.finding.Finding.TheVariants as finding

-- the premises 3 to 5 of an equation
abbrev pub opened_points : Table → List Equation → Equation → List (ℕ × Point)
opened_points t es e =
    let p = top e.vars (e.premise ∷ []) in
    let a = exposed_type t e.vars e.left in
    let b = exposed_type t e.vars e.right in
    let h = head_layers a b p in
    let ticks : List Point = Asks p (is_equal a.ticks b.ticks) ∷ [] in
    tagged 3 (if_made (is_deep_either e.vars a b) (are_small_both a b) ticks)
    ++ (tagged 4 (serve es [] h.own) ++ tagged 5 (part_points es e.refs h))

-- premises 1 and 2, and then these, are all premises of the equation
abbrev pub side_premises : Table → Equation → List (ℕ × Point)
side_premises t e = tagged 1 (side_points t e.vars (e.premise ∷ []) e.left) ++ tagged 2 (side_points t e.vars (e.premise ∷ []) e.right)

abbrev pub SameSides : Equation → Equation → Type 0
SameSides e f = (rs : List Ref) × (f ≡ record e { refs = rs })

-- whether a table has the same sides as another at each of its places, and maybe more equations and other references
abbrev pub Extends : List Equation → List Equation → Type 0
Extends es fs = (k : ℕ) (e : Equation) → slice_get es k ≡ Some e → (f : Equation) × (slice_get fs k ≡ Some f) × SameSides e f

-- whether all premises of these equations are true in a table
abbrev pub AreTrueIn : Table → List Equation → List Equation → Type 0
AreTrueIn t fs es = All (λ e. All (λ x. IsTruePoint x.1) (equation_points t fs e)) es

-- In each table that extends the known equations and the new ones, nothing is wrong in the walk of both types by the references,
-- and nothing at the ticks, heads and parts of a new equation by its own. Known equations that were good stay good.
pub record IsFound (t : Table) (known : List Equation) (n : ℕ) (ps : List Formula) (a b : Ty)
    (added : List Equation) (refs : List Ref) : Type 0 where
  pub few : length added ≤ most_made
  pub same : (fs : List Equation) → Extends (known ++ added) fs → first_fault (same_points fs n ps a b refs) ≡ None
  pub opened : (fs : List Equation) → Extends (known ++ added) fs → (k : ℕ) (e : Equation) → slice_get added k ≡ Some e →
      first_premise (opened_points t fs e) ≡ None
  pub all : (fs : List Equation) (e : Equation) → equation_points t fs e ≡ (side_premises t e ++ opened_points t fs e)
  pub itself : Extends (known ++ added) (known ++ added)
  pub kept : IsGoodTable t known → AreTrueIn t (known ++ added) known

-- what an answer of the search says where it has found equations and references
abbrev pub TellsFound : Table → List Equation → ℕ → List Formula → Ty → Ty → Finding → Type 0
TellsFound t known n ps a b f =
    (added : List Equation) (refs : List Ref) → f ≡ finding.Found added refs → IsFound t known n ps a b added refs
