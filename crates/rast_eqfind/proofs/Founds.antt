-- What the search says where it has found equations and references.
use Rattle.std.proofs.Common.{◌≡◌, ℕ, List, [], ◌∷◌, ◌++◌, sym, ◌∙◌, append_assoc}
use Rattle.rast_index.specs.declared.formula.Formula.{Formula}
use Rattle.rast_types.specs.Closed.{Table}
use Rattle.rast_types.specs.declared.equation.Equation.{Equation}
use Rattle.rast_types.specs.declared.ty.Ty.{Ty}
use Rattle.rast_equal.specs.Walk.{side_points, tagged}
use Rattle.rast_eqfind.specs.Found.{TellsFound, opened_points}
use Rattle.rast_eqfind.specs.Search.{found}
use Rattle.rast_eqfind.specs.declared.finding.Finding.{Finding}
use Rattle.rast_eqfind.proofs.Kept.{table_kept}
use Rattle.rast_eqfind.proofs.Premises.{walked_premises}
use Rattle.rast_eqfind.proofs.Sames.{extends_refl, found_serves}

pub tells_found : (t : Table) (known : List Equation) (n : ℕ) (ps : List Formula) (a b : Ty) (f : Finding) → f ≡ found t known n ps a b → TellsFound t known n ps a b f
tells_found t known n ps a b f is added refs h =
    let s = found_serves t known n ps a b added refs (sym is ∙ h) in
    record {
      few = s.few;
      same = s.same;
      opened = λ fs ext k e at. walked_premises t fs e (s.walked fs ext k e at);
      all = λ fs e. sym (append_assoc (tagged 1 (side_points t e.vars (e.premise ∷ []) e.left)) (tagged 2 (side_points t e.vars (e.premise ∷ []) e.right)) (opened_points t fs e));
      itself = extends_refl (known ++ added);
      kept = table_kept t known added;
    }
