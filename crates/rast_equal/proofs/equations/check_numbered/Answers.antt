use Rattle.std.proofs.Common.{Some, None, ◌≡◌, sym, subst}
use Rattle.rast_equal.specs.declared.equations.EquationErr.{EquationErr}
use Rattle.rast_equal.specs.Equated.{first_premise, or_equation, unless_memory}
use Rattle.rast_equal.specs.Walk.{equation_points}
use Rattle.rast_equal.proofs.Tables.{premise_numbered}
use Rattle.rast_equal.proofs.equations.check_numbered.Goals as goal

pub returns-in-Err : goal.returns-in-Err
returns-in-Err c =
    let p = first_premise (equation_points c.args.table.now.defs c.args.equations.now c.args.equation.now) in
    subst (λ (y : EquationErr). unless_memory y.why (or_equation c.args.number p None ≡ Some y)) (sym c.equation_err.ensures) (premise_numbered c.args.number p c.in-Err.refusal c.in-Err.ensures)
