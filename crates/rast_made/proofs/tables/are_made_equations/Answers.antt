use Rattle.std.proofs.Common.{◌∙◌, sym}
use Rattle.rast_made.specs.Made.{is_made_equation}
use Rattle.rast_made.proofs.Testing.{test_stop}
use Rattle.rast_made.proofs.tables.are_made_equations.Goals as goal

pub returns-then-not-branch : goal.returns-then-not-branch
returns-then-not-branch c =
    test_stop (is_made_equation c.args.program.now) c.args.equations.now c.loop-equation.equation-index c.equation-item.result c.loop-equation-test.true c.equation-item.is
    (sym c.in_ok-is_made_equation.ensures ∙ c.if-not-branch.true) c.loop-equation.invariant
