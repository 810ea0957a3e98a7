use Rattle.std.proofs.Common.{◌∙◌, ap}
use Rattle.rast_types.specs.declared.stop.Stop.{Stop}
use Rattle.rast_equal.proofs.Premises.{exposed_fit}
use Rattle.rast_eqfind.specs.declared.finding.Finding.TheVariants as finding
use Rattle.rast_eqfind.specs.declared.finding.Halt.TheVariants.{Ends}
use Rattle.rast_eqfind.proofs.Opening.{opens_stops}
use Rattle.rast_eqfind.proofs.walk.open.Goals as goal

pub open_sides-shown-requires-clause-left : goal.open_sides-shown-requires-clause-left
open_sides-shown-requires-clause-left c = exposed_fit c.args.table.now.defs c.args.equation.now.vars c.args.equation.now.left c.in-Ok.left c.requires.defs c.requires.fit.left c.in-Ok.ensures.0

pub open_sides-shown-requires-clause-right : goal.open_sides-shown-requires-clause-right
open_sides-shown-requires-clause-right c = exposed_fit c.args.table.now.defs c.args.equation.now.vars c.args.equation.now.right c.in-Ok.right c.requires.defs c.requires.fit.right c.in-Ok.ensures.1

pub returns-in-Err-Bound : goal.returns-in-Err-Bound
returns-in-Err-Bound c =
    opens_stops c.args.table.now.defs c.args.equation.now c.in-Err-Bound.field-0 c.in-Err-Bound.stop c.stopped.result c.in-Err-Bound.field-0-is c.in-Err-Bound.ensures
    (c.stopped.ensures ∙ ap (λ (x : Stop). Ends (finding.Stopped x)) c.in-Err-Bound.stop-is)
