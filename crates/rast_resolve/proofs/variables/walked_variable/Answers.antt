use Rattle.std.proofs.Common.{sym, ◌∙◌}
use Rattle.rast_resolve.proofs.Places.{walked_on}
use Rattle.rast_resolve.proofs.variables.walked_variable.Goals as goal

pub loop-number-preserved : goal.loop-number-preserved
loop-number-preserved c = walked_on _ _ c.loop-number-test.true (sym c.is_walked_name.ensures ∙ c.if-is_walked_name.false) ∙ c.loop-number.invariant
