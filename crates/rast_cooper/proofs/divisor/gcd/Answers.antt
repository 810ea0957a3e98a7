use Rattle.std.proofs.Common.{◌∙◌, sym, arith}
use Rattle.rast_cooper.proofs.Multiples.{gcd_step, gcd_end}
use Rattle.rast_cooper.proofs.divisor.gcd.Goals as goal

pub loop-y-preserved : goal.loop-y-preserved
loop-y-preserved c = c.loop-y.invariant ∙ gcd_step c.loop-y.x c.loop-y.y (omega arith)

pub returns : goal.returns
returns c = sym (c.loop-y.invariant ∙ gcd_end c.loop-y.x c.loop-y.y (omega arith))
