use Rattle.std.proofs.Common.{arith}
use Rattle.rast_cooper.specs.Arithmetic.{shifted}
use Rattle.rast_cooper.specs.Eliminate.{substituted}
use Rattle.rast_cooper.proofs.Lists.{map_fails}
use Rattle.rast_cooper.proofs.rewrite.put_all.Goals as goal

pub returns-in-None : goal.returns-in-None
returns-in-None c = map_fails (substituted c.args.x (shifted c.args.more c.args.t.now)) c.args.ls.now c.loop-lit.lit-index c.lit-item.result (omega arith) c.lit-item.is c.in-None.ensures
