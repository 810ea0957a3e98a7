use Rattle.std.proofs.Common.{arith}
use Rattle.rast_cooper.specs.Eliminate.{scaled}
use Rattle.rast_cooper.proofs.Lists.{map_fails}
use Rattle.rast_cooper.proofs.rewrite.scaled_all.Goals as goal

pub returns-in-None : goal.returns-in-None
returns-in-None c = map_fails (scaled c.args.x c.args.l) c.args.ls.now c.loop-lit.lit-index c.lit-item.result (omega arith) c.lit-item.is c.in-None.ensures
