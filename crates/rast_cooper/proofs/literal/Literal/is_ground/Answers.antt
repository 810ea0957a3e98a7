use Rattle.std.proofs.Common.{arith, sym}
use Rattle.rast_cooper.proofs.Ground.{ground_first, ground_more, ground_all}
use Rattle.rast_cooper.proofs.literal.Literal.is_ground.Goals as goal

pub loop-x-init : goal.loop-x-init
loop-x-init c = ground_first c.args.self.now

pub loop-x-preserved : goal.loop-x-preserved
loop-x-preserved c = ground_more c.loop-x.x c.args.self.now (omega arith) c.loop-x.invariant (sym c.if-has.ensures)

pub returns : goal.returns
returns c = ground_all c.loop-x.x c.args.self.now (omega arith) c.loop-x.invariant
