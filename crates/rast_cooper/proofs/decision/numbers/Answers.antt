use Rattle.std.proofs.Common.{arith}
use Rattle.rast_cooper.proofs.Numbers.{numbers_more, above_at}
use Rattle.rast_cooper.proofs.decision.numbers.Goals as goal

pub number-requires : goal.number-requires
number-requires c = above_at c.args.rows.now c.loop-i.i c.index-rows-i.result (omega arith) c.index-rows-i.is c.requires.above

pub loop-i-preserved : goal.loop-i-preserved
loop-i-preserved c = numbers_more c.args.rows.now c.loop-i.values c.loop-i.i c.number.result c.index-rows-i.result (omega arith) c.requires.few c.index-rows-i.is c.number.ensures c.loop-i.invariant
