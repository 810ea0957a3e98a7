use Rattle.std.proofs.Common.{sym}
use Rattle.rast_equal.proofs.Labels.{order_lengths}
use Rattle.rast_equal.proofs.walk.are_in_order.Goals as goal

pub returns-then-ts-us : goal.returns-then-ts-us
returns-then-ts-us c = sym (order_lengths c.args.ts.now c.args.us.now c.if-ts-us.true)
