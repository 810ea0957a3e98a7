use Rattle.std.proofs.Common.{sym}
use Rattle.rast_items.specs.Step.{is_msg}
use Rattle.rast_core.proofs.Cuts.{cut_at, none_more, read_at}
use Rattle.rast_core.proofs.find.find_message.Goals as goal

pub returns-then-is_message : goal.returns-then-is_message
returns-then-is_message c = cut_at (is_msg c.args.link c.args.side) c.args.items.now c.loop-i.i c.index-items-i.result c.loop-i.invariant (read_at c.args.items.now c.loop-i.i c.index-items-i.result c.loop-i-test.true c.index-items-i.is) (sym c.if-is_message.ensures)

pub loop-i-preserved : goal.loop-i-preserved
loop-i-preserved c = none_more (is_msg c.args.link c.args.side) c.args.items.now c.loop-i.i c.index-items-i.result c.loop-i.invariant (read_at c.args.items.now c.loop-i.i c.index-items-i.result c.loop-i-test.true c.index-items-i.is) (sym c.if-is_message.ensures)
