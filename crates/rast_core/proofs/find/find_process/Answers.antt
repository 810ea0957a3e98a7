use Rattle.std.proofs.Common.{sym}
use Rattle.rast_items.specs.Step.{is_proc}
use Rattle.rast_core.proofs.Cuts.{cut_at, none_more, read_at}
use Rattle.rast_core.proofs.find.find_process.Goals as goal

pub returns-then-is_process : goal.returns-then-is_process
returns-then-is_process c = cut_at (is_proc c.args.pid) c.args.items.now c.loop-i.i c.index-items-i.result c.loop-i.invariant (read_at c.args.items.now c.loop-i.i c.index-items-i.result c.loop-i-test.true c.index-items-i.is) (sym c.if-is_process.ensures)

pub loop-i-preserved : goal.loop-i-preserved
loop-i-preserved c = none_more (is_proc c.args.pid) c.args.items.now c.loop-i.i c.index-items-i.result c.loop-i.invariant (read_at c.args.items.now c.loop-i.i c.index-items-i.result c.loop-i-test.true c.index-items-i.is) (sym c.if-is_process.ensures)
