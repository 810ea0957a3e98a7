use Rattle.std.proofs.Common.{◌≡◌}
use Rattle.rast_items.specs.Process.{no_link}
use Rattle.rast_items.proofs.EntryLemmas.{find_more}
use Rattle.rast_items.proofs.entries.place_of.Goals as goal

pub loop-i-preserved : goal.loop-i-preserved
loop-i-preserved c = find_more c.args.channel c.args.entries.now c.loop-i.i no_link c.loop-i-test.true c.loop-i.invariant c.if-entries-i.false
