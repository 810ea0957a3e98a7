use Rattle.rast_rules.proofs.Entries.{find_more}
use Rattle.rast_rules.proofs.channels.place_of.Goals as goal

pub loop-i-preserved : goal.loop-i-preserved
loop-i-preserved c = find_more c.args.channel c.args.entries.now c.loop-i.i c.index-entries-i.result c.loop-i-test.true c.loop-i.invariant c.if-entries-i.false
