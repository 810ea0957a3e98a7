use Rattle.std.proofs.Common.{refl}
use Rattle.rast_lines.proofs.Counting.{puts_named}
use Rattle.rast_lines.proofs.shown.put.Goals as goal

pub returns-clause-ok : goal.returns-clause-ok
returns-clause-ok c = puts_named c.args.next.now c.insert.new.self c.args.name.items _ _ refl c.in_ok-insert.ensures.updates
