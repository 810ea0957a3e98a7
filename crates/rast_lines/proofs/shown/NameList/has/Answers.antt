use Rattle.std.proofs.Common.{rules}
use Rattle.rast_lines.proofs.Counting.{has_numbered}
use Rattle.rast_lines.proofs.shown.NameList.has.Goals as goal

pub returns : goal.returns
returns c = has_numbered c.self.inside.next c.self.inside.names c.self.invariant _ _ _ c.args.self.now c.contains_key.ensures c.as_bytes.ensures (search rules)
