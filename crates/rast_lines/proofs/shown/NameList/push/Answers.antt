use Rattle.std.proofs.Common.{sym, ◌∙◌}
use Rattle.rast_lines.proofs.Counting.{known_answer}
use Rattle.rast_lines.proofs.shown.NameList.push.Goals as goal

pub invariant_of-self : goal.invariant_of-self
invariant_of-self c = known_answer c.self.inside.next c.self.inside.names c.self.invariant c.push.result c.as_bytes.result.now c.args.name c.push.new.self (sym c.contains_key.ensures ∙ c.if-contains_key.true) c.as_bytes.ensures c.push.ensures.ok c.push.ensures.err
