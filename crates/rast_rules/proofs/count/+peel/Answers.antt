use Rattle.std.proofs.Common.{sym}
use Rattle.rast_rules.proofs.Counts.{peel_none, not_next}
use Rattle.rast_rules.proofs.count.+peel.Goals as goal

pub returns-in_default : goal.returns-in_default
returns-in_default t c = sym (peel_none c.args.a.now (not_next c.args.a.now c.in_default.not-Next))
