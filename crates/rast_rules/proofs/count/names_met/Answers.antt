use Rattle.std.proofs.Common.{[], refl}
use Rattle.rast_equal.specs.Walk.{meets, top}
use Rattle.rast_rules.proofs.Counts.{count_by_rest}
use Rattle.rast_rules.proofs.count.names_met.Goals as goal

pub returns : goal.returns
returns c = count_by_rest c.args.room c.saturating_sub.result c.walk-left.result (meets c.args.a.now c.args.b.now (top c.args.vars [])) (c.walk-left.ensures (top c.args.vars []) refl) c.saturating_sub.ensures
