use Rattle.std.proofs.Common.{◌∙◌}
use Rattle.rast_rules.proofs.Noted.{head_named}
use Rattle.rast_rules.proofs.planned.head_kind.Goals as goal

pub returns-in-Some : goal.returns-in-Some
returns-in-Some c = λ n. c.kind_below.ensures n ∙ head_named c.args.table.now.defs n c.args.ty.now c.in-Some.body.now _ c.in-Some.ensures
