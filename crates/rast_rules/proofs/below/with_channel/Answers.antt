use Rattle.std.proofs.Common.{◌+◌, ◌∙◌, ap, sym, refl}
use Rattle.rast_rules.specs.declared.draft.Draft.{Draft}
use Rattle.rast_rules.proofs.Turned.{channel_is}
use Rattle.rast_rules.proofs.below.with_channel.Goals as goal

pub returns-in-Ok : goal.returns-in-Ok
returns-in-Ok c = λ j a e g.
    channel_is j a c.args.draft c.in-Ok.uses c.args.made c.one_more.result c.args.at.now.fresh (c.args.at.now.fresh + 1) e g (sym c.requires ∙ ap (λ (b : Draft). b.fresh) e) c.in-Ok.ensures c.one_more.ensures refl
