use Rattle.std.proofs.Common.{◌∙◌, sym}
use Rattle.rast_rules.proofs.Finished.{types_ok, types_great, potential_great, all_made}
use Rattle.rast_rules.proofs.draft.assembled.Goals as goal

pub returns-in-Ok-potential : goal.returns-in-Ok-potential
returns-in-Ok-potential c = λ j e d p.
    let types = types_ok c.args.draft.uses c.args.draft.gives c.in-Ok.uses c.in-Ok.ty (sym c.made_types.ensures ∙ c.in-Ok.is) in
    all_made j c.args.draft e c.requires.uses c.requires.gives c.requires.few c.args.decl c.args.premises c.in-Ok.uses c.in-Ok.ty c.in-Ok-potential.potential d p c.requires.small types.0 types.1 c.in-Ok-potential.is

pub returns-in-Err-potential : goal.returns-in-Err-potential
returns-in-Err-potential c = λ j e d p. potential_great j c.args.draft e c.requires.uses c.requires.gives c.requires.few c.in-Err-potential.field-0 c.in-Err-potential.is

pub returns-in-Err : goal.returns-in-Err
returns-in-Err c = λ j e d p. types_great j c.args.draft e c.requires.uses c.requires.gives c.requires.few c.in-Err.stop (sym c.made_types.ensures ∙ c.in-Err.is)
