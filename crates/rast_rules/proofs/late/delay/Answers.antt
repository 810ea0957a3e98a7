use Rattle.std.proofs.Common.{true, [], ◌∙◌, ap, min, length}
use Rattle.rast_rules.specs.Draft.{made_uses}
use Rattle.rast_rules.specs.Rules.{defs, delayed}
use Rattle.rast_rules.specs.Trail.{left}
use Rattle.rast_rules.proofs.Sound.{kept_same}
use Rattle.rast_rules.proofs.Lates.{later, delay_is}
use Rattle.rast_rules.proofs.late.delay.Goals as goal

pub returns : goal.returns
returns c =
    let g = c.args.program.now in
    let j = c.args.at.now in
    let by = c.args.by.now in
    let same = c.as_slice-uses.ensures in
    let kept = kept_same j in
    let uses = c.in_ok-made.ensures ∙ ap (λ us. made_uses j.ctx.vars (later (defs g) j.ctx.vars by us)) same in
    c.single_child.ensures (delayed g j by) (delay_is g j by c.draft-draft.result c.in_ok-made.made c.in_ok-gives.gives c.count_left.result uses (c.in_ok-gives.ensures true) (c.count_left.ensures ∙ ap (λ us. min 16 (length (left [] us))) same) c.draft-draft.ensures) kept.decl kept.premises
