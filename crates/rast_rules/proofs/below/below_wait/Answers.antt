use Rattle.std.proofs.Common.{◌∷◌, [], ◌∙◌, ap}
use Rattle.rast_rules.specs.Draft.{drafted}
use Rattle.rast_rules.specs.Rules.{without}
use Rattle.rast_rules.proofs.Sound.{kept_without}
use Rattle.rast_rules.proofs.Turned.{changed_without}
use Rattle.rast_rules.proofs.below.below_wait.Goals as goal

pub returns : goal.returns
returns c =
    let j = c.args.at.now in
    let gone = c.args.x ∷ [] in
    let kept = kept_without j gone in
    c.single_child.ensures (without j gone) (c.in_ok-draft.ensures ∙ ap drafted (changed_without j gone)) kept.decl kept.premises
