use Rattle.std.proofs.Common.{◌∙◌, ap}
use Rattle.rast_index.specs.Linear.{less}
use Rattle.rast_rules.specs.Draft.{drafted}
use Rattle.rast_rules.specs.Rules.{with_potential}
use Rattle.rast_rules.proofs.Sound.{kept_same}
use Rattle.rast_rules.proofs.Turned.{changed_none}
use Rattle.rast_rules.proofs.below.below_work.Goals as goal

pub returns : goal.returns
returns c =
    let j = c.args.at.now in
    let q = less j.potential c.args.amount.now in
    let kept = kept_same j in
    c.single_child.ensures (with_potential j q) (c.with_potential-draft.ensures j q (c.in_ok-draft.ensures ∙ ap drafted (changed_none j)) c.rest.ensures) kept.decl kept.premises
