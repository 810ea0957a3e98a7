use Rattle.std.proofs.Common.{◌∷◌, []}
use Rattle.rast_rules.specs.Rules.{second_of_pair, with_type, without}
use Rattle.rast_rules.proofs.Sound.{kept_type, kept_without}
use Rattle.rast_rules.proofs.below.below_send.Goals as goal

pub returns : goal.returns
returns c =
    let j = c.args.at.now in
    let x = c.args.x in
    let k = without j (c.args.w ∷ []) in
    let a = second_of_pair c.args.head.now in
    let kept = kept_type j k x a (kept_without j (c.args.w ∷ [])) in
    c.single_child.ensures (with_type k x a) (c.in_ok-draft.ensures a c.second_of_pair.ensures) kept.decl kept.premises
