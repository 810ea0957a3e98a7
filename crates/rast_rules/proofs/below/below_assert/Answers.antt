use Rattle.rast_rules.specs.Rules.{inner_of, with_type}
use Rattle.rast_rules.proofs.Sound.{kept_type, kept_same}
use Rattle.rast_rules.proofs.Stays.{with_part_all}
use Rattle.rast_rules.proofs.below.below_assert.Goals as goal

pub returns : goal.returns
returns c =
    let j = c.args.at.now in
    let x = c.args.x in
    let a = inner_of c.args.head.now in
    let kept = kept_type j j x a (kept_same j) in
    c.single_child.ensures (with_type j x a) (with_part_all j x a c.in_ok-draft.draft (c.in_ok-draft.ensures a c.inner_of.ensures)) kept.decl kept.premises
