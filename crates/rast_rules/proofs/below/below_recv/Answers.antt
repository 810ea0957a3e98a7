use Rattle.std.proofs.Common.{◌∙◌, ap, sym}
use Rattle.rast_types.specs.Symbolic.{made_type}
use Rattle.rast_rules.specs.declared.draft.Draft.{Draft}
use Rattle.rast_rules.specs.Rules.{first_of_pair, second_of_pair, with_type, with_channel}
use Rattle.rast_rules.proofs.Sound.{kept_type, kept_same}
use Rattle.rast_rules.proofs.Stays.{with_part_all}
use Rattle.rast_rules.proofs.below.below_recv.Goals as goal

pub with_channel-requires : goal.with_channel-requires
with_channel-requires c =
    let j = c.args.at.now in
    let a = second_of_pair c.args.head.now in
    ap (λ (d : Draft). d.fresh) (with_part_all j c.args.x a c.in_ok-draft.draft (c.in_ok-draft.ensures a c.second_of_pair.ensures)) ∙ (kept_type j j c.args.x a (kept_same j)).fresh

pub returns-in_ok-wider-in-Ok : goal.returns-in_ok-wider-in-Ok
returns-in_ok-wider-in-Ok c =
    let j = c.args.at.now in
    let x = c.args.x in
    let a = second_of_pair c.args.head.now in
    let b = first_of_pair c.args.head.now in
    let k = with_type j x a in
    let kept = kept_type j j x a (kept_same j) in
    let draft = with_part_all j x a c.in_ok-draft.draft (c.in_ok-draft.ensures a c.second_of_pair.ensures) in
    let first = c.in-Ok.ensures b c.first_of_pair.ensures ∙ ap (λ n. made_type n b) (sym kept.vars) in
    c.single_child.ensures (with_channel k b) (c.in_ok-wider-in-Ok.ensures k b draft first) kept.decl kept.premises
