use Rattle.std.proofs.Common.{◌∙◌, ◌++◌, [], ap, sym}
use Rattle.rast_index.specs.Keys.{find_key}
use Rattle.rast_rules.specs.Rules.{or_one, with_type}
use Rattle.rast_rules.proofs.Sound.{kept_type, kept_same}
use Rattle.rast_rules.proofs.Stays.{with_part_all}
use Rattle.rast_rules.proofs.Touched.{or_one_of}
use Rattle.rast_rules.proofs.below.branch.Goals as goal

pub returns : goal.returns
returns c =
    let j = c.args.at.now in
    let x = c.args.x in
    let a = or_one (find_key c.args.label c.args.choices.now) in
    let kept = kept_type j j x a (kept_same j) in
    c.finish.ensures (with_type j x a) (with_part_all j x a c.in_ok-draft.draft (c.in_ok-draft.ensures a (or_one_of _ _ c.at_label.ensures))) kept.decl (kept.premises ∙ ap (λ ps. ps ++ []) (sym c.as_slice.ensures))
