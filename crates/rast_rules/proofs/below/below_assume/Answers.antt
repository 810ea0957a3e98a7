use Rattle.std.proofs.Common.{◌∷◌, [], ◌++◌, ap₂, sym}
use Rattle.rast_rules.specs.Rules.{inner_of, formula_of, with_type, with_premise}
use Rattle.rast_rules.proofs.Sound.{kept_type, kept_same}
use Rattle.rast_rules.proofs.Stays.{with_part_all, premises_kept}
use Rattle.rast_rules.proofs.below.below_assume.Goals as goal

pub returns-in-Ok : goal.returns-in-Ok
returns-in-Ok c =
    let j = c.args.at.now in
    let x = c.args.x in
    let a = inner_of c.args.head.now in
    let k = with_type j x a in
    let kept = kept_type j j x a (kept_same j) in
    c.single_child-children.ensures (with_premise k (formula_of c.args.head.now)) (with_part_all j x a c.in_ok-draft.draft (c.in_ok-draft.ensures a c.inner_of.ensures)) kept.decl
    (ap₂ (λ ps f. ps ++ f ∷ []) (premises_kept j k kept) (sym c.in-Ok.ensures))
