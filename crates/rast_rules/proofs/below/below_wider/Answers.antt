use Rattle.rast_rules.specs.Rules.{with_type, with_variable}
use Rattle.rast_rules.proofs.Stays.{widens_at, wider}
use Rattle.rast_rules.proofs.below.below_wider.Goals as goal

pub returns : goal.returns
returns c = λ a same m.
    let j = c.args.at.now in
    let x = c.args.x in
    let kept = wider j x a in
    c.single_child.ensures (with_type (with_variable j) x a) (widens_at j c.args.terms x a c.in_ok-draft.draft same (c.in_ok-draft.ensures a (c.in_ok-part.ensures a m))) kept.decl kept.premises
