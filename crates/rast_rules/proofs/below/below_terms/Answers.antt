use Rattle.rast_types.specs.Symbolic.{put_type}
use Rattle.rast_rules.specs.Rules.{with_type}
use Rattle.rast_rules.proofs.Sound.{kept_type, kept_same}
use Rattle.rast_rules.proofs.Stays.{changes_at}
use Rattle.rast_rules.proofs.below.below_terms.Goals as goal

pub returns : goal.returns
returns c = λ b m.
    let j = c.args.at.now in
    let x = c.args.x in
    let a = put_type j.ctx.vars c.args.terms.now b in
    let kept = kept_type j j x a (kept_same j) in
    c.single_child.ensures (with_type j x a) (changes_at j x a c.in_ok-draft.draft (c.in_ok-draft.ensures a (c.in_ok-part.ensures b m))) kept.decl kept.premises
