use Rattle.std.proofs.Common.{◌∷◌, [], ◌∙◌, ap}
use Rattle.rast_rules.specs.Rules.{inner_of, with_type, with_variable}
use Rattle.rast_rules.proofs.Stays.{wider, too_many_wider}
use Rattle.rast_rules.proofs.Turned.{ok_trans}
use Rattle.rast_rules.proofs.below.below_bind.Goals as goal

pub returns-then-at-ge16 : goal.returns-then-at-ge16
returns-then-at-ge16 c =
    let j = c.args.at.now in
    let a = inner_of c.args.head.now in
    ok_trans c.too_many.result _ _ (ap (λ r. r ∷ []) (too_many_wider j (with_type (with_variable j) c.args.x a) (wider j c.args.x a) c.if-at-ge16.true)) c.too_many.ensures

pub returns : goal.returns
returns c = c.below_wider-children.ensures (inner_of c.args.head.now) (c.as_slice.ensures ∙ c.in_ok-terms.ensures) c.inner_of.ensures
