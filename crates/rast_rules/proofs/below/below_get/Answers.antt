use Rattle.std.proofs.Common.{◌∙◌, ap}
use Rattle.rast_index.specs.Linear.{plus}
use Rattle.rast_rules.specs.Making.{made_term}
use Rattle.rast_rules.specs.Rules.{inner_of, amount_of, with_type, with_potential}
use Rattle.rast_rules.proofs.Sound.{kept_type, kept_same}
use Rattle.rast_rules.proofs.Stays.{with_part_all}
use Rattle.rast_rules.proofs.below.below_get.Goals as goal

pub returns : goal.returns
returns c =
    let j = c.args.at.now in
    let x = c.args.x in
    let a = inner_of c.args.head.now in
    let k = with_type j x a in
    let q = plus j.potential (amount_of c.args.head.now) in
    let kept = kept_type j j x a (kept_same j) in
    let draft = with_part_all j x a c.in_ok-draft.draft (c.in_ok-draft.ensures a c.inner_of.ensures) in
    c.single_child.ensures (with_potential k q) (c.with_potential-draft.ensures k q draft (c.gained.ensures ∙ ap (λ l. made_term (plus j.potential l)) c.amount_of.ensures)) kept.decl kept.premises
