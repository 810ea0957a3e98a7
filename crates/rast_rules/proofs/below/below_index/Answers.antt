use Rattle.std.proofs.Common.{◌∷◌, [], ◌++◌, ◌∙◌, ap, ap₂, List}
use Rattle.rast_index.specs.Linear.{Linear, variables}
use Rattle.rast_types.specs.Symbolic.{put_type}
use Rattle.rast_rules.specs.Rules.{inner_of, with_type, limited}
use Rattle.rast_rules.proofs.Sound.{kept_type, kept_same}
use Rattle.rast_rules.proofs.Stays.{too_many_kept}
use Rattle.rast_rules.proofs.Turned.{ok_trans}
use Rattle.rast_rules.proofs.below.below_index.Goals as goal

pub returns-then-at-gt16 : goal.returns-then-at-gt16
returns-then-at-gt16 c =
    let j = c.args.at.now in
    let n = j.ctx.vars in
    let a = put_type n (variables n ++ c.args.value.now ∷ []) (inner_of c.args.head.now) in
    ok_trans c.too_many.result _ _ (ap (λ r. r ∷ []) (too_many_kept j (with_type j c.args.x a) (kept_type j j c.args.x a (kept_same j)) c.if-at-gt16.true)) c.too_many.ensures

pub returns : goal.returns
returns c =
    let j = c.args.at.now in
    let n = j.ctx.vars in
    let x = c.args.x in
    let b = inner_of c.args.head.now in
    let a = put_type n (variables n ++ c.args.value.now ∷ []) b in
    let terms = c.as_slice.ensures ∙ c.in_ok-push.ensures.ok ∙ ap₂ (λ (ls : List Linear) (l : Linear). ls ++ l ∷ []) c.in_ok-terms.ensures c.again.ensures.same in
    ok_trans c.below_terms-children.result (limited (with_type j x (put_type n c.as_slice.result.now b)) ∷ []) (limited (with_type j x a) ∷ [])
    (ap (λ (ls : List Linear). limited (with_type j x (put_type n ls b)) ∷ []) terms) (c.below_terms-children.ensures b c.inner_of.ensures)
