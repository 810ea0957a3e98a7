use Rattle.std.proofs.Common.{◌≡◌, ◌∷◌, [], ◌∙◌, ap, ap₂, sym, ℕ, drop, take, length, min, List, if◌then◌else◌}
use Rattle.rast_types.specs.Symbolic.{made_type, is_deep, is_small_type}
use Rattle.rast_types.specs.declared.equation.Ref.{Ref}
use Rattle.rast_types.proofs.Heads.{within_ok}
use Rattle.rast_types.specs.declared.ty.Ty.{Ty}
use Rattle.rast_equal.specs.Walk.{meets, count, top}
use Rattle.rast_rules.specs.declared.premise.Premise.TheVariants.{Same}
use Rattle.rast_rules.specs.Rules.{used_type, or_one, deal}
use Rattle.rast_rules.specs.Trail.{and_then}
use Rattle.rast_rules.proofs.Called.{arg_ok, drop_more, length_left, given_is}
use Rattle.rast_rules.proofs.Touched.{or_one_of}
use Rattle.rast_rules.proofs.calls.ask_wanted.Goals as goal

pub returns-in_ok-ask_same-in-Ok-clause-asks : goal.returns-in_ok-ask_same-in-Ok-clause-asks
returns-in_ok-ask_same-in-Ok-clause-asks c = λ more b is lasts.
    let j = c.args.at.now in
    let n = j.ctx.vars in
    let k = c.args.number in
    let old = c.args.trail.now in
    let a = or_one (used_type j c.args.y) in
    let refs = c.args.refs.now in
    let served = c.args.served in
    let taken = c.share-share.result in
    let rs : List Ref = drop served refs in
    let w = c.args.wanted in
    let same : b ≡ w = (within_ok (is_deep n b) (is_small_type b) b w is).is in
    let given_a : c.in-Ok.a ≡ a = c.in-Ok.ensures a (or_one_of _ _ c.used_type.ensures) in
    let e : taken ≡ (if c.args.last then length rs else min (length rs) (count (meets a w (top n [])))) =
    c.share-share.ensures ∙ ap₂ (λ (m : ℕ) (t : Ty). if c.args.last then m else min m (count (meets t w (top n [])))) (sym (length_left refs served c.requires)) given_a in
    let step : c.ask_same.new.trail ≡ and_then old ((k, Same a w (take taken rs)) ∷ []) =
    c.in_ok-ask_same-in-Ok.ensures ∙ ap₂ (λ (t : Ty) (xs : List Ref). and_then old ((k, Same t w xs) ∷ [])) given_a (given_is refs served taken) in
    ap (λ (xs : List Ref). and_then c.ask_same.new.trail (deal n xs more)) (sym (drop_more refs served taken))
    ∙ arg_ok n k a b rs (made_type n b) more old c.ask_same.new.trail w taken c.args.last is same lasts e step
