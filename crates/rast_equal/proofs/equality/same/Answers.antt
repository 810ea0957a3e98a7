use Rattle.std.proofs.Common.{◌∙◌, ◌++◌, ◌∷◌, [], ap, refl}
use Rattle.rast_equal.specs.Walk.{top}
use Rattle.rast_equal.proofs.Serving.{one_fits}
use Rattle.rast_equal.proofs.Sound.{walk_means}
use Rattle.rast_equal.proofs.equality.same.Goals as goal

pub serve-requires-clause-fit : goal.serve-requires-clause-fit
serve-requires-clause-fit c =
    one_fits (top c.args.ctx.now.vars c.args.ctx.now.premises) c.in_ok-place.place c.args.a.now c.args.b.now c.args.a.now c.args.b.now c.push.new.self c.new-pairs.result
    (c.in_ok-push.ensures.ok ∙ ap (λ x. c.new-pairs.result ++ x ∷ []) c.in_ok-both.ensures) c.new-pairs.ensures
    (c.in_ok-place.ensures ∙ ap (top c.args.ctx.now.vars) c.as_slice.ensures) refl refl c.requires.fit

pub returns-clause-equal : goal.returns-clause-equal
returns-clause-equal c =
    walk_means c.args.equations.now c.args.ctx.now.vars c.args.ctx.now.premises c.in_ok-place.place c.args.a.now c.args.b.now c.args.a.now c.args.b.now c.args.refs.now c.push.new.self c.new-pairs.result c.serve.result
    (c.in_ok-push.ensures.ok ∙ ap (λ x. c.new-pairs.result ++ x ∷ []) c.in_ok-both.ensures) c.new-pairs.ensures
    (c.in_ok-place.ensures ∙ ap (top c.args.ctx.now.vars) c.as_slice.ensures) refl refl c.requires.fit c.serve.ensures
