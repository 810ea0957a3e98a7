use Rattle.std.proofs.Common.{◌∙◌, ◌++◌, ◌∷◌, [], ap, refl}
use Rattle.rast_equal.specs.Walk.{top}
use Rattle.rast_equal.proofs.Serving.{one_fits}
use Rattle.rast_eqfind.proofs.seek.meet_types.Goals as goal

pub meet_pairs-requires-clause-fit : goal.meet_pairs-requires-clause-fit
meet_pairs-requires-clause-fit c =
    one_fits (top c.args.ctx.now.vars c.args.ctx.now.premises) c.in_ok-place.place c.args.a.now c.args.b.now c.args.a.now c.args.b.now c.push.new.self c.new-pairs.result
    (c.in_ok-push.ensures.ok ∙ ap (λ x. c.new-pairs.result ++ x ∷ []) c.in_ok-both.ensures) c.new-pairs.ensures
    (c.in_ok-place.ensures ∙ ap (top c.args.ctx.now.vars) c.as_slice.ensures) refl refl c.requires.fit
