use Rattle.std.proofs.Common.{◌∷◌, [], ◌∙◌, ap}
use Rattle.rast_index.specs.Linear.{replaced}
use Rattle.rast_rules.specs.declared.premise.Premise.{Premise}
use Rattle.rast_rules.specs.Trail.{and_then}
use Rattle.rast_rules.proofs.Trails.{on_ok}
use Rattle.rast_rules.proofs.calls.ask_equal.Goals as goal

pub returns : goal.returns
returns c =
    let j = c.args.at.now in
    let l = replaced c.args.args.now c.args.callee.now.potential in
    on_ok c.ask.result (λ e. e ∙ ap (λ (q : Premise). and_then c.args.trail.now ((4, q) ∷ [])) (c.compared-potential.ensures j.potential l c.same_term.ensures c.put_term.ensures)) c.ask.ensures
