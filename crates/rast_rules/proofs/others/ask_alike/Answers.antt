use Rattle.std.proofs.Common.{◌∷◌, [], ◌∙◌, ap, refl}
use Rattle.rast_rules.specs.declared.premise.Premise.{Premise}
use Rattle.rast_rules.specs.Rules.{used_type, or_one}
use Rattle.rast_rules.specs.Trail.{and_then}
use Rattle.rast_rules.proofs.Trails.{on_ok}
use Rattle.rast_rules.proofs.Touched.{or_one_of}
use Rattle.rast_rules.proofs.others.ask_alike.Goals as goal

pub returns : goal.returns
returns c =
    let j = c.args.at.now in
    on_ok c.ask.result (λ e. e ∙ ap (λ (q : Premise). and_then c.args.trail.now ((4, q) ∷ [])) (c.in_ok-same.ensures (or_one (used_type j c.args.y)) j.gives.1 (or_one_of _ _ c.used_type.ensures) refl)) c.ask.ensures
