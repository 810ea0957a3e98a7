use Rattle.std.proofs.Common.{◌∷◌, [], ◌∙◌, ap}
use Rattle.rast_index.specs.declared.formula.Formula.{Formula}
use Rattle.rast_rules.specs.declared.premise.Premise.TheVariants.{Truth}
use Rattle.rast_rules.specs.Trail.{and_then}
use Rattle.rast_rules.proofs.Trails.{on_ok}
use Rattle.rast_rules.proofs.others.ask_empty.Goals as goal

pub returns : goal.returns
returns c = on_ok c.ask.result (λ e. e ∙ ap (λ (f : Formula). and_then c.args.trail.now ((3, Truth f) ∷ [])) c.empty.ensures) c.ask.ensures
