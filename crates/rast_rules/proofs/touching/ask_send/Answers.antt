use Rattle.std.proofs.Common.{◌∷◌, [], ◌∙◌, ap, ap₂}
use Rattle.rast_rules.specs.declared.premise.Premise.{Premise}
use Rattle.rast_rules.specs.declared.premise.Premise.TheVariants.{Shape}
use Rattle.rast_rules.specs.declared.premise.Evidence.TheVariants.{Linear}
use Rattle.rast_rules.specs.Rules.{used_type, or_one, first_of_pair}
use Rattle.rast_rules.specs.Trail.{and_then}
use Rattle.rast_rules.proofs.Trails.{on_ok, two_then}
use Rattle.rast_rules.proofs.Touched.{or_one_of}
use Rattle.rast_rules.proofs.touching.ask_send.Goals as goal

pub returns : goal.returns
returns c =
    let first = c.linear.ensures ∙ ap (λ b. Shape b (Linear c.args.w)) c.may_send.ensures in
    let second = c.in_ok-same.ensures (or_one (used_type c.args.at.now c.args.w)) (first_of_pair c.args.head.now) (or_one_of _ _ c.used_type.ensures) c.first_of_pair.ensures in
    on_ok c.ask-2.result (λ e.
    two_then c.args.trail.now c.ask.new.self c.ask-2.new.self ((4, c.linear.result) ∷ []) ((5, c.in_ok-same.field-0) ∷ []) c.in_ok-ask.ensures e
    ∙ ap₂ (λ (p q : Premise). and_then c.args.trail.now ((4, p) ∷ (5, q) ∷ [])) first second) c.ask-2.ensures
