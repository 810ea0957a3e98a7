use Rattle.std.proofs.Common.{◌≡◌, ◌∷◌, [], ◌∙◌, ap}
use Rattle.std.specs.Prelude.{is_some}
use Rattle.rast_rules.specs.declared.premise.Premise.{Premise}
use Rattle.rast_rules.specs.declared.premise.Premise.TheVariants.{Shape}
use Rattle.rast_rules.specs.declared.premise.Evidence.TheVariants.{Linear}
use Rattle.rast_rules.specs.Rules.{is_provided, used_type}
use Rattle.rast_rules.specs.Trail.{and_then}
use Rattle.rast_rules.proofs.Trails.{Found, two_then, on_ok}
use Rattle.rast_rules.proofs.Touched.{some_of}
use Rattle.rast_rules.proofs.others.ask_ends.Goals as goal

pub returns : goal.returns
returns c =
    let j = c.args.at.now in
    let old = c.args.trail.now in
    let x = c.args.x in
    let y = c.args.y in
    let A : Found = (1, Shape (is_provided j x) (Linear x)) ∷ [] in
    let B : Found = (1, Shape (is_some (used_type j y)) (Linear y)) ∷ [] in
    let first : c.ask.new.self ≡ and_then old A = c.in_ok-ask.ensures ∙ ap (λ (q : Premise). and_then old ((1, q) ∷ [])) (c.linear.ensures ∙ ap (λ b. Shape b (Linear x)) c.is_provided.ensures) in
    on_ok c.ask-2.result (λ e. two_then old c.ask.new.self c.ask-2.new.self A B first
    (e ∙ ap (λ (q : Premise). and_then c.ask.new.self ((1, q) ∷ [])) (c.linear-2.ensures ∙ ap (λ b. Shape b (Linear y)) (some_of _ _ c.is_some.result c.used_type.ensures c.is_some.ensures)))) c.ask-2.ensures
