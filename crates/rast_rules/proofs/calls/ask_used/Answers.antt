use Rattle.std.proofs.Common.{◌∷◌, [], ◌∙◌, ap, refl, get_or}
use Rattle.rast_rules.specs.declared.premise.Premise.{Premise}
use Rattle.rast_rules.specs.declared.premise.Premise.TheVariants.{Shape}
use Rattle.rast_rules.specs.declared.premise.Evidence.TheVariants.{Linear}
use Rattle.rast_rules.specs.Trail.{and_then}
use Rattle.rast_rules.proofs.Called.{used_turn}
use Rattle.rast_rules.proofs.calls.ask_used.Goals as goal

pub loop-i-preserved : goal.loop-i-preserved
loop-i-preserved c =
    let y = get_or c.args.ys.now c.loop-i.i 0 in
    used_turn c.args.at.now c.args.number _ c.loop-i.trail c.ask.new.self c.args.ys.now c.loop-i.i y c.loop-i.invariant c.loop-i-test.true refl
    (c.in_ok-ask.ensures ∙ ap (λ (q : Premise). and_then c.loop-i.trail ((c.args.number, q) ∷ [])) (c.linear.ensures ∙ ap (λ b. Shape b (Linear y)) c.is_free-ok.ensures))
