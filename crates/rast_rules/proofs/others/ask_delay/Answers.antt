use Rattle.std.proofs.Common.{◌∷◌, [], ◌++◌, map, ◌∙◌, ap₂, ℕ}
use Rattle.rast_index.specs.declared.formula.Formula.{Formula}
use Rattle.rast_types.specs.declared.ty.Ty.{Ty}
use Rattle.rast_rules.specs.declared.premise.Premise.{Premise}
use Rattle.rast_rules.specs.declared.premise.Premise.TheVariants.{Truth}
use Rattle.rast_rules.specs.Trail.{and_then, delay_premise}
use Rattle.rast_rules.proofs.Trails.{Found, two_then, on_ok}
use Rattle.rast_rules.proofs.others.ask_delay.Goals as goal

pub returns : goal.returns
returns c =
    let j = c.args.at.now in
    let old = c.args.trail.now in
    let f : (ℕ × Ty) → ℕ × Premise = delay_premise c.args.table.now.defs j.ctx.vars c.args.ticks.now in
    let A : Found = (1, Truth c.nonneg.result) ∷ [] in
    let B : Found = map f j.uses in
    let C : Found = (2, c.enough.result) ∷ [] in
    on_ok c.ask-2.result (λ e.
    two_then old c.ask.new.self c.ask-2.new.self A (B ++ C) c.in_ok-ask.ensures (two_then c.ask.new.self c.ask_ticks.new.trail c.ask-2.new.self B C c.in_ok-ask_ticks.ensures e)
    ∙ ap₂ (λ (g : Formula) (q : Premise). and_then old ((1, Truth g) ∷ (B ++ (2, q) ∷ []))) c.nonneg.ensures (c.enough.ensures j.ctx.vars)) c.ask-2.ensures
