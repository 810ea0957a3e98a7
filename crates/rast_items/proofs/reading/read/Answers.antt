use Rattle.std.proofs.Common.{rules, ◌≡◌, ◌-◌, ℤ, ◌∙◌, ap, subst}
use Rattle.std.proofs.lemmas.Int.{to_z-of_z}
use mir.Val.{SFits}
use mir.Syntax.{w128}
use Rattle.rast_items.specs.Process.{Process}
use Rattle.rast_items.specs.Deeds.{at_values}
use Rattle.rast_items.specs.Actions.{IsReading}
use Rattle.rast_items.proofs.Readings.{value_within}
use Rattle.rast_items.proofs.reading.read.Goals as goal

pub returns : goal.returns
returns c =
    let i = c.proc.invariant in
    let v : c.eval.result ≡ at_values c.args.proc.now c.args.term.now = c.eval.ensures ∙ (value_within c.args.term.now c.proc.inside.vars (16 - c.proc.inside.vars) c.proc.inside.values i.2 ∙ ap (λ (q : Process). at_values q c.args.term.now) c.proc.view_is) in
    let f : SFits w128 c.eval.result = search rules in
    subst (λ (z : ℤ). IsReading z c.reading_of.result) v (simp to_z-of_z at c.reading_of.ensures)
