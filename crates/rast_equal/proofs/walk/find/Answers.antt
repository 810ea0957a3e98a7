use Rattle.std.proofs.Common.{ℕ, sym, ◌∙◌, ap, Some}
use Rattle.rast_types.specs.declared.ty.Ty.{Ty}
use Rattle.rast_equal.proofs.Labels.{find_here, find_on}
use Rattle.rast_equal.proofs.walk.find.Goals as goal

pub returns-then-other-label : goal.returns-then-other-label
returns-then-other-label c =
    ap (λ (e : ℕ × Ty). Some e.1) c.loop-other-item.is
    ∙ sym (find_here c.args.label c.args.ts.now c.loop-other.other-index c.loop-other-item.result c.loop-other-test.true (ap (λ (e : ℕ × Ty). e.0) (sym c.loop-other-item.is) ∙ c.if-other-label.true))
    ∙ c.loop-other.invariant

pub loop-other-preserved : goal.loop-other-preserved
loop-other-preserved c =
    sym (find_on c.args.label c.args.ts.now c.loop-other.other-index c.loop-other-item.result c.loop-other-test.true (λ e. c.if-other-label.false (ap (λ (t : ℕ × Ty). t.0) c.loop-other-item.is ∙ e)))
    ∙ c.loop-other.invariant
