use Rattle.std.proofs.Common.{sym, ◌∙◌}
use Rattle.rast_index.proofs.Trees.{truth-And, truth-Or}
use Rattle.rast_index.proofs.Ends.{all_at_end, all_at_false, any_at_end, any_at_true}
use Rattle.rast_index.proofs.value.+holds.Goals as goal

pub returns-then-not-holds : goal.returns-then-not-holds
returns-then-not-holds t c = rw (c.in-And.is, truth-And, ← c.as_slice-f-items.ensures) (all_at_false _ _ _ _ c.loop-f.invariant c.loop-f-test.true c.f-item.is (sym c.holds-in-loop-f.ensures ∙ c.if-not-holds.true))

pub returns-then-holds : goal.returns-then-holds
returns-then-holds t c = rw (c.in-Or.is, truth-Or, ← c.as_slice-f-items-in-Or.ensures) (any_at_true _ _ _ _ c.loop-f-2.invariant c.loop-f-2-test.true c.f-item-in-loop-f-2.is (sym c.holds-in-loop-f-2.ensures ∙ c.if-holds.true))

pub returns-after-loop-f : goal.returns-after-loop-f
returns-after-loop-f t c = rw (c.in-And.is, truth-And, ← c.as_slice-f-items.ensures) (all_at_end _ _ _ c.loop-f.invariant c.loop-f-test.false)

pub returns-after-loop-f-2 : goal.returns-after-loop-f-2
returns-after-loop-f-2 t c = rw (c.in-Or.is, truth-Or, ← c.as_slice-f-items-in-Or.ensures) (any_at_end _ _ _ c.loop-f-2.invariant c.loop-f-2-test.false)
