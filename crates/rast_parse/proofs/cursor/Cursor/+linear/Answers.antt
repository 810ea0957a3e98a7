use Rattle.rast_forms.proofs.Turns.{at_end, at_last, at_turn}
use Rattle.rast_parse.proofs.Faults.{at_fault}
use Rattle.rast_parse.proofs.cursor.Cursor.+linear.Goals as goal

pub further_terms-returns-then-not-at_any : goal.further_terms-returns-then-not-at_any
further_terms-returns-then-not-at_any t c = at_end c.loop-turn.invariant c.at_any.ensures c.if-not-at_any.true

pub further_terms-returns-in-Err : goal.further_terms-returns-in-Err
further_terms-returns-in-Err t c = at_fault _ c.loop-turn.invariant c.loop-turn-test.true c.left-turn-end.ensures c.at_any.ensures c.if-not-at_any.false c.in-Err.ensures

pub further_terms-loop-turn-preserved : goal.further_terms-loop-turn-preserved
further_terms-loop-turn-preserved t c = at_turn c.loop-turn.invariant c.loop-turn-test.true c.left-turn-end.ensures c.at_any.ensures c.if-not-at_any.false c.in-Ok.ensures c.in-Ok-push.ensures.ok

pub further_terms-returns : goal.further_terms-returns
further_terms-returns t c = at_last c.loop-turn.invariant c.loop-turn-test.false c.left-turn-end.ensures
