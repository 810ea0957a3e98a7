use Rattle.rast_forms.proofs.Turns.{at_end, at_last, at_turn}
use Rattle.rast_parse.proofs.Faults.{at_fault}
use Rattle.rast_parse.proofs.cursor.Cursor.further_references.Goals as goal

pub returns-then-not-at : goal.returns-then-not-at
returns-then-not-at c = at_end c.loop-turn.invariant c.at.ensures c.if-not-at.true

pub returns-in-Err : goal.returns-in-Err
returns-in-Err c = at_fault _ c.loop-turn.invariant c.loop-turn-test.true c.left-turn-end.ensures c.at.ensures c.if-not-at.false c.in-Err.ensures

pub loop-turn-preserved : goal.loop-turn-preserved
loop-turn-preserved c = at_turn c.loop-turn.invariant c.loop-turn-test.true c.left-turn-end.ensures c.at.ensures c.if-not-at.false c.in-Ok.ensures c.in-Ok-push.ensures.ok

pub returns : goal.returns
returns c = at_last c.loop-turn.invariant c.loop-turn-test.false c.left-turn-end.ensures
