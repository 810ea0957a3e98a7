use Rattle.rast_forms.proofs.Turns.{at_end, at_last, at_turn}
use Rattle.rast_parse.specs.Cursors.{seen}
use Rattle.rast_parse.proofs.Faults.{at_fault}
use Rattle.rast_parse.proofs.ProcTurns.{proc_end, proc_last, proc_fault, proc_step}
use Rattle.rast_parse.proofs.cursor.Cursor.+process.Goals as goal

pub further_branches-returns-then-not-at : goal.further_branches-returns-then-not-at
further_branches-returns-then-not-at t c = at_end c.loop-turn.invariant c.at.ensures c.if-not-at.true

pub further_branches-returns-in-Err : goal.further_branches-returns-in-Err
further_branches-returns-in-Err t c = at_fault _ c.loop-turn.invariant c.loop-turn-test.true c.left-turn-end.ensures c.at.ensures c.if-not-at.false c.in-Err.ensures

pub further_branches-loop-turn-preserved : goal.further_branches-loop-turn-preserved
further_branches-loop-turn-preserved t c = at_turn c.loop-turn.invariant c.loop-turn-test.true c.left-turn-end.ensures c.at.ensures c.if-not-at.false c.in-Ok.ensures c.in-Ok-push.ensures.ok

pub further_branches-returns : goal.further_branches-returns
further_branches-returns t c = at_last c.loop-turn.invariant c.loop-turn-test.false c.left-turn-end.ensures

pub proc_below-returns-in-End : goal.proc_below-returns-in-End
proc_below-returns-in-End t c = proc_end _ _ _ _ _ _ c.loop-turn.invariant _ c.in-Ok.statement c.in-End.end (seen c.in-Ok.after) c.ended.result c.loop-turn-test.true c.left-turn-end.ensures c.in-Ok.ensures c.in-End.is c.ended.ensures

pub proc_below-returns-then-not-at : goal.proc_below-returns-then-not-at
proc_below-returns-then-not-at t c = proc_last _ _ _ _ _ _ c.loop-turn.invariant _ c.in-Ok.statement c.in-Step.step (seen c.in-Ok.after) _ c.last.result c.loop-turn-test.true c.left-turn-end.ensures c.in-Ok.ensures c.in-Step.is c.at.ensures c.if-not-at.true c.last.ensures

pub proc_below-returns-in-Err : goal.proc_below-returns-in-Err
proc_below-returns-in-Err t c = proc_fault _ _ _ _ _ _ c.loop-turn.invariant _ c.in-Err.fault c.loop-turn-test.true c.left-turn-end.ensures c.in-Err.ensures

pub proc_below-loop-turn-preserved : goal.proc_below-loop-turn-preserved
proc_below-loop-turn-preserved t c = proc_step _ _ _ _ _ _ c.loop-turn.invariant _ c.in-Ok.statement c.in-Step.step (seen c.in-Ok.after) _ _ _ c.loop-turn-test.true c.left-turn-end.ensures c.in-Ok.ensures c.in-Step.is c.at.ensures c.if-not-at.false c.after-rest.ensures c.in-Ok-push.ensures.ok
