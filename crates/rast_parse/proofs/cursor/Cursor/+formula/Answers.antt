use Rattle.std.proofs.Common.{subst}
use Rattle.rast_forms.specs.Reading.{Reader}
use Rattle.rast_ast.specs.declared.form.Literal.{Literal}
use Rattle.rast_parse.specs.Cursors.{seen}
use Rattle.rast_parse.specs.Answer.{Gives}
use Rattle.rast_parse.proofs.Depths.{literal_deeper}
use Rattle.rast_forms.proofs.Turns.{at_end, at_last, at_turn}
use Rattle.rast_parse.proofs.Faults.{at_fault}
use Rattle.rast_parse.proofs.cursor.Cursor.+formula.Goals as goal

pub further_literals-returns-then-not-at : goal.further_literals-returns-then-not-at
further_literals-returns-then-not-at t c = at_end c.loop-turn.invariant c.at.ensures c.if-not-at.true

pub further_literals-returns-in-Err : goal.further_literals-returns-in-Err
further_literals-returns-in-Err t c = at_fault _ c.loop-turn.invariant c.loop-turn-test.true c.left-turn-end.ensures c.at.ensures c.if-not-at.false c.in-Err.ensures

pub further_literals-loop-turn-preserved : goal.further_literals-loop-turn-preserved
further_literals-loop-turn-preserved t c = at_turn c.loop-turn.invariant c.loop-turn-test.true c.left-turn-end.ensures c.at.ensures c.if-not-at.false c.in-Ok.ensures c.in-Ok-push.ensures.ok

pub further_literals-returns : goal.further_literals-returns
further_literals-returns t c = at_last c.loop-turn.invariant c.loop-turn-test.false c.left-turn-end.ensures

pub further_conjunctions-returns-then-not-at : goal.further_conjunctions-returns-then-not-at
further_conjunctions-returns-then-not-at t c = at_end c.loop-turn.invariant c.at.ensures c.if-not-at.true

pub further_conjunctions-returns-in-Err : goal.further_conjunctions-returns-in-Err
further_conjunctions-returns-in-Err t c = at_fault _ c.loop-turn.invariant c.loop-turn-test.true c.left-turn-end.ensures c.at.ensures c.if-not-at.false c.in-Err.ensures

pub further_conjunctions-loop-turn-preserved : goal.further_conjunctions-loop-turn-preserved
further_conjunctions-loop-turn-preserved t c = at_turn c.loop-turn.invariant c.loop-turn-test.true c.left-turn-end.ensures c.at.ensures c.if-not-at.false c.in-Ok.ensures c.in-Ok-push.ensures.ok

pub further_conjunctions-returns : goal.further_conjunctions-returns
further_conjunctions-returns t c = at_last c.loop-turn.invariant c.loop-turn-test.false c.left-turn-end.ensures

pub literal-returns : goal.literal-returns
literal-returns t c = subst (λ (m : Reader Literal). Gives c.literal_below.result (m (seen c.args.self))) (literal_deeper c.args.depth c.if-depth-eq0.false) c.literal_below.ensures
