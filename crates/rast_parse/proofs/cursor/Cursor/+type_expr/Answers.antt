use Rattle.std.proofs.Common.{subst}
use Rattle.rast_forms.specs.Reading.{Reader}
use Rattle.rast_ast.specs.declared.type_expr.TypeExpr.{TypeExpr}
use Rattle.rast_parse.specs.Cursors.{seen}
use Rattle.rast_parse.specs.Answer.{Gives}
use Rattle.rast_parse.proofs.Depths.{type_deeper}
use Rattle.rast_forms.proofs.Turns.{at_end, at_last, at_turn}
use Rattle.rast_parse.proofs.Faults.{at_fault}
use Rattle.rast_parse.proofs.cursor.Cursor.+type_expr.Goals as goal

pub further_labelled-returns-then-not-at : goal.further_labelled-returns-then-not-at
further_labelled-returns-then-not-at t c = at_end c.loop-turn.invariant c.at.ensures c.if-not-at.true

pub further_labelled-returns-in-Err : goal.further_labelled-returns-in-Err
further_labelled-returns-in-Err t c = at_fault _ c.loop-turn.invariant c.loop-turn-test.true c.left-turn-end.ensures c.at.ensures c.if-not-at.false c.in-Err.ensures

pub further_labelled-loop-turn-preserved : goal.further_labelled-loop-turn-preserved
further_labelled-loop-turn-preserved t c = at_turn c.loop-turn.invariant c.loop-turn-test.true c.left-turn-end.ensures c.at.ensures c.if-not-at.false c.in-Ok.ensures c.in-Ok-push.ensures.ok

pub further_labelled-returns : goal.further_labelled-returns
further_labelled-returns t c = at_last c.loop-turn.invariant c.loop-turn-test.false c.left-turn-end.ensures

pub type_expr-returns : goal.type_expr-returns
type_expr-returns t c = subst (λ (m : Reader TypeExpr). Gives c.type_below.result (m (seen c.args.self))) (type_deeper c.args.depth c.if-depth-eq0.false) c.type_below.ensures
