use Rattle.std.proofs.Common.{Err, sym, subst}
use Rattle.rast_index.specs.declared.refusal.IndexErr.{IndexErr}
use Rattle.rast_types.specs.Made.{AnswersExposed}
use Rattle.rast_types.specs.Symbolic.{exposed_type, made_exposed}
use Rattle.rast_equal.specs.declared.answer.SameErr.{SameErr}
use Rattle.rast_equal.specs.Equated.{ExposesBoth}
use Rattle.rast_equal.proofs.Premises.{exposes, left_great, right_stops}
use Rattle.rast_equal.proofs.equations.expose_both.Goals as goal

pub returns-in-Ok-expose : goal.returns-in-Ok-expose
returns-in-Ok-expose c =
    exposes c.args.table.now.defs c.args.equation.now.vars c.args.equation.now.left c.args.equation.now.right c.in-Ok.left c.in-Ok-expose.right c.in-Ok.ensures c.in-Ok-expose.ensures

pub returns-in-Err : goal.returns-in-Err
returns-in-Err c =
    let t = c.args.table.now.defs in
    let e = c.args.equation.now in
    subst (λ (x : SameErr). ExposesBoth e.vars (exposed_type t e.vars e.left) (exposed_type t e.vars e.right) (Err x)) (sym c.stopped.ensures)
    (right_stops t e.vars e.left e.right c.in-Ok.left c.in-Err.e c.in-Ok.ensures c.in-Err.ensures)

pub returns-in-Err-Coefficient : goal.returns-in-Err-Coefficient
returns-in-Err-Coefficient c =
    let t = c.args.table.now.defs in
    let e = c.args.equation.now in
    left_great t e.vars e.left e.right c.second_stop.result
    (subst (λ (x : IndexErr). AnswersExposed (made_exposed t e.vars e.left) (Err x)) c.in-Err-Coefficient.field-0-is c.in-Err-Coefficient.ensures) c.second_stop.ensures
