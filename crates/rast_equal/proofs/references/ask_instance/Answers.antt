use Rattle.std.proofs.Common.{◌≡◌, ◌∙◌, Some, sym, length, arith}
use Rattle.rast_equal.specs.Walk.{by_equation, instance_points}
use Rattle.rast_equal.proofs.Faults.{decides_from}
use Rattle.rast_equal.proofs.Instances.{put_formula_within, put_type_within}
use Rattle.rast_equal.proofs.Served.{equation_is, instance_first, instance_second, instance_third, instance_last}
use Rattle.rast_equal.proofs.references.ask_instance.Goals as goal

pub returns-in_err-ask_natural_each : goal.returns-in_err-ask_natural_each
returns-in_err-ask_natural_each c =
    let args = c.args.args.now in
    let p = c.args.place.now in
    let a = c.args.left.now in
    let b = c.args.right.now in
    let e = c.args.equation.now in
    let sized : length args ≡ e.vars = omega arith in
    let is : by_equation (Some e) args p a b ≡ instance_points e args p a b = equation_is e args p a b sized (sym c.are_closed.ensures.is ∙ c.if-not-are_closed.false) in
    decides_from (by_equation (Some e) args p a b) c.in_err-ask_natural_each.field-0.0 c.from_residual.result c.from_residual.ensures.1
    (instance_first e args p a b (by_equation (Some e) args p a b) is c.in_err-ask_natural_each.field-0.0 c.in_err-ask_natural_each.ensures)

pub ask_premise-requires-clause-few : goal.ask_premise-requires-clause-few
ask_premise-requires-clause-few c =
    let args = c.args.args.now in
    let p = c.args.place.now in
    let a = c.args.left.now in
    let b = c.args.right.now in
    let e = c.args.equation.now in
    let sized : length args ≡ e.vars = omega arith in
    omega (arith, c.requires.equation.few)

pub ask_premise-requires-clause-asked : goal.ask_premise-requires-clause-asked
ask_premise-requires-clause-asked c =
    let p = c.args.place.now in
    let e = c.args.equation.now in
    let fit = c.requires.equation in
    record {
      scope = c.requires.fit.scope;
      within = put_formula_within e.vars p.vars c.args.args.now e.premise fit.premise (c.are_closed.ensures.more c.if-not-are_closed.false);
    }

pub returns-in_err-ask_premise : goal.returns-in_err-ask_premise
returns-in_err-ask_premise c =
    let args = c.args.args.now in
    let p = c.args.place.now in
    let a = c.args.left.now in
    let b = c.args.right.now in
    let e = c.args.equation.now in
    let sized : length args ≡ e.vars = omega arith in
    let is : by_equation (Some e) args p a b ≡ instance_points e args p a b = equation_is e args p a b sized (sym c.are_closed.ensures.is ∙ c.if-not-are_closed.false) in
    decides_from (by_equation (Some e) args p a b) c.in_err-ask_premise.field-0.0 c.from_residual-in_err-ask_premise.result c.from_residual-in_err-ask_premise.ensures.1
    (instance_second e args p a b (by_equation (Some e) args p a b) is c.in_err-ask_premise.field-0.0 c.in_ok-ask_natural_each.ensures c.in_err-ask_premise.ensures)

pub alike_side-requires-clause-side : goal.alike_side-requires-clause-side
alike_side-requires-clause-side c =
    let p = c.args.place.now in
    let e = c.args.equation.now in
    let fit = c.requires.equation in
    put_type_within e.vars p.vars c.args.args.now e.left fit.left (c.are_closed.ensures.more c.if-not-are_closed.false)

pub returns-in_err-alike_side : goal.returns-in_err-alike_side
returns-in_err-alike_side c =
    let args = c.args.args.now in
    let p = c.args.place.now in
    let a = c.args.left.now in
    let b = c.args.right.now in
    let e = c.args.equation.now in
    let sized : length args ≡ e.vars = omega arith in
    let is : by_equation (Some e) args p a b ≡ instance_points e args p a b = equation_is e args p a b sized (sym c.are_closed.ensures.is ∙ c.if-not-are_closed.false) in
    decides_from (by_equation (Some e) args p a b) c.in_err-alike_side.field-0.0 c.from_residual-in_err-alike_side.result c.from_residual-in_err-alike_side.ensures.1
    (instance_third e args p a b (by_equation (Some e) args p a b) is c.in_err-alike_side.field-0.0 c.in_ok-ask_natural_each.ensures c.in_ok-ask_premise.ensures c.in_err-alike_side.ensures)

pub alike_side-requires-2-clause-side : goal.alike_side-requires-2-clause-side
alike_side-requires-2-clause-side c =
    let p = c.args.place.now in
    let e = c.args.equation.now in
    let fit = c.requires.equation in
    put_type_within e.vars p.vars c.args.args.now e.right fit.right (c.are_closed.ensures.more c.if-not-are_closed.false)

pub returns : goal.returns
returns c =
    let args = c.args.args.now in
    let p = c.args.place.now in
    let a = c.args.left.now in
    let b = c.args.right.now in
    let e = c.args.equation.now in
    let sized : length args ≡ e.vars = omega arith in
    let is : by_equation (Some e) args p a b ≡ instance_points e args p a b = equation_is e args p a b sized (sym c.are_closed.ensures.is ∙ c.if-not-are_closed.false) in
    instance_last e args p a b (by_equation (Some e) args p a b) is c.alike_side-2.result c.in_ok-ask_natural_each.ensures c.in_ok-ask_premise.ensures c.in_ok-alike_side.ensures c.alike_side-2.ensures
