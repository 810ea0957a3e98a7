use Rattle.std.proofs.Common.{ap, ◌∙◌}
use Rattle.std.specs.List.{flat_map}
use Rattle.rast_ast.specs.declared.form.Disjunction.{out-Disjunction}
use Rattle.rast_ast.specs.declared.form.Conjunction.{out-Conjunction}
use Rattle.rast_formula.specs.Variables.{lin_names, form_names, disjunction_names, conjunction_names, literal_names}
use Rattle.rast_formula.proofs.Numbering.{two, taken}
use Rattle.rast_formula.proofs.Layers.{disjunction_names_at, conjunction_names_at, implies_names_at, related_names_at}
use Rattle.rast_formula.proofs.variables.+names_of_form.Goals as goal

pub add_disjunction-returns : goal.add_disjunction-returns
add_disjunction-returns t c = two c.args.scope.now (conjunction_names (out-Disjunction c.args.d.now).first) (flat_map conjunction_names (out-Disjunction c.args.d.now).rest) (rw c.as_slice.ensures at c.in_ok-add_conjunctions.ensures) c.in_ok-add_conjunction.ensures (disjunction_names_at c.args.d.now)

pub add_conjunction-returns : goal.add_conjunction-returns
add_conjunction-returns t c = two c.args.scope.now (literal_names (out-Conjunction c.args.c.now).first) (flat_map literal_names (out-Conjunction c.args.c.now).rest) (rw c.as_slice.ensures at c.in_ok-add_literals.ensures) (rw c.get.ensures at c.in_ok-add_literal.ensures) (conjunction_names_at c.args.c.now)

pub add_conjunctions-loop-c-preserved : goal.add_conjunctions-loop-c-preserved
add_conjunctions-loop-c-preserved t c = taken conjunction_names _ _ _ c.args.conjunctions.now c.loop-c.c-index c.c-item.result c.c-item.is c.loop-c-test.true c.loop-c.invariant c.in_ok-add_conjunction.ensures

pub add_literals-loop-l-preserved : goal.add_literals-loop-l-preserved
add_literals-loop-l-preserved t c = taken literal_names _ _ _ c.args.literals.now c.loop-l.l-index c.l-item.result c.l-item.is c.loop-l-test.true c.loop-l.invariant c.in_ok-add_literal.ensures

pub add_form-returns-in_ok-add_form-in-Implies : goal.add_form-returns-in_ok-add_form-in-Implies
add_form-returns-in_ok-add_form-in-Implies t c =
    two c.args.scope.now (disjunction_names c.in-Implies.d) (form_names c.in-Implies.f) (rw c.get.ensures at c.in_ok-add_form-in-Implies.ensures) c.in_ok-add_disjunction-in-Implies.ensures (ap form_names c.in-Implies.is ∙ implies_names_at c.in-Implies.d c.in-Implies.f)

pub add_literal-returns-in_ok-add_lin-in-Related-2 : goal.add_literal-returns-in_ok-add_lin-in-Related-2
add_literal-returns-in_ok-add_lin-in-Related-2 t c =
    two c.args.scope.now (lin_names c.in-Related.l) (lin_names c.in-Related.m) c.in_ok-add_lin-in-Related-2.ensures c.in_ok-add_lin-in-Related.ensures (ap literal_names c.in-Related.is ∙ related_names_at c.in-Related.l c.in-Related.m c.in-Related.field-1)
