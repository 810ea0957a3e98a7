use Rattle.std.specs.List.{flat_map}
use Rattle.rast_formula.specs.Variables.{signed_names, term_names}
use Rattle.rast_formula.proofs.Numbering.{two, taken}
use Rattle.rast_formula.proofs.Layers.{lin_names_at}
use Rattle.rast_formula.proofs.variables.+names_of_lin.Goals as goal

pub add_lin-returns : goal.add_lin-returns
add_lin-returns t c = two c.args.scope.now (term_names c.args.lin.now.first) (flat_map signed_names c.args.lin.now.rest) (rw c.as_slice.ensures at c.in_ok-add_terms.ensures) (rw c.get.ensures at c.in_ok-add_term.ensures) (lin_names_at c.args.lin.now)

pub add_terms-loop-sign-preserved : goal.add_terms-loop-sign-preserved
add_terms-loop-sign-preserved t c = taken signed_names _ _ _ c.args.terms.now c.loop-sign.sign-index c.loop-sign-item.result c.loop-sign-item.is c.loop-sign-test.true c.loop-sign.invariant c.in_ok-add_signed.ensures
