use Rattle.std.specs.List.{flat_map}
use Rattle.rast_print.specs.FormulaText.{literal_text, conjunction_text, or_text, and_text}
use Rattle.rast_ast.specs.declared.Disjunction.{out-Disjunction}
use Rattle.rast_ast.specs.declared.Conjunction.{out-Conjunction}
use Rattle.rast_print.proofs.Appended.{two}
use Rattle.rast_print.proofs.Layers.{disjunction_at, conjunction_at}
use Rattle.rast_print.proofs.formula.+form.Goals as goal

pub put_disjunction-returns : goal.put_disjunction-returns
put_disjunction-returns t c = two c.args.out.now.items (conjunction_text (out-Disjunction c.args.disjunction.now).first) (flat_map or_text (out-Disjunction c.args.disjunction.now).rest) (rw c.as_slice.ensures at c.in_ok-put_conjunctions.ensures) c.in_ok-put_conjunction.ensures (disjunction_at c.args.disjunction.now)

pub put_conjunction-returns : goal.put_conjunction-returns
put_conjunction-returns t c = two c.args.out.now.items (literal_text (out-Conjunction c.args.conjunction.now).first) (flat_map and_text (out-Conjunction c.args.conjunction.now).rest) (rw c.as_slice.ensures at c.in_ok-put_literals.ensures) (rw c.get.ensures at c.in_ok-put_literal.ensures) (conjunction_at c.args.conjunction.now)
