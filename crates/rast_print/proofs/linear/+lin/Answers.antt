use Rattle.std.specs.List.{flat_map}
use Rattle.rast_print.specs.LinearText.{signed_text, term_text}
use Rattle.rast_print.proofs.Appended.{two}
use Rattle.rast_print.proofs.Layers.{lin_at}
use Rattle.rast_print.proofs.linear.+lin.Goals as goal

pub put_lin-returns : goal.put_lin-returns
put_lin-returns t c = two c.args.out.now.items (term_text c.args.lin.now.first) (flat_map signed_text c.args.lin.now.rest) (rw c.as_slice.ensures at c.in_ok-put_terms.ensures) (rw c.get.ensures at c.in_ok-put_term.ensures) (lin_at c.args.lin.now)
