use Rattle.rast_time.proofs.Arguments.{fits_few}
use Rattle.rast_time.proofs.ticks.at_arguments.Goals as goal

pub returns : goal.returns
returns c = fits_few c.args.term.now c.again-term.result c.args.args.now c.min.result c.subst.result c.again-term.ensures.same c.again-term.ensures.sized c.min.ensures c.subst.ensures.replaced
