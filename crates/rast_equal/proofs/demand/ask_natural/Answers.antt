use Rattle.rast_equal.proofs.Demands.{natural_asked}
use Rattle.rast_equal.proofs.demand.ask_natural.Goals as goal

pub ask-requires : goal.ask-requires
ask-requires c = natural_asked c.args.place.now c.args.term.now c.again.result c.nought.result c.again.ensures.same c.nought.ensures c.requires.scope c.requires.within
