use Rattle.rast_equal.proofs.Demands.{equal_asked}
use Rattle.rast_equal.proofs.demand.ask_equal.Goals as goal

pub ask-requires : goal.ask-requires
ask-requires c = equal_asked c.args.place.now c.args.a.now c.args.b.now c.again.result c.again-2.result c.again.ensures.same c.again-2.ensures.same c.requires.scope c.requires.left c.requires.right
