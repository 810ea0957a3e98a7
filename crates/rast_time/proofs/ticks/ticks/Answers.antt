use Rattle.std.proofs.Common.{◌∙◌, ap}
use Rattle.rast_index.specs.Linear.{is_small}
use Rattle.rast_time.proofs.Delays.{fits_named_next, fits_named, fits_next, fits_other}
use Rattle.rast_time.proofs.ticks.ticks.Goals as goal

pub returns-in-Some-next_of : goal.returns-in-Some-next_of
returns-in-Some-next_of c = λ n.
    fits_named_next c.args.table.now.defs n c.args.ty.now c.in-Some.body.now _ c.in-Some.args.now _ c.at_arguments.result c.in-Some.ensures c.in-Some-next_of.ensures c.at_arguments.ensures

pub returns-in-None-next_of : goal.returns-in-None-next_of
returns-in-None-next_of c = λ n.
    fits_named c.args.table.now.defs n c.args.ty.now c.in-Some.body.now c.in-Some.args.now c.nought.result c.in-Some.ensures c.in-None-next_of.ensures c.nought.ensures

pub returns-in-Some-next_of-2 : goal.returns-in-Some-next_of-2
returns-in-Some-next_of-2 c = λ n.
    fits_next c.args.table.now.defs n c.args.ty.now _ _ c.again.result c.in-None.ensures c.in-Some-next_of-2.ensures c.again.ensures.same (ap is_small c.again.ensures.same ∙ c.again.ensures.small)

pub returns-in-None-next_of-2 : goal.returns-in-None-next_of-2
returns-in-None-next_of-2 c = λ n.
    fits_other c.args.table.now.defs n c.args.ty.now c.nought-in-None-next_of-2.result c.in-None.ensures c.in-None-next_of-2.ensures c.nought-in-None-next_of-2.ensures
