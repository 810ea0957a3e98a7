use Rattle.rast_types.specs.Symbolic.{put_type}
use Rattle.rast_equal.proofs.Served.{made_fit}
use Rattle.rast_equal.proofs.references.alike_side.Goals as goal

pub alike-requires : goal.alike-requires
alike-requires c =
    let p = c.args.place.now in
    made_fit p c.in-Ok-placed.place c.args.a.now (put_type p.vars c.args.args.now c.args.side.now) c.in-Ok.made c.in-Ok-placed.a
    c.in-Ok-placed.ensures.0 c.in-Ok-placed.ensures.1 c.in-Ok.ensures c.requires.scope c.requires.left c.requires.side
