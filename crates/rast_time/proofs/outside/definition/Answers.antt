use Rattle.rast_types.proofs.Layers.{names_of}
use Rattle.rast_time.proofs.outside.definition.Goals as goal

pub returns-in-Some : goal.returns-in-Some
returns-in-Some c = names_of _ _ _ _ _ _ c.in-Named.is c.as_slice.ensures c.in-Some.ensures.value
