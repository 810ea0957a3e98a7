use Rattle.std.proofs.Common.{◌∙◌}
use Rattle.rast_resolve.proofs.Places.{puts_named}
use Rattle.rast_resolve.proofs.maps.put.Goals as goal

pub returns-clause-ok : goal.returns-clause-ok
returns-clause-ok c = puts_named c.args.places.now c.insert.new.self c.in_ok-key.key.items _ _ (c.in_ok-key.ensures.items ∙ c.as_bytes.ensures.bytes) c.in_ok-insert.ensures.updates
