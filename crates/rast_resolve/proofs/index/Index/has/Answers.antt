use Rattle.std.proofs.Common.{rules}
use Rattle.rast_resolve.proofs.Places.{has_first}
use Rattle.rast_resolve.proofs.index.Index.has.Goals as goal

pub returns : goal.returns
returns c = has_first c.self.inside.places _ _ _ c.self.inside.names c.args.self.now c.contains_key.ensures c.as_bytes.ensures.bytes c.self.invariant (search rules)
