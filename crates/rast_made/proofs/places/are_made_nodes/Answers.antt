use Rattle.std.proofs.Common.{subst, sym}
use Rattle.rast_made.specs.Made.{AreFew}
use Rattle.rast_made.proofs.Passing.{few_first}
use Rattle.rast_made.proofs.places.are_made_nodes.Goals as goal

pub place_bodies-requires : goal.place_bodies-requires
place_bodies-requires c = subst (AreFew 0) (sym c.in_ok-places.ensures) (few_first _)
