use Rattle.std.proofs.Common.{◌≡◌, map, drop}
use Rattle.rast_resolve.specs.Answers.{each}
use Rattle.rast_resolve.proofs.Chains.{behind}
use Rattle.rast_resolve.specs.Bodies.{channel_of}
use Rattle.rast_resolve.proofs.place.Place.channel_numbers.Given as goal

abbrev pub invariant-loop-name : goal.invariant-loop-name
invariant-loop-name l = behind l.out (each (map (channel_of l.self.channels) (drop l.name-index l.names))) ≡ each (map (channel_of l.self.channels) l.names)
