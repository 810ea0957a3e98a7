use Rattle.std.proofs.Common.{◌≡◌, ◌∷◌, map, take}
use Rattle.rast_resolve.specs.Scopes.{number_in}
use Rattle.rast_resolve.proofs.parts.channel_names.Given as goal

abbrev pub invariant-loop-channel : goal.invariant-loop-channel
invariant-loop-channel l = l.out ≡ map (number_in l.known.names) (l.provided ∷ map (λ c. c.name) (take l.channel-index l.used))
