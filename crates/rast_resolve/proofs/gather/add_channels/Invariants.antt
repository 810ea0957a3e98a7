use Rattle.std.proofs.Common.{◌≡◌, ◌++◌, ◌∷◌, take}
use Rattle.std.specs.List.{flat_map}
use Rattle.rast_resolve.specs.declared.gather.Sought.TheVariants as sought
use Rattle.rast_resolve.specs.Names.{names_in_type}
use Rattle.rast_resolve.proofs.gather.add_channels.Given as goal

abbrev pub invariant-loop-channel : goal.invariant-loop-channel
invariant-loop-channel l = l.out ≡ l.initial.out ++ flat_map (λ c. c.name ∷ names_in_type sought.Both c.body) (take l.channel-index l.channels)
