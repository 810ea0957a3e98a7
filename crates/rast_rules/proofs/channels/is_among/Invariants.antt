use Rattle.std.proofs.Common.{◌≡◌, ◌==◌, drop}
use Rattle.std.specs.List.{list_any}
use Rattle.rast_rules.proofs.channels.is_among.Given as goal

abbrev pub invariant-loop-other : goal.invariant-loop-other
invariant-loop-other l = list_any (λ y. y == l.channel) (drop l.other-index l.channels) ≡ list_any (λ y. y == l.channel) l.channels
