use Rattle.std.proofs.Common.{◌≡◌, drop}
use Rattle.std.specs.List.{list_all}
use Rattle.rast_equal.specs.WellMadeTypes.{is_named}
use Rattle.rast_made.proofs.names.+is_named.Given as goal

abbrev pub invariant-are_named-loop-a : goal.invariant-are_named-loop-a
invariant-are_named-loop-a l = list_all (λ e. is_named l.defs e.1) (drop l.a-index l.ts) ≡ list_all (λ e. is_named l.defs e.1) l.ts
