use Rattle.std.proofs.Common.{◌≡◌, nat_le, drop}
use Rattle.std.specs.List.{list_all}
use Rattle.rast_types.specs.Symbolic.{binders}
use Rattle.rast_types.proofs.+is_shallow.Given as goal

abbrev pub invariant-depth::are_shallow-loop-a : goal.invariant-depth::are_shallow-loop-a
invariant-depth::are_shallow-loop-a l = list_all (λ e. nat_le (binders e.1) l.room) (drop l.a-index l.ts) ≡ list_all (λ e. nat_le (binders e.1) l.room) l.ts
