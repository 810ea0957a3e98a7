use Rattle.std.proofs.Common.{◌≡◌, ◌≤◌, ◌+◌, ◌*◌, ◌^◌, ◌+ℤ◌, drop}
use Rattle.std.specs.Int.RustNames.{unsigned_abs}
use Rattle.rast_index.specs.Linear.{weighted, base_part}
use Rattle.rast_types.proofs.Mixed.{parts}
use Rattle.rast_types.proofs.wide.mixed_small.Given as goal

abbrev pub invariant-loop-i : goal.invariant-loop-i
invariant-loop-i l = record {
  sum : (l.total +ℤ weighted (drop l.i l.l-inside.coefficient) (parts (drop l.i l.args) l.j)) ≡ (base_part l.l l.j +ℤ weighted l.l-inside.coefficient (parts l.args l.j));
  bound : unsigned_abs l.total ≤ 2 ^ 32 + l.i * 2 ^ 64;
}
