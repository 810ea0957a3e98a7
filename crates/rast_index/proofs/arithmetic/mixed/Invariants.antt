use Rattle.std.proofs.Common.{◌≡◌, ◌≤◌, ◌+◌, ◌*◌, ◌^◌, ◌+ℤ◌, drop, map}
use Rattle.std.specs.Int.RustNames.{unsigned_abs}
use Rattle.rast_index.specs.Linear.{weighted, part, base_part}
use Rattle.rast_index.proofs.arithmetic.mixed.Given as goal

abbrev pub invariant-loop-i : goal.invariant-loop-i
invariant-loop-i l = record {
  sum : (l.total +ℤ weighted (drop l.i l.a-inside.coefficient) (map (λ x. part x l.j) (drop l.i l.args))) ≡ (base_part l.a l.j +ℤ weighted l.a-inside.coefficient (map (λ x. part x l.j) l.args));
  bound : unsigned_abs l.total ≤ 2 ^ 32 + l.i * 2 ^ 64;
}
