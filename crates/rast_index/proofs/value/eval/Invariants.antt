use Rattle.std.proofs.Common.{◌≡◌, ◌≤◌, ◌+◌, ◌*◌, ◌^◌, ◌+ℤ◌, drop}
use Rattle.std.specs.Int.RustNames.{unsigned_abs}
use Rattle.rast_index.specs.Linear.{weighted, whole}
use Rattle.rast_index.proofs.value.eval.Given as goal

abbrev pub invariant-loop-i : goal.invariant-loop-i
invariant-loop-i l = record {
  sum : (l.total +ℤ weighted (drop l.i l.lin-inside.coefficient) (whole (drop l.i l.values))) ≡ (l.lin-inside.constant +ℤ weighted l.lin-inside.coefficient (whole l.values));
  bound : unsigned_abs l.total ≤ 2 ^ 32 + l.i * 2 ^ 96;
}
