use Rattle.std.proofs.Common.{◌≡◌, ◌<◌, ◌^◌, take}
use Rattle.rast_lex.specs.Numbers.{value_of}
use Rattle.rast_lex.proofs.number.value_of.Given as goal

abbrev pub invariant-loop-c : goal.invariant-loop-c
invariant-loop-c l = record {
  so_far : l.value ≡ value_of (take l.c-index l.digits);
  below : l.value < 2 ^ 32;
}
