use Rattle.std.proofs.Common.{◌≡◌, true, map, ◌++◌, drop}
use Rattle.rast_types.proofs.Puts.{put_choices, are_small}
use Rattle.rast_types.proofs.put.+put_type.Given as goal

abbrev pub invariant-put_choices-loop-label : goal.invariant-put_choices-loop-label
invariant-put_choices-loop-label l = record {
  done : (l.out ++ put_choices l.vars l.args (drop l.label-index l.ts)) ≡ put_choices l.vars l.args l.ts;
  small : are_small l.out ≡ true;
}
