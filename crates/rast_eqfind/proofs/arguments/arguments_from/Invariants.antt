use Rattle.std.proofs.Common.{◌≡◌, true}
use Rattle.std.specs.List.{list_all}
use Rattle.rast_index.specs.Linear.{is_small, tabulate}
use Rattle.rast_eqfind.specs.Read.{argument_of}
use Rattle.rast_eqfind.proofs.arguments.arguments_from.Given as goal

abbrev pub invariant-loop-i : goal.invariant-loop-i
invariant-loop-i l = record {
  done : l.out ≡ tabulate (argument_of l.vars l.terms) 0 l.i;
  small : list_all is_small l.out ≡ true;
}
