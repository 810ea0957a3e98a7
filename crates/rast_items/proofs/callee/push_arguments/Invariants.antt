use Rattle.std.proofs.Common.{◌≡◌, None, drop, length}
use Rattle.rast_items.specs.Deeds.{naturals, large_in, argument_values}
use Rattle.rast_items.proofs.Readings.{after_naturals}
use Rattle.rast_items.proofs.callee.push_arguments.Given as goal

abbrev pub invariant-loop-arg : goal.invariant-loop-arg
invariant-loop-arg l = record {
  read : naturals (argument_values l.proc l.args) ≡ after_naturals l.target.values (naturals (argument_values l.proc (drop l.arg-index l.args)));
  small : large_in (argument_values l.proc (drop l.arg-index l.args)) ≡ None;
  rest : l.target ≡ record l.initial.target { values = l.target.values };
  count : length l.target.values ≡ l.arg-index;
}
