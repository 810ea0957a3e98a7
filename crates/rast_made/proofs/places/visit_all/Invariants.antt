use Rattle.std.proofs.Common.{◌≡◌, drop}
use Rattle.rast_made.specs.Made.{AreFew, all_visited}
use Rattle.rast_made.proofs.places.visit_all.Given as goal

abbrev pub invariant-loop-i : goal.invariant-loop-i
invariant-loop-i l = record {
  few : AreFew l.i l.places;
  puts : all_visited l.program l.places l.i (drop l.i l.nodes) ≡ all_visited l.program l.initial.places 0 l.nodes;
}
