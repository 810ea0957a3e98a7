use Rattle.std.proofs.Common.{◌≡◌, ◌≤◌, length, drop}
use Rattle.rast_resolve.specs.Programs.{bound_names}
use Rattle.rast_resolve.proofs.headers.bind_names.Given as goal

abbrev pub invariant-loop-name : goal.invariant-loop-name
invariant-loop-name l = record {
  chain : bound_names l.item l.most l.all (drop l.name-index l.names) ≡ bound_names l.item l.most l.initial.all l.names;
  few : length l.all ≤ l.most;
}
