use Rattle.std.proofs.Common.{◌≡◌, ◌<◌, drop, None, IfSome}
use Rattle.std.specs.Option.{option_map}
use Rattle.rast_io.specs.Held.{newest_from, bytes_at}
use Rattle.rast_io.proofs.mem_files.newest.Given as goal

abbrev pub invariant-loop-i : goal.invariant-loop-i
invariant-loop-i l = record {
  rest : newest_from None l.files l.name ≡ newest_from (option_map (bytes_at l.files) l.found) (drop l.i l.files) l.name;
  below : IfSome l.found (λ k. k < l.i);
}
