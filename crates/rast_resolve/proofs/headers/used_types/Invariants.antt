use Rattle.std.proofs.Common.{◌≡◌, ◌++◌, drop, Ok}
use Rattle.rast_resolve.specs.Answers.{◌>>=◌}
use Rattle.rast_resolve.specs.Programs.{used_types}
use Rattle.rast_resolve.proofs.headers.used_types.Given as goal

abbrev pub invariant-loop-channel : goal.invariant-loop-channel
invariant-loop-channel l = record {
  chain : (used_types l.known l.item l.vars l.seen (drop l.channel-index l.used) >>= λ r. Ok (l.types ++ r.0, r.1)) ≡ used_types l.known l.item l.vars l.initial.seen l.used;
  kept : l.vars ≡ l.initial.vars;
}
