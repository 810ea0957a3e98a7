use Rattle.std.proofs.Common.{◌≡◌, map, drop}
use Rattle.rast_resolve.proofs.Chains.{behind}
use Rattle.rast_resolve.specs.Types.{choices, type_of}
use Rattle.rast_resolve.proofs.types.+type_of.Given as goal

abbrev pub invariant-choices-loop-label : goal.invariant-choices-loop-label
invariant-choices-loop-label l = record {
  chain : behind l.parts (choices l.known.names l.seen (map (λ e. (e.0, type_of l.known l.item e.1)) (drop l.label-index l.written)) l.vars) ≡ choices l.known.names l.initial.seen (map (λ e. (e.0, type_of l.known l.item e.1)) l.written) l.vars;
  kept : l.vars ≡ l.initial.vars;
}
