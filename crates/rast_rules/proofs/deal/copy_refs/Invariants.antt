use Rattle.std.proofs.Common.{◌≡◌, ◌++◌, drop}
use Rattle.rast_rules.proofs.deal.copy_refs.Given as goal

abbrev pub invariant-loop-reference : goal.invariant-loop-reference
invariant-loop-reference l = (l.out ++ drop l.reference-index l.refs) ≡ l.refs
