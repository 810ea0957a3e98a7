use Rattle.std.proofs.Common.{◌≡◌, ◌++◌, drop}
use Rattle.rast_lines.proofs.scopes.copy_formulas.Given as goal

abbrev pub invariant-loop-f : goal.invariant-loop-f
invariant-loop-f l = (l.out ++ drop l.f-index l.formulas) ≡ l.formulas
