use Rattle.std.proofs.Common.{take, true}
use Rattle.std.specs.List.{list_all}
use Rattle.rast_cooper.specs.Verdicts.{is_within}
use Rattle.rast_equal.specs.Scoped.{Tests}
use Rattle.rast_equal.proofs.scope.+is_formula_within.Given as goal

abbrev pub invariant-are_formulas_within-loop-f : goal.invariant-are_formulas_within-loop-f
invariant-are_formulas_within-loop-f l = Tests l.vars (λ m. list_all (is_within m) (take l.f-index l.fs)) true
