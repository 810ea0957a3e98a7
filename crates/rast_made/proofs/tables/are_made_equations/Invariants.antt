use Rattle.std.proofs.Common.{◌≡◌, drop}
use Rattle.std.specs.List.{list_all}
use Rattle.rast_made.specs.Made.{is_made_equation}
use Rattle.rast_made.proofs.tables.are_made_equations.Given as goal

abbrev pub invariant-loop-equation : goal.invariant-loop-equation
invariant-loop-equation l = list_all (is_made_equation l.program) (drop l.equation-index l.equations) ≡ list_all (is_made_equation l.program) l.equations
