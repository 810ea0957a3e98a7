use Rattle.std.proofs.Common.{◌≡◌, take}
use Rattle.std.specs.List.{flat_map}
use Rattle.rast_formula.specs.Variables.{all_bound, signed_names}
use Rattle.rast_formula.proofs.variables.+names_of_lin.Given as goal

abbrev pub invariant-add_terms-loop-sign : goal.invariant-add_terms-loop-sign
invariant-add_terms-loop-sign l = l.scope ≡ all_bound l.initial.scope (flat_map signed_names (take l.sign-index l.terms))
