use Rattle.std.proofs.Common.{◌≡◌, take}
use Rattle.std.specs.List.{flat_map}
use Rattle.rast_formula.specs.Variables.{all_bound, conjunction_names, literal_names}
use Rattle.rast_formula.proofs.variables.+names_of_form.Given as goal

abbrev pub invariant-add_conjunctions-loop-c : goal.invariant-add_conjunctions-loop-c
invariant-add_conjunctions-loop-c l = l.scope ≡ all_bound l.initial.scope (flat_map conjunction_names (take l.c-index l.conjunctions))

abbrev pub invariant-add_literals-loop-l : goal.invariant-add_literals-loop-l
invariant-add_literals-loop-l l = l.scope ≡ all_bound l.initial.scope (flat_map literal_names (take l.l-index l.literals))
