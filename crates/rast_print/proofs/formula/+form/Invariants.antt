use Rattle.std.proofs.Common.{◌≡◌, ◌++◌, take}
use Rattle.std.specs.List.{flat_map}
use Rattle.rast_print.specs.FormulaText.{or_text, and_text}
use Rattle.rast_print.proofs.formula.+form.Given as goal

abbrev pub invariant-put_conjunctions-loop-conjunction : goal.invariant-put_conjunctions-loop-conjunction
invariant-put_conjunctions-loop-conjunction l = l.out.items ≡ l.initial.out.items ++ flat_map or_text (take l.conjunction-index l.conjunctions)

abbrev pub invariant-put_literals-loop-literal : goal.invariant-put_literals-loop-literal
invariant-put_literals-loop-literal l = l.out.items ≡ l.initial.out.items ++ flat_map and_text (take l.literal-index l.literals)
