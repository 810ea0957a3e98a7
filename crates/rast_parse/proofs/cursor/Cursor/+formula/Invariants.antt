use Rattle.std.proofs.Common.{◌+◌, ◌*◌, length}
use Rattle.rast_forms.specs.Reading.{IsUnderWay}
use Rattle.rast_ast.specs.declared.kind.Kind.TheVariants as kind
use Rattle.rast_parse.specs.Cursors.{seen}
use Rattle.rast_parse.specs.LinearReading.{is}
use Rattle.rast_parse.specs.FormulaReading.{behind_kind, conjunction_by, further_literals_read, further_conjunctions_read, literal_read}
use Rattle.rast_parse.proofs.cursor.Cursor.+formula.Given as goal

abbrev pub decreases-form : goal.decreases-form
decreases-form l = 8 * l.depth

abbrev pub decreases-boxed_form : goal.decreases-boxed_form
decreases-boxed_form l = 8 * l.depth + 1

abbrev pub decreases-literal : goal.decreases-literal
decreases-literal l = 8 * l.depth

abbrev pub decreases-negation : goal.decreases-negation
decreases-negation l = 8 * l.depth + 1

abbrev pub decreases-bracketed : goal.decreases-bracketed
decreases-bracketed l = 8 * l.depth + 1

abbrev pub decreases-literal_below : goal.decreases-literal_below
decreases-literal_below l = 8 * l.depth + 2

abbrev pub decreases-further_literal : goal.decreases-further_literal
decreases-further_literal l = 8 * l.depth + 1

abbrev pub decreases-further_literals : goal.decreases-further_literals
decreases-further_literals l = 8 * l.depth + 2

abbrev pub decreases-conjunction : goal.decreases-conjunction
decreases-conjunction l = 8 * l.depth + 3

abbrev pub decreases-further_conjunction : goal.decreases-further_conjunction
decreases-further_conjunction l = 8 * l.depth + 4

abbrev pub decreases-further_conjunctions : goal.decreases-further_conjunctions
decreases-further_conjunctions l = 8 * l.depth + 5

abbrev pub decreases-disjunction : goal.decreases-disjunction
decreases-disjunction l = 8 * l.depth + 6

abbrev pub decreases-form_below : goal.decreases-form_below
decreases-form_below l = 8 * l.depth + 7

abbrev pub invariant-further_literals-loop-turn : goal.invariant-further_literals-loop-turn
invariant-further_literals-loop-turn l =
    IsUnderWay (is kind.And) (behind_kind kind.And (literal_read l.depth)) (length (seen l.self)) l._turn l.items (seen l.rest) (further_literals_read (literal_read l.depth) (seen l.self))

abbrev pub invariant-further_conjunctions-loop-turn : goal.invariant-further_conjunctions-loop-turn
invariant-further_conjunctions-loop-turn l =
    IsUnderWay (is kind.Or) (behind_kind kind.Or (conjunction_by (literal_read l.depth))) (length (seen l.self)) l._turn l.items (seen l.rest) (further_conjunctions_read (literal_read l.depth) (seen l.self))
