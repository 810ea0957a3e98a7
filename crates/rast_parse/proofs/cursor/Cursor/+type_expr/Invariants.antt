use Rattle.std.proofs.Common.{◌+◌, ◌*◌, length}
use Rattle.rast_forms.specs.Reading.{IsUnderWay}
use Rattle.rast_ast.specs.declared.kind.Kind.TheVariants as kind
use Rattle.rast_parse.specs.Cursors.{seen}
use Rattle.rast_parse.specs.LinearReading.{is}
use Rattle.rast_parse.specs.FormulaReading.{behind_kind}
use Rattle.rast_parse.specs.TypeReading.{labelled_by, further_labelled, type_read}
use Rattle.rast_parse.proofs.cursor.Cursor.+type_expr.Given as goal

abbrev pub decreases-type_expr : goal.decreases-type_expr
decreases-type_expr l = 9 * l.depth

abbrev pub decreases-boxed_type : goal.decreases-boxed_type
decreases-boxed_type l = 9 * l.depth + 1

abbrev pub decreases-type_behind : goal.decreases-type_behind
decreases-type_behind l = 9 * l.depth + 2

abbrev pub decreases-prefixed : goal.decreases-prefixed
decreases-prefixed l = 9 * l.depth + 2

abbrev pub decreases-next_one : goal.decreases-next_one
decreases-next_one l = 9 * l.depth + 3

abbrev pub decreases-next : goal.decreases-next
decreases-next l = 9 * l.depth + 2

abbrev pub decreases-after_atom : goal.decreases-after_atom
decreases-after_atom l = 9 * l.depth + 3

abbrev pub decreases-group_type : goal.decreases-group_type
decreases-group_type l = 9 * l.depth + 4

abbrev pub decreases-inside : goal.decreases-inside
decreases-inside l = 9 * l.depth + 5

abbrev pub decreases-labelled : goal.decreases-labelled
decreases-labelled l = 9 * l.depth + 1

abbrev pub decreases-labelled_behind : goal.decreases-labelled_behind
decreases-labelled_behind l = 9 * l.depth + 2

abbrev pub decreases-further_labelled : goal.decreases-further_labelled
decreases-further_labelled l = 9 * l.depth + 3

abbrev pub decreases-choice : goal.decreases-choice
decreases-choice l = 9 * l.depth + 4

abbrev pub decreases-braced_choice : goal.decreases-braced_choice
decreases-braced_choice l = 9 * l.depth + 5

abbrev pub decreases-internal_choice : goal.decreases-internal_choice
decreases-internal_choice l = 9 * l.depth + 6

abbrev pub decreases-external_choice : goal.decreases-external_choice
decreases-external_choice l = 9 * l.depth + 6

abbrev pub decreases-atom : goal.decreases-atom
decreases-atom l = 9 * l.depth + 7

abbrev pub decreases-type_below : goal.decreases-type_below
decreases-type_below l = 9 * l.depth + 8

abbrev pub invariant-further_labelled-loop-turn : goal.invariant-further_labelled-loop-turn
invariant-further_labelled-loop-turn l =
    IsUnderWay (is kind.Comma) (behind_kind kind.Comma (labelled_by (type_read l.depth))) (length (seen l.self)) l._turn l.items (seen l.rest) (further_labelled (type_read l.depth) (seen l.self))
