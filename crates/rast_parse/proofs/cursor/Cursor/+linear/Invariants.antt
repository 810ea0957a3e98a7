use Rattle.std.proofs.Common.{◌+◌, ◌*◌, ◌∷◌, [], length}
use Rattle.rast_forms.specs.Reading.{seq_read, IsUnderWay}
use Rattle.rast_ast.specs.Kinds.{code}
use Rattle.rast_ast.specs.declared.kind.Kind.TheVariants as kind
use Rattle.rast_parse.specs.Cursors.{seen}
use Rattle.rast_parse.specs.LinearReading.{term_read, further_read, sign_read}
use Rattle.rast_parse.proofs.cursor.Cursor.+linear.Given as goal

abbrev pub decreases-term : goal.decreases-term
decreases-term l = 6 * l.depth

abbrev pub decreases-further_terms : goal.decreases-further_terms
decreases-further_terms l = 6 * l.depth + 2

abbrev pub decreases-signed_term : goal.decreases-signed_term
decreases-signed_term l = 6 * l.depth + 1

abbrev pub decreases-lin : goal.decreases-lin
decreases-lin l = 6 * l.depth + 3

abbrev pub decreases-number_term : goal.decreases-number_term
decreases-number_term l = 6 * l.depth + 1

abbrev pub decreases-group : goal.decreases-group
decreases-group l = 6 * l.depth + 4

abbrev pub decreases-term_below : goal.decreases-term_below
decreases-term_below l = 6 * l.depth + 5

abbrev pub invariant-further_terms-loop-turn : goal.invariant-further_terms-loop-turn
invariant-further_terms-loop-turn l =
    IsUnderWay (code kind.Plus ∷ code kind.Minus ∷ []) (seq_read sign_read (term_read l.in_formula l.depth)) (length (seen l.self)) l._turn l.items (seen l.rest) (further_read (term_read l.in_formula l.depth) (seen l.self))
