use Rattle.std.proofs.Common.{◌+◌, ◌*◌, false, length}
use Rattle.rast_forms.specs.Reading.{IsUnderWay}
use Rattle.rast_ast.specs.declared.kind.Kind.TheVariants as kind
use Rattle.rast_parse.specs.Cursors.{seen}
use Rattle.rast_parse.specs.LinearReading.{is, lin_read}
use Rattle.rast_parse.specs.FormulaReading.{behind_kind}
use Rattle.rast_parse.specs.ProcessReading.{branch_by, further_branches, statement_by, proc_by, proc_read, IsProcUnderWay}
use Rattle.rast_parse.proofs.cursor.Cursor.+process.Given as goal

abbrev pub decreases-proc : goal.decreases-proc
decreases-proc l = 11 * l.depth

abbrev pub decreases-branch : goal.decreases-branch
decreases-branch l = 11 * l.depth + 1

abbrev pub decreases-further_branch : goal.decreases-further_branch
decreases-further_branch l = 11 * l.depth + 2

abbrev pub decreases-further_branches : goal.decreases-further_branches
decreases-further_branches l = 11 * l.depth + 3

abbrev pub decreases-all_branches : goal.decreases-all_branches
decreases-all_branches l = 11 * l.depth + 4

abbrev pub decreases-branches : goal.decreases-branches
decreases-branches l = 11 * l.depth + 5

abbrev pub decreases-case : goal.decreases-case
decreases-case l = 11 * l.depth + 6

abbrev pub decreases-other_statement : goal.decreases-other_statement
decreases-other_statement l = 11 * l.depth + 7

abbrev pub decreases-plain_statement : goal.decreases-plain_statement
decreases-plain_statement l = 11 * l.depth + 8

abbrev pub decreases-statement : goal.decreases-statement
decreases-statement l = 11 * l.depth + 9

abbrev pub decreases-proc_below : goal.decreases-proc_below
decreases-proc_below l = 11 * l.depth + 10

abbrev pub invariant-further_branches-loop-turn : goal.invariant-further_branches-loop-turn
invariant-further_branches-loop-turn l =
    IsUnderWay (is kind.Bar) (behind_kind kind.Bar (branch_by (proc_read l.explicit l.depth))) (length (seen l.self)) l._turn l.items (seen l.rest) (further_branches (proc_read l.explicit l.depth) (seen l.self))

abbrev pub invariant-proc_below-loop-turn : goal.invariant-proc_below-loop-turn
invariant-proc_below-loop-turn l =
    IsProcUnderWay (statement_by l.explicit (lin_read false l.depth) (proc_read l.explicit l.depth)) (length (seen l.self)) l._turn l.steps (seen l.rest)
    (proc_by l.explicit (lin_read false l.depth) (proc_read l.explicit l.depth) (seen l.self))
