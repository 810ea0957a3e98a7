-- Exit statuses, and the lines of answers.
use Rattle.std.specs.Prelude.{ℕ, List, [], codes}
use Rattle.rast_core.specs.declared.answer.Outcome.TheVariants.{Running, Finished, OutOfBudget, IndexLimit}
use Rattle.rast_load.specs.Lines.{fault_line, fault_status}
use Rattle.rast_decide.specs.Lines.{status_of}
use Rattle.rast_cli.specs.declared.answer.Answer.{Answer}
use Rattle.rast_cli.specs.declared.answer.Answer.TheVariants.{Usage, ReadFault, TooLong, NoFile, Refused, NoExec, Ran, Accepted, Shown, Decided}

-- the exit status of an answer; no run that is reported is still running
abbrev pub code_of : Answer → ℕ
code_of Shown = 0
code_of Accepted = 0
code_of (Ran Finished) = 0
code_of NoExec = 1
code_of Usage = 2
code_of ReadFault = 3
code_of (Ran OutOfBudget) = 6
code_of (Ran Running) = 6
code_of (Ran (IndexLimit pid value)) = 7
code_of TooLong = 9
code_of (NoFile fault) = fault_status fault
code_of (Refused status) = status
code_of (Decided d) = status_of d

-- the line of an answer; a run has its report, a file its canonical text, a refused program the line of its reason, and what is decided
-- its own
abbrev pub line_of : Answer → List ℕ
line_of Usage = codes "usage: rast run|check|explicit|show|decide|trial\n"
line_of ReadFault = codes "read fault\n"
line_of TooLong = codes "too long\n"
line_of (NoFile fault) = fault_line fault
line_of NoExec = codes "refused: no exec\n"
line_of Accepted = codes "accepted\n"
line_of (Refused status) = []
line_of (Ran outcome) = []
line_of Shown = []
line_of (Decided d) = []
