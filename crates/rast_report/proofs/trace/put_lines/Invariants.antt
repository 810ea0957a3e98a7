use Rattle.std.proofs.Common.{◌≡◌, ◌++◌, [], take, reverse}
use Rattle.rast_report.specs.Reports.{trace_from}
use Rattle.rast_report.specs.Amounts.{AreKept}
use Rattle.rast_report.proofs.TraceLemmas.{all_lines}
use Rattle.rast_report.proofs.trace.put_lines.Given as goal

abbrev pub invariant-loop-place : goal.invariant-loop-place
invariant-loop-place l = (all_lines l.program l.history l.text.items l.place ≡ l.fn.text.items ++ trace_from l.program 1 [] l.history) × AreKept l.amounts (reverse (take l.place l.history))
