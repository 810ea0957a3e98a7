use Rattle.std.proofs.Common.{◌≡◌}
use Rattle.rast_report.specs.Values.{value_text}
use Rattle.rast_report.specs.Printed.{all_text, load}
use Rattle.rast_report.proofs.printing.value_by.Given as goal

abbrev pub invariant-loop-waiting : goal.invariant-loop-waiting
invariant-loop-waiting l = all_text l.program l.config l.text.items l.at l.waiting.items ≡ value_text l.program l.config

abbrev pub decreases-loop-waiting : goal.decreases-loop-waiting
decreases-loop-waiting l = load l.config l.at l.waiting.items
