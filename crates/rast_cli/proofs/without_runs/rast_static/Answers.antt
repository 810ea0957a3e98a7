use Rattle.std.proofs.Common.{inr}
use Rattle.rast_cli.proofs.WithoutRuns.{run_of_static, check_of_static, show_of_static, decide_of_static, usage_of_static, fault_of_static, checks_of_static, shows_of_static, no_run}
use Rattle.rast_cli.proofs.without_runs.rast_static.Goals as goal

pub returns-clause-history : goal.returns-clause-history
returns-clause-history g c = no_run _ _ _ _ _ _ _ c.in-Ok.said.answer c.in-Ok.ensures

pub returns-clause-run : goal.returns-clause-run
returns-clause-run g c = λ name budget trace asks. inr (run_of_static _ _ _ _ _ _ _ _ _ _ _ _ name budget trace asks c.in-Ok.said.answer c.in-Ok.ensures (rw c.deref.ensures.value at c.print-status.ensures))

pub returns-clause-check : goal.returns-clause-check
returns-clause-check g c = λ name asks. check_of_static _ _ _ _ _ _ _ _ _ _ _ _ name asks c.in-Ok.said.answer c.in-Ok.ensures (rw c.deref.ensures.value at c.print-status.ensures)

pub returns-clause-show : goal.returns-clause-show
returns-clause-show g c = λ name asks. show_of_static _ _ _ _ _ _ _ _ _ _ _ _ name asks c.in-Ok.said.answer c.in-Ok.ensures (rw c.deref.ensures.value at c.print-status.ensures)

pub returns-clause-decide : goal.returns-clause-decide
returns-clause-decide g c = λ formula asks. decide_of_static _ _ _ _ _ _ _ _ _ _ _ _ formula asks c.in-Ok.said.answer c.in-Ok.ensures (rw c.deref.ensures.value at c.print-status.ensures)

pub returns-clause-usage : goal.returns-clause-usage
returns-clause-usage g c = λ is. usage_of_static _ _ _ _ _ _ _ _ _ _ _ _ c.in-Ok.said.answer c.in-Ok.ensures (rw c.deref.ensures.value at c.print-status.ensures) is

pub returns-clause-read_fault : goal.returns-clause-read_fault
returns-clause-read_fault g c = λ is. fault_of_static _ _ _ _ _ _ _ _ _ _ _ _ c.in-Ok.said.answer c.in-Ok.ensures (rw c.deref.ensures.value at c.print-status.ensures) is

pub returns-clause-checks : goal.returns-clause-checks
returns-clause-checks g c = λ p calm still. inr (checks_of_static _ _ _ _ _ _ _ calm p _ _ _ _ _ c.in-Ok.said.answer c.in-Ok.ensures (rw c.deref.ensures.value at c.print-status.ensures) still)

pub returns-clause-shows : goal.returns-clause-shows
returns-clause-shows g c = λ p calm still. inr (shows_of_static _ _ _ _ _ _ _ calm p _ _ _ _ _ c.in-Ok.said.answer c.in-Ok.ensures (rw c.deref.ensures.value at c.print-status.ensures) still)
