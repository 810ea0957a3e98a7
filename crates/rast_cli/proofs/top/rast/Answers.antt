use Rattle.std.proofs.Common.{inr}
use Rattle.rast_cli.proofs.TopRows.{sound_of, run_of, check_of, show_of, decide_of, runs_of, checks_of, shows_of}
use Rattle.rast_cli.proofs.top.rast.Goals as goal

pub returns-clause-headline : goal.returns-clause-headline
returns-clause-headline g c = λ name budget trace asks. sound_of _ _ _ _ _ _ _ name budget trace asks c.in-Ok.said.answer c.in-Ok.ensures

pub returns-clause-run : goal.returns-clause-run
returns-clause-run g c = λ name budget trace asks. run_of _ _ _ _ _ _ _ _ _ _ _ _ name budget trace asks c.in-Ok.said.answer c.in-Ok.ensures (rw c.deref.ensures.value at c.print-status.ensures)

pub returns-clause-check : goal.returns-clause-check
returns-clause-check g c = λ name asks. check_of _ _ _ _ _ _ _ _ _ _ _ _ name asks c.in-Ok.said.answer c.in-Ok.ensures (rw c.deref.ensures.value at c.print-status.ensures)

pub returns-clause-show : goal.returns-clause-show
returns-clause-show g c = λ name asks. show_of _ _ _ _ _ _ _ _ _ _ _ _ name asks c.in-Ok.said.answer c.in-Ok.ensures (rw c.deref.ensures.value at c.print-status.ensures)

pub returns-clause-decide : goal.returns-clause-decide
returns-clause-decide g c = λ formula asks. decide_of _ _ _ _ _ _ _ _ _ _ _ _ formula asks c.in-Ok.said.answer c.in-Ok.ensures (rw c.deref.ensures.value at c.print-status.ensures)

pub returns-clause-runs : goal.returns-clause-runs
returns-clause-runs g c = λ p calm still. inr (runs_of _ _ _ _ _ _ _ calm p _ _ _ _ _ c.in-Ok.said.answer c.in-Ok.ensures (rw c.deref.ensures.value at c.print-status.ensures) still)

pub returns-clause-checks : goal.returns-clause-checks
returns-clause-checks g c = λ p calm still. inr (checks_of _ _ _ _ _ _ _ calm p _ _ _ _ _ c.in-Ok.said.answer c.in-Ok.ensures (rw c.deref.ensures.value at c.print-status.ensures) still)

pub returns-clause-shows : goal.returns-clause-shows
returns-clause-shows g c = λ p calm still. inr (shows_of _ _ _ _ _ _ _ calm p _ _ _ _ _ c.in-Ok.said.answer c.in-Ok.ensures (rw c.deref.ensures.value at c.print-status.ensures) still)
