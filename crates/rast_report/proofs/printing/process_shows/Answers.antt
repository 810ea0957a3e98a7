use Rattle.std.proofs.Common.{sym, ◌∙◌, ap, true, false, rules}
use Rattle.rast_items.specs.Links.{same_link}
use Rattle.rast_report.proofs.Shows.{process_waits, process_goes}
use Rattle.rast_report.proofs.printing.process_shows.Goals as goal

pub returns-then-is_same : goal.returns-then-is_same
returns-then-is_same c = process_waits c.args.program.now c.args.config.now c.args.proc.now c.proc.inside.pid c.in-Waits.link true (search rules) c.in-Waits.ensures (ap (same_link c.in-Waits.link) (sym c.own.ensures) ∙ sym c.is_same.ensures ∙ c.if-is_same.true)

pub returns-else-is_same : goal.returns-else-is_same
returns-else-is_same c = process_waits c.args.program.now c.args.config.now c.args.proc.now c.proc.inside.pid c.in-Waits.link false (search rules) c.in-Waits.ensures (ap (same_link c.in-Waits.link) (sym c.own.ensures) ∙ sym c.is_same.ensures ∙ c.if-is_same.false)

pub returns-in_default : goal.returns-in_default
returns-in_default c = process_goes c.args.program.now c.args.config.now c.args.proc.now c.proc.inside.pid c.enabled.result (search rules) c.enabled.ensures (search rules)
