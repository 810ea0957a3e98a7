use Rattle.std.proofs.Common.{◌∙◌, sym}
use Rattle.rast_time.proofs.Delays.{next_named, next_free}
use Rattle.rast_time.proofs.ticks.is_timed.Goals as goal

pub returns-in-Some : goal.returns-in-Some
returns-in-Some c = λ n. c.is_next.ensures ∙ sym (next_named c.args.table.now.defs n c.args.ty.now c.in-Some.body.now _ c.in-Some.ensures)

pub returns-in-None : goal.returns-in-None
returns-in-None c = λ n. c.is_next-in-None.ensures ∙ sym (next_free c.args.table.now.defs n c.args.ty.now c.in-None.ensures)
