use Rattle.std.proofs.Common.{Some, subst}
use Rattle.std.specs.Prelude.{slice_get}
use Rattle.rast_core.specs.Handles.{rest}
use Rattle.rast_core.specs.Looks.{IsNextAt}
use Rattle.rast_core.specs.declared.answer.Next.{Next}
use Rattle.rast_core.proofs.LookLemmas.{ready_at, halted_at, calm_at, message_at}
use Rattle.rast_core.proofs.config.Config.ahead_at.Goals as goal

pub returns-in-Ready : goal.returns-in-Ready
returns-in-Ready c =
    let x = slice_get (rest c.args.self.now c.args.handle) 0 in
    ready_at c.args.program.now c.args.self.now x c.in-Some.pid c.in-Ready.field-0 (subst (λ (r : Next). IsNextAt c.args.program.now c.args.self.now x (Some (c.in-Some.pid, r))) c.in-Ready.is c.in-Some.ensures)

pub returns-in-Halted : goal.returns-in-Halted
returns-in-Halted c =
    let x = slice_get (rest c.args.self.now c.args.handle) 0 in
    halted_at c.args.program.now c.args.self.now x c.in-Some.pid c.in-Halted.value (subst (λ (r : Next). IsNextAt c.args.program.now c.args.self.now x (Some (c.in-Some.pid, r))) c.in-Halted.is c.in-Some.ensures)

pub returns-in_default : goal.returns-in_default
returns-in_default c = calm_at c.args.program.now c.args.self.now (slice_get (rest c.args.self.now c.args.handle) 0) c.in-Some.pid c.in-Some.next c.in-Some.ensures c.in_default.not-Ready c.in_default.not-Halted

pub returns-in-None : goal.returns-in-None
returns-in-None c = message_at c.args.program.now c.args.self.now (slice_get (rest c.args.self.now c.args.handle) 0) c.in-None.ensures
