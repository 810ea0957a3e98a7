use Rattle.std.proofs.Common.{◌+◌, ◌≤◌, subst}
use Rattle.rast_core.specs.Shown.{code_of, next_of}
use Rattle.rast_core.specs.Edits.{Decides, IsStepEdit}
use Rattle.rast_core.specs.declared.decision.Decision.{Decision}
use Rattle.rast_core.specs.Words.{Event}
use Rattle.rast_items.specs.Items.{held}
use Rattle.rast_items.specs.Run.{work_by}
use Rattle.rast_core.proofs.RunLemmas.{ready_same}
use Rattle.rast_core.proofs.ConfigLemmas.{leaves_by}
use Rattle.rast_core.proofs.config.Config.do_next.Goals as goal

pub perform-requires-clause-step : goal.perform-requires-clause-step
perform-requires-clause-step c =
    let old = c.args.self.now in
    record { code = code_of c.args.program.now old; pid = c.args.pid; event = c.in-Does.event; decides = subst (λ (r : Decision). Decides (next_of c.args.program.now old c.args.pid) old.items c.in-Some.place r) c.in-Does.is c.in-Some.ensures.1 }

pub returns-in-Does-clause-step : goal.returns-in-Does-clause-step
returns-in-Does-clause-step c =
    let old = c.args.self.now in
    leaves_by old c.perform.new.self c.in-Some.place c.in-Does.event c.in-Does.edit c.in-Does.child (next_of c.args.program.now old c.args.pid)
    (subst (λ (r : Decision). Decides (next_of c.args.program.now old c.args.pid) old.items c.in-Some.place r) c.in-Does.is c.in-Some.ensures.1) c.perform.ensures.items c.perform.ensures.origins c.perform.ensures.plan c.perform.ensures.spare

pub returns-in-Does-clause-potential : goal.returns-in-Does-clause-potential
returns-in-Does-clause-potential c = λ e h.
    let old = c.args.self.now in
    let k : IsStepEdit old c.in-Some.place c.in-Does.edit c.in-Does.child = record { code = code_of c.args.program.now old; pid = c.args.pid; event = c.in-Does.event; decides = subst (λ (r : Decision). Decides (next_of c.args.program.now old c.args.pid) old.items c.in-Some.place r) c.in-Does.is c.in-Some.ensures.1 } in
    subst (λ (x : Event). work_by x + held c.perform.new.self.items ≤ held old.items) (ready_same c.in-Does.event e h) (c.perform.ensures.potential k)
