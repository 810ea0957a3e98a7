use Rattle.std.proofs.Common.{ap, sym, ◌∙◌, subst, drop, Some, None, Option}
use Rattle.rast_core.specs.Words.{Item, Proc}
use Rattle.rast_core.specs.Shown.{next_of}
use Rattle.rast_core.specs.Handles.{rest}
use Rattle.rast_core.specs.Looks.{IsNextAt}
use Rattle.rast_core.proofs.HandleLemmas.{first_there, stands_there}
use Rattle.rast_core.proofs.LookLemmas.{tells_by}
use Rattle.rast_core.proofs.config.Config.next_at.Goals as goal

pub decided_at-requires-clause-at : goal.decided_at-requires-clause-at
decided_at-requires-clause-at c =
    let v = c.args.self.now in
    stands_there v c.args.handle c.get.result.now (drop 1 (rest v c.args.handle)) c.get.ensures ∙ ap Some c.in-Proc.is

pub returns-in-Proc : goal.returns-in-Proc
returns-in-Proc c =
    let p = c.in-Proc.proc in
    let v = c.args.self.now in
    subst (λ (o : Option Item). IsNextAt c.args.program.now v o (Some (c.proc.inside.pid, c.told.result))) (sym (first_there v c.args.handle c.get.result.now _ c.get.ensures c.in-Proc.is))
    (ap (λ (q : Proc). q.pid) c.proc.view_is, tells_by (next_of c.args.program.now v p.pid) v.items c.args.handle.place c.decided_at.result c.told.result c.decided_at.ensures c.told.ensures)

pub returns-in-Msg : goal.returns-in-Msg
returns-in-Msg c =
    let v = c.args.self.now in
    subst (λ (o : Option Item). IsNextAt c.args.program.now v o None) (sym (first_there v c.args.handle c.get.result.now _ c.get.ensures c.in-Msg.is)) tt
