use Rattle.std.proofs.Common.{Option, subst}
use Rattle.rast_core.specs.Handles.{rest_of}
use Rattle.rast_core.specs.declared.handle.Handle.{Handle}
use Rattle.rast_core.proofs.HandleLemmas.{lies_there}
use Rattle.rast_report.proofs.Finding.{FindsWith, pass_goes_on}
use Rattle.rast_report.proofs.providers.Providers.of.Goals as goal

pub loop-at-preserved : goal.loop-at-preserved
loop-at-preserved c =
    let v = c.args.config.now in
    let h = c.in-Some.handle in
    let lies = lies_there v c.loop-at.at h c.in-Some.is c.loop-at.invariant.1 in
    let kept = subst (λ (o : Option Handle). FindsWith c.loop-at.table v (rest_of v o)) c.in-Some.is c.loop-at.invariant.0 in
    (pass_goes_on v c.loop-at.table c.note.new.self h c.get.result.now (rest_of v c.after-at.result) lies c.get.ensures c.after-at.ensures.rest c.in_ok-note.ensures kept, c.after-at.ensures.lies)
