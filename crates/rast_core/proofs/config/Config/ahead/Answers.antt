use Rattle.rast_core.proofs.LookLemmas.{event_found, ahead_end, is_ahead}
use Rattle.rast_core.proofs.config.Config.ahead.Goals as goal

pub returns-in-Event : goal.returns-in-Event
returns-in-Event c =
    let g = c.args.program.now in
    let v = c.args.self.now in
    is_ahead g v c.earlier-ahead.result
    (event_found g v c.loop-at.ahead c.ahead_at.result c.earlier-ahead.result c.loop-at.at c.in-Some.handle c.in-Event.field-0 c.in-Some.is c.loop-at.invariant.1 c.ahead_at.ensures c.earlier-ahead.ensures c.in-Event.is c.loop-at.invariant.0)

pub returns : goal.returns
returns c =
    let g = c.args.program.now in
    let v = c.args.self.now in
    is_ahead g v c.loop-at.ahead (ahead_end g v c.loop-at.ahead c.loop-at.at c.in_default.not-Some c.loop-at.invariant.0)
