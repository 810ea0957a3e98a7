use Rattle.rast_check.specs.Walk.{waiting_questions}
use Rattle.rast_check.proofs.Visiting.{others_placed, walk_leads, walk_stops}
use Rattle.rast_check.proofs.walk.check_below.Goals as goal

pub visit-requires-clause-others : goal.visit-requires-clause-others
visit-requires-clause-others c = others_placed c.args.program.now c.loop-waiting.stack c.pop.new.self c.in-Some.waiting c.loop-waiting.invariant.placed c.in-Some.ensures

pub loop-waiting-preserved : goal.loop-waiting-preserved
loop-waiting-preserved c =
    record {
      leads = walk_leads c.args.program.now (waiting_questions c.args.program.now c.args.first) c.loop-waiting.stack c.pop.new.self c.visit.new.stack c.in-Some.waiting c.loop-waiting.invariant.leads c.in-Some.ensures c.in_ok-visit.ensures;
      placed = c.in_ok-visit.ensures.placed;
    }

pub returns-in_err-visit : goal.returns-in_err-visit
returns-in_err-visit c =
    walk_stops c.args.program.now (waiting_questions c.args.program.now c.args.first) c.loop-waiting.stack c.pop.new.self c.in-Some.waiting c.in_err-visit.field-0.0 c.from_residual-in_err-visit.result
    c.loop-waiting.invariant.leads c.in-Some.ensures c.from_residual-in_err-visit.ensures.1 c.in_err-visit.ensures
