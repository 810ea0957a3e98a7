use Rattle.std.proofs.Common.{◌∙◌, None, Some, refl, sym}
use Rattle.rast_made.specs.Made.{visited}
use Rattle.rast_made.proofs.Passing.{few_visit, puts_true, visit_more, visit_stop}
use Rattle.rast_made.proofs.places.visit_all.Goals as goal

pub returns-in-None : goal.returns-in-None
returns-in-None c =
    visit_stop c.args.program.now c.args.nodes.now c.loop-i.i c.index-nodes-i.result c.loop-i-test.true c.index-nodes-i.is c.loop-i.places None _ (sym c.place_of.ensures ∙ c.in-None.is) refl c.loop-i.invariant.puts

pub loop-i-preserved : goal.loop-i-preserved
loop-i-preserved c =
    let g = c.args.program.now in
    let i = c.loop-i.i in
    let s = c.loop-i.places in
    let nd = c.index-nodes-i.result in
    let t = c.visit.new.places in
    let there = sym c.place_of.ensures ∙ c.in-Some.is in
    let e = puts_true c.in_ok-visit-in-Some.field-0 t (visited g s (Some c.in-Some.scope) nd) c.in_ok-visit-in-Some.ensures c.if-not-branch.false in
    record {
      few = few_visit g i s c.in-Some.scope nd t c.loop-i.invariant.few there e;
      puts = visit_more g c.args.nodes.now i nd c.loop-i-test.true c.index-nodes-i.is s (Some c.in-Some.scope) t _ there e c.loop-i.invariant.puts;
    }
