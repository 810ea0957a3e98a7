use Rattle.rast_equal.specs.Walk.{left}
use Rattle.rast_equal.proofs.Serving.{brought}
use Rattle.rast_eqfind.specs.Search.{meet_all}
use Rattle.rast_eqfind.proofs.Meeting.{goes_from, walks_next, walks_then}
use Rattle.rast_eqfind.proofs.walk.meet_pairs.Goals as goal

pub returns-in_err-meet_each : goal.returns-in_err-meet_each
returns-in_err-meet_each c =
    let known = c.args.known.now in
    let before = c.loop-pairs.pairs in
    let after = c.next.new.pairs in
    let own = c.as_slice.result.now in
    let b = brought before after c.in_ok-mets.field-0 c.in-Some.mets own c.in_ok-mets.ensures c.in-Some.is c.as_slice.ensures in
    goes_from (meet_all known c.args.search.now (left c.args.pairs)) (meet_all known c.loop-pairs.search own) (λ z. meet_all known z (left after)) c.meet_each.new.search c.meet_each.new.search
    c.in_err-meet_each.field-0.0 c.from_residual-in_err-meet_each.result
    (walks_then known c.args.search.now c.args.pairs c.loop-pairs.search before after own c.loop-pairs.invariant.walks b) c.in_err-meet_each.ensures c.from_residual-in_err-meet_each.ensures.1

pub loop-pairs-preserved : goal.loop-pairs-preserved
loop-pairs-preserved c =
    let known = c.args.known.now in
    let before = c.loop-pairs.pairs in
    let after = c.next.new.pairs in
    let own = c.as_slice.result.now in
    let b = brought before after c.in_ok-mets.field-0 c.in-Some.mets own c.in_ok-mets.ensures c.in-Some.is c.as_slice.ensures in
    record {
      walks = walks_next known c.args.search.now c.args.pairs c.loop-pairs.search c.meet_each.new.search before after own c.loop-pairs.invariant.walks b c.in_ok-meet_each.ensures.0;
      fit = b.parts_fit;
      fit_search = c.in_ok-meet_each.ensures.1;
    }
