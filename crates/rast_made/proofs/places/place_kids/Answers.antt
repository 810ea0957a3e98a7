use Rattle.std.proofs.Common.{arith, ℕ}
use Rattle.rast_terms.specs.Nodes.{kids}
use Rattle.rast_made.proofs.Passing.{kid_more, kid_stop, place_end}
use Rattle.rast_made.proofs.places.place_kids.Goals as goal

pub returns-then-not-place : goal.returns-then-not-place
returns-then-not-place c =
    kid_stop c.args.scope (kids c.args.node.now) c.loop-index.index c.kid.result c.kid.ensures c.loop-index.places c.place.new.places c.place.result _ c.place.ensures c.loop-index.invariant c.if-not-place.true

pub loop-index-preserved : goal.loop-index-preserved
loop-index-preserved c =
    kid_more c.args.scope (kids c.args.node.now) c.loop-index.index c.kid.result c.kid.ensures c.loop-index.places c.place.new.places c.place.result _ c.place.ensures c.loop-index.invariant c.if-not-place.false

pub returns : goal.returns
returns c =
    place_end (λ (m : ℕ). m) (λ m. c.args.scope) (kids c.args.node.now) c.loop-index.index c.loop-index.places _ (omega (arith, c.loop-index-test.false, c.kid_count-index-end.ensures)) c.loop-index.invariant
