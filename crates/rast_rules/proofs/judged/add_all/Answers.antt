use Rattle.std.proofs.Common.{arith}
use Rattle.rast_rules.proofs.Single.{below_turn, all_reached}
use Rattle.rast_rules.proofs.judged.add_all.Goals as goal

pub loop-node-init : goal.loop-node-init
loop-node-init c = record { sound = c.in_ok-add_bodies.ensures.sound; bodies = c.in_ok-add_bodies.ensures.bodies; below = λ p j nd h. absurd (omega (arith, h)) }

pub loop-node-preserved : goal.loop-node-preserved
loop-node-preserved c =
    let g = c.args.program.now in
    let inv = c.loop-node.invariant in
    let new = c.in_ok-add_children.ensures in
    record {
      sound = new.sound;
      bodies = λ l d h s. new.keeps d.body (inv.bodies l d h s);
      below = below_turn g c.requires.forest c.loop-node.judged c.add_children.new.judged c.loop-node.node inv.bodies inv.below new.keeps new.here;
    }

pub returns-clause-whole : goal.returns-clause-whole
returns-clause-whole c = all_reached c.args.program.now c.requires.accepted c.requires.forest c.loop-node.judged c.loop-node.node (omega (arith, c.loop-node-test.false, c.len-count.ensures)) c.loop-node.invariant.bodies c.loop-node.invariant.below
