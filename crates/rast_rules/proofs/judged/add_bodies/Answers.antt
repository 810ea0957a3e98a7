use Rattle.std.proofs.Common.{arith}
use Rattle.rast_rules.proofs.Single.{bodies_turn}
use Rattle.rast_rules.proofs.judged.add_bodies.Goals as goal

pub loop-decl-init : goal.loop-decl-init
loop-decl-init c = record { sound = c.requires.old; bodies = λ l d h s. absurd (omega (arith, h)) }

pub loop-decl-preserved : goal.loop-decl-preserved
loop-decl-preserved c =
    let new = c.in_ok-add_body.ensures in
    record { sound = new.sound; bodies = bodies_turn c.args.program.now c.loop-decl.judged c.add_body.new.judged c.loop-decl.decl c.loop-decl.invariant.bodies new.keeps new.here }

pub returns-clause-bodies : goal.returns-clause-bodies
returns-clause-bodies c = λ l d h s. c.loop-decl.invariant.bodies l d (omega (arith, h, c.loop-decl-test.false, c.len-count.ensures)) s
