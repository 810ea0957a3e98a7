use Rattle.std.proofs.Common.{arith, rules, ap, ◌∙◌, unsigned_abs}
use Rattle.std.proofs.lemmas.Int.{to_z-of_z}
use mir.Val.{SFits}
use mir.Syntax.{w128}
use Rattle.rast_cooper.proofs.Test.{unequal}
use Rattle.rast_cooper.proofs.Ground.{unit_first, unit_more, unit_none}
use Rattle.rast_cooper.proofs.solution.unit.Goals as goal

pub loop-x-init : goal.loop-x-init
loop-x-init c = unit_first c.args.term.now

pub loop-x-preserved : goal.loop-x-preserved
loop-x-preserved c =
    let f : SFits w128 c.coefficient_of.result = search rules in
    let e = c.unsigned_abs.ensures.value ∙ ap unsigned_abs (to_z-of_z w128 _ f ∙ c.coefficient_of.ensures) in
    unit_more c.loop-x.x c.args.term.now (omega arith) c.loop-x.invariant (unequal _ 1 (λ h. c.if-unsigned_abs-eq1.false (e ∙ h)))

pub returns-clause-lowest : goal.returns-clause-lowest
returns-clause-lowest c = unit_none c.loop-x.x c.args.term.now (omega arith) c.loop-x.invariant
