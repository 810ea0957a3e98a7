use Rattle.std.proofs.Common.{◌+◌, ◌∙◌, refl, sym}
use Rattle.rast_eqfind.proofs.Choosing.{still_ends, still_next}
use Rattle.rast_eqfind.proofs.choice.listed.Goals as goal

pub returns-then-not-is_making : goal.returns-then-not-is_making
returns-then-not-is_making c =
    still_ends c.args.first c.args.equations.now c.args.place.now c.args.left.now c.args.right.now c.loop-i.i (c.args.first + c.loop-i.i) c.index-equations-i.result c.in_ok-choice.choice refl
    c.loop-i-test.true c.index-equations-i.is c.loop-i.invariant c.in_ok-choice.ensures (sym c.is_making.ensures ∙ c.if-not-is_making.true)

pub loop-i-preserved : goal.loop-i-preserved
loop-i-preserved c =
    still_next c.args.first c.args.equations.now c.args.place.now c.args.left.now c.args.right.now c.loop-i.i (c.args.first + c.loop-i.i) c.index-equations-i.result c.in_ok-choice.choice refl
    c.loop-i-test.true c.index-equations-i.is c.loop-i.invariant c.in_ok-choice.ensures (sym c.is_making.ensures ∙ c.if-not-is_making.false)
