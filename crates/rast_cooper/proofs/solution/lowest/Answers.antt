use Rattle.std.proofs.Common.{arith, ◌++◌, ◌∙◌, ap₂, sym, ◌||◌}
use Rattle.rast_cooper.specs.Eliminate.{has}
use Rattle.rast_cooper.proofs.Ground.{lowest_first, lowest_more, lowest_none, any_append}
use Rattle.rast_cooper.proofs.solution.lowest.Goals as goal

pub loop-x-init : goal.loop-x-init
loop-x-init c = lowest_first (c.args.ls.now ++ c.args.rows.now)

pub loop-x-preserved : goal.loop-x-preserved
loop-x-preserved c =
    lowest_more c.loop-x.x (c.args.ls.now ++ c.args.rows.now) (omega arith) c.loop-x.invariant
    (any_append (has c.loop-x.x) c.args.ls.now c.args.rows.now ∙ ap₂ (λ a b. a || b) (sym c.if-any_has.ensures) (sym c.if-any_has-2.ensures))

pub returns-clause-lowest : goal.returns-clause-lowest
returns-clause-lowest c = lowest_none c.loop-x.x (c.args.ls.now ++ c.args.rows.now) (omega arith) c.loop-x.invariant
