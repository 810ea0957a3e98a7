use Rattle.std.proofs.Common.{arith, ◌<◌, length}
use Rattle.rast_cooper.specs.Arithmetic.{shifted}
use Rattle.rast_cooper.specs.Eliminate.{substituted}
use Rattle.rast_cooper.proofs.Moderate.{any_at}
use Rattle.rast_cooper.proofs.rewrite.finds_false.Goals as goal
use Rattle.rast_cooper.proofs.rewrite.finds_false.Goals.{then-place-ls, else-place-ls}

pub returns-then-fails_at : goal.returns-then-fails_at
returns-then-fails_at c =
    let h : c.if-place-ls.place < length c.args.ls.now = elim c.if-place-ls.branch [ then-place-ls w ↦ omega arith | else-place-ls w ↦ omega arith ] in
    λ e. any_at (substituted c.args.x (shifted c.args.more c.args.t.now)) c.args.ls.now c.if-place-ls.place c.index-ls-place.result h c.index-ls-place.is (c.fails_at.ensures c.if-fails_at.true)
