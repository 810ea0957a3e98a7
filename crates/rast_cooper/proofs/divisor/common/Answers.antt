use Rattle.std.proofs.Common.{◌≡◌, ◌-◌, ◌+◌, drop, ap, ◌∙◌, sym, arith, unsigned_abs}
use Rattle.std.proofs.lemmas.Int.{to_z-of_z}
use mir.Val.{SFits}
use mir.Syntax.{w128}
use Rattle.std.proofs.Common.{rules}
use Rattle.rast_cooper.specs.Eliminate.{common_over}
use Rattle.rast_cooper.proofs.Multiples.{common_fails}
use Rattle.rast_cooper.proofs.divisor.common.Goals as goal

pub returns-in-None : goal.returns-in-None
returns-in-None c =
    let f : SFits w128 c.coefficient_of.result = search rules in
    let a = c.unsigned_abs.ensures.value ∙ ap unsigned_abs (to_z-of_z w128 _ f ∙ c.coefficient_of.ensures) in
    let same : c.loop-i.i ≡ c.loop-i.i - 1 + 1 = omega arith in
    common_fails c.args.x c.args.ls.now c.args.start (c.loop-i.i - 1) c.index-ls-i.result c.unsigned_abs.result c.loop-i.l c.requires.above (omega arith) c.index-ls-i.is (sym c.if-has.ensures) a
    (c.loop-i.invariant.value ∙ ap (λ n. common_over c.args.x (drop n c.args.ls.now) c.args.start) same) c.in-None.ensures
