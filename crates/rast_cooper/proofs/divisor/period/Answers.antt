use Rattle.std.proofs.Common.{◌≡◌, ◌-◌, ◌+◌, drop, ap, ap₂, ◌∙◌, sym, arith, ◌&&◌}
use Rattle.rast_cooper.specs.Eliminate.{period}
use Rattle.rast_cooper.proofs.Multiples.{period_fails, divisor_above}
use Rattle.rast_cooper.proofs.divisor.period.Goals as goal

pub lcm-requires : goal.lcm-requires
lcm-requires c = divisor_above c.args.ls.now (c.loop-i.i - 1) c.index-ls-i.result c.requires.above (omega arith) c.index-ls-i.is (sym c.if-is_divided.ensures)

pub returns-in-None : goal.returns-in-None
returns-in-None c =
    let same : c.loop-i.i ≡ c.loop-i.i - 1 + 1 = omega arith in
    period_fails c.args.x c.args.ls.now (c.loop-i.i - 1) c.index-ls-i.result c.loop-i.l c.requires.above (omega arith) c.index-ls-i.is (ap₂ (λ a b. a && b) (sym c.if-has.ensures) (sym c.if-is_divided.ensures))
    (c.loop-i.invariant.value ∙ ap (λ n. period c.args.x (drop n c.args.ls.now)) same) c.in-None.ensures
