use Rattle.std.proofs.Common.{◌+◌, ◌<◌, ◌^◌, ap, arith}
use Rattle.rast_items.specs.Items.{held}
use Rattle.rast_core.proofs.config.Config.held.Goals as goal

pub overflow_add-total : goal.overflow_add-total
overflow_add-total c =
    let e = ap held c.in-Some.ensures.steps in
    let m : c.loop-item.total + c.potential_of-total.result < 2 ^ 32 = omega (arith, c.loop-item.invariant, e, c.potential_of-total.ensures, c.items-item-items.ensures.potential) in
    omega (arith, m)
