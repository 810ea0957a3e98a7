use Rattle.std.proofs.Common.{◌≡◌, ◌∙◌, sym, subst}
use Rattle.rast_index.specs.Linear.{value, whole}
use Rattle.rast_types.specs.Closed.{exposed, closed}
use Rattle.rast_types.specs.Timely.{IsIndex}
use Rattle.rast_types.proofs.Valued.{arguments_of, ticks_by_values}
use Rattle.rast_types.proofs.timing.arrival.Goals as goal

pub values_of-requires : goal.values_of-requires
values_of-requires c = arguments_of c.args.table.now.defs c.args.ty.now c.in-Some.body.now c.in-Some.args.now (whole c.args.values.now) c.in-Some.ensures c.requires.arguments

pub ticks_at-requires : goal.ticks_at-requires
ticks_at-requires c =
    let at = whole c.args.values.now in
    let e : value c.again.result (whole c.values_of.result) ≡ (exposed c.args.table.now.defs (closed c.args.ty.now at)).ticks =
    ticks_by_values c.args.table.now.defs c.args.ty.now _ _ c.in-Some.args.now at _ _ _ c.in-Some.ensures c.in-Some-next_of.ensures c.again.ensures.same c.again.ensures.sized c.values_of.ensures in
    subst IsIndex (sym e) c.requires.ticks

pub returns-in-Some-next_of : goal.returns-in-Some-next_of
returns-in-Some-next_of c =
    let at = whole c.args.values.now in
    let e : value c.again.result (whole c.values_of.result) ≡ (exposed c.args.table.now.defs (closed c.args.ty.now at)).ticks =
    ticks_by_values c.args.table.now.defs c.args.ty.now _ _ c.in-Some.args.now at _ _ _ c.in-Some.ensures c.in-Some-next_of.ensures c.again.ensures.same c.again.ensures.sized c.values_of.ensures in
    c.ticks_at.ensures ∙ e
