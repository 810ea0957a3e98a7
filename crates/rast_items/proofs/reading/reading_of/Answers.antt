use Rattle.std.proofs.lemmas.Int.{to_z-of_z}
use mir.Val.{SFits}
use mir.Syntax.{w128}
use Rattle.rast_items.proofs.Readings.{is_negative}
use Rattle.rast_items.proofs.reading.reading_of.Goals as goal

pub returns-then-value-lt0 : goal.returns-then-value-lt0
returns-then-value-lt0 c =
    let f : SFits w128 c.args.value = c.ranges.value in
    is_negative c.args.value (simp to_z-of_z at c.if-value-lt0.true)
