use Rattle.std.proofs.Common.{◌≡◌, pos, arith, rules, ◌+ℤ◌, ◌∙◌}
use Rattle.std.proofs.lemmas.Int.{ints, to_z-of_z}
use mir.Val.{SFits, to_z, of_z}
use mir.Syntax.{w128}
use Rattle.rast_cooper.proofs.Terms.{fails_constant, fails_rest, fits_sum, constant_at_most}
use Rattle.rast_cooper.proofs.term.Term.and_times.Goals as goal

pub returns-in_default : goal.returns-in_default
returns-in_default c =
    let p = constant_at_most c.other.inside.constant c.other.inside.coefficient c.other.invariant in
    let a : SFits w128 c.self.inside.constant = search rules in
    let f : SFits w128 c.args.factor = c.ranges.factor in
    let e : to_z w128 (of_z w128 (to_z w128 (of_z w128 c.other.inside.constant) +ℤ to_z w128 c.args.more)) ≡ c.other.inside.constant +ℤ pos c.args.more = omega (arith, ints, p) in
    fails_constant c.args.self.now c.args.other.now c.self.inside.constant c.other.inside.constant c.self.inside.coefficient c.other.inside.coefficient c.self.view_is c.other.view_is c.args.factor c.args.more
    (simp to_z-of_z at (rw e at c.in_default.ensures))

pub returns-in-Some-combined : goal.returns-in-Some-combined
returns-in-Some-combined c =
    let p = constant_at_most c.other.inside.constant c.other.inside.coefficient c.other.invariant in
    let a : SFits w128 c.self.inside.constant = search rules in
    let f : SFits w128 c.args.factor = c.ranges.factor in
    let g : SFits w128 c.in-Some.constant = search rules in
    let e : to_z w128 (of_z w128 (to_z w128 (of_z w128 c.other.inside.constant) +ℤ to_z w128 c.args.more)) ≡ c.other.inside.constant +ℤ pos c.args.more = omega (arith, ints, p) in
    let h = simp to_z-of_z at (rw e at c.in-Some.ensures) in
    let k = simp to_z-of_z at c.in-Some-combined.ensures in
    fits_sum c.args.self.now c.args.other.now c.self.inside.constant c.other.inside.constant c.self.inside.coefficient c.other.inside.coefficient c.self.view_is c.other.view_is c.args.factor c.args.more
    (to_z w128 (of_z w128 c.in-Some.constant)) c.in-Some-combined.coefficient (to_z-of_z w128 _ g ∙ h.0) h.1 k.0 k.1

pub returns-in-None : goal.returns-in-None
returns-in-None c =
    let f : SFits w128 c.args.factor = c.ranges.factor in
    fails_rest c.args.self.now c.args.other.now c.self.inside.constant c.other.inside.constant c.self.inside.coefficient c.other.inside.coefficient c.self.view_is c.other.view_is c.args.factor c.args.more
    (simp to_z-of_z at c.in-None.ensures)
