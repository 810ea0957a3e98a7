use Rattle.std.proofs.Common.{rules}
use Rattle.std.proofs.lemmas.Int.{to_z-of_z}
use mir.Val.{SFits}
use mir.Syntax.{w128}
use Rattle.rast_cooper.proofs.Terms.{put_bounded}
use Rattle.rast_cooper.proofs.term.Term.with.Goals as goal

pub invariant_of-result : goal.invariant_of-result
invariant_of-result c =
    let a : SFits w128 c.self.inside.constant = search rules in
    let b : SFits w128 c.args.c = c.ranges.c in
    simp to_z-of_z (put_bounded c.self.inside.constant c.self.inside.coefficient c.args.x c.args.c c.self.invariant c.requires.number)
