use Rattle.std.proofs.Common.{◌≡◌, length, ap, ◌∙◌, sym, subst}
use Rattle.std.proofs.lemmas.Int.{to_z-of_z}
use mir.Val.{SFits}
use mir.Syntax.{w128}
use Rattle.rast_cooper.specs.Arithmetic.{Linear, is_bounded, added, times, shifted}
use Rattle.rast_cooper.specs.Answer.{FitsSome}
use Rattle.rast_cooper.proofs.Terms.{times_is}
use Rattle.rast_cooper.proofs.term.Term.times.Goals as goal

pub returns : goal.returns
returns c =
    let n : length c.args.self.now.coefficients ≡ 16 = ap (λ (l : Linear). length l.coefficients) (sym c.self.view_is) ∙ c.self.told in
    let k : SFits w128 c.args.k = c.ranges.k in
    let h = simp to_z-of_z at c.and_times.ensures in
    let e = ap (λ m. added m (times c.args.k (shifted 0 c.args.self.now))) c.nought.ensures ∙ times_is c.args.k c.args.self.now n in
    subst (λ l. FitsSome is_bounded l c.and_times.result) e h
