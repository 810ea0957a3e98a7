use Rattle.std.proofs.Common.{◌<◌, arith, sym, ap, ◌∙◌, subst, ℕ}
use Rattle.rast_cooper.specs.Arithmetic.{at_most}
use Rattle.rast_cooper.specs.Answer.{FitsSome}
use Rattle.rast_cooper.specs.Eliminate.{common_over}
use Rattle.rast_cooper.proofs.Multiples.{common_above}
use Rattle.rast_cooper.proofs.PreparedFits.{least_is, least_fails}
use Rattle.rast_cooper.proofs.rewrite.least.Goals as goal

pub common-requires-in-Some-clause-above : goal.common-requires-in-Some-clause-above
common-requires-in-Some-clause-above c = subst (λ n. 0 < n) (sym c.in-Some.ensures.0) (common_above c.args.x c.args.rows.now 1 (omega arith))

pub returns-in-None : goal.returns-in-None
returns-in-None c = least_fails c.args.x c.args.ls.now c.args.rows.now c.in-None.ensures

pub returns-in-Some : goal.returns-in-Some
returns-in-Some c =
    subst (λ (n : ℕ). FitsSome at_most n c.common-in-Some.result) (ap (common_over c.args.x c.args.ls.now) c.in-Some.ensures.0 ∙ sym (least_is c.args.x c.args.ls.now c.args.rows.now)) c.common-in-Some.ensures
