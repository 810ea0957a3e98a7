use Rattle.std.proofs.Common.{◌<◌, ◌*◌, ◌/◌, ap, ◌∙◌, sym, subst, ℕ}
use Rattle.rast_cooper.specs.Arithmetic.{at_most}
use Rattle.rast_cooper.specs.Answer.{FitsSome}
use Rattle.rast_cooper.proofs.Multiples.{gcd_above, lcm_at}
use Rattle.rast_cooper.proofs.divisor.lcm.Goals as goal

pub nonzero_div-a : goal.nonzero_div-a
nonzero_div-a c = subst (λ (n : ℕ). 0 < n) (sym c.gcd.ensures) (gcd_above c.args.a c.args.b c.requires)

pub returns : goal.returns
returns c = subst (λ (n : ℕ). FitsSome at_most n c.bounded_product.result) (ap (λ n. c.args.a / n * c.args.b) c.gcd.ensures ∙ sym (lcm_at c.args.a c.args.b)) c.bounded_product.ensures
