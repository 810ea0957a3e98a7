use Rattle.std.proofs.Common.{◌≡◌, ◌≢◌, ℤ, pos, neg_ℤ, List, [], ◌∷◌, map, ◌*ℤ◌, unsigned_abs, ap, ap₂, ◌∙◌, sym, refl, arith}
use Rattle.std.proofs.lemmas.Int.{ints}
use mir.Val.{of_z}
use mir.Syntax.{w128}
use Rattle.rast_cooper.specs.Arithmetic.{Linear, coefficient, put, times}
use Rattle.rast_cooper.proofs.solution.solved.Goals as goal

one_times : (cs : List ℤ) → map (λ c. pos 1 *ℤ c) cs ≡ cs
one_times [] = refl
one_times (c ∷ cs) = ap₂ (λ x xs. x ∷ xs) (omega (arith, ints)) (one_times cs)

times_one : (l : Linear) → times (pos 1) l ≡ l
times_one l = ap₂ (λ z cs. record { constant = z; coefficients = cs }) (let k = l.constant in omega (arith, ints)) (one_times l.coefficients)

turned : (z : ℤ) (l : Linear) → unsigned_abs z ≡ 1 → z ≢ pos 1 → l ≡ times (neg_ℤ z) l
turned z l e h =
    let f : neg_ℤ z ≡ pos 1 = omega (arith, ints, e, h) in
    sym (ap (λ k. times k l) f ∙ times_one l)

pub returns-else-coefficient_of-eq1 : goal.returns-else-coefficient_of-eq1
returns-else-coefficient_of-eq1 c =
    c.with-rest.ensures ∙ turned (coefficient c.args.term.now c.args.x) (put c.args.x (pos 0) c.args.term.now) c.requires.unit
    (λ e. c.if-coefficient_of-eq1.false (ap (of_z w128) (c.coefficient_of.ensures ∙ e)))
