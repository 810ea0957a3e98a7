use Rattle.std.proofs.Common.{◌≡◌, ◌*◌, false, true, ap, ap₂, ◌∙◌, sym, ◌&&◌, Bool, pos, ℕ, refl, rules, arith, ℤ}
use Rattle.std.proofs.lemmas.Int.{to_z-of_z, to_z_pos}
use mir.Val.{SFits, to_z}
use mir.Syntax.{w128}
use Rattle.rast_cooper.specs.Arithmetic.{Linear, at_most, is_bounded, put, times, coefficient}
use Rattle.rast_cooper.specs.Eliminate.{sign, multiplied}
use Rattle.rast_cooper.specs.Search.{in_bounds}
use Rattle.rast_cooper.specs.Meaning.{literal}
use Rattle.rast_cooper.specs.declared.literal.Literal.{Literal}
use Rattle.rast_cooper.proofs.Terms.{put_times, put_times_fails, put_times_fits, sign_bounded}
use Rattle.rast_cooper.proofs.literal.Literal.multiplied.Goals as goal

fails_term : (x k : ℕ) (lit : Literal) → is_bounded (times (pos k) (put x (pos 0) lit.term)) ≡ false → in_bounds (multiplied x k lit) ≡ false
fails_term x k lit e = two (at_most (k * lit.divisor)) _ (put_times_fails x (sign (coefficient lit.term x)) (pos k) lit.term e)
  where
    two : (a b : Bool) → b ≡ false → (a && b) ≡ false
    two true b e = e
    two false b e = refl

fits_term : (x k : ℕ) (lit : Literal) (d : ℕ) (t u : Linear) (s : ℤ) → d ≡ k * lit.divisor → at_most (k * lit.divisor) ≡ true →
    t ≡ times (pos k) (put x (pos 0) lit.term) → is_bounded (times (pos k) (put x (pos 0) lit.term)) ≡ true → u ≡ put x s t → s ≡ sign (coefficient lit.term x) →
    (literal lit.sort d u ≡ multiplied x k lit) × (in_bounds (multiplied x k lit) ≡ true)
fits_term x k lit d t u s e f g h i j =
    let v : u ≡ put x (sign (coefficient lit.term x)) (times (pos k) lit.term) = i ∙ ap₂ (λ z l. put x z l) j g ∙ put_times x (sign (coefficient lit.term x)) (pos k) lit.term in
    (ap₂ (λ n l. literal lit.sort n l) e v, ap₂ (λ a b. a && b) f (put_times_fits x (sign (coefficient lit.term x)) (pos k) lit.term (sign_bounded _) h))

pub returns-in_default-times : goal.returns-in_default-times
returns-in_default-times c =
    let p : to_z w128 c.args.k ≡ pos c.args.k = to_z_pos w128 c.args.k (omega arith) in
    fails_term c.args.x c.args.k c.args.self.now (ap₂ (λ k l. is_bounded (times k l)) (sym p) (sym c.with.ensures) ∙ c.in_default-times.ensures)

pub returns : goal.returns
returns c =
    let p : to_z w128 c.args.k ≡ pos c.args.k = to_z_pos w128 c.args.k (omega arith) in
    let f : SFits w128 c.sign.result = search rules in
    let g : SFits w128 c.coefficient_of.result = search rules in
    let e = ap₂ (λ k l. times k l) p c.with.ensures in
    let s = c.sign.ensures ∙ ap sign (to_z-of_z w128 _ g) ∙ ap sign c.coefficient_of.ensures in
    let u = c.with-2.ensures ∙ ap (λ z. put c.args.x z c.in-Some-times.term) (to_z-of_z w128 _ f) in
    fits_term c.args.x c.args.k c.args.self.now c.in-Some.divisor c.in-Some-times.term c.with-2.result c.sign.result c.in-Some.ensures.0 c.in-Some.ensures.1
    (c.in-Some-times.ensures.0 ∙ e) (sym (ap is_bounded e) ∙ c.in-Some-times.ensures.1) u s
