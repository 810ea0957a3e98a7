use Rattle.std.proofs.Common.{◌≡◌, ◌+◌, ◌<◌, ◌≤◌, length, get_or, pos, arith, rules, ap, ◌∙◌, sym, false, true, subst, set, IsTrue, ℤ}
use Rattle.std.proofs.lemmas.Int.{ints, to_z-of_z}
use mir.Val.{SFits, to_z, of_z}
use mir.Syntax.{w64, w128}
use Rattle.rast_index.specs.Linear.{mixed, small}
use Rattle.rast_types.proofs.Parts.{Made, made_more, made_all, fails_first, fails_at, is_true_of}
use Rattle.rast_types.proofs.wide.narrowed.Goals as goal

pub returns-in_default : goal.returns-in_default
returns-in_default c =
    let f : SFits w128 c.mixed_wide.result = search rules in
    let h : small (to_z w128 (of_z w128 c.mixed_wide.result)) ≡ false = c.in_default.ensures in
    fails_first small (mixed c.args.l.now c.args.args.now) (ap small (sym c.mixed_wide.ensures) ∙ simp to_z-of_z at h)

pub returns-in_default-narrow : goal.returns-in_default-narrow
returns-in_default-narrow c =
    let f : SFits w128 c.mixed_wide-in-loop-j.result = search rules in
    let h : small (to_z w128 (of_z w128 c.mixed_wide-in-loop-j.result)) ≡ false = c.in_default-narrow.ensures in
    fails_at small (mixed c.args.l.now c.args.args.now) c.loop-j.j (omega arith) (ap small (sym c.mixed_wide-in-loop-j.ensures) ∙ simp to_z-of_z at h)

pub loop-j-preserved : goal.loop-j-preserved
loop-j-preserved c =
    let f : SFits w128 c.mixed_wide-in-loop-j.result = search rules in
    let g : SFits w64 c.in-Some-narrow.number = search rules in
    let s = simp to_z-of_z at (c.in-Some-narrow.ensures) in
    let e : c.in-Some-narrow.number ≡ mixed c.args.l.now c.args.args.now (c.loop-j.j + 1) = s.0 ∙ c.mixed_wide-in-loop-j.ensures in
    subst (λ (z : ℤ). Made small (mixed c.args.l.now c.args.args.now) (set c.loop-j.coefficient c.loop-j.j z) (c.loop-j.j + 1)) (sym (to_z-of_z w64 _ g))
    (made_more small (mixed c.args.l.now c.args.args.now) c.loop-j.coefficient c.loop-j.j _ c.loop-j.invariant c.loop-j-test.true e (ap small (sym c.mixed_wide-in-loop-j.ensures) ∙ s.1))

pub invariant_of-result : goal.invariant_of-result
invariant_of-result c =
    let f : SFits w128 c.mixed_wide.result = search rules in
    let g : SFits w64 c.in-Some.constant = search rules in
    let s = simp to_z-of_z at (c.in-Some.ensures) in
    let r = made_all small (mixed c.args.l.now c.args.args.now) c.loop-j.coefficient (to_z w64 (of_z w64 c.in-Some.constant)) c.loop-j.j c.loop-j.invariant c.loop-j-test.false (omega arith) (to_z-of_z w64 _ g ∙ s.0 ∙ c.mixed_wide.ensures) (ap small (sym c.mixed_wide.ensures) ∙ s.1) in
    is_true_of small _ _ r.0 r.1

pub returns : goal.returns
returns c =
    let f : SFits w128 c.mixed_wide.result = search rules in
    let g : SFits w64 c.in-Some.constant = search rules in
    let s = simp to_z-of_z at (c.in-Some.ensures) in
    made_all small (mixed c.args.l.now c.args.args.now) c.loop-j.coefficient _ c.loop-j.j c.loop-j.invariant c.loop-j-test.false (omega arith) (to_z-of_z w64 _ g ∙ s.0 ∙ c.mixed_wide.ensures) (ap small (sym c.mixed_wide.ensures) ∙ s.1)
