use Rattle.std.proofs.Common.{◌≡◌, ◌+◌, ◌-◌, arith, ap, sym, ◌∙◌, subst, List, [], ◌∷◌, take, Bool, true, false, ◌&&◌, refl}
use Rattle.rast_cooper.specs.declared.literal.Literal.{Literal}
use Rattle.rast_cooper.specs.declared.explore.Course.{Course}
use Rattle.rast_cooper.specs.declared.explore.Course.TheVariants.{Done, TooMany}
use Rattle.rast_cooper.specs.declared.rewrite.Prepared.{Prepared}
use Rattle.rast_cooper.specs.Arithmetic.{shifted}
use Rattle.rast_cooper.specs.Course.{Explores, IsAtMost, continued}
use Rattle.rast_cooper.specs.Eliminate.{Positive, at_point, bounds}
use Rattle.rast_cooper.specs.Search.{State, state, all_in_bounds, settled, first_solved, run, after, test, fit, point_states, bound_states}
use Rattle.rast_cooper.proofs.Fits.{none_fits, some_fits, ok_map}
use Rattle.rast_cooper.proofs.Lists.{bounded_varied}
use Rattle.rast_cooper.proofs.Steps.{positive_varied}
use Rattle.rast_cooper.proofs.Test.{positive_put}
use Rattle.rast_cooper.proofs.PreparedFits.{fit_parts, literals_of, positive_prepared}
use Rattle.rast_cooper.proofs.Courses.{explores_over, explores_ended, explores_settled, explores_broken, is_end, at_most_trans, points_done, points_stopped, bounds_same, bounds_done, bounds_stopped}
use Rattle.rast_cooper.proofs.Moderate.{point_ended}
use Rattle.rast_cooper.proofs.explore.+explore.Goals as goal

-- ---- explore
pub explore-returns-then-left-eq0-clause-course : goal.explore-returns-then-left-eq0-clause-course
explore-returns-then-left-eq0-clause-course t c =
    let z : 0 ≡ c.args.left = omega arith in
    subst (λ n. Explores n (state [] c.args.ls.now c.args.rows.now ∷ []) TooMany) z (explores_over (state [] c.args.ls.now c.args.rows.now))

pub explore-returns-then-any_fails-clause-course : goal.explore-returns-then-any_fails-clause-course
explore-returns-then-any_fails-clause-course t c =
    explores_ended c.args.left c.args.ls.now c.args.rows.now c.requires.literals c.requires.rows (sym c.if-any_fails.ensures) (omega arith)

pub explore-bare-requires : goal.explore-bare-requires
explore-bare-requires t c =
    let e = c.as_slice.ensures ∙ c.in_ok-kept.ensures in (
      omega arith,
      (
        subst (λ (ls : List Literal). all_in_bounds ls ≡ true) (sym e) (bounded_varied c.args.ls.now c.requires.literals),
        (
          c.requires.rows,
          subst Positive (sym e) (positive_varied c.args.ls.now c.requires.divisors),
        ),
      ),
    )

pub explore-returns-clause-course : goal.explore-returns-clause-course
explore-returns-clause-course t c =
    let e = c.as_slice.ensures ∙ c.in_ok-kept.ensures in
    ok_map c.bare.result _ (Explores c.args.left (state [] c.args.ls.now c.args.rows.now ∷ []))
    (λ r h. explores_settled c.args.left c.args.ls.now c.args.rows.now r c.requires.literals c.requires.rows (sym c.if-any_fails.ensures) (omega arith)
    (subst (λ (ls : List Literal). (ss : List State) → after (run (c.args.left - 1)) (settled (first_solved ls) ls c.args.rows.now) (state [] ls c.args.rows.now) ss ≡ continued r ss) e h))
    c.bare.ensures.course

-- ---- replace
two_false : (a b : Bool) → b ≡ false → (a && b) ≡ false
two_false true b e = e
two_false false b e = refl

pub replace-returns-in_default-clause-course : goal.replace-returns-in_default-clause-course
replace-returns-in_default-clause-course t c =
    let n = none_fits all_in_bounds (at_point c.args.x c.args.term.now c.args.more c.args.ls.now) c.in_ok-literals.field-0 c.in_ok-literals.ensures c.in_default.not-Some in
    subst (λ (r : Course). Explores c.args.left (state [] (at_point c.args.x c.args.term.now c.args.more c.args.ls.now) (at_point c.args.x c.args.term.now c.args.more c.args.rows.now) ∷ []) r) (sym c.broken.ensures)
    (explores_broken c.args.left _ (ap (λ b. b && all_in_bounds (at_point c.args.x c.args.term.now c.args.more c.args.rows.now)) n))

pub replace-returns-in_default-2-clause-course : goal.replace-returns-in_default-2-clause-course
replace-returns-in_default-2-clause-course t c =
    let n = none_fits all_in_bounds (at_point c.args.x c.args.term.now c.args.more c.args.rows.now) c.in_ok-rows.field-0 c.in_ok-rows.ensures c.in_default-2.not-Some in
    subst (λ (r : Course). Explores c.args.left (state [] (at_point c.args.x c.args.term.now c.args.more c.args.ls.now) (at_point c.args.x c.args.term.now c.args.more c.args.rows.now) ∷ []) r) (sym c.broken-in_default-2.ensures)
    (explores_broken c.args.left _ (two_false (all_in_bounds (at_point c.args.x c.args.term.now c.args.more c.args.ls.now)) _ n))

pub replace-explore-requires : goal.replace-explore-requires
replace-explore-requires t c =
    let s = some_fits all_in_bounds (at_point c.args.x c.args.term.now c.args.more c.args.ls.now) c.in-Some.literals c.in_ok-literals.field-0 c.in_ok-literals.ensures c.in-Some.is in
    let r = some_fits all_in_bounds (at_point c.args.x c.args.term.now c.args.more c.args.rows.now) c.in-Some-2.rows c.in_ok-rows.field-0 c.in_ok-rows.ensures c.in-Some-2.is in
    let e = c.as_slice.ensures ∙ s.0 in
    let f = c.as_slice-2.ensures ∙ r.0 in (
      omega arith,
      (
        subst (λ (ls : List Literal). all_in_bounds ls ≡ true) (sym e) s.1,
        (
          subst (λ (ls : List Literal). all_in_bounds ls ≡ true) (sym f) r.1,
          subst Positive (sym e) (positive_put c.args.x (shifted c.args.more c.args.term.now) c.args.ls.now c.requires.divisors),
        ),
      ),
    )

-- ---- point
pub point-returns-then-left-eq0-clause-course : goal.point-returns-then-left-eq0-clause-course
point-returns-then-left-eq0-clause-course t c =
    let z : 0 ≡ c.args.left = omega arith in
    subst (λ n. Explores n (state [] (at_point c.args.x c.args.term.now c.args.more c.args.ls.now) (at_point c.args.x c.args.term.now c.args.more c.args.rows.now) ∷ []) TooMany) z
    (explores_over (state [] (at_point c.args.x c.args.term.now c.args.more c.args.ls.now) (at_point c.args.x c.args.term.now c.args.more c.args.rows.now)))

pub point-returns-then-ends-clause-course : goal.point-returns-then-ends-clause-course
point-returns-then-ends-clause-course t c =
    let e = c.ends.ensures in
    let h = c.if-ends.true in
    point_ended c.args.left c.args.x c.args.term.now c.args.more c.args.ls.now c.args.rows.now c.requires.literals c.requires.rows (e.term h) (e.near h) (c.requires.moderate (e.given h)) (e.fails h) (omega arith)

-- ---- test
pub test-bounds-requires : goal.test-bounds-requires
test-bounds-requires t c =
    let s = some_fits fit (test c.args.x c.args.ls.now c.args.rows.now) c.in-Some.ready c.in_ok-ready.field-0 c.in_ok-ready.ensures c.in-Some.is in
    let p = fit_parts c.in-Some.ready (ap fit s.0 ∙ s.1) in
    let e = c.as_slice-literals.ensures in
    let f = c.as_slice-rows.ensures in (
      omega arith,
      (
        c.requires.variable,
        (
          p.0,
          (
            subst (λ (ls : List Literal). all_in_bounds ls ≡ true) (sym e) p.1,
            (
              subst (λ (ls : List Literal). all_in_bounds ls ≡ true) (sym f) p.2,
              (
                subst Positive (sym (e ∙ ap (λ (r : Prepared). r.literals) s.0 ∙ literals_of c.args.x c.args.ls.now c.args.rows.now)) (positive_prepared c.args.x c.args.ls.now c.args.rows.now c.requires.variable c.requires.divisors),
                c.both_moderate-moderate.ensures,
              ),
            ),
          ),
        ),
      ),
    )

-- ---- bounds
pub bounds-loop-lit-preserved-then-not-is_lower : goal.bounds-loop-lit-preserved-then-not-is_lower
bounds-loop-lit-preserved-then-not-is_lower t c = record {
  course = subst (λ bs. Explores c.args.most (bound_states c.args.x bs c.args.period c.args.ls.now c.args.rows.now) (Done c.loop-lit.left))
      (sym (bounds_same c.args.x c.args.ls.now c.loop-lit.lit-index c.lit-item.result (omega arith) c.lit-item.is (sym c.if-not-is_lower.ensures))) c.loop-lit.invariant.course;
  at_most = c.loop-lit.invariant.at_most;
}

pub bounds-returns-in_default : goal.bounds-returns-in_default
bounds-returns-in_default t c = record {
  course = bounds_stopped c.args.most c.loop-lit.left c.args.x c.args.period c.args.ls.now c.args.rows.now c.loop-lit.lit-index c.lit-item.result c.bound-bound.result (omega arith) c.lit-item.is
      (sym c.if-not-is_lower.ensures) c.bound-bound.ensures c.loop-lit.invariant.course c.in_ok-end.end c.in_ok-end.ensures.course (is_end c.in_ok-end.end c.in_default.not-Done);
  at_most = at_most_trans c.loop-lit.left c.args.most c.in_ok-end.end c.loop-lit.invariant.at_most c.in_ok-end.ensures.at_most;
}

pub bounds-loop-lit-preserved : goal.bounds-loop-lit-preserved
bounds-loop-lit-preserved t c =
    let d = bounds_done c.args.most c.loop-lit.left c.args.x c.args.period c.args.ls.now c.args.rows.now c.loop-lit.lit-index c.lit-item.result c.bound-bound.result (omega arith) c.lit-item.is
    (sym c.if-not-is_lower.ensures) c.bound-bound.ensures c.loop-lit.invariant.course c.in_ok-end.end c.in_ok-end.ensures.course in
    let m = at_most_trans c.loop-lit.left c.args.most c.in_ok-end.end c.loop-lit.invariant.at_most c.in_ok-end.ensures.at_most in
    record {
      course = subst (λ (r : Course). Explores c.args.most (bound_states c.args.x (bounds c.args.x (take (c.loop-lit.lit-index + 1) c.args.ls.now)) c.args.period c.args.ls.now c.args.rows.now) r) c.in-Done.is d;
      at_most = subst (IsAtMost c.args.most) c.in-Done.is m;
    }

-- ---- points
pub points-returns-in_default : goal.points-returns-in_default
points-returns-in_default t c = record {
  course = points_stopped c.args.most c.loop-j.left c.args.x c.args.bound.now c.loop-j.j c.args.period c.args.ls.now c.args.rows.now (omega arith) c.loop-j.invariant.course c.in_ok-end.end c.in_ok-end.ensures.course (is_end c.in_ok-end.end c.in_default.not-Done);
  at_most = at_most_trans c.loop-j.left c.args.most c.in_ok-end.end c.loop-j.invariant.at_most c.in_ok-end.ensures.at_most;
}

pub points-loop-j-preserved : goal.points-loop-j-preserved
points-loop-j-preserved t c =
    let d = points_done c.args.most c.loop-j.left c.args.x c.args.bound.now c.loop-j.j c.args.period c.args.ls.now c.args.rows.now (omega arith) c.loop-j.invariant.course c.in_ok-end.end c.in_ok-end.ensures.course in
    let m = at_most_trans c.loop-j.left c.args.most c.in_ok-end.end c.loop-j.invariant.at_most c.in_ok-end.ensures.at_most in
    record {
      course = subst (λ (r : Course). Explores c.args.most (point_states c.args.x c.args.bound.now 0 (c.loop-j.j + 1) c.args.ls.now c.args.rows.now) r) c.in-Done.is d;
      at_most = subst (IsAtMost c.args.most) c.in-Done.is m;
    }
