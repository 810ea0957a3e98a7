use Rattle.std.proofs.Common.{◌∙◌, ap, ap₂, sym, subst, ◌++◌, List, map}
use Rattle.rast_cooper.specs.declared.literal.Literal.{Literal}
use Rattle.rast_cooper.specs.Arithmetic.{at_most}
use Rattle.rast_cooper.specs.Eliminate.{common, prepared_by, scaled, period, Positive}
use Rattle.rast_cooper.specs.Search.{all_in_bounds}
use Rattle.rast_cooper.proofs.Fits.{none_fits, some_fits}
use Rattle.rast_cooper.proofs.PreparedFits.{fails_least, fails_period, fails_literals, fails_rows, fits_test, positive_prepared}
use Rattle.rast_cooper.proofs.rewrite.prepare.Goals as goal

pub returns-in_default : goal.returns-in_default
returns-in_default c =
    let e = c.as_slice.ensures ∙ c.in_ok-split.ensures.made in
    fails_least c.args.x c.args.ls.now c.args.rows.now (ap (λ (ls : List Literal). at_most (common c.args.x (ls ++ c.args.rows.now))) (sym e) ∙ c.in_default.ensures)

pub returns-in_default-2 : goal.returns-in_default-2
returns-in_default-2 c =
    let e = c.as_slice.ensures ∙ c.in_ok-split.ensures.made in
    let l = c.in-Some.ensures.0 ∙ ap (λ (ls : List Literal). common c.args.x (ls ++ c.args.rows.now)) e in
    let f = c.as_slice-2.ensures ∙ c.in_ok-split.ensures.made in
    let h = none_fits all_in_bounds (prepared_by c.args.x c.in-Some.l c.as_slice-2.result.now) c.in_ok-literals.field-0 c.in_ok-literals.ensures c.in_default-2.not-Some in
    fails_literals c.args.x c.args.ls.now c.args.rows.now (ap₂ (λ n (ls : List Literal). all_in_bounds (prepared_by c.args.x n ls)) (sym l) (sym f) ∙ h)

pub returns-in_default-3 : goal.returns-in_default-3
returns-in_default-3 c =
    let e = c.as_slice.ensures ∙ c.in_ok-split.ensures.made in
    let l = c.in-Some.ensures.0 ∙ ap (λ (ls : List Literal). common c.args.x (ls ++ c.args.rows.now)) e in
    let h = none_fits all_in_bounds (map (scaled c.args.x c.in-Some.l) c.args.rows.now) c.in_ok-rows.field-0 c.in_ok-rows.ensures c.in_default-3.not-Some in
    fails_rows c.args.x c.args.ls.now c.args.rows.now (ap (λ n. all_in_bounds (map (scaled c.args.x n) c.args.rows.now)) (sym l) ∙ h)

pub period-requires-clause-above : goal.period-requires-clause-above
period-requires-clause-above c =
    let e = c.as_slice.ensures ∙ c.in_ok-split.ensures.made in
    let l = c.in-Some.ensures.0 ∙ ap (λ (ls : List Literal). common c.args.x (ls ++ c.args.rows.now)) e in
    let f = c.as_slice-2.ensures ∙ c.in_ok-split.ensures.made in
    let s = some_fits all_in_bounds (prepared_by c.args.x c.in-Some.l c.as_slice-2.result.now) c.in-Some-2.literals c.in_ok-literals.field-0 c.in_ok-literals.ensures c.in-Some-2.is in
    subst Positive (sym (c.as_slice-3.ensures ∙ s.0 ∙ ap₂ (λ n (ls : List Literal). prepared_by c.args.x n ls) l f)) (positive_prepared c.args.x c.args.ls.now c.args.rows.now c.requires.variable c.requires.divisors)

pub returns-in-Some-period : goal.returns-in-Some-period
returns-in-Some-period c =
    let e = c.as_slice.ensures ∙ c.in_ok-split.ensures.made in
    let l = c.in-Some.ensures.0 ∙ ap (λ (ls : List Literal). common c.args.x (ls ++ c.args.rows.now)) e in
    let f = c.as_slice-2.ensures ∙ c.in_ok-split.ensures.made in
    let s = some_fits all_in_bounds (prepared_by c.args.x c.in-Some.l c.as_slice-2.result.now) c.in-Some-2.literals c.in_ok-literals.field-0 c.in_ok-literals.ensures c.in-Some-2.is in
    let t = some_fits all_in_bounds (map (scaled c.args.x c.in-Some.l) c.args.rows.now) c.in-Some-3.rows c.in_ok-rows.field-0 c.in_ok-rows.ensures c.in-Some-3.is in
    let m = ap₂ (λ n (ls : List Literal). prepared_by c.args.x n ls) l f in
    let g = c.as_slice-3.ensures ∙ s.0 ∙ m in
    let p = c.in-Some-period.ensures in
    fits_test c.args.x c.args.ls.now c.args.rows.now c.in-Some-period.period c.in-Some.l c.in-Some-2.literals c.in-Some-3.rows l (p.0 ∙ ap (period c.args.x) g) (s.0 ∙ m) (t.0 ∙ ap (λ n. map (scaled c.args.x n) c.args.rows.now) l)
    (ap (λ (ls : List Literal). at_most (common c.args.x (ls ++ c.args.rows.now))) (sym e) ∙ c.in-Some.ensures.1)
    (ap (λ (ls : List Literal). at_most (period c.args.x ls)) (sym g) ∙ p.1)
    (ap all_in_bounds (sym m) ∙ s.1)
    (ap (λ n. all_in_bounds (map (scaled c.args.x n) c.args.rows.now)) (sym l) ∙ t.1)

pub returns : goal.returns
returns c =
    let e = c.as_slice.ensures ∙ c.in_ok-split.ensures.made in
    let l = c.in-Some.ensures.0 ∙ ap (λ (ls : List Literal). common c.args.x (ls ++ c.args.rows.now)) e in
    let f = c.as_slice-2.ensures ∙ c.in_ok-split.ensures.made in
    let s = some_fits all_in_bounds (prepared_by c.args.x c.in-Some.l c.as_slice-2.result.now) c.in-Some-2.literals c.in_ok-literals.field-0 c.in_ok-literals.ensures c.in-Some-2.is in
    let g = c.as_slice-3.ensures ∙ s.0 ∙ ap₂ (λ n (ls : List Literal). prepared_by c.args.x n ls) l f in
    fails_period c.args.x c.args.ls.now c.args.rows.now (ap (λ (ls : List Literal). at_most (period c.args.x ls)) (sym g) ∙ c.in-None.ensures)
