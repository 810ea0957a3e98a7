-- The literals and rows that are ready for a test, where their numbers are bounded.
use Rattle.std.proofs.Common.{◌≡◌, ℕ, ◌<◌, ◌≤◌, arith, pos, replicate, Bool, true, false, ◌&&◌, List, [], ◌∷◌, ◌++◌, map, sym, ◌∙◌, ap, ap₂, refl, subst}
use Rattle.rast_cooper.specs.declared.literal.Literal.{Literal}
use Rattle.rast_cooper.specs.declared.literal.Sort.TheVariants.{Multiple}
use Rattle.rast_cooper.specs.declared.rewrite.Prepared.{Prepared}
use Rattle.rast_cooper.specs.Arithmetic.{at_most, is_bounded, variable}
use Rattle.rast_cooper.specs.Meaning.{literal}
use Rattle.rast_cooper.specs.Eliminate.{common, common_over, period, scaled, without_equations, prepared_by, Positive}
use Rattle.rast_cooper.specs.Search.{in_bounds, all_in_bounds, test, test_by, fit}
use Rattle.rast_cooper.proofs.Multiples.{common_append, common_above, common_start, at_most_false}
use Rattle.rast_cooper.proofs.Lists.{all_append}
use Rattle.rast_cooper.proofs.Terms.{is_true, and_true, put_bounded}
use Rattle.rast_cooper.proofs.Test.{variable_is, positive_ready}
use Rattle.rast_cooper.proofs.Multiples.{common_fits}
use Rattle.rast_cooper.proofs.Steps.{fit_split}

variable_bounded : (x : ℕ) → is_bounded (variable x) ≡ true
variable_bounded x = ap is_bounded (variable_is x) ∙ is_true _ (put_bounded (pos 0) (replicate 16 (pos 0)) x (pos 1) refl refl)

-- ---- the least common multiple, row by row first
pub least_is : (x : ℕ) (ls rows : List Literal) → common x (ls ++ rows) ≡ common_over x ls (common_over x rows 1)
least_is x ls rows = common_append x ls rows 1

pub least_fails : (x : ℕ) (ls rows : List Literal) → at_most (common_over x rows 1) ≡ false → at_most (common x (ls ++ rows)) ≡ false
least_fails x ls rows e = at_most_false (common_over x rows 1) (common x (ls ++ rows)) e
    (subst (λ n. common_over x rows 1 ≤ n) (sym (least_is x ls rows)) (common_start x ls (common_over x rows 1) (common_above x rows 1 (omega arith))))

-- ---- the multiplied literals and the last one
pub multiples_fail : (x l : ℕ) (ls : List Literal) → all_in_bounds (map (scaled x l) ls) ≡ false → all_in_bounds (prepared_by x l ls) ≡ false
multiples_fail x l ls e = all_append (map (scaled x l) ls) (literal Multiple l (variable x) ∷ []) ∙ ap (λ b. b && all_in_bounds (literal Multiple l (variable x) ∷ [])) e

pub multiples_fit : (x l : ℕ) (ls : List Literal) → at_most l ≡ true → all_in_bounds (map (scaled x l) ls) ≡ true → all_in_bounds (prepared_by x l ls) ≡ true
multiples_fit x l ls h e =
    let last : in_bounds (literal Multiple l (variable x)) ≡ true = ap₂ (λ a b. a && b) h (variable_bounded x) in
    all_append (map (scaled x l) ls) (literal Multiple l (variable x) ∷ []) ∙ ap₂ (λ a b. a && (b && true)) e last

module _ (x : ℕ) (ls rows : List Literal) where
  abbrev pub split : List Literal
  split = without_equations x ls

  abbrev pub least : ℕ
  least = common x (split ++ rows)

  abbrev pub ready : List Literal
  ready = prepared_by x least split

  test_is : test x ls rows ≡ test_by x least split rows
  unfolding test
  test_is = refl

  two : (a b : Bool) → b ≡ false → (a && b) ≡ false
  two true b e = e
  two false b e = refl

  one : (a b : Bool) → a ≡ false → (a && b) ≡ false
  one a b e = ap (λ c. c && b) e

  pub fails_least : at_most least ≡ false → fit (test x ls rows) ≡ false
  fails_least e = ap fit test_is ∙ one (at_most least) _ e

  pub fails_period : at_most (period x ready) ≡ false → fit (test x ls rows) ≡ false
  fails_period e = ap fit test_is ∙ two (at_most least) _ (one (at_most (period x ready)) _ e)

  pub fails_literals : all_in_bounds ready ≡ false → fit (test x ls rows) ≡ false
  fails_literals e = ap fit test_is ∙ two (at_most least) _ (two (at_most (period x ready)) _ (one (all_in_bounds ready) _ e))

  pub fails_rows : all_in_bounds (map (scaled x least) rows) ≡ false → fit (test x ls rows) ≡ false
  fails_rows e = ap fit test_is ∙ two (at_most least) _ (two (at_most (period x ready)) _ (two (all_in_bounds ready) _ e))

  pub fits_test : (p : ℕ) (l : ℕ) (made rs : List Literal) → l ≡ least → p ≡ period x ready → made ≡ ready → rs ≡ map (scaled x least) rows →
      at_most least ≡ true → at_most (period x ready) ≡ true → all_in_bounds ready ≡ true → all_in_bounds (map (scaled x least) rows) ≡ true →
      (record { common = l; period = p; literals = made; rows = rs } ≡ test x ls rows) × (fit (test x ls rows) ≡ true)
  fits_test p l made rs el ep em er h k m n = (
    ap₂ (λ u v. record { common = u; period = v; literals = made; rows = rs }) el ep ∙ ap₂ (λ u v. record { common = least; period = period x ready; literals = u; rows = v }) em er ∙ sym test_is,
    ap fit test_is ∙ ap₂ (λ a b. a && b) h (ap₂ (λ a b. a && b) k (ap₂ (λ a b. a && b) m n)),
  )

  pub positive_prepared : x < 16 → Positive ls → Positive ready
  positive_prepared h p = let facts = common_fits x (split ++ rows) in positive_ready x h ls p least (facts.0, (fit_split x least split rows facts.1).0)

-- ---- what a fitting test says
pub fit_parts : (t : Prepared) → fit t ≡ true → (at_most t.period ≡ true) × (all_in_bounds t.literals ≡ true) × (all_in_bounds t.rows ≡ true)
fit_parts t e =
    let a = and_true (at_most t.common) _ e in
    let b = and_true (at_most t.period) _ a.1 in
    let c = and_true (all_in_bounds t.literals) _ b.1 in
    (b.0, c.0, c.1)

pub literals_of : (x : ℕ) (ls rows : List Literal) → (test x ls rows).literals ≡ ready x ls rows
unfolding test
literals_of x ls rows = refl
