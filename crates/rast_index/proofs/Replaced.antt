-- Induction on formulas, and the truth of a formula whose variables were replaced.
use Rattle.std.proofs.Common.{◌≡◌, ℤ, Bool, not, ◌&&◌, ◌||◌, List, [], ◌∷◌, map, length, ◌≤◌, ap, ap₂, sym, ◌∙◌, refl, subst}
use Rattle.std.specs.List.{list_all, list_any}
use Rattle.rast_index.specs.Linear.{Linear, value, replaced}
use Rattle.rast_index.specs.Truth.{truth, truth_step, put, put_step, related, divides}
use Rattle.rast_index.proofs.Values.{value_replaced}
use Rattle.rast_index.specs.declared.formula.Formula.{Formula, roll-Formula}
use Rattle.rast_index.specs.declared.formula.Formula.TheVariants as form
use Rattle.rast_index.specs.declared.formula.Formula.TheOpen.{Formula-F, True, False, Rel, Div, Not, And, Or, Imp}
use Rattle.rast_index.specs.declared.formula.Formula.TheFolds.{map-Formula, fold-roll-Formula, ind-Formula}

-- a part of a formula, with a claim on it
abbrev pub Such : (Formula → Type 0) → Type 0
Such P = (f : Formula) × P f

abbrev pub bare : (P : Formula → Type 0) → Formula-F (Such P) → Formula-F Formula
bare P = map-Formula (Such P) Formula (λ e. e.0)

pub induction : (P : Formula → Type 0) → ((y : Formula-F (Such P)) → P (roll-Formula (bare P y))) → (f : Formula) → P f
induction P step = ind-Formula P (λ x y e. subst (λ z. P (roll-Formula z)) e (step y))

pub truth_at : (x : Formula-F Formula) (vs : List ℤ) → truth (roll-Formula x) vs ≡ truth_step (map-Formula Formula (List ℤ → Bool) truth x) vs
truth_at x vs = ap (λ g. g vs) (fold-roll-Formula (List ℤ → Bool) truth_step x)

pub put_at : (args : List Linear) (x : Formula-F Formula) → put args (roll-Formula x) ≡ put_step args (map-Formula Formula Formula (put args) x)
put_at args x = fold-roll-Formula Formula (put_step args) x

module _ (args : List Linear) (vs : List ℤ) (few : length vs ≤ 16) where
  ws : List ℤ
  ws = map (λ a. value a vs) args

  law : (l : Linear) → value (replaced args l) vs ≡ value l ws
  unfolding ws
  law l = value_replaced args l vs few

  Claim : Formula → Type 0
  Claim f = truth (put args f) vs ≡ truth f ws

  -- the claim at a layer, from what its replacement says
  at : (x : Formula-F Formula) → truth (put_step args (map-Formula Formula Formula (put args) x)) vs ≡ truth_step (map-Formula Formula (List ℤ → Bool) truth x) ws → Claim (roll-Formula x)
  unfolding Claim
  at x h = ap (λ f. truth f vs) (put_at args x) ∙ h ∙ sym (truth_at x ws)

  all_at : (ys : List (Such Claim)) → list_all (λ f. f vs) (map truth (map (put args) (map (λ e. e.0) ys))) ≡ list_all (λ f. f ws) (map truth (map (λ e. e.0) ys))
  unfolding Claim
  all_at [] = refl
  all_at (y ∷ ys) = ap₂ (λ a b. a && b) y.1 (all_at ys)

  any_at : (ys : List (Such Claim)) → list_any (λ f. f vs) (map truth (map (put args) (map (λ e. e.0) ys))) ≡ list_any (λ f. f ws) (map truth (map (λ e. e.0) ys))
  unfolding Claim
  any_at [] = refl
  any_at (y ∷ ys) = ap₂ (λ a b. a || b) y.1 (any_at ys)

  step : (y : Formula-F (Such Claim)) → Claim (roll-Formula (bare Claim y))
  unfolding Claim
  step True = at True (rw (← form.rolls-True) (truth_at True vs))
  step False = at False (rw (← form.rolls-False) (truth_at False vs))
  step (Rel a r b) = at (Rel a r b) (rw (← form.rolls-Rel) (truth_at (Rel (replaced args a) r (replaced args b)) vs) ∙ ap₂ (related r) (law a) (law b))
  step (Div d l) = at (Div d l) (rw (← form.rolls-Div) (truth_at (Div d (replaced args l)) vs) ∙ ap (divides d) (law l))
  step (Not f) = at (Not f.0) (rw (← form.rolls-Not) (truth_at (Not (put args f.0)) vs) ∙ ap not f.1)
  step (And fs) = at (And (map (λ e. e.0) fs)) (rw (← form.rolls-And) (truth_at (And (map (put args) (map (λ e. e.0) fs))) vs) ∙ all_at fs)
  step (Or fs) = at (Or (map (λ e. e.0) fs)) (rw (← form.rolls-Or) (truth_at (Or (map (put args) (map (λ e. e.0) fs))) vs) ∙ any_at fs)
  step (Imp f g) = at (Imp f.0 g.0) (rw (← form.rolls-Imp) (truth_at (Imp (put args f.0) (put args g.0)) vs) ∙ ap₂ (λ a b. not a || b) f.1 g.1)

  -- the truth of a formula whose variables were replaced
  pub truth_put : (f : Formula) → truth (put args f) vs ≡ truth f (map (λ a. value a vs) args)
  unfolding Claim ws
  truth_put = induction Claim step
