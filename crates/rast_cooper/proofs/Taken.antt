-- What a claim on a formula comes to, by the formula's form.
use Rattle.std.proofs.Common.{◌≡◌, ℕ, Bool, true, false, not, List, [], ◌∷◌, map, sym, ◌∙◌, ap, ap₂, refl}
use Rattle.rast_index.specs.declared.formula.Rel.{Rel}
use Rattle.rast_index.specs.declared.formula.Formula.{Formula, roll-Formula}
use Rattle.rast_index.specs.declared.formula.Formula.TheOpen.{Formula-F, True, False, Rel as Related, Div, Not, And, Or, Imp}
use Rattle.rast_index.specs.declared.formula.Formula.TheVariants as form
use Rattle.rast_index.specs.declared.formula.Formula.TheFolds.{map-Formula, fold-roll-Formula}
use Rattle.rast_cooper.specs.Arithmetic.{Linear}
use Rattle.rast_cooper.specs.Meaning.{literal}
use Rattle.rast_cooper.specs.Claims.{Whole, Atom, Every, Some_of, Seen, seen, seen_step, node_step, node_of, compared}
use Rattle.rast_cooper.specs.Stack.{wholes, fixed, gathered, directed, dividing}
use Rattle.rast_cooper.proofs.Apart.{formula_known}

self : (f : Formula) → (seen f).self ≡ f
self f = (formula_known [] f).0

node_at : (x : Formula-F Formula) (f : Formula) → roll-Formula x ≡ f → (b : Bool) → node_of (Whole f b) ≡ node_step (map-Formula Formula Seen seen x) b
unfolding seen
node_at x f e b = ap (λ g. (seen g).node b) (sym e) ∙ ap (λ (s : Seen). s.node b) (fold-roll-Formula Seen seen_step x)

members : (b : Bool) (fs : List Formula) → map (λ (s : Seen). Whole s.self b) (map seen fs) ≡ wholes b fs
members b [] = refl
members b (f ∷ fs) = ap₂ (λ g cs. Whole g b ∷ cs) (self f) (members b fs)

pub of_true : (b : Bool) → fixed b ≡ node_of (Whole form.True b)
of_true b = by b ∙ sym (node_at True form.True form.rolls-True b)
  where
    by : (b : Bool) → fixed b ≡ node_step True b
    by true = refl
    by false = refl

pub of_false : (b : Bool) → fixed (not b) ≡ node_of (Whole form.False b)
of_false b = by b ∙ sym (node_at False form.False form.rolls-False b)
  where
    by : (b : Bool) → fixed (not b) ≡ node_step False b
    by true = refl
    by false = refl

pub of_rel : (a : Linear) (r : Rel) (c : Linear) (b : Bool) → compared a (directed r b) c ≡ node_of (Whole (form.Rel a r c) b)
of_rel a r c b = by b ∙ sym (node_at (Related a r c) (form.Rel a r c) (form.rolls-Rel a r c) b)
  where
    by : (b : Bool) → compared a (directed r b) c ≡ node_step (Related a r c) b
    by true = refl
    by false = refl

pub of_div : (d : ℕ) (l : Linear) (b : Bool) → Atom (literal (dividing b) d l) ≡ node_of (Whole (form.Div d l) b)
of_div d l b = by b ∙ sym (node_at (Div d l) (form.Div d l) (form.rolls-Div d l) b)
  where
    by : (b : Bool) → Atom (literal (dividing b) d l) ≡ node_step (Div d l) b
    by true = refl
    by false = refl

pub of_not : (f : Formula) (b : Bool) → node_of (Whole f (not b)) ≡ node_of (Whole (form.Not f) b)
of_not f b = sym (node_at (Not f) (form.Not f) (form.rolls-Not f) b)

pub of_and : (fs : List Formula) (b : Bool) → gathered b (wholes b fs) ≡ node_of (Whole (form.And fs) b)
of_and fs b = by b ∙ sym (node_at (And fs) (form.And fs) (form.rolls-And fs) b)
  where
    by : (b : Bool) → gathered b (wholes b fs) ≡ node_step (And (map seen fs)) b
    by true = ap Every (sym (members true fs))
    by false = ap Some_of (sym (members false fs))

pub of_or : (fs : List Formula) (b : Bool) → gathered (not b) (wholes b fs) ≡ node_of (Whole (form.Or fs) b)
of_or fs b = by b ∙ sym (node_at (Or fs) (form.Or fs) (form.rolls-Or fs) b)
  where
    by : (b : Bool) → gathered (not b) (wholes b fs) ≡ node_step (Or (map seen fs)) b
    by true = ap Some_of (sym (members true fs))
    by false = ap Every (sym (members false fs))

pub of_imp : (f g : Formula) (b : Bool) → gathered (not b) (Whole f (not b) ∷ Whole g b ∷ []) ≡ node_of (Whole (form.Imp f g) b)
of_imp f g b = by b ∙ sym (node_at (Imp f g) (form.Imp f g) (form.rolls-Imp f g) b)
  where
    by : (b : Bool) → gathered (not b) (Whole f (not b) ∷ Whole g b ∷ []) ≡ node_step (Imp (seen f) (seen g)) b
    by true = ap₂ (λ u v. Some_of (Whole u false ∷ Whole v true ∷ [])) (sym (self f)) (sym (self g))
    by false = ap₂ (λ u v. Every (Whole u true ∷ Whole v false ∷ [])) (sym (self f)) (sym (self g))
