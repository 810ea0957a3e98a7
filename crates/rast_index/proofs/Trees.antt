-- What folds over formulas give at lists of members.
use Rattle.std.proofs.Common.{◌≡◌, ℕ, Bool, ℤ, ◌&&◌, ◌||◌, List, [], ◌∷◌, map, sym, ◌∙◌, ap, refl}
use Rattle.std.specs.List.{list_all, list_any}
use Rattle.std.proofs.lemmas.List.Folds.{list_all-map}
use Rattle.rast_index.specs.declared.formula.Formula.{Formula}
use Rattle.rast_index.specs.declared.formula.Formula.TheVariants.{Rel, And, Or, rolls-Rel, rolls-And, rolls-Or}
use Rattle.rast_index.specs.declared.formula.Rel.{Rel as Relation}
use Rattle.rast_index.specs.declared.formula.Formula.TheOpen as open'
use Rattle.rast_index.specs.declared.formula.Formula.TheFolds.{fold-roll-Formula}
use Rattle.rast_index.specs.Truth.{truth, truth_step, all_small, small_step, put, put_step, is_closed_formula, closed_step}
use Rattle.rast_index.specs.Linear.{Linear, is_small, replaced}

pub list_any-map : {X Y : Type 0} (p : X → Bool) (h : Y → X) (ys : List Y) → list_any p (map h ys) ≡ list_any (λ y. p (h y)) ys
list_any-map p h [] = refl
list_any-map p h (y ∷ ys) = ap (λ b. p (h y) || b) (list_any-map p h ys)

pub truth-And : (fs : List Formula) (vs : List ℤ) → truth (And fs) vs ≡ list_all (λ f. truth f vs) fs
truth-And fs vs = ap (λ f. truth f vs) (sym (rolls-And fs)) ∙ ap (λ g. g vs) (fold-roll-Formula (List ℤ → Bool) truth_step (open'.And fs)) ∙ list_all-map (λ g. g vs) truth fs

pub truth-Or : (fs : List Formula) (vs : List ℤ) → truth (Or fs) vs ≡ list_any (λ f. truth f vs) fs
truth-Or fs vs = ap (λ f. truth f vs) (sym (rolls-Or fs)) ∙ ap (λ g. g vs) (fold-roll-Formula (List ℤ → Bool) truth_step (open'.Or fs)) ∙ list_any-map (λ g. g vs) truth fs

pub all_small-And : (fs : List Formula) → all_small (And fs) ≡ list_all all_small fs
all_small-And fs = ap all_small (sym (rolls-And fs)) ∙ fold-roll-Formula Bool small_step (open'.And fs) ∙ list_all-map (λ g. g) all_small fs

pub all_small-Or : (fs : List Formula) → all_small (Or fs) ≡ list_all all_small fs
all_small-Or fs = ap all_small (sym (rolls-Or fs)) ∙ fold-roll-Formula Bool small_step (open'.Or fs) ∙ list_all-map (λ g. g) all_small fs

pub is_closed-And : (n : ℕ) (fs : List Formula) → is_closed_formula n (And fs) ≡ list_all (is_closed_formula n) fs
is_closed-And n fs = ap (is_closed_formula n) (sym (rolls-And fs)) ∙ fold-roll-Formula Bool (closed_step n) (open'.And fs) ∙ list_all-map (λ g. g) (is_closed_formula n) fs

pub is_closed-Or : (n : ℕ) (fs : List Formula) → is_closed_formula n (Or fs) ≡ list_all (is_closed_formula n) fs
is_closed-Or n fs = ap (is_closed_formula n) (sym (rolls-Or fs)) ∙ fold-roll-Formula Bool (closed_step n) (open'.Or fs) ∙ list_all-map (λ g. g) (is_closed_formula n) fs

pub put-And : (args : List Linear) (fs : List Formula) → put args (And fs) ≡ And (map (put args) fs)
put-And args fs = ap (put args) (sym (rolls-And fs)) ∙ fold-roll-Formula Formula (put_step args) (open'.And fs)

pub put-Or : (args : List Linear) (fs : List Formula) → put args (Or fs) ≡ Or (map (put args) fs)
put-Or args fs = ap (put args) (sym (rolls-Or fs)) ∙ fold-roll-Formula Formula (put_step args) (open'.Or fs)

pub put-Rel : (args : List Linear) (a b : Linear) (r : Relation) → put args (Rel a r b) ≡ Rel (replaced args a) r (replaced args b)
put-Rel args a b r = ap (put args) (sym (rolls-Rel a r b)) ∙ fold-roll-Formula Formula (put_step args) (open'.Rel a r b)

pub all_small-Rel : (a b : Linear) (r : Relation) → all_small (Rel a r b) ≡ (is_small a && is_small b)
all_small-Rel a b r = ap all_small (sym (rolls-Rel a r b)) ∙ fold-roll-Formula Bool small_step (open'.Rel a r b)

-- whether the numbers are small, from those of the members
pub ruleset small_members = (all_small-And, all_small-Or)
