-- Equations of a good table stay good where more equations stand behind them.
use Rattle.std.proofs.Common.{◌≡◌, ℕ, zero, suc, List, [], ◌∷◌, ◌++◌, sym, ◌∙◌, ap, ap₂, refl, subst, Option, Some, None}
use Rattle.std.specs.Prelude.{All, slice_get}
use Rattle.std.specs.List.{AllByRecursion}
use Rattle.std.proofs.lemmas.List.Elements.{recursion_from_All}
use Rattle.rast_index.specs.Linear.{Linear}
use Rattle.rast_index.specs.Truth.{is_equal}
use Rattle.rast_index.specs.declared.formula.Formula.TheVariants as form
use Rattle.rast_types.specs.Closed.{Table}
use Rattle.rast_types.specs.Symbolic.{exposed_type}
use Rattle.rast_types.specs.declared.equation.Equation.{Equation}
use Rattle.rast_types.specs.declared.equation.Ref.{Ref}
use Rattle.rast_types.specs.declared.equation.Ref.TheVariants.{Refl, Eq}
use Rattle.rast_types.specs.declared.ty.Ty.{Ty}
use Rattle.rast_equal.specs.Equated.{are_small_both, is_deep_either}
use Rattle.rast_equal.specs.Walk.{Point, Asks, IsGoodTable, IsTruePoint, by_equation, by_ref, equation_points, head_layers, if_made, or_refl, part_points, parts_served, serve, side_points, tagged, top}
use Rattle.rast_equal.specs.declared.met.Met.{Met}
use Rattle.rast_equal.specs.declared.met.Met.TheVariants.{Wants, Names, Differs, Shuffled, Over}
use Rattle.rast_equal.specs.declared.place.Place.{Place}
use Rattle.rast_equal.proofs.Every.{all_from, all_get, every_left, every_right}
use Rattle.rast_eqfind.specs.Found.{AreTrueIn, Extends}
use Rattle.rast_eqfind.proofs.Sames.{extends_more}

module _ (es fs : List Equation) (wide : Extends es fs) where
  -- an equation that is hit is the same but for its references
  hit : (o : Option Equation) (k : ℕ) (args : List Linear) (p : Place) (a b : Ty) → slice_get es k ≡ o → AllByRecursion IsTruePoint (by_equation o args p a b) → by_equation (slice_get fs k) args p a b ≡ by_equation o args p a b
  hit None k args p a b at h = absurd h.0
  hit (Some e) k args p a b at h =
      let w = wide k e at in
      ap (λ (o : Option Equation). by_equation o args p a b) (w.1 ∙ ap (λ (f : Equation). Some f) w.2.1)

  ref_same : (r : Ref) (p : Place) (a b : Ty) → AllByRecursion IsTruePoint (by_ref es r p a b) → by_ref fs r p a b ≡ by_ref es r p a b
  ref_same Refl p a b h = refl
  ref_same (Eq zero args) p a b h = refl
  ref_same (Eq (suc k) args) p a b h = hit (slice_get es k) k args p a b refl h

  serve_same : (rs : List Ref) (ms : List Met) → AllByRecursion IsTruePoint (serve es rs ms) → serve fs rs ms ≡ serve es rs ms
  serve_same [] [] h = refl
  serve_same (r ∷ rs) [] h = refl
  serve_same [] (Wants p g ∷ ms) h = ap (λ xs. Asks p g ∷ xs) (serve_same [] ms h.1)
  serve_same (r ∷ rs) (Wants p g ∷ ms) h = ap (λ xs. Asks p g ∷ xs) (serve_same (r ∷ rs) ms h.1)
  serve_same [] (Names p a b ∷ ms) h = refl
  serve_same (r ∷ rs) (Names p a b ∷ ms) h =
      ap₂ (λ (xs ys : List Point). xs ++ ys) (ref_same r p a b (every_left IsTruePoint (by_ref es r p a b) (serve es rs ms) h)) (serve_same rs ms (every_right IsTruePoint (by_ref es r p a b) (serve es rs ms) h))
  serve_same [] (Differs p ∷ ms) h = ap (λ xs. Asks p form.False ∷ xs) (serve_same [] ms h.1)
  serve_same (r ∷ rs) (Differs p ∷ ms) h = ap (λ xs. Asks p form.False ∷ xs) (serve_same (r ∷ rs) ms h.1)
  serve_same [] (Shuffled p ∷ ms) h = serve_same [] ms h
  serve_same (r ∷ rs) (Shuffled p ∷ ms) h = serve_same (r ∷ rs) ms h
  serve_same [] (Over ∷ ms) h = refl
  serve_same (r ∷ rs) (Over ∷ ms) h = refl

  parts_same : (refs : List Ref) (ms : List Met) → AllByRecursion IsTruePoint (parts_served es refs ms) → parts_served fs refs ms ≡ parts_served es refs ms
  parts_same refs [] h = refl
  parts_same refs (m ∷ ms) h = serve_same (or_refl refs (m ∷ ms)) (m ∷ ms) h

  abbrev AreTrue : List (ℕ × Point) → Type 0
  AreTrue xs = AllByRecursion (λ (x : ℕ × Point). IsTruePoint x.1) xs

  untagged : (k : ℕ) (xs : List Point) → AreTrue (tagged k xs) → AllByRecursion IsTruePoint xs
  untagged k [] h = tt
  untagged k (x ∷ xs) h = (h.0, untagged k xs h.1)

  equation_same : (t : Table) (e : Equation) → AreTrue (equation_points t es e) → equation_points t fs e ≡ equation_points t es e
  equation_same t e h =
      let ps : List _ = e.premise ∷ [] in
      let p = top e.vars ps in
      let a = exposed_type t e.vars e.left in
      let b = exposed_type t e.vars e.right in
      let heads = head_layers a b p in
      let first = tagged 1 (side_points t e.vars ps e.left) in
      let second = tagged 2 (side_points t e.vars ps e.right) in
      let third = tagged 3 (if_made (is_deep_either e.vars a b) (are_small_both a b) (Asks p (is_equal a.ticks b.ticks) ∷ [])) in
      let fourth = tagged 4 (serve es [] heads.own) in
      let fifth = tagged 5 (part_points es e.refs heads) in
      let after = every_right (λ (x : ℕ × Point). IsTruePoint x.1) third (fourth ++ fifth) (every_right (λ (x : ℕ × Point). IsTruePoint x.1) second (third ++ (fourth ++ fifth)) (every_right (λ (x : ℕ × Point). IsTruePoint x.1) first (second ++ (third ++ (fourth ++ fifth))) h)) in
      let own = serve_same [] heads.own (untagged 4 (serve es [] heads.own) (every_left (λ (x : ℕ × Point). IsTruePoint x.1) fourth fifth after)) in
      let parts = parts_same e.refs heads.parts (untagged 5 (part_points es e.refs heads) (every_right (λ (x : ℕ × Point). IsTruePoint x.1) fourth fifth after)) in
      ap₂ (λ (xs ys : List Point). first ++ (second ++ (third ++ (tagged 4 xs ++ tagged 5 ys)))) own parts

pub table_kept : (t : Table) (known added : List Equation) → IsGoodTable t known → AreTrueIn t (known ++ added) known
table_kept t known added good =
    all_from (λ (e : Equation). All (λ (x : ℕ × Point). IsTruePoint x.1) (equation_points t (known ++ added) e)) known
    (λ k e at.
    let h = all_get (λ (f : Equation). All (λ (x : ℕ × Point). IsTruePoint x.1) (equation_points t known f)) known k e good at in
    subst (All (λ (x : ℕ × Point). IsTruePoint x.1))
    (sym (equation_same known (known ++ added) (extends_more known added) t e (recursion_from_All (λ (x : ℕ × Point). IsTruePoint x.1) (equation_points t known e) h))) h)
