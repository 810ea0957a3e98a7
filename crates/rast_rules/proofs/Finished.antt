-- A draft becomes a judgement, or the first limit that it passes.
use Rattle.std.proofs.Common.{◌≡◌, ℕ, ◌<◌, ◌≤◌, Bool, true, false, List, Result, Ok, Err, sym, ◌∙◌, ap, refl, IsTrue, ◌↔◌}
use Rattle.std.specs.List.{list_all}
use Rattle.rast_index.specs.Linear.{Linear}
use Rattle.rast_index.specs.Truth.{all_small}
use Rattle.rast_index.specs.declared.formula.Formula.{Formula}
use Rattle.rast_types.specs.declared.stop.Stop.{Stop}
use Rattle.rast_types.specs.declared.stop.Stop.TheVariants as stop
use Rattle.rast_types.specs.declared.ty.Ty.{Ty}
use Rattle.rast_types.proofs.Heads.{within_ok, within_variables}
use Rattle.rast_rules.specs.Rules.{Judgement, limited}
use Rattle.rast_rules.specs.Draft.{drafted, made_types}
use Rattle.rast_rules.specs.declared.draft.Draft.{Draft}
use Rattle.rast_rules.proofs.Limits.{not_deep, not_small, term_ok, term_err, limit_uses, limit_gives, limit_channels, great_uses, great_gives, great_potential, limit_none, built}

pub not_by : (r : Bool) (P : Type 0) → (IsTrue r ↔ P) → r ≡ false → P → ⊥
not_by true P h e p = cc
not_by false P h e p = let t : false ≡ true = h.1 p in cc

same_stop : (s : Stop) (r : Result (List (ℕ × Ty) × Ty) Stop) (t : Result Judgement Stop) → r ≡ Err stop.Coefficient → r ≡ Err s → Err stop.Coefficient ≡ t → Err s ≡ t
same_stop s r t e f h = ap Err (same s r e f) ∙ h
  where
    same : (s : Stop) (r : Result (List (ℕ × Ty) × Ty) Stop) → r ≡ Err stop.Coefficient → r ≡ Err s → s ≡ stop.Coefficient
    same s r e f = cc

-- types that were made
pub types_ok : (u : Result (List (ℕ × Ty)) Stop) (g : Result Ty Stop) (us : List (ℕ × Ty)) (a : Ty) → made_types u g ≡ Ok (us, a) → (u ≡ Ok us) × (g ≡ Ok a)
types_ok (Ok us) (Ok a) us' a' e =
    let same : (us, a) ≡ (us', a') = same_pair (us, a) (us', a') (made_types (Ok us) (Ok a)) refl e in
    (ap (λ (p : List (ℕ × Ty) × Ty). Ok p.0) same, ap (λ (p : List (ℕ × Ty) × Ty). Ok p.1) same)
  where
    same_pair : (p q : List (ℕ × Ty) × Ty) (r : Result (List (ℕ × Ty) × Ty) Stop) → r ≡ Ok p → r ≡ Ok q → p ≡ q
    same_pair p q r e f = cc
types_ok (Ok us) (Err s) us' a' e = absurd (cc)
types_ok (Err s) g us' a' e = absurd (cc)

module _ (j : Judgement) (d : Draft) (e : d ≡ drafted j) where
  uses_are : d.uses ≡ (drafted j).uses
  uses_are = ap (λ (b : Draft). b.uses) e

  gives_are : d.gives ≡ (drafted j).gives
  gives_are = ap (λ (b : Draft). b.gives) e

  potential_is : d.potential ≡ (drafted j).potential
  potential_is = ap (λ (b : Draft). b.potential) e

  count_is : d.count ≡ (drafted j).count
  count_is = ap (λ (b : Draft). b.count) e

  pub uses_deep : d.uses ≡ Err stop.Variables → Err stop.Variables ≡ limited j
  uses_deep h = sym (limit_uses j (within_variables _ _ j.uses (sym uses_are ∙ h)))

  pub gives_deep : d.gives ≡ Err stop.Variables → Err stop.Variables ≡ limited j
  gives_deep h = sym (limit_gives j (within_variables _ _ j.gives.1 (sym gives_are ∙ h)))

  module _ (nu : d.uses ≡ Err stop.Variables → ⊥) (ng : d.gives ≡ Err stop.Variables → ⊥) where
    pub too_many_channels : 15 < d.count → Err stop.Channels ≡ limited j
    too_many_channels h = sym (limit_channels j d.count (not_deep _ _ j.uses d.uses uses_are nu) (not_deep _ _ j.gives.1 d.gives gives_are ng) count_is h)

    module _ (few : d.count ≤ 15) where
      pub uses_great : (s : Stop) → d.uses ≡ Err s → Err stop.Coefficient ≡ limited j
      uses_great s h =
          let du = not_deep _ _ j.uses d.uses uses_are nu in
          sym (great_uses j d.count du (not_deep _ _ j.gives.1 d.gives gives_are ng) count_is few (not_small _ _ j.uses s (sym uses_are ∙ h) du))

      pub gives_great : (s : Stop) → d.gives ≡ Err s → Err stop.Coefficient ≡ limited j
      gives_great s h =
          let dg = not_deep _ _ j.gives.1 d.gives gives_are ng in
          sym (great_gives j d.count (not_deep _ _ j.uses d.uses uses_are nu) dg count_is few (not_small _ _ j.gives.1 s (sym gives_are ∙ h) dg))

      pub types_great : (s : Stop) → made_types d.uses d.gives ≡ Err s → Err s ≡ limited j
      types_great s h = by_case d.uses d.gives refl refl h
        where
          by_case : (u : Result (List (ℕ × Ty)) Stop) (g : Result Ty Stop) → d.uses ≡ u → d.gives ≡ g → made_types u g ≡ Err s → Err s ≡ limited j
          by_case (Err t) g e f k = same_stop s (made_types (Err t) g) (limited j) refl k (uses_great t e)
          by_case (Ok us) (Err t) e f k = same_stop s (made_types (Ok us) (Err t)) (limited j) refl k (gives_great t f)
          by_case (Ok us) (Ok a) e f k = absurd (cc)

      pub potential_great : (s : Stop) → d.potential ≡ Err s → Err stop.Coefficient ≡ limited j
      potential_great s h = sym (great_potential j d.count (not_deep _ _ j.uses d.uses uses_are nu) (not_deep _ _ j.gives.1 d.gives gives_are ng) count_is few (term_err j.potential s (sym potential_is ∙ h)))

      pub all_made : (decl : ℕ) (ps : List Formula) (us : List (ℕ × Ty)) (a : Ty) (q : Linear) → j.decl ≡ decl → j.ctx.premises ≡ ps → list_all all_small ps ≡ true → d.uses ≡ Ok us → d.gives ≡ Ok a → d.potential ≡ Ok q →
          Ok (record { decl = decl; ctx = record { vars = d.vars; premises = ps }; uses = us; potential = q; gives = (d.provided, a); fresh = d.fresh }) ≡ limited j
      all_made decl ps us a q ed ep small hu hg hq =
          let u = within_ok _ _ j.uses us (sym uses_are ∙ hu) in
          let g = within_ok _ _ j.gives.1 a (sym gives_are ∙ hg) in
          let t = term_ok j.potential q (sym potential_is ∙ hq) in
          ap Ok (built j decl d.vars ps us q d.provided a d.fresh (sym ed) (ap (λ (b : Draft). b.vars) e) (sym ep) (sym u.is) (sym t.1) (ap (λ (b : Draft). b.provided) e) (sym g.is) (ap (λ (b : Draft). b.fresh) e))
          ∙ sym (limit_none j d.count u.shallow g.shallow count_is few u.fits g.fits t.0 (ap (list_all all_small) ep ∙ small))
