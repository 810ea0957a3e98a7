-- Types after a delay.
use Rattle.std.proofs.Common.{◌≡◌, ℕ, suc, ◌+◌, ◌<◌, ◌≤◌, Bool, true, false, ◌&&◌, List, [], ◌∷◌, ◌++◌, map, length, min, take, drop, get_or, add-one, Result, Ok, Err, sym, ◌∙◌, ap, ap₂}
use Rattle.std.proofs.Math.Seq.{drop-cons, take-suc}
use Rattle.std.proofs.lemmas.List.{take_all, map-append, length-map}
use Rattle.std.specs.List.{list_all}
use Rattle.rast_index.specs.Linear.{Linear, is_small}
use Rattle.rast_index.specs.declared.formula.Formula.{Formula}
use Rattle.rast_index.specs.declared.refusal.IndexErr.{IndexErr}
use Rattle.rast_index.specs.declared.refusal.IndexErr.TheVariants as refusal
use Rattle.rast_index.proofs.Scope.{both_true}
use Rattle.rast_types.specs.declared.stop.Stop.{Stop}
use Rattle.rast_types.specs.declared.ty.Ty.{Ty}
use Rattle.rast_types.specs.Closed.{Table}
use Rattle.rast_types.specs.Made.{Answers}
use Rattle.rast_types.specs.Symbolic.{made_type, before_delay, after_delay}
use Rattle.rast_types.proofs.Heads.{within_ok, within_variables, within_coefficient, within_deep, within_great, within_fits}
use Rattle.rast_time.specs.Shifted.{sooner, shifted, made_shift}
use Rattle.rast_rules.specs.Making.{made_term}
use Rattle.rast_rules.specs.declared.draft.Draft.{Draft}
use Rattle.rast_rules.specs.Draft.{made_uses, join_made, drafted}
use Rattle.rast_rules.specs.Late.{has_ticks}
use Rattle.rast_rules.specs.Rules.{Program, Judgement, defs, delayed}
use Rattle.rast_rules.specs.Trail.{left}
use Rattle.rast_rules.proofs.Turned.{join_made_is, without_none}

-- ---- one type after a delay, where its ticks can be made

module _ (t : Table) (n : ℕ) (by : Linear) (provided : Bool) (a : Ty) (ticks : has_ticks t n a ≡ true) where
  other_great : (b c : Bool) → b ≡ true → (b && c) ≡ false → c ≡ false
  other_great b c e f = cc

  pub shift_made : (goal : Formula) (b : Ty) → Answers (made_shift t n by a) (Ok (goal, b)) → made_type n (after_delay t n by provided a) ≡ Ok b
  shift_made goal b h =
      let e = before_delay t n a in
      let g = within_ok _ _ (shifted by e) (goal, b) h in
      within_fits _ _ (sooner by e) g.shallow (both_true (is_small e.ticks) _ g.fits).1 ∙ ap (λ (s : Formula × Ty). Ok s.1) g.is

  pub shift_failed : (x : IndexErr) → Answers (made_shift t n by a) (Err x) → Answers (made_type n (after_delay t n by provided a)) (Err x)
  shift_failed refusal.Coefficient h = let g = within_coefficient _ _ _ h in within_great _ _ (sooner by (before_delay t n a)) g.0 (other_great (is_small (before_delay t n a).ticks) _ ticks g.1)
  shift_failed refusal.Variables h = within_deep _ _ (sooner by (before_delay t n a)) (within_variables _ _ _ h)
  shift_failed refusal.Memory h = tt

-- ---- all types after a delay

module _ (t : Table) (n : ℕ) (by : Linear) where
  abbrev pub later : List (ℕ × Ty) → List (ℕ × Ty)
  later us = map (λ u. (u.0, after_delay t n by false u.1)) us

  pub later_turn : (us : List (ℕ × Ty)) (i : ℕ) (u : ℕ × Ty) (out new : Result (List (ℕ × Ty)) Stop) (m : Result Ty Stop) → i < length us → u ≡ get_or us i u → out ≡ made_uses n (later (take i us)) → m ≡ made_type n (after_delay t n by false u.1) → new ≡ join_made out u.0 m →
      new ≡ made_uses n (later (take (i + 1) us))
  later_turn us i u out new m below is inv made step =
      let next : take (i + 1) us ≡ take i us ++ u ∷ [] = ap (λ k. take k us) (add-one i) ∙ take-suc us i u below ∙ ap (λ v. take i us ++ v ∷ []) (sym is) in
      join_made_is n (later (take i us)) u.0 (after_delay t n by false u.1) out new m inv made step
      ∙ ap (made_uses n) (sym (ap later next ∙ map-append (λ (v : ℕ × Ty). (v.0, after_delay t n by false v.1)) (take i us) (u ∷ [])))

  pub later_end : (us : List (ℕ × Ty)) (i : ℕ) (out : Result (List (ℕ × Ty)) Stop) → out ≡ made_uses n (later (take i us)) → length us ≤ i → out ≡ made_uses n (later us)
  later_end us i out inv past = inv ∙ ap (λ vs. made_uses n (later vs)) (take_all i us past)

  -- the first of those that are left, and the others
  pub ticks_step : (us : List (ℕ × Ty)) (i : ℕ) (u : ℕ × Ty) → i < length us → u ≡ get_or us i u → list_all (λ (v : ℕ × Ty). has_ticks t n v.1) (drop i us) ≡ true →
      (has_ticks t n u.1 ≡ true) × (list_all (λ (v : ℕ × Ty). has_ticks t n v.1) (drop (i + 1) us) ≡ true)
  ticks_step us i u below is h =
      let opened' : drop i us ≡ u ∷ drop (suc i) us = drop-cons us i u below ∙ ap (λ v. v ∷ drop (suc i) us) (sym is) in
      let e = both_true (has_ticks t n u.1) _ (sym (ap (list_all (λ (v : ℕ × Ty). has_ticks t n v.1)) opened') ∙ h) in
      (e.0, ap (λ k. list_all (λ (v : ℕ × Ty). has_ticks t n v.1) (drop k us)) (add-one i) ∙ e.1)

-- the draft after a delay
pub delay_is : (g : Program) (j : Judgement) (by : Linear) (d : Draft) (us : Result (List (ℕ × Ty)) Stop) (gives : Result Ty Stop) (c : ℕ) → us ≡ made_uses j.ctx.vars (later (defs g) j.ctx.vars by j.uses) → gives ≡ made_type j.ctx.vars (after_delay (defs g) j.ctx.vars by true j.gives.1) →
    c ≡ min 16 (length (left [] j.uses)) → d ≡ record { vars = j.ctx.vars; uses = us; count = c; potential = made_term j.potential; provided = j.gives.0; gives = gives; fresh = j.fresh } → d ≡ drafted (delayed g j by)
delay_is g j by d us gives c e f many h =
    let n = j.ctx.vars in
    let all : List (ℕ × Ty) = later (defs g) n by j.uses in
    let counts : c ≡ min 16 (length all) = many ∙ ap (λ (k : Judgement). min 16 (length k.uses)) (without_none j) ∙ ap (min 16) (sym (length-map j.uses (λ (u : ℕ × Ty). (u.0, after_delay (defs g) n by false u.1)))) in
    h ∙ ap₂ (λ (ws : Result (List (ℕ × Ty)) Stop) (m : ℕ). record (drafted (delayed g j by)) { uses = ws; count = m; gives = gives }) e counts ∙ ap (λ (b : Result Ty Stop). record (drafted (delayed g j by)) { gives = b }) f
