-- What is made from types and terms by the calls below.
use Rattle.std.proofs.Common.{◌≡◌, ℕ, min, Bool, true, List, [], ◌∷◌, length, take, Result, Ok, Err, sym, ◌∙◌, ap, refl, subst, if◌then◌else◌, false, ◌&&◌}
use Rattle.std.specs.Prelude.{slice_get}
use Rattle.std.proofs.lemmas.Bool.{and_right}
use Rattle.rast_index.specs.Linear.{Linear, nought, replaced, is_small}
use Rattle.rast_index.specs.Answer.{Fits}
use Rattle.rast_index.specs.Truth.{is_at_least, is_equal, all_small}
use Rattle.rast_index.specs.declared.refusal.Coefficient.{Coefficient}
use Rattle.rast_index.specs.declared.formula.Formula.{Formula}
use Rattle.rast_index.specs.declared.formula.Rel.TheVariants as rel
use Rattle.rast_index.proofs.Trees.{all_small-Rel}
use Rattle.rast_index.proofs.Scope.{both_true}
use Rattle.rast_types.specs.Closed.{Table}
use Rattle.rast_types.specs.Found.{Names}
use Rattle.rast_types.specs.Symbolic.{opened, put_type, Timed, exposed_type, made_exposed}
use Rattle.rast_types.specs.declared.stop.Stop.TheVariants as stop
use Rattle.rast_types.specs.declared.table.TypeDef.{TypeDef}
use Rattle.rast_types.specs.declared.ty.Ty.{Ty, out-Ty}
use Rattle.rast_types.specs.declared.ty.Ty.TheVariants as ty
use Rattle.rast_types.specs.declared.ty.Ty.TheOpen.{Named}
use Rattle.rast_types.proofs.Heads.{within_ok}
use Rattle.rast_types.proofs.Layers.{opened_names}
use Rattle.rast_time.proofs.Arguments.{put_few}
use Rattle.rast_types.specs.declared.head.Exposed.{Exposed}
use Rattle.rast_types.specs.declared.stop.Stop.{Stop}
use Rattle.rast_rules.specs.declared.premise.Premise.{Premise}
use Rattle.rast_rules.specs.declared.premise.Premise.TheVariants.{Truth, Passed}
use Rattle.rast_rules.specs.Making.{made_term, IsExposed}
use Rattle.rast_rules.specs.Trail.{truth_premise}
use Rattle.rast_rules.proofs.Limits.{term_ok, term_err}

-- ---- types

abbrev pub only : Ty → TypeDef
only a = record { name = 0; params = 0; body = a }

-- the only definition at arguments
pub opened_only : (t : Table) (n : ℕ) (a name : Ty) (xs args : List Linear) → t ≡ only a ∷ [] → name ≡ ty.Named 0 xs → xs ≡ args → opened t n name ≡ put_type n args a
opened_only t n a name xs args e named same =
    let names : Names t name a args = record {
      number = 0;
      named = ap out-Ty named ∙ ty.outs-Named 0 xs ∙ ap (Named 0) same;
      definition = only a;
      found = ap (λ (s : Table). slice_get s 0) e;
      is = refl;
    } in
    opened_names t n name a args names

-- ---- terms

module _ (l m : Linear) (args : List Linear) (k : ℕ) (same : m ≡ l) (sized : length l.coefficients ≡ 16) (few : k ≡ min (length args) 16) where
  at_few : replaced (take k args) m ≡ replaced args l
  at_few = put_few l m args k same sized few

  pub put_ok : (x : Linear) → (x ≡ replaced (take k args) m) × (is_small (replaced (take k args) m) ≡ true) → Ok x ≡ made_term (replaced args l)
  put_ok x h = ap Ok (h.0 ∙ at_few) ∙ sym (ap (λ b. if b then Ok (replaced args l) else Err stop.Coefficient) (ap is_small (sym at_few) ∙ h.1))

  pub put_err : is_small (replaced (take k args) m) ≡ false → Err stop.Coefficient ≡ made_term (replaced args l)
  put_err h = sym (ap (λ b. if b then Ok (replaced args l) else Err stop.Coefficient) (ap is_small (sym at_few) ∙ h))

-- what was exposed
pub exposed_ok : (m : Result Timed Stop) (r : Result Exposed Stop) (e : Exposed) → IsExposed m r → r ≡ Ok e → m ≡ Ok (record { ticks = e.ticks; body = e.head })
exposed_ok m r e h is = subst (λ (x : Result Exposed Stop). IsExposed m x) is h

-- ---- premises of formulas

abbrev asked : Formula → Bool → Premise
asked f b = if b then Truth f else Passed stop.Coefficient

pub truth_ok : (f g : Formula) (made : Result Formula Coefficient) → made ≡ Ok g → Fits all_small f made → Truth g ≡ truth_premise f
truth_ok f g made is h = let k = subst (Fits all_small f) is h in ap Truth k.0 ∙ sym (ap (asked f) k.1)

pub truth_err : (f : Formula) (e : Coefficient) (made : Result Formula Coefficient) → made ≡ Err e → Fits all_small f made → Passed stop.Coefficient ≡ truth_premise f
truth_err f e made is h = sym (ap (asked f) (subst (Fits all_small f) is h))

pub afforded_ok : (have l : Linear) (want : Result Linear Stop) (w : Linear) (f : Formula) → want ≡ made_term l → want ≡ Ok w → f ≡ is_at_least have w → all_small f ≡ true → Truth f ≡ truth_premise (is_at_least have l)
afforded_ok have l want w f made is said small =
    let same : f ≡ is_at_least have l = said ∙ ap (is_at_least have) (sym (term_ok l w (sym made ∙ is)).1) in
    ap Truth same ∙ sym (ap (asked (is_at_least have l)) (ap all_small (sym same) ∙ small))

pub afforded_err : (have l : Linear) (want : Result Linear Stop) (s : Stop) → want ≡ made_term l → want ≡ Err s → Passed stop.Coefficient ≡ truth_premise (is_at_least have l)
afforded_err have l want s made is =
    sym (ap (asked (is_at_least have l)) (all_small-Rel have l rel.Ge ∙ and_right (is_small have) _ (term_err l s (sym made ∙ is))))

-- that the ticks are 0 can be asked where ticks and head can be made
pub asked_now : (t : Table) (n : ℕ) (a : Ty) (e : Timed) → made_exposed t n a ≡ Ok e → truth_premise (is_equal (exposed_type t n a).ticks nought) ≡ Truth (is_equal e.ticks nought)
asked_now t n a e h =
    let x = exposed_type t n a in
    let g = within_ok _ _ x e h in
    let small = all_small-Rel x.ticks nought rel.Eq ∙ ap (λ b. b && is_small nought) (both_true (is_small x.ticks) _ g.fits).0 in
    ap (asked (is_equal x.ticks nought)) small ∙ ap (λ (f : Timed). Truth (is_equal f.ticks nought)) g.is
