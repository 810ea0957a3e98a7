-- Types some ticks earlier, within the limits.
use Rattle.std.proofs.Common.{◌≡◌, ℕ, ◌+◌, Bool, true, false, ◌&&◌, if◌then◌else◌, List, [], ◌∷◌, Ok, Err, sym, ◌∙◌, ap, ap₂, refl, subst, ℤ, pos}
use Rattle.std.specs.Prelude.{nat_lt}
use Rattle.std.specs.List.{list_all}
use Rattle.std.proofs.lemmas.Bool.{and_right}
use Rattle.rast_index.specs.Linear.{Linear, is_small, is_nought, small, int_eq, nought, less}
use Rattle.rast_index.specs.Truth.{is_at_least}
use Rattle.rast_index.specs.declared.formula.Formula.{Formula}
use Rattle.rast_index.specs.declared.refusal.IndexErr.{IndexErr}
use Rattle.rast_index.specs.declared.refusal.IndexErr.TheVariants as refusal
use Rattle.rast_index.proofs.Scope.{both_true, int_eq_true}
use Rattle.rast_types.specs.declared.head.Exposed.{Exposed}
use Rattle.rast_types.specs.declared.stop.Stop.TheVariants as stop
use Rattle.rast_types.specs.declared.ty.Ty.{Ty, out-Ty, roll-Ty, roll-out-Ty}
use Rattle.rast_types.specs.declared.ty.Ty.TheVariants as ty
use Rattle.rast_types.specs.declared.ty.Ty.TheOpen as layer
use Rattle.rast_types.specs.declared.ty.Ty.TheFolds.{fold-roll-Ty}
use Rattle.rast_types.specs.Closed.{Table, Layer}
use Rattle.rast_types.specs.Made.{Answers, AnswersExposed}
use Rattle.rast_types.specs.Symbolic.{Timed, within, binders, binders_step, is_deep, is_small_type, small_step, made_type, timed_type, before_delay, is_next, is_next_layer, opened, timed}
use Rattle.rast_types.proofs.Layers.{timed_next}
use Rattle.rast_types.proofs.Heads.{within_ok, within_variables, within_coefficient, within_deep, within_great, within_fits}
use Rattle.rast_time.specs.Shifted.{made_timed, shifted, made_shift}
use Rattle.rast_time.proofs.Delays.{before_timed, before_plain}

-- ---- the limits of a next

deep_next : (n : ℕ) (l : Linear) (a : Ty) → is_deep n (ty.Next l a) ≡ is_deep n a
deep_next n l a = ap (λ k. nat_lt 16 (n + k)) (ap binders (sym (ty.rolls-Next l a)) ∙ fold-roll-Ty ℕ binders_step (layer.Next l a))

small_next : (l : Linear) (a : Ty) → is_small_type (ty.Next l a) ≡ (is_small l && is_small_type a)
small_next l a = ap is_small_type (sym (ty.rolls-Next l a)) ∙ fold-roll-Ty Bool small_step (layer.Next l a)

zero_small : (z : ℤ) → int_eq z (pos 0) ≡ true → small z ≡ true
zero_small z e = ap small (int_eq_true z (pos 0) e)

zeros_small : (cs : List ℤ) → list_all (λ c. int_eq c (pos 0)) cs ≡ true → list_all small cs ≡ true
zeros_small [] e = refl
zeros_small (c ∷ cs) e = let h = both_true (int_eq c (pos 0)) _ e in ap₂ (λ a b. a && b) (zero_small c h.0) (zeros_small cs h.1)

nought_small : (l : Linear) → is_nought l ≡ true → is_small l ≡ true
nought_small l e = let h = both_true (int_eq l.constant (pos 0)) _ e in ap₂ (λ a b. a && b) (zero_small l.constant h.0) (zeros_small l.coefficients h.1)

-- ---- the limits of ticks before a body

module _ (l : Linear) (a : Ty) where
  abbrev whole : Bool → Ty
  whole b = if b then a else ty.Next l a

  pub deep_before : (n : ℕ) → is_deep n (timed_type (record { ticks = l; body = a })) ≡ is_deep n a
  deep_before n = by_case (is_nought l)
    where
      by_case : (b : Bool) → is_deep n (whole b) ≡ is_deep n a
      by_case true = refl
      by_case false = deep_next n l a

  pub small_before : is_small l ≡ true → is_small_type a ≡ true → is_small_type (timed_type (record { ticks = l; body = a })) ≡ true
  small_before e f = by_case (is_nought l)
    where
      by_case : (b : Bool) → is_small_type (whole b) ≡ true
      by_case true = f
      by_case false = small_next l a ∙ ap₂ (λ b c. b && c) e f

  pub body_great : is_small_type a ≡ false → is_small_type (timed_type (record { ticks = l; body = a })) ≡ false
  body_great f = by_case (is_nought l)
    where
      by_case : (b : Bool) → is_small_type (whole b) ≡ false
      by_case true = f
      by_case false = small_next l a ∙ and_right (is_small l) _ f

  pub ticks_great : is_small l ≡ false → is_small_type (timed_type (record { ticks = l; body = a })) ≡ false
  ticks_great e = by_case (is_nought l) refl
    where
      contrary : (b : Bool) → b ≡ true → b ≡ false → ⊥
      contrary b f g = cc

      by_case : (b : Bool) → is_nought l ≡ b → is_small_type (whole (is_nought l)) ≡ false
      by_case true z = absurd (contrary (is_small l) (nought_small l z) e)
      by_case false z = ap (λ b. is_small_type (whole b)) z ∙ small_next l a ∙ ap (λ b. b && is_small_type a) e

-- ---- the ticks that are taken off

from_next : (n : ℕ) (o : Ty) (x : Layer) → out-Ty o ≡ x → is_next_layer x ≡ true →
    made_timed n (timed o) ≡ within (is_deep n o) (is_small_type o) (timed o)
from_next n o layer.One e h = absurd (cc)
from_next n o (layer.Plus ts) e h = absurd (cc)
from_next n o (layer.With ts) e h = absurd (cc)
from_next n o (layer.Tensor a b) e h = absurd (cc)
from_next n o (layer.Lolli a b) e h = absurd (cc)
from_next n o (layer.Named k es) e h = absurd (cc)
from_next n o (layer.Ex a) e h = absurd (cc)
from_next n o (layer.All a) e h = absurd (cc)
from_next n o (layer.Assert f a) e h = absurd (cc)
from_next n o (layer.Assume f a) e h = absurd (cc)
from_next n o (layer.Pays p a) e h = absurd (cc)
from_next n o (layer.Gets p a) e h = absurd (cc)
from_next n o (layer.Next l a) e h =
    let is : o ≡ ty.Next l a = sym (roll-out-Ty o) ∙ ap roll-Ty e ∙ ty.rolls-Next l a in
    let split : timed o ≡ record { ticks = l; body = a } = timed_next o a l e in
    ap (λ (f : Timed). within (is_deep n f.body) (is_small f.ticks && is_small_type f.body) (timed o)) split
    ∙ ap₂ (λ d s. within d s (timed o)) (sym (deep_next n l a) ∙ ap (is_deep n) (sym is)) (sym (small_next l a) ∙ ap is_small_type (sym is))

-- what passes a limit passes it whatever was to be made
taken_err : (deep small : Bool) (o : Ty) (e : Timed) (x : IndexErr) → Answers (within deep small o) (Err x) → AnswersExposed (within deep small e) (Err x)
taken_err deep small o e refusal.Coefficient h = let g = within_coefficient _ _ _ h in within_great _ _ e g.0 g.1
taken_err deep small o e refusal.Variables h = within_deep _ _ e (within_variables _ _ _ h)
taken_err deep small o e refusal.Memory h = tt

module _ (t : Table) (n : ℕ) (a : Ty) where
  module _ (next : is_next (opened t n a) ≡ true) where
    made_next : made_timed n (before_delay t n a) ≡ within (is_deep n (opened t n a)) (is_small_type (opened t n a)) (timed (opened t n a))
    made_next = ap (made_timed n) (before_timed t n a next) ∙ from_next n (opened t n a) (out-Ty (opened t n a)) refl next

    pub unfolded_ok : (u : Ty) (e : Exposed) → Answers (made_type n (opened t n a)) (Ok u) → record { ticks = e.ticks; body = e.head } ≡ timed u → AnswersExposed (made_timed n (before_delay t n a)) (Ok e)
    unfolded_ok u e h is =
        let g = within_ok _ _ (opened t n a) u h in
        made_next ∙ within_fits _ _ (timed (opened t n a)) g.shallow g.fits ∙ ap (λ (b : Ty). Ok (timed b)) g.is ∙ ap Ok (sym is)

    pub unfolded_err : (x : IndexErr) → Answers (made_type n (opened t n a)) (Err x) → AnswersExposed (made_timed n (before_delay t n a)) (Err x)
    unfolded_err x h = subst (λ m. AnswersExposed m (Err x)) (sym made_next) (taken_err _ _ (opened t n a) (timed (opened t n a)) x h)

  module _ (other : is_next (opened t n a) ≡ false) where
    abbrev untimed : Timed
    untimed = record { ticks = nought; body = a }

    pub copied_ok : (l : Linear) (b : Ty) → l ≡ nought → Answers (made_type n a) (Ok b) → AnswersExposed (made_timed n (before_delay t n a)) (Ok (record { ticks = l; head = b }))
    copied_ok l b same h =
        let g = within_ok _ _ a b h in
        ap (made_timed n) (before_plain t n a other) ∙ within_fits _ _ untimed g.shallow g.fits ∙ ap₂ (λ k c. Ok (record { ticks = k; body = c })) (sym same) g.is

    pub copied_err : (x : IndexErr) → Answers (made_type n a) (Err x) → AnswersExposed (made_timed n (before_delay t n a)) (Err x)
    copied_err x h = subst (λ m. AnswersExposed m (Err x)) (sym (ap (made_timed n) (before_plain t n a other))) (taken_err (is_deep n a) (is_small_type a) a untimed x h)

-- ---- the type after a delay

still_great : (a b c : Bool) → (a && b) ≡ false → (b ≡ false → c ≡ false) → (a && c) ≡ false
still_great true b c h k = k h
still_great false b c h k = refl

module _ (t : Table) (n : ℕ) (a : Ty) (by : Linear) where
  abbrev e : Timed
  e = before_delay t n a

  abbrev rest : Linear
  rest = less e.ticks by

  abbrev found_as : Linear → Ty → Timed
  found_as l b = record { ticks = l; body = b }

  pub shift_ok : (x : Exposed) (l : Linear) (goal : Formula) (b : Ty) → AnswersExposed (made_timed n e) (Ok x) → (l ≡ less x.ticks by) × (is_small (less x.ticks by) ≡ true) → goal ≡ is_at_least x.ticks by → b ≡ timed_type (found_as l x.head) →
      made_shift t n by a ≡ Ok (goal, b)
  shift_ok x l goal b h r said made =
      let g = within_ok _ _ e (found_as x.ticks x.head) h in
      let fits = both_true (is_small e.ticks) _ g.fits in
      let small = ap (λ (f : Timed). is_small (less f.ticks by)) g.is ∙ r.1 in
      within_fits _ _ (shifted by e) (deep_before rest e.body n ∙ g.shallow) (ap₂ (λ b c. b && c) fits.0 (small_before rest e.body small fits.1))
      ∙ ap (λ (f : Timed). Ok (shifted by f)) g.is
      ∙ ap₂ (λ (p : Formula) (q : Ty). Ok (p, q)) (sym said) (ap (λ k. timed_type (found_as k x.head)) (sym r.0) ∙ sym made)

  pub shift_great : (x : Exposed) → AnswersExposed (made_timed n e) (Ok x) → is_small (less x.ticks by) ≡ false → made_shift t n by a ≡ Err stop.Coefficient
  shift_great x h great =
      let g = within_ok _ _ e (found_as x.ticks x.head) h in
      within_great _ _ (shifted by e) (deep_before rest e.body n ∙ g.shallow)
      (and_right (is_small e.ticks) _ (ticks_great rest e.body (ap (λ (f : Timed). is_small (less f.ticks by)) g.is ∙ great)))

  pub shift_err : (x : IndexErr) → AnswersExposed (made_timed n e) (Err x) → Answers (made_shift t n by a) (Err x)
  shift_err refusal.Coefficient h =
      let g = within_coefficient _ _ _ h in
      within_great _ _ (shifted by e) (deep_before rest e.body n ∙ g.0) (still_great (is_small e.ticks) _ _ g.1 (body_great rest e.body))
  shift_err refusal.Variables h = within_deep _ _ (shifted by e) (deep_before rest e.body n ∙ within_variables _ _ _ h)
  shift_err refusal.Memory h = tt
