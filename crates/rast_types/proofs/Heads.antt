-- What was made within the limits, and what a head adds to it.
use Rattle.std.proofs.Common.{◌≡◌, ℕ, Bool, true, false, ◌&&◌, Result, Ok, Err, sym, ◌∙◌, ap, ap₂, refl, subst}
use Rattle.rast_index.specs.Linear.{Linear, is_small}
use Rattle.rast_index.specs.Answer.{Gives}
use Rattle.rast_index.specs.declared.refusal.IndexErr.{IndexErr}
use Rattle.rast_index.specs.declared.refusal.IndexErr.TheVariants as refusal
use Rattle.rast_types.specs.Closed.{Table}
use Rattle.rast_types.specs.Symbolic.{Timed, within, is_deep, is_small_type, opened, opened_body, made_type}
use Rattle.rast_types.specs.Made.{Answers, AnswersExposed, made_head}
use Rattle.rast_types.specs.declared.head.Exposed.{Exposed}
use Rattle.rast_types.specs.declared.stop.Stop.{Stop}
use Rattle.rast_types.specs.declared.stop.Stop.TheVariants as stop
use Rattle.rast_types.specs.declared.ty.Ty.{Ty}

-- ---- what an answer within the limits tells

pub record IsWithin {X : Type 0} (deep small : Bool) (x y : X) : Type 0 where
  pub shallow : deep ≡ false
  pub fits : small ≡ true
  pub is : x ≡ y

ok_parts : {X : Type 0} (x y : X) (r : Result X Stop) → r ≡ Ok x → r ≡ Ok y → x ≡ y
ok_parts x y r d e = cc

pub within_ok : {X : Type 0} (deep small : Bool) (x y : X) → within deep small x ≡ Ok y → IsWithin deep small x y
within_ok {X} true small x y e = absurd (cc)
within_ok {X} false true x y e = record { shallow = refl; fits = refl; is = ok_parts x y (Ok x) refl e }
within_ok {X} false false x y e = absurd (cc)

pub within_variables : {X : Type 0} (deep small : Bool) (x : X) → within deep small x ≡ Err stop.Variables → deep ≡ true
within_variables {X} true small x e = refl
within_variables {X} false true x e = absurd (cc)
within_variables {X} false false x e = absurd (cc)

pub within_coefficient : {X : Type 0} (deep small : Bool) (x : X) → within deep small x ≡ Err stop.Coefficient → (deep ≡ false) × (small ≡ false)
within_coefficient {X} true small x e = absurd (cc)
within_coefficient {X} false true x e = absurd (cc)
within_coefficient {X} false false x e = (refl, refl)

pub within_deep : {X : Type 0} (deep small : Bool) (x : X) → deep ≡ true → within deep small x ≡ Err stop.Variables
within_deep {X} deep small x e = ap (λ d. within d small x) e

pub within_great : {X : Type 0} (deep small : Bool) (x : X) → deep ≡ false → small ≡ false → within deep small x ≡ Err stop.Coefficient
within_great {X} deep small x e f = ap₂ (λ d s. within d s x) e f

pub within_fits : {X : Type 0} (deep small : Bool) (x : X) → deep ≡ false → small ≡ true → within deep small x ≡ Ok x
within_fits {X} deep small x e f = ap₂ (λ d s. within d s x) e f

-- what was made in a scope that is not too deep
pub answered : {X : Type 0} (deep : Bool) (fits : X → Bool) (x : X) (r : Result X IndexErr) → deep ≡ false → Gives fits x r → Answers (within deep (fits x) x) r
answered {X} deep fits x (Ok y) e g = within_fits deep (fits x) x e g.1 ∙ ap Ok (sym g.0)
answered {X} deep fits x (Err refusal.Coefficient) e g = within_great deep (fits x) x e g
answered {X} deep fits x (Err refusal.Variables) e g = absurd g
answered {X} deep fits x (Err refusal.Memory) e g = tt

-- ---- heads

false_right : (b c : Bool) → c ≡ false → (b && c) ≡ false
false_right true c e = e
false_right false c e = refl

module _ (t : Table) (n : ℕ) (e : Timed) where
  pub head_err : (x : IndexErr) → Answers (made_type n (opened t n e.body)) (Err x) → AnswersExposed (made_head t n e) (Err x)
  head_err refusal.Coefficient h = let g = within_coefficient _ _ _ h in within_great _ _ _ g.0 (false_right _ _ g.1)
  head_err refusal.Variables h = within_deep _ _ _ (within_variables _ _ _ h)
  head_err refusal.Memory h = tt

  pub head_ok : (l : Linear) (a : Ty) → l ≡ e.ticks → is_small l ≡ true → Answers (made_type n (opened t n e.body)) (Ok a) →
      AnswersExposed (made_head t n e) (Ok (record { ticks = l; head = a }))
  head_ok l a same small h =
      let g = within_ok _ _ _ _ h in
      within_fits _ _ (opened_body t n e) g.shallow (ap₂ (λ b c. b && c) (ap is_small (sym same) ∙ small) g.fits)
      ∙ ap₂ (λ k b. Ok (record { ticks = k; body = b })) (sym same) g.is

  pub ticks_err : (a : Ty) → is_small e.ticks ≡ false → Answers (made_type n (opened t n e.body)) (Ok a) → made_head t n e ≡ Err stop.Coefficient
  ticks_err a great h = let g = within_ok _ _ _ _ h in within_great _ _ _ g.shallow (ap (λ b. b && is_small_type (opened t n e.body)) great)

-- the same of a type whose ticks and body are known
module _ (t : Table) (n : ℕ) where
  pub headed : (e f : Timed) (r : Result Exposed IndexErr) → e ≡ f → AnswersExposed (made_head t n f) r → AnswersExposed (made_head t n e) r
  headed e f r same h = subst (λ x. AnswersExposed (made_head t n x) r) (sym same) h

  pub headed_ok : (e f : Timed) (l : Linear) (a : Ty) → e ≡ f → l ≡ f.ticks → is_small l ≡ true → Answers (made_type n (opened t n f.body)) (Ok a) →
      AnswersExposed (made_head t n e) (Ok (record { ticks = l; head = a }))
  headed_ok e f l a same ticks small h = headed e f (Ok (record { ticks = l; head = a })) same (head_ok t n f l a ticks small h)

  pub headed_err : (e f : Timed) (x : IndexErr) → e ≡ f → Answers (made_type n (opened t n f.body)) (Err x) → AnswersExposed (made_head t n e) (Err x)
  headed_err e f x same h = headed e f (Err x) same (head_err t n f x h)
