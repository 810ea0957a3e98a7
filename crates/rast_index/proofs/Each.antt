-- What replacing variables answers at a formula, from what it answers at its parts.
use Rattle.std.proofs.Common.{◌≡◌, Bool, true, false, ◌&&◌, List, map, Result, Ok, Err, ap, ap₂, sym, refl, subst}
use Rattle.std.specs.List.{list_all}
use Rattle.std.specs.Result.{IfOk}
use Rattle.rast_index.specs.Linear.{Linear, is_small, replaced}
use Rattle.rast_index.specs.Truth.{all_small, put}
use Rattle.rast_index.specs.Answer.{Gives, Fits}
use Rattle.rast_index.specs.declared.refusal.Coefficient.{Coefficient}
use Rattle.rast_index.specs.declared.refusal.IndexErr.{IndexErr}
use Rattle.rast_index.specs.declared.refusal.IndexErr.TheVariants as refusal
use Rattle.rast_index.specs.declared.formula.Formula.{Formula}
use Rattle.rast_index.specs.declared.formula.Formula.TheVariants.{Rel, And, Or}
use Rattle.rast_index.specs.declared.formula.Rel.{Rel as Relation}
use Rattle.rast_index.proofs.Trees.{all_small-Rel, all_small-And, all_small-Or, put-Rel, put-And, put-Or}

-- where one of two answers is a refusal, not both values fit
pub some_fails : (x y : Linear) (r q : Result Linear Coefficient) → Fits is_small x r → Fits is_small y q → ((a b : Linear) → r ≡ Ok a → q ≡ Ok b → ⊥) → (is_small x && is_small y) ≡ false
some_fails x y (Ok a) (Ok b) f g h = absurd (h a b refl refl)
some_fails x y (Ok a) (Err e) f g h = two (is_small x) (is_small y) g
  where
    two : (a b : Bool) → b ≡ false → (a && b) ≡ false
    two true b e = e
    two false b e = refl
some_fails x y (Err e) q f g h = ap (λ b. b && is_small y) f

pub rel_ok : (args : List Linear) (f : Formula) (l m : Linear) (r : Relation) → f ≡ Rel l r m → (a b : Linear) →
    (a ≡ replaced args l) × (is_small (replaced args l) ≡ true) → (b ≡ replaced args m) × (is_small (replaced args m) ≡ true) →
    (Rel a r b ≡ put args f) × (all_small (put args f) ≡ true)
rel_ok args f l m r is a b g h =
    (rw (is, put-Rel) (ap₂ (λ x y. Rel x r y) g.0 h.0), rw (is, put-Rel, all_small-Rel) (ap₂ (λ x y. x && y) g.1 h.1))

module _ (args : List Linear) (f : Formula) (fs xs : List Formula) where
  pub and_ok : f ≡ And fs → xs ≡ fs → (out : List Formula) → (out ≡ map (put args) xs) × (list_all all_small (map (put args) xs) ≡ true) →
      (And out ≡ put args f) × (all_small (put args f) ≡ true)
  and_ok is same out h = (rw (is, put-And, ← same) (ap And h.0), rw (is, put-And, ← same, all_small-And) h.1)

  pub and_err : f ≡ And fs → xs ≡ fs → (e : IndexErr) → Gives (list_all all_small) (map (put args) xs) (Err e) → Gives all_small (put args f) (Err e)
  and_err is same refusal.Coefficient h = rw (is, put-And, ← same, all_small-And) h
  and_err is same refusal.Variables h = h
  and_err is same refusal.Memory h = tt

  pub or_ok : f ≡ Or fs → xs ≡ fs → (out : List Formula) → (out ≡ map (put args) xs) × (list_all all_small (map (put args) xs) ≡ true) →
      (Or out ≡ put args f) × (all_small (put args f) ≡ true)
  or_ok is same out h = (rw (is, put-Or, ← same) (ap Or h.0), rw (is, put-Or, ← same, all_small-Or) h.1)

  pub or_err : f ≡ Or fs → xs ≡ fs → (e : IndexErr) → Gives (list_all all_small) (map (put args) xs) (Err e) → Gives all_small (put args f) (Err e)
  or_err is same refusal.Coefficient h = rw (is, put-Or, ← same, all_small-Or) h
  or_err is same refusal.Variables h = h
  or_err is same refusal.Memory h = tt

-- what is true of the stated formula is true of the answer
pub of_gives : (P : Formula → Type 0) (f : Formula) (r : Result Formula IndexErr) → Gives all_small f r → P f → IfOk r P
of_gives P f (Ok g) h p = subst P (sym h.0) p
of_gives P f (Err e) h p = tt
