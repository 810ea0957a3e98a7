-- Entries of channels: the first of a channel, and lists with some changed or left out.
use Rattle.std.proofs.Common.{◌≡◌, ℕ, zero, suc, Bool, true, false, not, ◌==◌, ◌+◌, ◌<◌, List, [], ◌∷◌, Option, Some, None, arith, refl, sym, ap, ◌∙◌, length, take, drop, get_or, if◌then◌else◌, add-one}
use Rattle.std.specs.List.{list_any}
use Rattle.std.proofs.Math.Seq.{drop-cons}
use Rattle.std.proofs.lemmas.Bool.{ne_eqb}
use Rattle.rast_index.specs.Keys.{find_key}
use Rattle.rast_types.specs.declared.ty.Ty.{Ty}
use Rattle.rast_rules.specs.Trail.{left, first_channel}

-- past an entry that isn't the channel's
past : {A : Type 0} (k : ℕ) (e : ℕ × A) (es : List (ℕ × A)) → (e.0 == k) ≡ false → find_key k (e ∷ es) ≡ find_key k es
past k e es h = ap (λ b. if b then Some e.1 else find_key k es) h

skip_none : {A : Type 0} (b : Bool) (x : A) (o : Option A) → (if b then Some x else o) ≡ None → (b ≡ false) × (o ≡ None)
skip_none true x o h = cc
skip_none false x o h = (refl, h)

find_suc : {A : Type 0} (k : ℕ) (es : List (ℕ × A)) (i : ℕ) (d : ℕ × A) → i < length es → find_key k (take i es) ≡ None → ((get_or es i d).0 ≡ k → ⊥) → find_key k (take (suc i) es) ≡ None
find_suc k [] i d l h n = refl
find_suc k (e ∷ es) zero d l h n = past k e [] (ne_eqb e.0 k n)
find_suc k (e ∷ es) (suc i) d l h n =
    let r = skip_none (e.0 == k) e.1 (find_key k (take i es)) h in
    past k e (take (suc i) es) r.0 ∙ find_suc k es i d (omega (arith, l)) r.1 n

-- one more entry that isn't the channel's
pub find_more : {A : Type 0} (k : ℕ) (es : List (ℕ × A)) (i : ℕ) (d : ℕ × A) → i < length es → find_key k (take i es) ≡ None → ((get_or es i d).0 ≡ k → ⊥) → find_key k (take (i + 1) es) ≡ None
find_more k es i d l h n = ap (λ (j : ℕ). find_key k (take j es)) (add-one i) ∙ find_suc k es i d l h n

-- ---- the used channels but some

module _ (gone : List ℕ) (us : List (ℕ × Ty)) (i : ℕ) (u : ℕ × Ty) where
  open_at : i < length us → u ≡ get_or us i u → drop i us ≡ u ∷ drop (suc i) us
  open_at below is = drop-cons us i u below ∙ ap (λ y. y ∷ drop (suc i) us) (sym is)

  pub left_here : left gone (drop i us) ≡ left gone us → i < length us → u ≡ get_or us i u → list_any (λ y. y == u.0) gone ≡ false → Some u.0 ≡ first_channel (left gone us)
  left_here inv below is free =
      sym (ap first_channel (sym inv ∙ ap (left gone) (open_at below is)) ∙ ap (λ b. first_channel (if not b then u ∷ left gone (drop (suc i) us) else left gone (drop (suc i) us))) free)

  pub left_past : left gone (drop i us) ≡ left gone us → i < length us → u ≡ get_or us i u → list_any (λ y. y == u.0) gone ≡ true → left gone (drop (i + 1) us) ≡ left gone us
  left_past inv below is taken =
      ap (λ j. left gone (drop j us)) (add-one i)
      ∙ sym (ap (λ b. if not b then u ∷ left gone (drop (suc i) us) else left gone (drop (suc i) us)) taken)
      ∙ sym (ap (left gone) (open_at below is)) ∙ inv
