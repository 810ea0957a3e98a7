-- Whether a node is among children, one after the other.
use Rattle.std.proofs.Common.{arith, ◌≡◌, ◌∙◌, ◌==◌, ◌||◌, ◌+◌, ℕ, Bool, true, false, List, drop, Some, ap, sym}
use Rattle.std.specs.Prelude.{slice_get}
use Rattle.std.specs.List.{list_any}
use Rattle.std.proofs.lemmas.List.{at_drop_more}
use Rattle.std.proofs.lemmas.Bool.Decides.{nat_tests}
use Rattle.std.proofs.lemmas.Option.{get_or_from_slice_get, slice_get_within}

pub same : (k n : ℕ) → k ≡ n → (k == n) ≡ true
same k n e = grind (arith, nat_tests)

pub other : (k n : ℕ) → (k ≡ n → ⊥) → (k == n) ≡ false
other k n e = grind (arith, nat_tests)

module _ (n : ℕ) (ks : List ℕ) (i k : ℕ) (there : slice_get ks i ≡ Some k) where
  ahead : list_any (λ m. m == n) (drop i ks) ≡ ((k == n) || list_any (λ m. m == n) (drop (i + 1) ks))
  ahead =
      at_drop_more (list_any (λ m. m == n)) ks i k (slice_get_within ks i k there)
      ∙ ap (λ (x : ℕ). (x == n) || list_any (λ m. m == n) (drop (i + 1) ks)) (get_or_from_slice_get ks i k k there)

  pub is_here : (b : Bool) → (k == n) ≡ true → list_any (λ m. m == n) (drop i ks) ≡ b → true ≡ b
  is_here b e h = sym (ahead ∙ ap (λ (x : Bool). x || list_any (λ m. m == n) (drop (i + 1) ks)) e) ∙ h

  pub is_later : (b : Bool) → (k == n) ≡ false → list_any (λ m. m == n) (drop i ks) ≡ b → list_any (λ m. m == n) (drop (i + 1) ks) ≡ b
  is_later b e h = sym (ahead ∙ ap (λ (x : Bool). x || list_any (λ m. m == n) (drop (i + 1) ks)) e) ∙ h
