-- How a loop over a list ends that asks a test of each item.
use Rattle.std.proofs.Common.{◌≡◌, ℕ, suc, ◌<◌, ◌≤◌, Bool, true, false, List, ◌∷◌, length, get_or, drop, sym, ◌∙◌, ap}
use Rattle.std.proofs.Math.Seq.{drop-cons}
use Rattle.std.proofs.lemmas.List.{drop_all}
use Rattle.std.specs.List.{list_all, list_any}

module _ {X : Type 0} (p : X → Bool) (xs : List X) (i : ℕ) where
  pub all_at_end : list_all p (drop i xs) ≡ list_all p xs → length xs ≤ i → true ≡ list_all p xs
  all_at_end e h = ap (list_all p) (sym (drop_all i xs h)) ∙ e

  pub all_at_false : (x : X) → list_all p (drop i xs) ≡ list_all p xs → i < length xs → x ≡ get_or xs i x → p x ≡ false → false ≡ list_all p xs
  all_at_false x e h here failed = let c : list_all p (x ∷ drop (suc i) xs) ≡ list_all p xs = ap (list_all p) (ap (λ y. y ∷ drop (suc i) xs) here ∙ sym (drop-cons xs i x h)) ∙ e in
      let d : list_all p (x ∷ drop (suc i) xs) ≡ false = rw failed in sym d ∙ c

  pub any_at_end : list_any p (drop i xs) ≡ list_any p xs → length xs ≤ i → false ≡ list_any p xs
  any_at_end e h = ap (list_any p) (sym (drop_all i xs h)) ∙ e

  pub any_at_true : (x : X) → list_any p (drop i xs) ≡ list_any p xs → i < length xs → x ≡ get_or xs i x → p x ≡ true → true ≡ list_any p xs
  any_at_true x e h here held = let c : list_any p (x ∷ drop (suc i) xs) ≡ list_any p xs = ap (list_any p) (ap (λ y. y ∷ drop (suc i) xs) here ∙ sym (drop-cons xs i x h)) ∙ e in
      let d : list_any p (x ∷ drop (suc i) xs) ≡ true = rw held in sym d ∙ c
