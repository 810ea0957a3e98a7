-- Labels of which none stands twice have numbers of which none stands twice.
use Rattle.std.proofs.Common.{◌≡◌, ℕ, Bool, true, false, not, ◌&&◌, ◌||◌, List, [], ◌∷◌, ◌++◌, length, sym, ap, ap₂, ◌∙◌}
use Rattle.std.specs.Prelude.{◌==◌}
use Rattle.std.specs.List.{list_any}
use Rattle.std.proofs.lemmas.Bool.{ne_eqb, lt-ltb}
use Rattle.rast_equal.specs.WellMadeTypes.{are_labels}
use Rattle.rast_resolve.specs.Scopes.{Text, Texts, is_among, number_in}
use Rattle.rast_meant.proofs.Numbers.{number_within, number_apart, some_among, among_left, among_last}

pub two : (a b : Bool) → a ≡ true → b ≡ true → (a && b) ≡ true
two a b h k = ap₂ (λ x y. x && y) h k

-- no label that is seen has one of these numbers
abbrev pub AreNew : Texts → Texts → List ℕ → Type 0
AreNew names seen ls = (l : Text) → is_among l seen ≡ true → is_among l names ≡ true → list_any (λ k. k == number_in names l) ls ≡ false

module _ (names : Texts) (l : Text) (seen : Texts) (ls : List ℕ) (h : is_among l names ≡ true) (new : AreNew names (seen ++ l ∷ []) ls) where
  -- one more label
  pub more_labels : are_labels (length names) ls ≡ true → are_labels (length names) (number_in names l ∷ ls) ≡ true
  more_labels k = two _ _ (lt-ltb (number_in names l) (length names) (number_within l names (some_among l names h))) (two _ _ (ap not (new l (among_last l seen) h)) k)

  pub still_new : is_among l seen ≡ false → AreNew names seen (number_in names l ∷ ls)
  still_new n m g k =
      ap₂ (λ x y. x || y) (ne_eqb (number_in names l) (number_in names m) (λ e. apart m g (number_apart l m names h k e))) (new m (among_left m seen (l ∷ []) g) k)
    where
      apart : (m : Text) → is_among m seen ≡ true → l ≡ m → ⊥
      apart m g e = cc (sym n ∙ ap (λ z. is_among z seen) e ∙ g)
