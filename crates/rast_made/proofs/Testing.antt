-- Tests of each element of a list, one after the other.
use Rattle.std.proofs.Common.{◌≡◌, ◌∙◌, ℕ, ◌<◌, ◌+◌, Bool, false, List, drop, length, get_or, sym, ap}
use Rattle.std.specs.List.{list_all}
use Rattle.std.proofs.lemmas.Bool.{and_left}
use Rattle.std.proofs.lemmas.List.{drop_more}

-- one test failed
pub test_stop : {X : Type 0} (p : X → Bool) (xs : List X) (i : ℕ) (x : X) → i < length xs → x ≡ get_or xs i x → p x ≡ false → list_all p (drop i xs) ≡ list_all p xs → false ≡ list_all p xs
test_stop {X} p xs i x h e t k = sym (and_left (p (get_or xs i x)) (list_all p (drop (i + 1) xs)) (ap p (sym e) ∙ t)) ∙ sym (ap (list_all p) (drop_more xs i x h)) ∙ k
