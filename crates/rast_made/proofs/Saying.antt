-- Names for printing, which are to be as many lists as there are things to name.
use Rattle.std.proofs.Common.{◌≡◌, ℕ, suc, false, List, [], ◌∷◌, length, refl, sym, ap}
use Rattle.std.proofs.lemmas.Bool.{and_right}
use Rattle.rast_terms.specs.declared.program.Program.{Program}
use Rattle.rast_made.specs.Made.{are_said, is_said}

pub said_apart : {A : Type 0} (g : Program) (f : A → ℕ) (xs : List A) (ss : List (List ℕ)) → (length xs ≡ length ss → ⊥) → false ≡ are_said g f xs ss
said_apart {A} g f [] [] h = absurd (h refl)
said_apart {A} g f [] (s ∷ ss) h = refl
said_apart {A} g f (x ∷ xs) [] h = refl
said_apart {A} g f (x ∷ xs) (s ∷ ss) h = sym (and_right (is_said g (f x) s) (are_said g f xs ss) (sym (said_apart g f xs ss (λ e. h (ap suc e)))))
