-- A text that was appended to in steps.
use Rattle.std.proofs.Common.{◌≡◌, List, ℕ, ◌++◌, ap, sym, ◌∙◌, append_assoc}

pub two : (old a b : List ℕ) {mid new whole : List ℕ} → new ≡ mid ++ b → mid ≡ old ++ a → whole ≡ a ++ b → new ≡ old ++ whole
two old a b second first is = second ∙ ap (λ z. z ++ b) first ∙ append_assoc old a b ∙ ap (λ z. old ++ z) (sym is)

pub four : (old a b c d : List ℕ) {one two three new whole : List ℕ} → one ≡ old ++ a → two ≡ one ++ b → three ≡ two ++ c → new ≡ three ++ d → whole ≡ a ++ (b ++ (c ++ d)) → new ≡ old ++ whole
four old a b c d f g h k is =
    k ∙ ap (λ z. z ++ d) (h ∙ ap (λ z. z ++ c) (g ∙ ap (λ z. z ++ b) f))
    ∙ append_assoc ((old ++ a) ++ b) c d ∙ append_assoc (old ++ a) b (c ++ d) ∙ append_assoc old a (b ++ (c ++ d)) ∙ ap (λ z. old ++ z) (sym is)
