-- One turn of a loop that reads any number of parts.
use Rattle.std.proofs.Common.{◌≡◌, ℕ, zero, suc, ◌+◌, ◌-◌, ◌<◌, ◌≤◌, Bool, true, false, cond, List, [], ◌∷◌, ◌++◌, ap, sym, ◌∙◌, refl, arith, append_assoc, append-nil}
use Rattle.rast_forms.specs.Words.{Word, starts}
use Rattle.rast_forms.specs.Reading.{Why, Syntax, TooDeep, Read, Done, Bad, Reader, ◌>>=◌, many_read, front, IsUnderWay}

module _ {X : Type 0} (first : List ℕ) (p : Reader X) where
  none : (n : ℕ) (r : List Word) → starts first r ≡ false → many_read first p n r ≡ Done [] r
  none zero r e = refl
  none (suc n) r e = rw e refl

  next : (n k : ℕ) (r : List Word) → k < n → starts first r ≡ true → many_read first p (n - k) r ≡ (p r >>= λ x more. many_read first p (n - (k + 1)) more >>= λ xs rest. Done (x ∷ xs) rest)
  next n k r h e = let s : n - k ≡ suc (n - (k + 1)) = omega arith in rw (s, e) refl

  moved : (xs : List X) (x : X) (m : Read (List X)) → front xs (m >>= λ ys rest. Done (x ∷ ys) rest) ≡ front (xs ++ x ∷ []) m
  moved xs x (Done ys r) = rw append_assoc refl
  moved xs x (Bad why r) = refl

module _ {X : Type 0} {first : List ℕ} {p : Reader X} {n k : ℕ} {xs : List X} {r : List Word} {all : Read (List X)} (inv : IsUnderWay first p n k xs r all) where
  -- no further part begins
  pub at_end : {b : Bool} → b ≡ starts first r → b ≡ false → all ≡ Done xs r
  at_end e f = sym inv.so_far ∙ rw (none first p (n - k) r (sym e ∙ f)) (ap (λ z. Done z r) (append-nil xs))

  -- there were as many turns as tokens
  pub at_last : {m : ℕ} → m ≤ k → m ≡ n → all ≡ Done xs r
  at_last h e = let s : n - k ≡ 0 = omega arith in sym inv.so_far ∙ rw s (ap (λ z. Done z r) (append-nil xs))

  -- a further part is read
  pub at_turn : {m : ℕ} {b : Bool} {x : X} {after : List Word} {ys : List X} → k < m → m ≡ n → b ≡ starts first r → b ≡ true → p r ≡ Done x after → ys ≡ xs ++ x ∷ [] → IsUnderWay first p n (k + 1) ys after all
  at_turn {m} {b} {x} {after} h e s t reads more = record {
    so_far = rw more (sym (rw (next first p n k r (omega arith) (sym s ∙ t), reads) (moved first p xs x (many_read first p (n - (k + 1)) after))) ∙ inv.so_far);
  }

  -- a further part is wrong
  pub at_bad : {m : ℕ} {b : Bool} {after : List Word} {why : Why} → k < m → m ≡ n → b ≡ starts first r → b ≡ true → p r ≡ Bad why after → all ≡ Bad why after
  at_bad h e s t reads = sym inv.so_far ∙ rw (next first p n k r (omega arith) (sym s ∙ t), reads) refl

pub at_start : {X : Type 0} (first : List ℕ) (p : Reader X) (n : ℕ) (r : List Word) → IsUnderWay first p n 0 [] r (many_read first p n r)
at_start {X} first p n r = record { so_far = let e : n - 0 ≡ n = omega arith in rw e (at (many_read first p n r)) }
  where
    at : (m : Read (List X)) → front [] m ≡ m
    at (Done xs r) = refl
    at (Bad why r) = refl
