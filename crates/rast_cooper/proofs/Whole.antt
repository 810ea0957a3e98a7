-- A factor above 0 cancels.
use Rattle.std.proofs.Common.{◌≡◌, ℕ, ◌+◌, ◌*◌, ◌<◌, arith, ℤ, pos, ◌*ℤ◌}
use borrow.Author.Differences.{up, down, product_is, same_in, same_out}

cancel_nat : (k a b : ℕ) → 0 < k → k * a ≡ k * b → a ≡ b
cancel_nat k a b h e = grind arith

-- a factor above 0 cancels
pub cancel : (k : ℕ) (a b : ℤ) → 0 < k → pos k *ℤ a ≡ pos k *ℤ b → a ≡ b
cancel k a b h e =
    let p = product_is (pos k) a in
    let q = product_is (pos k) b in
    let f : k * (up a + down b) ≡ k * (up b + down a) = omega (arith, p, q, same_out _ _ e) in
    same_in a b (cancel_nat k _ _ h f)
