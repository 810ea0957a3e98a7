-- Closed types that are well formed: each head has a kind and a figure that isn't negative, and so has each head below.
use Rattle.std.proofs.Common.{◌≡◌, ℕ, zero, suc, pos, Some, sym, ◌∙◌}
use Rattle.rast_types.specs.Closed.{Closed, Table, Way, Equal, exposed, part_of, figure_of}
use Rattle.rast_equal.proofs.Equals.{SameHeads, equal_heads, equal_sym, part_across, heads_sym, HasHead}

abbrev pub ProperTo : Table → ℕ → Closed → Type 0
ProperTo t zero c = Unit {0}
ProperTo t (suc k) c = HasHead t c × ((n : ℕ) × (figure_of (exposed t c).head ≡ pos n)) × ((w : Way) (x : Closed) → part_of (exposed t c).head w ≡ Some x → ProperTo t k x)

-- to every depth
abbrev pub Proper : Table → Closed → Type 0
Proper t c = (k : ℕ) → ProperTo t k c

pub proper_head : (t : Table) (c : Closed) → Proper t c → HasHead t c
proper_head t c h = (h 1).0

pub proper_figure : (t : Table) (c : Closed) → Proper t c → (n : ℕ) × (figure_of (exposed t c).head ≡ pos n)
proper_figure t c h = (h 1).1

pub proper_part : (t : Table) (c : Closed) (w : Way) (x : Closed) → Proper t c → part_of (exposed t c).head w ≡ Some x → Proper t x
proper_part t c w x h p = λ k. (h (suc k)).2 w x p

proper_to : (t : Table) (k : ℕ) (a b : Closed) → Equal t a b → ProperTo t k a → ProperTo t k b
proper_to t zero a b e h = tt
proper_to t (suc k) a b e h =
    let s = equal_heads t a b e in (
      (h.0.0, sym s.kind ∙ h.0.1),
      (h.1.0, sym s.figure ∙ h.1.1),
      λ w y q.
          let m = part_across t (exposed t b).head (exposed t a).head w y (heads_sym t (exposed t a).head (exposed t b).head s) q in
          proper_to t k m.0 y (equal_sym t y m.0 m.2) (h.2 w m.0 m.1),
    )

pub proper_equal : (t : Table) (a b : Closed) → Equal t a b → Proper t a → Proper t b
proper_equal t a b e h = λ k. proper_to t k a b e (h k)

-- what has the head of a well formed type is well formed
pub proper_heads : (t : Table) (a b : Closed) → SameHeads t (exposed t a).head (exposed t b).head → Proper t a → Proper t b
proper_heads t a b s h zero = tt
proper_heads t a b s h (suc k) =
    let p : ProperTo t (suc k) a = h (suc k) in (
      (p.0.0, sym s.kind ∙ p.0.1),
      (p.1.0, sym s.figure ∙ p.1.1),
      λ w y q.
          let m = part_across t (exposed t b).head (exposed t a).head w y (heads_sym t (exposed t a).head (exposed t b).head s) q in
          proper_equal t m.0 y (equal_sym t y m.0 m.2) (λ i. (h (suc i)).2 w m.0 m.1) k,
    )
