-- The laws of views that serve each other and of moments that suit a view. What follows from the definitions of serving and suiting is used through these alone.
use Rattle.std.proofs.Common.{◌≡◌, ℕ, pos, ◌+ℤ◌, true, false, Some, sym, ◌∙◌, ap}
use Rattle.rast_types.specs.declared.ty.Kind.{Kind}
use Rattle.rast_types.specs.Closed.{Closed, Table, Equal, exposed, kind_of, is_positive, View, view, head, Serves, Suits}
use Rattle.rast_equal.proofs.Equals.{SameHeads, equal_trans, equal_heads, equal_ticks, equal_of_heads, HasHead, same_heads}
use Rattle.rast_equal.proofs.Proper.{Proper, proper_head}

pub kind_across : (t : Table) (a b : Closed) (k : Kind) → Equal t a b → kind_of (exposed t a).head.ty ≡ Some k → kind_of (exposed t b).head.ty ≡ Some k
kind_across t a b k e h = sym (equal_heads t a b e).kind ∙ h

pub head_across : (t : Table) (a b : Closed) → Equal t a b → HasHead t a → HasHead t b
head_across t a b e h = (h.0, kind_across t a b h.0 e h.1)

-- heads of equal types are equal as types
pub heads_equal : (t : Table) (a b : Closed) → Equal t a b → HasHead t a → Equal t (exposed t a).head (exposed t b).head
heads_equal t a b e h = equal_of_heads t (exposed t a).head (exposed t b).head h.0 h.0 h.1 (kind_across t a b h.0 e h.1) (equal_heads t a b e)

-- two views of one moment whose types are equal serve each other
pub serves_equal : (t : Table) (m : ℕ) (a b : Closed) → Equal t a b → HasHead t a → Serves t (view m a) (view m b)
serves_equal t m a b e h = record { arrivals = ap (λ z. pos m +ℤ z) (equal_ticks t a b e); heads = heads_equal t a b e h }

-- where one view serves another, their heads are equal
pub serves_heads : (t : Table) (p q : View) → Serves t p q → Equal t (head t p) (head t q)
serves_heads t p q s = s.heads

-- serving is transitive
pub serves_trans : (t : Table) (p q r : View) → Serves t p q → Serves t q r → Serves t p r
serves_trans t p q r s u = record { arrivals = s.arrivals ∙ u.arrivals; heads = equal_trans t (head t p) (head t q) (head t r) s.heads u.heads }

-- views whose arrivals and heads are equal serve each other
pub serves_again : (t : Table) (m n : ℕ) (x y : Closed) → pos m +ℤ (exposed t x).ticks ≡ pos n +ℤ (exposed t y).ticks → HasHead t x → HasHead t y → SameHeads t (exposed t x).head (exposed t y).head → Serves t (view m x) (view n y)
serves_again t m n x y e h k s = record { arrivals = e; heads = equal_of_heads t (exposed t x).head (exposed t y).head h.0 k.0 h.1 k.1 s }

-- where the provider's view serves the client's, a moment that suits the provider suits the client, at positive heads
pub suits_client : (t : Table) (p c : View) (m : ℕ) (k : Kind) → kind_of (head t p).ty ≡ Some k → is_positive k ≡ true → Serves t p c → Suits t p m → Suits t c m
suits_client t p c m k e f s u = sym s.arrivals ∙ u

-- and a moment that suits the client suits the provider, at negative heads
pub suits_provider : (t : Table) (p c : View) (m : ℕ) (k : Kind) → kind_of (head t p).ty ≡ Some k → is_positive k ≡ false → Serves t p c → Suits t c m → Suits t p m
suits_provider t p c m k e f s u = s.arrivals ∙ u

-- where one view serves another and both are well formed, their heads agree
pub serves_same : (t : Table) (p c : View) → Proper t p.type → Proper t c.type → Serves t p c → SameHeads t (head t p) (head t c)
serves_same t p c h k s =
    let a = proper_head t p.type h in
    let b = proper_head t c.type k in
    same_heads t (head t p) (head t c) a.0 b.0 a.1 b.1 (serves_heads t p c s)

-- equal types at one moment, in the place of one another
pub serves_left : (t : Table) (m : ℕ) (a b : Closed) (c : View) → Equal t a b → HasHead t a → Serves t (view m b) c → Serves t (view m a) c
serves_left t m a b c e h s = serves_trans t (view m a) (view m b) c (serves_equal t m a b e h) s

pub serves_right : (t : Table) (m : ℕ) (a b : Closed) (p : View) → Equal t a b → HasHead t a → Serves t p (view m a) → Serves t p (view m b)
serves_right t m a b p e h s = serves_trans t p (view m a) (view m b) s (serves_equal t m a b e h)
