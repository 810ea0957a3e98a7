-- A well made program is a forest: a node that had two places would be counted twice.
use Rattle.std.proofs.Common.{arith, ◌≡◌, ◌∙◌, ℕ, zero, suc, ◌+◌, ◌<◌, ◌≤◌, cond, List, [], ◌∷◌, length, Some, None, refl, sym, ap, subst, flat_map}
use Rattle.std.specs.Prelude.{◌==◌, slice_get, sum_by}
use Rattle.std.proofs.lemmas.Bool.Decides.{nat_tests}
use Rattle.std.proofs.lemmas.List.Sums.{sum_by-append, sum_by-cons}
use Rattle.rast_made.specs.WellMade.{IsWellMade, IsMadeDecl}
use Rattle.rast_terms.specs.Nodes.{kids}
use Rattle.rast_terms.specs.declared.node.Node.{Node}
use Rattle.rast_rules.specs.Plan.{IsBody, IsKid, IsForest}
use Rattle.rast_rules.specs.Rules.{Program, Decl}
use Rattle.rast_equal.proofs.Every.{all_get}

some_same : {X : Type 0} (x y : X) → Some x ≡ Some y → x ≡ y
some_same {X} x y e = cc

none_some : {X : Type 0} (x : X) → None ≡ Some x → ⊥
none_some {X} x e = cc

-- ---- counts

-- a member is counted
counted : {X : Type 0} (f : X → ℕ) (xs : List X) (i : ℕ) (x : X) → slice_get xs i ≡ Some x → f x ≤ sum_by f xs
counted {X} f [] i x e = absurd (none_some x e)
counted {X} f (y ∷ xs) zero x e = let s = sum_by-cons f y xs in let h = ap f (some_same y x e) in omega arith
counted {X} f (y ∷ xs) (suc i) x e = let s = sum_by-cons f y xs in let h = counted f xs i x e in omega arith

-- two members that count stand in one place, where the sum is 1
counted_once : {X : Type 0} (f : X → ℕ) (xs : List X) (i j : ℕ) (x y : X) → slice_get xs i ≡ Some x → slice_get xs j ≡ Some y → 1 ≤ f x → 1 ≤ f y → sum_by f xs ≤ 1 → i ≡ j
counted_once {X} f [] i j x y d e p q h = absurd (none_some x d)
counted_once {X} f (z ∷ xs) zero zero x y d e p q h = refl
counted_once {X} f (z ∷ xs) zero (suc j) x y d e p q h =
    let s = sum_by-cons f z xs in let k = ap f (some_same z x d) in let c = counted f xs j y e in absurd (omega arith)
counted_once {X} f (z ∷ xs) (suc i) zero x y d e p q h =
    let s = sum_by-cons f z xs in let k = ap f (some_same z y e) in let c = counted f xs i x d in absurd (omega arith)
counted_once {X} f (z ∷ xs) (suc i) (suc j) x y d e p q h = let s = sum_by-cons f z xs in ap suc (counted_once f xs i j x y d e p q (omega arith))

counted_flat : {X : Type 0} (f : ℕ → ℕ) (k : X → List ℕ) (xs : List X) → sum_by f (flat_map k xs) ≡ sum_by (λ x. sum_by f (k x)) xs
counted_flat {X} f k [] = refl
counted_flat {X} f k (x ∷ xs) =
    let s = sum_by-append f (k x) (flat_map k xs) in let c = sum_by-cons (λ x. sum_by f (k x)) x xs in let h = counted_flat f k xs in omega arith

abbrev one_at : ℕ → ℕ → ℕ
one_at m k = cond (k == m) 1 0

itself : (k m : ℕ) → k ≡ m → 1 ≤ one_at m k
itself k m e = grind (arith, nat_tests)

-- ---- a forest

module _ (g : Program) (w : IsWellMade g) where
  abbrev as_body : ℕ → Decl → ℕ
  as_body m d = one_at m d.body

  abbrev as_kids : ℕ → Node → ℕ
  as_kids m nd = sum_by (one_at m) (kids nd)

  -- the sums of the places of a node
  once : (m : ℕ) → m < length g.nodes → sum_by (as_body m) g.decls + sum_by (as_kids m) g.nodes ≡ 1
  once m lt = let p = w.placed m lt in let f = counted_flat (one_at m) kids g.nodes in omega arith

  body_within : (k m : ℕ) → IsBody g k m → m < length g.nodes
  body_within k m b = subst (λ n. n < length g.nodes) b.is (all_get (IsMadeDecl g) g.decls k b.decl w.decls b.there).body

  kid_after : (n i m : ℕ) → IsKid g n i m → (n < m) × (m < length g.nodes)
  kid_after n i m k = all_get (λ m. (n < m) × (m < length g.nodes)) (kids k.node) i m (w.forward n k.node k.there) k.is

  body_counts : (k m : ℕ) (b : IsBody g k m) → 1 ≤ as_body m b.decl
  body_counts k m b = itself b.decl.body m b.is

  kid_counts : (n i m : ℕ) (k : IsKid g n i m) → 1 ≤ as_kids m k.node
  kid_counts n i m k = let h = counted (one_at m) (kids k.node) i m k.is in let e = itself m m refl in omega arith

  two_bodies : (k l m : ℕ) → IsBody g k m → IsBody g l m → k ≡ l
  two_bodies k l m a b =
      let o = once m (body_within k m a) in
      counted_once (as_body m) g.decls k l a.decl b.decl a.there b.there (body_counts k m a) (body_counts l m b) (omega arith)

  two_kids : (n p i j m : ℕ) → IsKid g n i m → IsKid g p j m → (n ≡ p) × (i ≡ j)
  two_kids n p i j m a b =
      let o = once m (kid_after n i m a).1 in
      let same = counted_once (as_kids m) g.nodes n p a.node b.node a.there b.there (kid_counts n i m a) (kid_counts p j m b) (omega arith) in
      let node = some_same a.node b.node (sym a.there ∙ ap (λ k. slice_get g.nodes k) same ∙ b.there) in
      let here : slice_get (kids a.node) j ≡ Some m = ap (λ (x : Node). slice_get (kids x) j) node ∙ b.is in
      let c = counted (as_kids m) g.nodes n a.node a.there in
      let e = itself m m refl in
      (same, counted_once (one_at m) (kids a.node) i j m m a.is here (omega arith) (omega arith) (omega arith))

  body_and_kid : (k n i m : ℕ) → IsBody g k m → IsKid g n i m → ⊥
  body_and_kid k n i m a b =
      let o = once m (body_within k m a) in
      let c = counted (as_body m) g.decls k a.decl a.there in
      let d = counted (as_kids m) g.nodes n b.node b.there in
      let e = body_counts k m a in
      let f = kid_counts n i m b in
      omega arith

  pub forest_is : IsForest g
  forest_is = record {
    forward = λ n i m k. (kid_after n i m k).0;
    bodies = two_bodies;
    kids = two_kids;
    apart = body_and_kid;
  }
