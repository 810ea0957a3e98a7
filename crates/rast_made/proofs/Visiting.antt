-- The pass over the nodes: what it says of each node, and of each place.
use Rattle.std.proofs.Common.{arith, ◌≡◌, ℕ, zero, suc, ◌+◌, ◌<◌, ◌≤◌, Bool, true, false, List, [], ◌∷◌, length, Option, Some, None, refl, ap, subst, flat_map, All, if◌then◌else◌, ⊎_elim}
use Rattle.std.specs.Prelude.{slice_get, sum_by}
use Rattle.std.proofs.lemmas.Bool.{cases_lt}
use Rattle.std.proofs.lemmas.List.Elements.{All-from_recursion}
use Rattle.std.proofs.lemmas.List.Sums.{sum_by-append}
use Rattle.rast_terms.specs.Nodes.{kids}
use Rattle.rast_terms.specs.declared.node.Node.{Node}
use Rattle.rast_terms.specs.declared.program.Program.{Program}
use Rattle.rast_made.specs.Made.{Places, all_placed, all_visited, below, is_made_node, visited}
use Rattle.rast_made.specs.declared.scope.Scope.{Scope}
use Rattle.rast_made.proofs.Putting.{after_is, all_after, all_full, all_kept, all_long, all_there, at, full, one_at, some_same}

-- what one visit was
pub record Visit (g : Program) (s : Places) (o : Option Scope) (nd : Node) (t : Places) : Type 0 where
  pub scope : Scope
  pub there : o ≡ Some scope
  pub made : is_made_node g scope nd ≡ true
  pub placed : all_placed (λ m. m) (λ m. below scope nd) s (kids nd) ≡ Some t

pub visit : (g : Program) (s : Places) (o : Option Scope) (nd : Node) (t : Places) → visited g s o nd ≡ Some t → Visit g s o nd t
visit g s None nd t e = absurd (cc)
visit g s (Some c) nd t e =
    let h : (is_made_node g c nd ≡ true) × (all_placed (λ m. m) (λ m. below c nd) s (kids nd) ≡ Some t) = chosen (is_made_node g c nd) (all_placed (λ m. m) (λ m. below c nd) s (kids nd)) t e in
    record { scope = c; there = refl; made = h.0; placed = h.1 }
  where
    chosen : (b : Bool) (p : Option Places) (t : Places) → (if b then p else None) ≡ Some t → (b ≡ true) × (p ≡ Some t)
    chosen true p t e = (refl, e)
    chosen false p t e = absurd (cc)

-- what is known of a node after the pass
pub record Seen (g : Program) (t : Places) (n : ℕ) (nd : Node) : Type 0 where
  pub scope : Scope
  pub there : at t n ≡ Some scope
  pub made : is_made_node g scope nd ≡ true
  pub kids : (i m : ℕ) → slice_get (kids nd) i ≡ Some m → at t m ≡ Some (below scope nd)

module _ (g : Program) where
  -- the first node's visit, and those of the others
  step : (s : Places) (n : ℕ) (nd : Node) (nds : List Node) (t : Places) → all_visited g s n (nd ∷ nds) ≡ Some t → (u : Places) × Visit g s (at s n) nd u × (all_visited g u (n + 1) nds ≡ Some t)
  step s n nd nds t e =
      let a = after_is (visited g s (at s n) nd) (λ u. all_visited g u (n + 1) nds) t e in
      (a.0, visit g s (at s n) nd a.0 a.1, a.2)

  pub visits_kept : (s : Places) (n : ℕ) (nds : List Node) (t : Places) → all_visited g s n nds ≡ Some t → (k : ℕ) (d : Scope) → at s k ≡ Some d → at t k ≡ Some d
  visits_kept s n [] t e k d h = subst (λ (u : Places). at u k ≡ Some d) (some_same s t e) h
  visits_kept s n (nd ∷ nds) t e k d h =
      let a = step s n nd nds t e in
      visits_kept a.0 (n + 1) nds t a.2 k d (all_kept (λ m. m) (λ m. below a.1.scope nd) s (kids nd) a.0 a.1.placed k d h)

  pub visits_seen : (s : Places) (n : ℕ) (nds : List Node) (t : Places) → all_visited g s n nds ≡ Some t → (i : ℕ) (nd : Node) → slice_get nds i ≡ Some nd → Seen g t (n + i) nd
  visits_seen s n [] t e i nd h = absurd (cc)
  visits_seen s n (x ∷ nds) t e zero nd h =
      let a = step s n x nds t e in
      let v = a.1 in
      let no_more : n ≡ n + zero = omega arith in
      let seen : Seen g t n x = record {
        scope = v.scope;
        there = visits_kept s n (x ∷ nds) t e n v.scope v.there;
        made = v.made;
        kids = λ i m k. visits_kept a.0 (n + 1) nds t a.2 m (below v.scope x) (all_there (λ m. m) (λ m. below v.scope x) s (kids x) a.0 v.placed i m k);
      } in
      subst (λ k. Seen g t k nd) no_more (subst (Seen g t n) (some_same x nd h) seen)
  visits_seen s n (x ∷ nds) t e (suc i) nd h =
      let a = step s n x nds t e in
      let later : (n + 1) + i ≡ n + suc i = omega arith in
      subst (λ k. Seen g t k nd) later (visits_seen a.0 (n + 1) nds t a.2 i nd h)

  pub visits_full : (s : Places) (n : ℕ) (nds : List Node) (t : Places) → all_visited g s n nds ≡ Some t → (k : ℕ) → full (at t k) ≡ full (at s k) + sum_by (one_at k) (flat_map kids nds)
  visits_full s n [] t e k = let h = ap (λ (u : Places). full (at u k)) (some_same s t e) in omega arith
  visits_full s n (nd ∷ nds) t e k =
      let a = step s n nd nds t e in
      let h = visits_full a.0 (n + 1) nds t a.2 k in
      let f = all_full (λ m. m) (λ m. below a.1.scope nd) s (kids nd) a.0 a.1.placed k in
      let both = sum_by-append (one_at k) (kids nd) (flat_map kids nds) in
      omega arith

  -- where each node before n has a place
  abbrev Filled : Places → ℕ → Type 0
  Filled s n = (k : ℕ) → k < n → full (at s k) ≡ 1

  one_of : (o : Option Scope) (c : Scope) → o ≡ Some c → full o ≡ 1
  one_of o c e = ap full e

  full_some : (o : Option Scope) → full o ≡ 1 → (c : Scope) × (o ≡ Some c)
  full_some None e = absurd (let f : 0 ≡ 1 = e in omega arith)
  full_some (Some c) e = (c, refl)

  filled_more : (s : Places) (n : ℕ) (c : Scope) → Filled s n → at s n ≡ Some c → (k : ℕ) → k ≤ n → full (at s k) ≡ 1
  filled_more s n c f h k le = ⊎_elim (λ (lt : k < n). f k lt) (λ (past : n ≤ k). let e : n ≡ k = omega arith in subst (λ m. full (at s m) ≡ 1) e (one_of (at s n) c h)) (cases_lt k n)

  filled_after : (s : Places) (n : ℕ) (nd : Node) (u : Places) → Filled s n → Visit g s (at s n) nd u → Filled u (n + 1)
  filled_after s n nd u f v k lt =
      let o = full_some (at s k) (filled_more s n v.scope f v.there k (omega arith)) in
      one_of (at u k) o.0 (all_kept (λ m. m) (λ m. below v.scope nd) s (kids nd) u v.placed k o.0 o.1)

  pub visits_forward : (s : Places) (n : ℕ) (nds : List Node) (t : Places) → Filled s n → all_visited g s n nds ≡ Some t → (i : ℕ) (nd : Node) → slice_get nds i ≡ Some nd → All (λ m. (n + i < m) × (m < length s)) (kids nd)
  visits_forward s n [] t f e i nd h = absurd (cc)
  visits_forward s n (x ∷ nds) t f e zero nd h =
      let a = step s n x nds t e in
      let v = a.1 in
      let here = all_after (λ m. m) (λ m. below v.scope x) s (kids x) a.0 n (filled_more s n v.scope f v.there) v.placed in
      let no_more : n ≡ n + zero = omega arith in
      subst (λ (y : Node). All (λ m. (n + zero < m) × (m < length s)) (kids y)) (some_same x nd h)
      (subst (λ (k : ℕ). All (λ m. (k < m) × (m < length s)) (kids x)) no_more (All-from_recursion (λ m. (n < m) × (m < length s)) (kids x) here))
  visits_forward s n (x ∷ nds) t f e (suc i) nd h =
      let a = step s n x nds t e in
      let long = all_long (λ m. m) (λ m. below a.1.scope x) s (kids x) a.0 a.1.placed in
      let later : (n + 1) + i ≡ n + suc i = omega arith in
      subst (λ (k : ℕ). All (λ m. (k < m) × (m < length s)) (kids nd)) later
      (subst (λ (l : ℕ). All (λ m. ((n + 1) + i < m) × (m < l)) (kids nd)) long (visits_forward a.0 (n + 1) nds t (filled_after s n x a.0 f a.1) a.2 i nd h))

  -- all nodes have a place at the end
  pub visits_filled : (s : Places) (n : ℕ) (nds : List Node) (t : Places) → Filled s n → all_visited g s n nds ≡ Some t → Filled t (n + length nds)
  visits_filled s n [] t f e k lt = subst (λ (u : Places). full (at u k) ≡ 1) (some_same s t e) (f k (omega arith))
  visits_filled s n (x ∷ nds) t f e k lt = let a = step s n x nds t e in visits_filled a.0 (n + 1) nds t (filled_after s n x a.0 f a.1) a.2 k (omega arith)
