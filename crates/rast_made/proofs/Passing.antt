-- Steps of the pass, as the code takes them.
use Rattle.std.proofs.Common.{arith, ◌≡◌, ◌∙◌, ℕ, ◌+◌, ◌^◌, ◌<◌, ◌≤◌, Bool, true, false, List, [], ◌∷◌, drop, length, get_or, Option, Some, None, refl, sym, ap}
use Rattle.std.specs.Prelude.{slice_get, is_some}
use Rattle.std.specs.List.{AllByRecursion}
use Rattle.std.proofs.lemmas.List.{drop_all, drop_more}
use Rattle.std.proofs.lemmas.Option.{get_or_from_slice_get, slice_get_within}
use Rattle.rast_terms.specs.Nodes.{kids}
use Rattle.rast_terms.specs.declared.node.Node.{Node}
use Rattle.rast_terms.specs.declared.node.Node.TheVariants as node
use Rattle.rast_terms.specs.declared.program.Program.{Program}
use Rattle.rast_made.specs.Made.{AreFew, Places, Puts, after, all_placed, all_visited, below, found, no_places, placed, visited}
use Rattle.rast_made.specs.WellMade.{bound_variables, bound_channels}
use Rattle.rast_made.specs.declared.scope.Scope.{Scope}
use Rattle.rast_made.proofs.Making.{no_place}
use Rattle.rast_made.proofs.Putting.{all_from, put, put_from}
use Rattle.rast_made.proofs.Visiting.{visit}

pub puts_true : (b : Bool) (t : Places) (p : Option Places) → Puts b t p → b ≡ true → p ≡ Some t
puts_true true t p h e = h
puts_true false t p h e = absurd (let c : false ≡ true = e in cc)

pub puts_false : (b : Bool) (t : Places) (p : Option Places) → Puts b t p → b ≡ false → p ≡ None
puts_false false t p h e = h
puts_false true t p h e = absurd (let c : true ≡ false = e in cc)

pub puts_then : {X : Type 0} (p : Option X) (f : X → Option Places) (x : X) (q : Option Places) → p ≡ Some x → f x ≡ q → after p f ≡ q
puts_then {X} p f x q e h = ap (λ (o : Option X). after o f) e ∙ h

pub puts_none : {X : Type 0} (p : Option X) (f : X → Option Places) → p ≡ None → after p f ≡ None
puts_none {X} p f e = ap (λ (o : Option X). after o f) e

-- the last place of a list is put
pub puts_one : (b : Bool) (t : Places) (p : Option Places) → Puts b t p → Puts b t (after p (λ s. Some s))
puts_one true t p h = ap (λ (o : Option Places). after o (λ s. Some s)) h
puts_one false t p h = ap (λ (o : Option Places). after o (λ s. Some s)) h

-- ---- places of a list, one after the other

module _ {X : Type 0} (node : X → ℕ) (scope : X → Scope) (xs : List X) (i : ℕ) (x : X) (lt : i < length xs) (is : x ≡ get_or xs i x) where
  cut : (s : Places) → all_placed node scope s (drop i xs) ≡ after (placed s (scope x) (node x)) (λ t. all_placed node scope t (drop (i + 1) xs))
  cut s = ap (all_placed node scope s) (drop_more xs i x lt ∙ ap (λ (y : X). y ∷ drop (i + 1) xs) (sym is))

  pub place_more : (s t : Places) (p : Option Places) → placed s (scope x) (node x) ≡ Some t → all_placed node scope s (drop i xs) ≡ p → all_placed node scope t (drop (i + 1) xs) ≡ p
  place_more s t p e h = sym (puts_then (placed s (scope x) (node x)) (λ t. all_placed node scope t (drop (i + 1) xs)) t (all_placed node scope t (drop (i + 1) xs)) e refl) ∙ sym (cut s) ∙ h

  pub place_stop : (s : Places) (p : Option Places) → placed s (scope x) (node x) ≡ None → all_placed node scope s (drop i xs) ≡ p → p ≡ None
  place_stop s p e h = sym h ∙ cut s ∙ puts_none (placed s (scope x) (node x)) _ e

pub place_end : {X : Type 0} (node : X → ℕ) (scope : X → Scope) (xs : List X) (i : ℕ) (s : Places) (p : Option Places) → length xs ≤ i → all_placed node scope s (drop i xs) ≡ p → p ≡ Some s
place_end {X} node scope xs i s p past h = sym h ∙ ap (all_placed node scope s) (drop_all i xs past)

-- a child that is placed, or that has a place already
module _ (c : Scope) (ks : List ℕ) (i k : ℕ) (there : slice_get ks i ≡ Some k) (s t : Places) (b : Bool) (p : Option Places) (put : Puts b t (placed s c k)) (inv : all_placed (λ (m : ℕ). m) (λ m. c) s (drop i ks) ≡ p) where
  pub kid_more : b ≡ true → all_placed (λ (m : ℕ). m) (λ m. c) t (drop (i + 1) ks) ≡ p
  kid_more e = place_more (λ (m : ℕ). m) (λ m. c) ks i k (slice_get_within ks i k there) (sym (get_or_from_slice_get ks i k k there)) s t p (puts_true b t (placed s c k) put e) inv

  pub kid_stop : b ≡ false → p ≡ None
  kid_stop e = place_stop (λ (m : ℕ). m) (λ m. c) ks i k (slice_get_within ks i k there) (sym (get_or_from_slice_get ks i k k there)) s p (puts_false b t (placed s c k) put e) inv

-- ---- few variables and channels

abbrev Few : ℕ → Scope → Type 0
Few n c = (c.vars ≤ 2 ^ 8 + n) × (c.channels ≤ 2 ^ 64 + n)

pub few_first : (nds : List Node) → AreFew 0 (no_places nds)
few_first nds m c e = absurd (let h : None ≡ Some c = sym (no_place nds m) ∙ e in cc)

pub few_put : (n : ℕ) (s : Places) (c : Scope) (m : ℕ) (t : Places) → AreFew n s → c.vars ≤ 2 ^ 8 + n → c.channels ≤ 2 ^ 64 + n → placed s c m ≡ Some t → AreFew n t
few_put n s c m t f v h e = put_from s c m t (put s c m t e) (λ k d. Few n d) f (v, h)

few_more : (n : ℕ) (c : Scope) → Few n c → Few (n + 1) c
few_more n c f = let v = f.0 in let h = f.1 in (omega arith, omega arith)

bound_few : (nd : Node) → (bound_variables nd ≤ 1) × (bound_channels nd ≤ 1)
bound_few (node.Label x l n) = (omega arith, omega arith)
bound_few (node.Case x bs) = (omega arith, omega arith)
bound_few (node.Send x w rs n) = (omega arith, omega arith)
bound_few (node.Recv x y n) = (omega arith, omega arith)
bound_few (node.Index x e n) = (omega arith, omega arith)
bound_few (node.Bind x v n) = (omega arith, omega arith)
bound_few (node.Assert x n) = (omega arith, omega arith)
bound_few (node.Assume x n) = (omega arith, omega arith)
bound_few (node.Pay x n) = (omega arith, omega arith)
bound_few (node.Get x n) = (omega arith, omega arith)
bound_few (node.Close x) = (omega arith, omega arith)
bound_few (node.Wait x n) = (omega arith, omega arith)
bound_few (node.Forward x y rs) = (omega arith, omega arith)
bound_few (node.Spawn v d es ys rs n) = (omega arith, omega arith)
bound_few (node.Call x d es ys rs) = (omega arith, omega arith)
bound_few node.Impossible = (omega arith, omega arith)
bound_few (node.Work r n) = (omega arith, omega arith)
bound_few (node.Delay t n) = (omega arith, omega arith)

few_below : (n : ℕ) (c : Scope) (nd : Node) → Few n c → Few (n + 1) (below c nd)
few_below n c nd f = let v = f.0 in let h = f.1 in let b = bound_few nd in let d = b.0 in let e = b.1 in (omega arith, omega arith)

all_few : (n : ℕ) (c : Scope) → Few n c → (ms : List ℕ) → AllByRecursion (λ (m : ℕ). Few n c) ms
all_few n c f [] = tt
all_few n c f (m ∷ ms) = (f, all_few n c f ms)

pub few_visit : (g : Program) (n : ℕ) (s : Places) (c : Scope) (nd : Node) (t : Places) → AreFew n s → found (slice_get s n) ≡ Some c → visited g s (Some c) nd ≡ Some t → AreFew (n + 1) t
few_visit g n s c nd t f e h =
    let v = visit g s (Some c) nd t h in
    all_from (λ m. m) (λ m. below v.scope nd) (λ k d. Few (n + 1) d) s (kids nd) t v.placed (λ k d i. few_more n d (f k d i))
    (all_few (n + 1) (below v.scope nd) (few_below n v.scope nd (f n v.scope (e ∙ v.there))) (kids nd))

-- ---- one visit more

module _ (g : Program) (nds : List Node) (i : ℕ) (nd : Node) (lt : i < length nds) (is : nd ≡ get_or nds i nd) where
  cut_nodes : (s : Places) → all_visited g s i (drop i nds) ≡ after (visited g s (found (slice_get s i)) nd) (λ t. all_visited g t (i + 1) (drop (i + 1) nds))
  cut_nodes s = ap (all_visited g s i) (drop_more nds i nd lt ∙ ap (λ (x : Node). x ∷ drop (i + 1) nds) (sym is))

  pub visit_more : (s : Places) (o : Option Scope) (t : Places) (p : Option Places) → found (slice_get s i) ≡ o → visited g s o nd ≡ Some t → all_visited g s i (drop i nds) ≡ p → all_visited g t (i + 1) (drop (i + 1) nds) ≡ p
  visit_more s o t p f e h =
      sym (puts_then (visited g s (found (slice_get s i)) nd) (λ t. all_visited g t (i + 1) (drop (i + 1) nds)) t (all_visited g t (i + 1) (drop (i + 1) nds)) (ap (λ (x : Option Scope). visited g s x nd) f ∙ e) refl)
      ∙ sym (cut_nodes s) ∙ h

  pub visit_stop : (s : Places) (o : Option Scope) (p : Option Places) → found (slice_get s i) ≡ o → visited g s o nd ≡ None → all_visited g s i (drop i nds) ≡ p → p ≡ None
  visit_stop s o p f e h = sym h ∙ cut_nodes s ∙ puts_none (visited g s (found (slice_get s i)) nd) _ (ap (λ (x : Option Scope). visited g s x nd) f ∙ e)

pub visit_end : (g : Program) (nds : List Node) (i : ℕ) (s : Places) (p : Option Places) → length nds ≤ i → all_visited g s i (drop i nds) ≡ p → p ≡ Some s
visit_end g nds i s p past h = sym h ∙ ap (all_visited g s i) (drop_all i nds past)

-- whether all were visited
pub puts_some : (b : Bool) (t : Places) (p : Option Places) → Puts b t p → b ≡ is_some p
puts_some true t p h = sym (ap is_some h)
puts_some false t p h = sym (ap is_some h)
