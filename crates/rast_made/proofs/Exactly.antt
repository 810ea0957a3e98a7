-- A program that is well made passes the tests.
use Rattle.std.proofs.Common.{arith, ◌≡◌, ◌∙◌, ℕ, zero, suc, ◌+◌, ◌<◌, ◌≤◌, Bool, true, false, cond, List, [], ◌∷◌, length, Option, Some, None, refl, sym, ap, subst, flat_map, All, if◌then◌else◌}
use Rattle.std.specs.Prelude.{◌==◌, slice_get, slice_set, sum_by, is_some}
use Rattle.std.specs.List.{list_all, AllByRecursion}
use Rattle.std.proofs.lemmas.Bool.{and_from, lt-ltb}
use Rattle.std.proofs.lemmas.Bool.Decides.{nat_tests}
use Rattle.std.proofs.lemmas.List.Elements.{recursion_from_All}
use Rattle.std.proofs.lemmas.List.Sums.{sum_by-append, sum_by-cons}
use Rattle.rast_index.specs.Linear.{Linear}
use Rattle.rast_types.specs.declared.ty.Ty.{Ty}
use Rattle.rast_types.specs.declared.table.TypeDef.{TypeDef}
use Rattle.rast_types.specs.declared.equation.Equation.{Equation}
use Rattle.rast_terms.specs.Nodes.{kids}
use Rattle.rast_terms.specs.declared.node.Node.{Node}
use Rattle.rast_terms.specs.declared.node.Node.TheVariants as node
use Rattle.rast_terms.specs.declared.program.Program.{Program}
use Rattle.rast_terms.specs.declared.program.Decl.{Decl}
use Rattle.rast_made.specs.Made as made
use Rattle.rast_made.specs.Made.{Places, after, all_placed, all_visited, are_said, below, is_channel, is_made_call, is_made_decl, is_made_def, is_made_equation, is_made_main, is_made_node, is_made_type, is_name, is_open, is_well_made, no_places, placed, scope_of, visited}
use Rattle.rast_made.specs.WellMade.{AreSaid, IsMadeCall, IsMadeDecl, IsMadeDef, IsMadeEquation, IsMadeMain, IsMadeNode, IsMadeType, IsWellMade, StandsIn, at_child, at_root, names_of_channels, names_of_decl, names_of_def}
use Rattle.rast_made.specs.declared.scope.Scope.{Scope}
use Rattle.rast_made.proofs.Making.{long_places, no_place}
use Rattle.rast_made.proofs.Putting.{all_from, all_full, all_long, at, full, number_itself, one_at, put, put_full}

-- ---- types, declarations, equations and nodes

all_true : {X : Type 0} (p : X → Bool) (P : X → Type 0) → ((x : X) → P x → p x ≡ true) → (xs : List X) → AllByRecursion P xs → list_all p xs ≡ true
all_true {X} p P f [] h = refl
all_true {X} p P f (x ∷ xs) h = and_from (p x) (list_all p xs) (f x h.0) (all_true p P f xs h.1)

each_true : {X : Type 0} (p : X → Bool) (P : X → Type 0) → ((x : X) → P x → p x ≡ true) → (xs : List X) → All P xs → list_all p xs ≡ true
each_true {X} p P f xs h = all_true p P f xs (recursion_from_All P xs h)

equal : (m k : ℕ) → m ≡ k → (m == k) ≡ true
equal m k e = grind (arith, nat_tests)

module _ (g : Program) where
  type_true : (n : ℕ) (a : Ty) → IsMadeType g n a → is_made_type g n a ≡ true
  type_true n a m = and_from _ _ m.within (and_from _ _ m.named m.labelled)

  def_true : (d : TypeDef) → IsMadeDef g d → is_made_def g d ≡ true
  def_true d m = and_from _ _ (lt-ltb d.name (length g.names) m.name) (type_true d.params d.body m.body)

  decl_true : (d : Decl) → IsMadeDecl g d → is_made_decl g d ≡ true
  decl_true d m =
      and_from _ _ (lt-ltb d.name (length g.names) m.name)
      (and_from _ _ (each_true (is_made_type g d.params) (IsMadeType g d.params) (type_true d.params) d.uses m.uses) (and_from _ _ m.potential (type_true d.params d.gives m.gives)))

  equation_true : (e : Equation) → IsMadeEquation g e → is_made_equation g e ≡ true
  equation_true e m = and_from _ _ m.within (and_from _ _ (type_true e.vars e.left m.left) (type_true e.vars e.right m.right))

  main_true : (o : Option ℕ) → IsMadeMain g o → is_made_main g o ≡ true
  main_true None m = refl
  main_true (Some k) m =
      ap made.takes_nothing m.1 ∙ and_from _ _ (equal m.0.params 0 m.2) (equal (length m.0.uses) 0 (ap (λ (us : List Ty). length us) m.3))

  in_scope : (c : Scope) (x : ℕ) → x < c.channels → is_channel c x ≡ true
  in_scope c x lt = lt-ltb x c.channels lt

  named : (k : ℕ) → k < length g.names → is_name g k ≡ true
  named k lt = lt-ltb k (length g.names) lt

  call_true : (c : Scope) (d : ℕ) (es : List Linear) (ys : List ℕ) → IsMadeCall g c.vars c.channels d es ys → is_made_call (slice_get g.decls d) c es ys ≡ true
  call_true c d es ys m =
      ap (λ (o : Option Decl). is_made_call o c es ys) m.is
      ∙ and_from _ _ (and_from _ _ (equal (length es) m.decl.params m.args) (equal (length ys) (length m.decl.uses) m.channels))
      (and_from _ _ m.terms (each_true (is_channel c) (λ y. y < c.channels) (in_scope c) ys m.bound))

  node_true : (c : Scope) (nd : Node) → IsMadeNode g c.vars c.channels nd → is_made_node g c nd ≡ true
  node_true c (node.Label x l n) m = and_from _ _ (in_scope c x m.0) (named l m.1)
  node_true c (node.Case x bs) m = and_from _ _ (in_scope c x m.0) m.1
  node_true c (node.Send x w rs n) m = and_from _ _ (in_scope c x m.0) (in_scope c w m.1)
  node_true c (node.Recv x y n) m = and_from _ _ (in_scope c x m.0) (named y m.1)
  node_true c (node.Index x e n) m = and_from _ _ (in_scope c x m.0) m.1
  node_true c (node.Bind x v n) m = and_from _ _ (in_scope c x m.0) (named v m.1)
  node_true c (node.Assert x n) m = in_scope c x m
  node_true c (node.Assume x n) m = in_scope c x m
  node_true c (node.Pay x n) m = in_scope c x m
  node_true c (node.Get x n) m = in_scope c x m
  node_true c (node.Close x) m = in_scope c x m
  node_true c (node.Wait x n) m = in_scope c x m
  node_true c (node.Forward x y rs) m = and_from _ _ (in_scope c x m.0) (in_scope c y m.1)
  node_true c (node.Spawn v d es ys rs n) m = and_from _ _ (named v m.0) (call_true c d es ys m.1)
  node_true c (node.Call x d es ys rs) m = and_from _ _ (in_scope c x m.0) (call_true c d es ys m.1)
  node_true c node.Impossible m = refl
  node_true c (node.Work r n) m = m
  node_true c (node.Delay t n) m = m

  said_true : {A : Type 0} (f : A → ℕ) (xs : List A) (ss : List (List ℕ)) → AreSaid g f xs ss → are_said g f xs ss ≡ true
  said_true {A} f [] [] m = refl
  said_true {A} f [] (s ∷ ss) m = absurd m
  said_true {A} f (x ∷ xs) [] m = absurd m
  said_true {A} f (x ∷ xs) (s ∷ ss) m =
      and_from _ _ (and_from _ _ (equal (length s) (f x) m.0) (each_true (is_name g) (λ n. n < length g.names) named s m.1)) (said_true f xs ss m.2)

-- ---- places that are free

open_there : (s : Places) (m : ℕ) → m < length s → full (at s m) ≡ 0 → is_open (slice_get s m) ≡ true
open_there [] m lt e = absurd (omega arith)
open_there (None ∷ s) zero lt e = refl
open_there (Some c ∷ s) zero lt e = absurd (let h : 1 ≡ 0 = e in omega arith)
open_there (x ∷ s) (suc m) lt e = open_there s m (let h : suc m < suc (length s) = lt in omega arith) e

by_index : {X : Type 0} (P : X → Type 0) (xs : List X) → ((i : ℕ) (x : X) → slice_get xs i ≡ Some x → P x) → AllByRecursion P xs
by_index {X} P [] f = tt
by_index {X} P (x ∷ xs) f = (f 0 x refl, by_index P xs (λ i y e. f (suc i) y e))

module _ {X : Type 0} (node : X → ℕ) (scope : X → Scope) where
  -- where no node gets a second place, all get theirs
  placeable : (s : Places) (xs : List X) → AllByRecursion (λ x. node x < length s) xs → ((m : ℕ) → m < length s → full (at s m) + sum_by (λ x. one_at m (node x)) xs ≤ 1) → (t : Places) × (all_placed node scope s xs ≡ Some t)
  placeable s [] w f = (s, refl)
  placeable s (x ∷ xs) w f =
      let m = node x in
      let h = f m w.0 in
      let more = sum_by-cons (λ x. one_at m (node x)) x xs in
      let itself : one_at m m ≡ 1 = ap (λ (b : Bool). cond {A = ℕ} b 1 0) (number_itself m) in
      let free = open_there s m w.0 (omega arith) in
      let u = slice_set s m (Some (scope x)) in
      let e : placed s (scope x) m ≡ Some u = ap (λ (b : Bool). if b then Some u else None) free in
      let p = put s (scope x) m u e in
      let rest = placeable u xs (subst (λ l. AllByRecursion (λ x. node x < l) xs) (sym p.long) w.1)
      (λ k lt. let g = f k (subst (λ l. k < l) p.long lt) in let c = sum_by-cons (λ x. one_at k (node x)) x xs in let q = put_full s (scope x) m u p k in omega arith) in
      (rest.0, ap (λ (o : Option Places). after o (λ t. all_placed node scope t xs)) e ∙ rest.1)

-- no child of a node stands before it
none_of : (n : ℕ) (ms : List ℕ) → AllByRecursion (λ m. n < m) ms → sum_by (one_at n) ms ≡ 0
none_of n [] h = refl
none_of n (m ∷ ms) h =
    let c = sum_by-cons (one_at n) m ms in
    let r = none_of n ms h.1 in
    let a : one_at n m ≡ 0 = ap (λ (b : Bool). cond {A = ℕ} b 1 0) (apart m n h.0) in
    omega arith
  where
    apart : (m n : ℕ) → n < m → (m == n) ≡ false
    apart m n lt = grind (arith, nat_tests)

module _ (g : Program) (w : IsWellMade g) where
  -- each place that was met is one in which the node stands
  abbrev Stand : Places → Type 0
  Stand s = (m : ℕ) (c : Scope) → at s m ≡ Some c → StandsIn g m c.vars c.channels

  -- the children of the nodes from n on, and the places that were met, are each node once
  record Left (s : Places) (n : ℕ) (nds : List Node) : Type 0 where
    long : length s ≡ length g.nodes
    size : n + length nds ≡ length g.nodes
    nodes : (i : ℕ) (nd : Node) → slice_get nds i ≡ Some nd → slice_get g.nodes (n + i) ≡ Some nd
    count : (m : ℕ) → m < length g.nodes → full (at s m) + sum_by (one_at m) (flat_map kids nds) ≡ 1
    stand : Stand s

  kids_after : (n : ℕ) (nd : Node) → slice_get g.nodes n ≡ Some nd → AllByRecursion (λ m. (n < m) × (m < length g.nodes)) (kids nd)
  kids_after n nd e = recursion_from_All _ (kids nd) (w.forward n nd e)

  firsts : (n l : ℕ) (ms : List ℕ) → AllByRecursion (λ m. (n < m) × (m < l)) ms → AllByRecursion (λ m. n < m) ms
  firsts n l [] h = tt
  firsts n l (m ∷ ms) h = (h.0.0, firsts n l ms h.1)

  seconds : (n l : ℕ) (ms : List ℕ) → AllByRecursion (λ m. (n < m) × (m < l)) ms → AllByRecursion (λ m. m < l) ms
  seconds n l [] h = tt
  seconds n l (m ∷ ms) h = (h.0.1, seconds n l ms h.1)

  -- no node from n on has the node n as a child
  none_later : (n : ℕ) (k : ℕ) (nds : List Node) → n ≤ k → ((i : ℕ) (nd : Node) → slice_get nds i ≡ Some nd → slice_get g.nodes (k + i) ≡ Some nd) → sum_by (one_at n) (flat_map kids nds) ≡ 0
  none_later n k [] le f = refl
  none_later n k (nd ∷ nds) le f =
      let there : slice_get g.nodes k ≡ Some nd = subst (λ i. slice_get g.nodes i ≡ Some nd) (no_more k) (f 0 nd refl) in
      let own = none_of n (kids nd) (weaker n k (kids nd) le (firsts k (length g.nodes) (kids nd) (kids_after k nd there))) in
      let rest = none_later n (k + 1) nds (omega arith) (λ i x e. subst (λ i. slice_get g.nodes i ≡ Some x) (one_later k i) (f (suc i) x e)) in
      let both = sum_by-append (one_at n) (kids nd) (flat_map kids nds) in
      omega arith
    where
      no_more : (k : ℕ) → k + 0 ≡ k
      no_more k = omega arith

      one_later : (k i : ℕ) → k + suc i ≡ k + 1 + i
      one_later k i = omega arith

      weaker : (n k : ℕ) (ms : List ℕ) → n ≤ k → AllByRecursion (λ m. k < m) ms → AllByRecursion (λ m. n < m) ms
      weaker n k [] le h = tt
      weaker n k (m ∷ ms) le h = (let lt = h.0 in omega arith, weaker n k ms le h.1)

  filled : (o : Option Scope) → full o ≡ 1 → (c : Scope) × (o ≡ Some c)
  filled None e = absurd (let h : 0 ≡ 1 = e in omega arith)
  filled (Some c) e = (c, refl)

  -- one visit, and what is left
  record Next (s : Places) (n : ℕ) (nd : Node) (nds : List Node) : Type 0 where
    places : Places
    visit : visited g s (at s n) nd ≡ Some places
    left : Left places (n + 1) nds

  next : (s : Places) (n : ℕ) (nd : Node) (nds : List Node) → Left s n (nd ∷ nds) → Next s n nd nds
  next s n nd nds l =
      let there : slice_get g.nodes n ≡ Some nd = subst (λ i. slice_get g.nodes i ≡ Some nd) (no_more n) (l.nodes 0 nd refl) in
      let within : n < length g.nodes = let z : n + suc (length nds) ≡ length g.nodes = l.size in omega arith in
      let here = filled (at s n) (let a = l.count n within in let b = none_later n n (nd ∷ nds) (omega arith) l.nodes in omega arith) in
      let c = here.0 in
      let after = kids_after n nd there in
      let made = node_true g c nd (w.nodes n c.vars c.channels nd (l.stand n c here.1) there) in
      let put = placeable (λ m. m) (λ m. below c nd) s (kids nd) (subst (λ z. AllByRecursion (λ m. m < z) (kids nd)) (sym l.long) (seconds n (length g.nodes) (kids nd) after))
      (λ m lt. let a = l.count m (subst (λ z. m < z) l.long lt) in let b = sum_by-append (one_at m) (kids nd) (flat_map kids nds) in omega arith) in
      let t = put.0 in
      record {
        places = t;
        visit = ap (λ (o : Option Scope). visited g s o nd) here.1 ∙ ap (λ (b : Bool). if b then all_placed (λ m. m) (λ m. below c nd) s (kids nd) else None) made ∙ put.1;
        left = record {
          long = all_long (λ m. m) (λ m. below c nd) s (kids nd) t put.1 ∙ l.long;
          size = let z : n + suc (length nds) ≡ length g.nodes = l.size in omega arith;
          nodes = λ i x e. subst (λ i. slice_get g.nodes i ≡ Some x) (one_later n i) (l.nodes (suc i) x e);
          count = λ m lt. let a = l.count m lt in let b = sum_by-append (one_at m) (kids nd) (flat_map kids nds) in let f = all_full (λ m. m) (λ m. below c nd) s (kids nd) t put.1 m in omega arith;
          stand = all_from (λ m. m) (λ m. below c nd) (λ m d. StandsIn g m d.vars d.channels) s (kids nd) t put.1 l.stand
              (by_index (λ m. StandsIn g m (below c nd).vars (below c nd).channels) (kids nd) (λ i m e. at_child n c.vars c.channels nd i m (l.stand n c here.1) there e));
        };
      }
    where
      no_more : (k : ℕ) → k + 0 ≡ k
      no_more k = omega arith

      one_later : (k i : ℕ) → k + suc i ≡ k + 1 + i
      one_later k i = omega arith

  all_visits : (s : Places) (n : ℕ) (nds : List Node) → Left s n nds → (t : Places) × (all_visited g s n nds ≡ Some t)
  all_visits s n [] l = (s, refl)
  all_visits s n (nd ∷ nds) l =
      let x = next s n nd nds l in
      let rest = all_visits x.places (n + 1) nds x.left in
      (rest.0, ap (λ (o : Option Places). after o (λ t. all_visited g t (n + 1) nds)) x.visit ∙ rest.1)

  nodes_true : made.are_made_nodes g ≡ true
  nodes_true =
      let s = no_places g.nodes in
      let bodies : AllByRecursion (λ d. d.body < length s) g.decls = subst (λ l. AllByRecursion (λ d. d.body < l) g.decls) (sym (long_places g.nodes)) (each_body g.decls (recursion_from_All _ g.decls w.decls)) in
      let put = placeable (λ d. d.body) scope_of s g.decls bodies
      (λ m lt. let a = w.placed m (subst (λ l. m < l) (long_places g.nodes) lt) in let b = ap full (no_place g.nodes m) in omega arith) in
      let t = put.0 in
      let visits = all_visits t 0 g.nodes (record {
        long = all_long (λ d. d.body) scope_of s g.decls t put.1 ∙ long_places g.nodes;
        size = omega arith;
        nodes = λ i nd e. subst (λ k. slice_get g.nodes k ≡ Some nd) (first i) e;
        count = λ m lt. let a = w.placed m lt in let b = ap full (no_place g.nodes m) in let f = all_full (λ d. d.body) scope_of s g.decls t put.1 m in omega arith;
        stand = all_from (λ d. d.body) scope_of (λ m d. StandsIn g m d.vars d.channels) s g.decls t put.1 (λ m c e. absurd (let h : None ≡ Some c = sym (no_place g.nodes m) ∙ e in cc))
            (by_index (λ d. StandsIn g d.body d.params (length d.uses + 1)) g.decls (λ k d e. at_root k d e));
      }) in
      ap is_some (ap (λ (o : Option Places). after o (λ s. all_visited g s 0 g.nodes)) put.1 ∙ visits.1)
    where
      first : (i : ℕ) → i ≡ 0 + i
      first i = omega arith

      each_body : (ds : List Decl) → AllByRecursion (IsMadeDecl g) ds → AllByRecursion (λ d. d.body < length g.nodes) ds
      each_body [] h = tt
      each_body (d ∷ ds) h = (h.0.body, each_body ds h.1)

pub well_made_true : (g : Program) → IsWellMade g → is_well_made g ≡ true
well_made_true g w =
    and_from _ _ (and_from _ _ (each_true (is_made_def g) (IsMadeDef g) (def_true g) g.types.defs w.types)
    (and_from _ _ (each_true (is_made_decl g) (IsMadeDecl g) (decl_true g) g.decls w.decls) (each_true (is_made_equation g) (IsMadeEquation g) (equation_true g) g.equations w.equations)))
    (and_from _ _ (main_true g g.main w.main)
    (and_from _ _ (nodes_true g w)
    (and_from _ _ (said_true g names_of_def g.types.defs g.said.types w.said_types)
    (and_from _ _ (said_true g names_of_decl g.decls g.said.decls w.said_decls) (said_true g names_of_channels g.decls g.said.channels w.said_channels)))))
