-- Where each node of a forest stands, as a list, and what follows of the program whose nodes they are.
use Rattle.std.proofs.Common.{option_map, ◌≡◌, ℕ, zero, suc, ◌+◌, ◌<◌, ◌≤◌, Bool, true, false, cond, List, [], ◌∷◌, ◌++◌, map, length, flat_map, refl, sym, ap, ap₂, ◌∙◌, subst, arith, Option, Some, slice_get, length-append}
use Rattle.std.specs.Prelude.{sum_by, ◌==◌, All}
use Rattle.std.specs.List.{AllByRecursion}
use Rattle.std.proofs.lemmas.List.Sums.{sum_by-cons, sum_by-append}
use Rattle.std.proofs.lemmas.List.Elements.{All-from_recursion}
use Rattle.std.proofs.lemmas.List.Concat.{flat_map-append}
use Rattle.std.proofs.lemmas.Option.{slice_get_within, slice_get-map}
use Rattle.std.proofs.lemmas.Bool.{ne_eqb, eqb-true, eqb-false}
use Rattle.rast_terms.specs.declared.node.Node.{Node}
use Rattle.rast_terms.specs.declared.program.Program.{Program}
use Rattle.rast_terms.specs.declared.program.Decl.{Decl}
use Rattle.rast_terms.specs.Nodes.{kids}
use Rattle.rast_made.specs.WellMade.{IsMadeNode, StandsIn, at_root, at_child, times_placed}
use Rattle.rast_meant.proofs.Places.{each, each_append, each_get, each_of_map, get_left, get_right, map_append, length_map}
use Rattle.rast_meant.proofs.Forests.{Root, below, children, body_root, Forest, none, tree}

-- a node, and where it stands
pub record Entry : Type 0 where
  pub root : Root
  pub node : Node

abbrev entry : Root → Node → Entry
entry r nd = record { root = r; node = nd }

-- these numbers follow one another
abbrev AreNumbered : ℕ → List Entry → Type 0
AreNumbered n [] = Unit {0}
AreNumbered n (e ∷ es) = (e.root.node ≡ n) × AreNumbered (n + 1) es

-- a root has an entry
abbrev Has : List Entry → Root → Type 0
Has es r = (i : ℕ) × (nd : Node) × (slice_get es i ≡ Some (entry r nd))

-- a root has an entry, and is this number or a later one
abbrev From : List Entry → ℕ → Root → Type 0
From es n r = (n ≤ r.node) × Has es r

-- a node is made as its place demands, and its children stand later in the list
abbrev IsFine : Program → List Entry → Entry → Type 0
IsFine g es e = IsMadeNode g e.root.vars e.root.fresh e.node × AllByRecursion (From es (e.root.node + 1)) (children e.root e.node)

-- ---- lists

has_more : (f : Entry) (es fs : List Entry) (r : Root) → Has es r → Has (f ∷ (es ++ fs)) r
has_more f es fs r h = (suc h.0, h.1, get_left es fs h.0 (entry r h.1) h.2)

has_later : (f : Entry) (es fs : List Entry) (r : Root) → Has fs r → Has (f ∷ (es ++ fs)) r
has_later f es fs r h = (suc (length es + h.0), h.1, get_right es fs h.0 (entry r h.1) h.2)

numbered_append : (n m : ℕ) (es fs : List Entry) → m ≡ n + length es → AreNumbered n es → AreNumbered m fs → AreNumbered n (es ++ fs)
numbered_append n m [] fs e h k = subst (λ z. AreNumbered z fs) (let z : m ≡ n = omega (arith, e) in z) k
numbered_append n m (x ∷ es) fs e h k = (h.0, numbered_append (n + 1) m es fs (omega (arith, e)) h.1 k)

numbered_get : (n : ℕ) (es : List Entry) (i : ℕ) (e : Entry) → AreNumbered n es → slice_get es i ≡ Some e → e.root.node ≡ n + i
numbered_get n [] i e h s = absurd (cc s)
numbered_get n (x ∷ es) zero e h s = let same : x ≡ e = cc s in ap (λ (z : Entry). z.root.node) (sym same) ∙ h.0 ∙ (let z : n ≡ n + 0 = omega arith in z)
numbered_get n (x ∷ es) (suc i) e h s = let k = numbered_get (n + 1) es i e h.1 s in omega (arith, k)

same_node : (a b : Node) (o : Option Node) → o ≡ Some a → o ≡ Some b → a ≡ b
same_node a b o e f = inside (sym e ∙ f)
  where
    inside : Some a ≡ Some b → a ≡ b
    inside h = cc h

abbrev root_at : ℕ → ℕ → ℕ → Root
root_at n vars fresh = record { node = n; vars = vars; fresh = fresh }

-- ---- how often a number stands in a list

times : ℕ → List ℕ → ℕ
times m ms = sum_by (λ k. cond (k == m) 1 0) ms

times_cons : (m k : ℕ) (ms : List ℕ) → times m (k ∷ ms) ≡ cond (k == m) 1 0 + times m ms
unfolding times
times_cons m k ms = sum_by-cons (λ j. cond (j == m) 1 0) k ms

times_append : (m : ℕ) (ks ms : List ℕ) → times m (ks ++ ms) ≡ times m ks + times m ms
unfolding times
times_append m ks ms = sum_by-append (λ j. cond (j == m) 1 0) ks ms

times_map : {X : Type 0} (m : ℕ) (f : X → ℕ) (xs : List X) → sum_by (λ x. cond (f x == m) 1 0) xs ≡ times m (map f xs)
unfolding times
times_map {X} m f [] = refl
times_map {X} m f (x ∷ xs) = sum_by-cons (λ y. cond (f y == m) 1 0) x xs ∙ ap (λ z. cond (f x == m) 1 0 + z) (times_map m f xs) ∙ sym (times_cons m (f x) (map f xs))

-- so many numbers from here on
count_from : ℕ → ℕ → List ℕ
count_from n zero = []
count_from n (suc k) = n ∷ count_from (n + 1) k

count_append : (n a b : ℕ) → count_from n (a + b) ≡ count_from n a ++ count_from (n + a) b
unfolding count_from
count_append n zero b = ap₂ count_from (let z : n ≡ n + 0 = omega arith in z) (let z : 0 + b ≡ b = omega arith in z)
count_append n (suc a) b = ap (count_from n) (let z : suc a + b ≡ suc (a + b) = omega arith in z) ∙ ap (λ z. n ∷ z) (count_append (n + 1) a b ∙ ap (λ z. count_from (n + 1) a ++ count_from z b) (let z : n + 1 + a ≡ n + suc a = omega arith in z))

never_before : (n k m : ℕ) → m < n → times m (count_from n k) ≡ 0
unfolding count_from times
never_before n zero m h = refl
never_before n (suc k) m h = times_cons m n (count_from (n + 1) k) ∙ ap₂ (λ a b. a + b) (ap (λ b. cond b 1 0) (ne_eqb n m (λ e. omega (arith, e, h)))) (never_before (n + 1) k m (omega (arith, h)))

once_there : (n k m : ℕ) → n ≤ m → m < n + k → times m (count_from n k) ≡ 1
unfolding count_from
once_there n zero m lo hi = absurd (omega (arith, lo, hi))
once_there n (suc k) m lo hi = by (λ le. once_there (n + 1) k m le (omega (arith, hi))) (n == m) refl
  where
    by : (n + 1 ≤ m → times m (count_from (n + 1) k) ≡ 1) → (b : Bool) → (n == m) ≡ b → times m (n ∷ count_from (n + 1) k) ≡ 1
    by later true e = let same = eqb-true n m e in times_cons m n (count_from (n + 1) k) ∙ ap₂ (λ a b. a + b) (ap (λ b. cond b 1 0) e) (never_before (n + 1) k m (omega (arith, same)))
    by later false e = times_cons m n (count_from (n + 1) k) ∙ ap₂ (λ a b. a + b) (ap (λ b. cond b 1 0) e) (later (let differ = eqb-false n m e in omega (arith, lo, differ)))

whole_is : (k m : ℕ) (xs ys : List Node) → times m (count_from k (suc (length (xs ++ ys)))) ≡ cond (k == m) 1 0 + (times m (count_from (k + 1) (length xs)) + times m (count_from (k + 1 + length xs) (length ys)))
unfolding count_from
whole_is k m xs ys = times_cons m k (count_from (k + 1) (length (xs ++ ys))) ∙ ap (λ z. cond (k == m) 1 0 + z) (ap (λ z. times m (count_from (k + 1) z)) (length-append xs ys) ∙ ap (times m) (count_append (k + 1) (length xs) (length ys)) ∙ times_append m (count_from (k + 1) (length xs)) (count_from (k + 1 + length xs) (length ys)))

-- ---- the list

module _ (g : Program) where
  table : (n : ℕ) (rs : List Root) (ns : List Node) → Forest g n rs ns → List Entry
  table n rs ns (none k) = []
  table n rs ns (tree k r nd more xs ys e m h next) = entry r nd ∷ (table (k + 1) (children r nd) xs h ++ table (k + 1 + length xs) more ys next)

  nodes_are : (n : ℕ) (rs : List Root) (ns : List Node) (t : Forest g n rs ns) → map (λ (e : Entry). e.node) (table n rs ns t) ≡ ns
  unfolding table
  nodes_are n rs ns (none k) = refl
  nodes_are n rs ns (tree k r nd more xs ys e m h next) =
      ap (λ z. nd ∷ z) (map_append (λ (e : Entry). e.node) (table (k + 1) (children r nd) xs h) (table (k + 1 + length xs) more ys next)
      ∙ ap₂ (λ a b. a ++ b) (nodes_are (k + 1) (children r nd) xs h) (nodes_are (k + 1 + length xs) more ys next))

  as_many : (n : ℕ) (rs : List Root) (ns : List Node) (t : Forest g n rs ns) → length (table n rs ns t) ≡ length ns
  as_many n rs ns t = sym (length_map (λ (e : Entry). e.node) (table n rs ns t)) ∙ ap length (nodes_are n rs ns t)

  numbered : (n : ℕ) (rs : List Root) (ns : List Node) (t : Forest g n rs ns) → AreNumbered n (table n rs ns t)
  unfolding table
  numbered n rs ns (none k) = tt
  numbered n rs ns (tree k r nd more xs ys e m h next) = (
    e,
    numbered_append (k + 1) (k + 1 + length xs) (table (k + 1) (children r nd) xs h) (table (k + 1 + length xs) more ys next)
        (ap (λ z. k + 1 + z) (sym (as_many (k + 1) (children r nd) xs h))) (numbered (k + 1) (children r nd) xs h) (numbered (k + 1 + length xs) more ys next),
  )

  -- each root has its entry
  roots_have : (n : ℕ) (rs : List Root) (ns : List Node) (t : Forest g n rs ns) → AllByRecursion (From (table n rs ns t) n) rs
  unfolding table
  roots_have n rs ns (none k) = tt
  roots_have n rs ns (tree k r nd more xs ys e m h next) =
      let es = table (k + 1) (children r nd) xs h in
      let fs = table (k + 1 + length xs) more ys next in (
        (omega (arith, e), (0, nd, refl)),
        each (From fs (k + 1 + length xs)) (From (entry r nd ∷ (es ++ fs)) k) (λ c w. let le = w.0 in (omega (arith, le), has_later (entry r nd) es fs c w.1)) more (roots_have (k + 1 + length xs) more ys next),
      )

  -- each entry is fine
  all_fine : (n : ℕ) (rs : List Root) (ns : List Node) (t : Forest g n rs ns) → AllByRecursion (IsFine g (table n rs ns t)) (table n rs ns t)
  unfolding table
  all_fine n rs ns (none k) = tt
  all_fine n rs ns (tree k r nd more xs ys e m h next) =
      let es = table (k + 1) (children r nd) xs h in
      let fs = table (k + 1 + length xs) more ys next in
      let f = entry r nd in (
        (m, each (From es (k + 1)) (From (f ∷ (es ++ fs)) (r.node + 1)) (λ c w. let le = w.0 in (omega (arith, le, e), has_more f es fs c w.1)) (children r nd) (roots_have (k + 1) (children r nd) xs h)),
        each_append (IsFine g (f ∷ (es ++ fs))) es fs
            (each (IsFine g es) (IsFine g (f ∷ (es ++ fs))) (λ d w. (w.0, each (From es (d.root.node + 1)) (From (f ∷ (es ++ fs)) (d.root.node + 1)) (λ c v. (v.0, has_more f es fs c v.1)) (children d.root d.node) w.1)) es (all_fine (k + 1) (children r nd) xs h))
            (each (IsFine g fs) (IsFine g (f ∷ (es ++ fs))) (λ d w. (w.0, each (From fs (d.root.node + 1)) (From (f ∷ (es ++ fs)) (d.root.node + 1)) (λ c v. (v.0, has_later f es fs c v.1)) (children d.root d.node) w.1)) fs (all_fine (k + 1 + length xs) more ys next)),
      )

  -- the roots and all children are the numbers of the nodes, each once
  each_once : (n : ℕ) (rs : List Root) (ns : List Node) (m : ℕ) → Forest g n rs ns → times m (map (λ (r : Root). r.node) rs) + times m (flat_map kids ns) ≡ times m (count_from n (length ns))
  unfolding times count_from
  each_once n rs ns m (none k) = refl
  each_once n rs ns m (tree k r nd more xs ys e f h next) =
      let one = times_cons m r.node (map (λ (r : Root). r.node) more) in
      let here : times m (flat_map kids (nd ∷ (xs ++ ys))) ≡ times m (kids nd) + (times m (flat_map kids xs) + times m (flat_map kids ys)) =
      times_append m (kids nd) (flat_map kids (xs ++ ys)) ∙ ap (λ z. times m (kids nd) + z) (ap (times m) (flat_map-append kids xs ys) ∙ times_append m (flat_map kids xs) (flat_map kids ys)) in
      let inner : times m (kids nd) + times m (flat_map kids xs) ≡ times m (count_from (k + 1) (length xs)) = ap (λ z. times m z + times m (flat_map kids xs)) (sym (nodes_of_children r nd (kids nd))) ∙ each_once (k + 1) (children r nd) xs m h in
      let outer = each_once (k + 1 + length xs) more ys m next in
      let whole : times m (count_from k (length (nd ∷ (xs ++ ys)))) ≡ cond (k == m) 1 0 + (times m (count_from (k + 1) (length xs)) + times m (count_from (k + 1 + length xs) (length ys))) =
      whole_is k m xs ys in
      let same : cond (r.node == m) 1 0 ≡ cond (k == m) 1 0 = ap (λ z. cond (z == m) 1 0) e in
      let first : times m (map (λ (r : Root). r.node) (r ∷ more)) ≡ cond (k == m) 1 0 + times m (map (λ (r : Root). r.node) more) = one ∙ ap (λ z. z + times m (map (λ (r : Root). r.node) more)) same in
      sums (times m (map (λ (r : Root). r.node) (r ∷ more))) (times m (flat_map kids (nd ∷ (xs ++ ys)))) (times m (count_from k (length (nd ∷ (xs ++ ys))))) (cond (k == m) 1 0) (times m (map (λ (r : Root). r.node) more)) (times m (kids nd)) (times m (flat_map kids xs)) (times m (flat_map kids ys))
      (times m (count_from (k + 1) (length xs))) (times m (count_from (k + 1 + length xs) (length ys))) first here inner outer whole
    where
      nodes_of_children : (r : Root) (nd : Node) (ms : List ℕ) → map (λ (r : Root). r.node) (map (below r nd) ms) ≡ ms
      nodes_of_children r nd [] = refl
      nodes_of_children r nd (m ∷ ms) = ap (λ z. m ∷ z) (nodes_of_children r nd ms)

      sums : (a b c h p q u v s t : ℕ) → a ≡ h + p → b ≡ q + (u + v) → q + u ≡ s → p + v ≡ t → c ≡ h + (s + t) → a + b ≡ c
      sums a b c h p q u v s t i j k l m = omega (arith, i, j, k, l, m)

  -- ---- a program whose nodes are those of its bodies

  module _ (t : Forest g 0 (map body_root g.decls) g.nodes) where
    es : List Entry
    es = table 0 (map body_root g.decls) g.nodes t

    -- an entry by its number
    abbrev Sits : ℕ → Entry → Type 0
    Sits n e = (slice_get es n ≡ Some e) × (e.root.node ≡ n)

    sits : (r : Root) → Has es r → (nd : Node) × Sits r.node (entry r nd)
    unfolding es
    sits r h =
        let k : r.node ≡ h.0 = numbered_get 0 es h.0 (entry r h.1) (numbered 0 (map body_root g.decls) g.nodes t) h.2 ∙ (let z : 0 + h.0 ≡ h.0 = omega arith in z) in
        (h.1, (ap (slice_get es) k ∙ h.2, refl))

    node_of : (n : ℕ) (e : Entry) → slice_get es n ≡ Some e → slice_get g.nodes n ≡ Some e.node
    unfolding es
    node_of n e h = ap (λ z. slice_get z n) (sym (nodes_are 0 (map body_root g.decls) g.nodes t)) ∙ slice_get-map (λ (e : Entry). e.node) es n ∙ ap (option_map (λ (e : Entry). e.node)) h

    -- the entry of a node
    entry_of : (n : ℕ) (nd : Node) → slice_get g.nodes n ≡ Some nd → (e : Entry) × (slice_get es n ≡ Some e) × (e.node ≡ nd)
    unfolding es
    entry_of n nd h = find es n (sym (slice_get-map (λ (e : Entry). e.node) es n) ∙ ap (λ z. slice_get z n) (nodes_are 0 (map body_root g.decls) g.nodes t) ∙ h)
      where
        find : (es : List Entry) (n : ℕ) → option_map (λ (e : Entry). e.node) (slice_get es n) ≡ Some nd → (e : Entry) × (slice_get es n ≡ Some e) × (e.node ≡ nd)
        find [] n h = absurd (cc h)
        find (e ∷ es) zero h = (e, refl, let same : e.node ≡ nd = cc h in same)
        find (e ∷ es) (suc n) h = find es n h

    fine_at : (n : ℕ) (e : Entry) → slice_get es n ≡ Some e → IsFine g es e
    unfolding es
    fine_at n e h = each_get (IsFine g es) es n e (all_fine 0 (map body_root g.decls) g.nodes t) h

    -- where a node stands is what the list says
    stands : (n vars fresh : ℕ) → StandsIn g n vars fresh → Has es (record { node = n; vars = vars; fresh = fresh })
    unfolding es
    stands n vars fresh (at_root k d h) = (each_get (λ d. From es 0 (body_root d)) g.decls k d (each_of_map body_root (From es 0) g.decls (roots_have 0 (map body_root g.decls) g.nodes t)) h).1
    stands n vars fresh (at_child p v f nd i m s h k) =
        let w = sits (record { node = p; vars = v; fresh = f }) (stands p v f s) in
        let fine = fine_at p (entry (record { node = p; vars = v; fresh = f }) w.0) w.1.0 in
        let same : w.0 ≡ nd = same_node w.0 nd (slice_get g.nodes p) (node_of p (entry (record { node = p; vars = v; fresh = f }) w.0) w.1.0) h in
        let kid = subst (λ x. AllByRecursion (From es (p + 1)) (children (record { node = p; vars = v; fresh = f }) x)) same fine.1 in
        (each_get (λ c. From es (p + 1) (below (record { node = p; vars = v; fresh = f }) nd c)) (kids nd) i m (each_of_map (below (record { node = p; vars = v; fresh = f }) nd) (From es (p + 1)) (kids nd) kid) k).1

    pub nodes_made : (n vars fresh : ℕ) (nd : Node) → StandsIn g n vars fresh → slice_get g.nodes n ≡ Some nd → IsMadeNode g vars fresh nd
    nodes_made n vars fresh nd s h =
        let r = root_at n vars fresh in
        let w = sits r (stands n vars fresh s) in
        let same : w.0 ≡ nd = same_node w.0 nd (slice_get g.nodes n) (node_of n (entry r w.0) w.1.0) h in
        subst (IsMadeNode g vars fresh) same (fine_at n (entry r w.0) w.1.0).0

    later_in : (e : Entry) (c : Root) → From es (e.root.node + 1) c → (e.root.node < c.node) × (c.node < length g.nodes)
    unfolding es
    later_in e c h =
        let w = sits c h.1 in
        let le = h.0 in
        let k = slice_get_within es c.node (entry c w.0) w.1.0 in
        let l = as_many 0 (map body_root g.decls) g.nodes t in
        (omega (arith, le), omega (arith, k, l))

    -- children come after their parent
    pub nodes_forward : (n : ℕ) (nd : Node) → slice_get g.nodes n ≡ Some nd → All (λ m. (n < m) × (m < length g.nodes)) (kids nd)
    unfolding es
    nodes_forward n nd h =
        let e = entry_of n nd h in
        let fine = fine_at n e.0 e.1 in
        let at : e.0.root.node ≡ n = place n e.0 e.1 in
        All-from_recursion (λ m. (n < m) × (m < length g.nodes)) (kids nd)
        (subst (λ x. AllByRecursion (λ m. (x < m) × (m < length g.nodes)) (kids nd)) at
        (subst (λ x. AllByRecursion (λ m. (e.0.root.node < m) × (m < length g.nodes)) (kids x)) e.2
        (each (λ m. From es (e.0.root.node + 1) (below e.0.root e.0.node m)) (λ m. (e.0.root.node < m) × (m < length g.nodes)) (λ m w. later_in e.0 (below e.0.root e.0.node m) w) (kids e.0.node) (each_of_map (below e.0.root e.0.node) (From es (e.0.root.node + 1)) (kids e.0.node) fine.1))))
      where
        place : (n : ℕ) (e : Entry) → slice_get es n ≡ Some e → e.root.node ≡ n
        place n e h = numbered_get 0 es n e (numbered 0 (map body_root g.decls) g.nodes t) h ∙ (let z : 0 + n ≡ n = omega arith in z)

    -- each node has one place
    pub nodes_placed : (n : ℕ) → n < length g.nodes → times_placed g n ≡ 1
    nodes_placed n h =
        ap₂ (λ a b. a + b) (times_map n (λ (d : Decl). d.body) g.decls ∙ ap (times n) (bodies g.decls)) (times_map n (λ m. m) (flat_map kids g.nodes) ∙ ap (times n) (itself (flat_map kids g.nodes)))
        ∙ each_once 0 (map body_root g.decls) g.nodes n t ∙ once_there 0 (length g.nodes) n (omega arith) (omega (arith, h))
      where
        bodies : (ds : List Decl) → map (λ (d : Decl). d.body) ds ≡ map (λ (r : Root). r.node) (map body_root ds)
        bodies [] = refl
        bodies (d ∷ ds) = ap (λ z. d.body ∷ z) (bodies ds)

        itself : (ms : List ℕ) → map (λ m. m) ms ≡ ms
        itself [] = refl
        itself (m ∷ ms) = ap (λ z. m ∷ z) (itself ms)

    -- a body is one of the nodes
    pub bodies_within : (k : ℕ) (d : Decl) → slice_get g.decls k ≡ Some d → d.body < length g.nodes
    unfolding es
    bodies_within k d h =
        let w = stands d.body d.params (length d.uses + 1) (at_root k d h) in
        let s = sits (body_root d) w in
        let e = slice_get_within es d.body (entry (body_root d) s.0) s.1.0 in
        let l = as_many 0 (map body_root g.decls) g.nodes t in
        omega (arith, e, l)
