-- A program of which the tests are true is well made.
use Rattle.std.proofs.Common.{arith, ◌≡◌, ◌∙◌, ℕ, zero, suc, ◌+◌, ◌<◌, Bool, true, false, ◌&&◌, List, [], ◌∷◌, length, map, Option, Some, None, refl, sym, ap, subst, All}
use Rattle.std.specs.Prelude.{◌==◌, slice_get, is_some}
use Rattle.std.specs.List.{list_all, AllByRecursion}
use Rattle.std.proofs.lemmas.Bool.{and_parts, ltb-true}
use Rattle.std.proofs.lemmas.Bool.Decides.{nat_tests}
use Rattle.std.proofs.lemmas.List.Elements.{All-from_recursion}
use Rattle.rast_index.specs.Linear.{Linear, is_closed}
use Rattle.rast_cooper.specs.Verdicts.{is_within}
use Rattle.rast_cooper.specs.Divisors.{divisors_above_zero}
use Rattle.rast_index.specs.Truth.{is_closed_formula}
use Rattle.rast_types.specs.declared.ty.Ty.{Ty}
use Rattle.rast_types.specs.declared.table.TypeDef.{TypeDef}
use Rattle.rast_types.specs.declared.equation.Equation.{Equation}
use Rattle.rast_equal.specs.Fit.{is_within_type}
use Rattle.rast_equal.specs.WellMadeTypes.{is_named, is_labelled, are_labels}
use Rattle.rast_terms.specs.Nodes.{kids}
use Rattle.rast_terms.specs.declared.node.Node.{Node}
use Rattle.rast_terms.specs.declared.node.Node.TheVariants as node
use Rattle.rast_terms.specs.declared.program.Program.{Program}
use Rattle.rast_terms.specs.declared.program.Decl.{Decl}
use Rattle.rast_made.specs.Made as made
use Rattle.rast_made.specs.Made.{Places, is_made_type, is_made_def, is_made_decl, is_made_equation, is_made_main, is_made_node, is_made_call, is_channel, is_name, is_said, are_said, is_well_made, final_places, all_placed, all_visited, scope_of, no_places, below}
use Rattle.rast_made.specs.WellMade.{table_of, IsMadeType, IsMadeDef, IsMadeDecl, IsMadeEquation, IsMadeMain, IsMadeNode, IsMadeCall, AreSaid, StandsIn, at_root, at_child, times_placed, names_of_def, names_of_decl, names_of_channels, IsWellMade}
use Rattle.rast_made.specs.declared.scope.Scope.{Scope}
use Rattle.rast_made.proofs.Putting.{after_is, all_full, all_long, all_there, all_within, at, full, some_same}
use Rattle.rast_made.proofs.Scoped.{scoped_within}
use Rattle.rast_made.proofs.Visiting.{visits_filled, visits_forward, visits_full, visits_kept, visits_seen}

-- ---- types, declarations and equations

all_pass : {X : Type 0} (p : X → Bool) (P : X → Type 0) → ((x : X) → p x ≡ true → P x) → (xs : List X) → list_all p xs ≡ true → AllByRecursion P xs
all_pass {X} p P f [] h = tt
all_pass {X} p P f (x ∷ xs) h = let b = and_parts (p x) (list_all p xs) h in (f x b.0, all_pass p P f xs b.1)

each_is : {X : Type 0} (p : X → Bool) (P : X → Type 0) → ((x : X) → p x ≡ true → P x) → (xs : List X) → list_all p xs ≡ true → All P xs
each_is {X} p P f xs h = All-from_recursion P xs (all_pass p P f xs h)

same_number : (m k : ℕ) → (m == k) ≡ true → m ≡ k
same_number m k e = grind (arith, nat_tests)

module _ (g : Program) where
  type_made : (n : ℕ) (a : Ty) → is_made_type g n a ≡ true → IsMadeType g n a
  type_made n a h =
      let b = and_parts (is_within_type n a) (is_named (table_of g) a && is_labelled (length g.names) a) h in
      let c = and_parts (is_named (table_of g) a) (is_labelled (length g.names) a) b.1 in
      record { within = b.0; scoped = scoped_within n a b.0; named = c.0; labelled = c.1 }

  def_made : (d : TypeDef) → is_made_def g d ≡ true → IsMadeDef g d
  def_made d h =
      let b = and_parts (is_name g d.name) (is_made_type g d.params d.body) h in
      record { name = ltb-true d.name (length g.names) b.0; body = type_made d.params d.body b.1 }

  decl_made : (d : Decl) → is_made_decl g d ≡ true → d.body < length g.nodes → IsMadeDecl g d
  decl_made d h body =
      let b = and_parts (is_name g d.name) (list_all (is_made_type g d.params) d.uses && (is_closed d.params d.potential && is_made_type g d.params d.gives)) h in
      let c = and_parts (list_all (is_made_type g d.params) d.uses) (is_closed d.params d.potential && is_made_type g d.params d.gives) b.1 in
      let e = and_parts (is_closed d.params d.potential) (is_made_type g d.params d.gives) c.1 in
      record {
        name = ltb-true d.name (length g.names) b.0;
        uses = each_is (is_made_type g d.params) (IsMadeType g d.params) (type_made d.params) d.uses c.0;
        potential = e.0;
        gives = type_made d.params d.gives e.1;
        body = body;
      }

  equation_made : (e : Equation) → is_made_equation g e ≡ true → IsMadeEquation g e
  equation_made e h =
      let b = and_parts (is_within e.vars e.premise) (is_made_type g e.vars e.left && is_made_type g e.vars e.right) h in
      let c = and_parts (is_made_type g e.vars e.left) (is_made_type g e.vars e.right) b.1 in
      record {
        within = b.0;
        premise = (and_parts (is_closed_formula e.vars e.premise) (divisors_above_zero e.premise) b.0).0;
        left = type_made e.vars e.left c.0;
        right = type_made e.vars e.right c.1;
      }

  empty : {X : Type 0} (xs : List X) → length xs ≡ 0 → xs ≡ []
  empty {X} [] e = refl
  empty {X} (x ∷ xs) e = absurd (let h : suc (length xs) ≡ zero = e in omega arith)

  main_made : (o : Option ℕ) → is_made_main g o ≡ true → IsMadeMain g o
  main_made None h = tt
  main_made (Some k) h = taken (slice_get g.decls k) refl h
    where
      taken : (o : Option Decl) → slice_get g.decls k ≡ o → made.takes_nothing o ≡ true → IsMadeMain g (Some k)
      taken None e h = absurd (let f : false ≡ true = h in cc)
      taken (Some d) e h =
          let b = and_parts (d.params == 0) (length d.uses == 0) h in
          (d, e, same_number d.params 0 b.0, empty d.uses (same_number (length d.uses) 0 b.1))

  -- ---- nodes

  in_scope : (c : Scope) (x : ℕ) → is_channel c x ≡ true → x < c.channels
  in_scope c x h = ltb-true x c.channels h

  two_in_scope : (c : Scope) (x y : ℕ) → (is_channel c x && is_channel c y) ≡ true → (x < c.channels) × (y < c.channels)
  two_in_scope c x y h = let b = and_parts (is_channel c x) (is_channel c y) h in (in_scope c x b.0, in_scope c y b.1)

  named_in_scope : (c : Scope) (x l : ℕ) → (is_channel c x && is_name g l) ≡ true → (x < c.channels) × (l < length g.names)
  named_in_scope c x l h = let b = and_parts (is_channel c x) (is_name g l) h in (in_scope c x b.0, ltb-true l (length g.names) b.1)

  tested_in_scope : (c : Scope) (x : ℕ) (b : Bool) → (is_channel c x && b) ≡ true → (x < c.channels) × (b ≡ true)
  tested_in_scope c x b h = let p = and_parts (is_channel c x) b h in (in_scope c x p.0, p.1)

  call_made : (c : Scope) (d : ℕ) (es : List Linear) (ys : List ℕ) (o : Option Decl) → slice_get g.decls d ≡ o → is_made_call o c es ys ≡ true → IsMadeCall g c.vars c.channels d es ys
  call_made c d es ys None e h = absurd (let f : false ≡ true = h in cc)
  call_made c d es ys (Some k) e h =
      let b = and_parts (made.are_as_many k es ys) (list_all (is_closed c.vars) es && list_all (is_channel c) ys) h in
      let m = and_parts (length es == k.params) (length ys == length k.uses) b.0 in
      let t = and_parts (list_all (is_closed c.vars) es) (list_all (is_channel c) ys) b.1 in
      record {
        decl = k;
        is = e;
        args = same_number (length es) k.params m.0;
        terms = t.0;
        channels = same_number (length ys) (length k.uses) m.1;
        bound = each_is (is_channel c) (λ y. y < c.channels) (in_scope c) ys t.1;
      }

  pub node_made : (c : Scope) (nd : Node) → is_made_node g c nd ≡ true → IsMadeNode g c.vars c.channels nd
  node_made c (node.Label x l n) h = named_in_scope c x l h
  node_made c (node.Case x bs) h = tested_in_scope c x (are_labels (length g.names) (map (λ b. b.0) bs)) h
  node_made c (node.Send x w rs n) h = two_in_scope c x w h
  node_made c (node.Recv x y n) h = named_in_scope c x y h
  node_made c (node.Index x e n) h = tested_in_scope c x (is_closed c.vars e) h
  node_made c (node.Bind x v n) h = named_in_scope c x v h
  node_made c (node.Assert x n) h = in_scope c x h
  node_made c (node.Assume x n) h = in_scope c x h
  node_made c (node.Pay x n) h = in_scope c x h
  node_made c (node.Get x n) h = in_scope c x h
  node_made c (node.Close x) h = in_scope c x h
  node_made c (node.Wait x n) h = in_scope c x h
  node_made c (node.Forward x y rs) h = two_in_scope c x y h
  node_made c (node.Spawn v d es ys rs n) h =
      let b = and_parts (is_name g v) (is_made_call (slice_get g.decls d) c es ys) h in
      (ltb-true v (length g.names) b.0, call_made c d es ys (slice_get g.decls d) refl b.1)
  node_made c (node.Call x d es ys rs) h =
      let b = tested_in_scope c x (is_made_call (slice_get g.decls d) c es ys) h in
      (b.0, call_made c d es ys (slice_get g.decls d) refl b.1)
  node_made c node.Impossible h = tt
  node_made c (node.Work r n) h = h
  node_made c (node.Delay t n) h = h

  -- ---- names for printing

  said_made : {A : Type 0} (f : A → ℕ) (xs : List A) (ss : List (List ℕ)) → are_said g f xs ss ≡ true → AreSaid g f xs ss
  said_made {A} f [] [] h = tt
  said_made {A} f [] (s ∷ ss) h = let e : false ≡ true = h in cc
  said_made {A} f (x ∷ xs) [] h = let e : false ≡ true = h in cc
  said_made {A} f (x ∷ xs) (s ∷ ss) h =
      let b = and_parts (is_said g (f x) s) (are_said g f xs ss) h in
      let c = and_parts (length s == f x) (list_all (is_name g) s) b.0 in
      (same_number (length s) (f x) c.0, each_is (is_name g) (λ n. n < length g.names) (λ n. ltb-true n (length g.names)) s c.1, said_made f xs ss b.1)

-- ---- the pass

-- what the pass ended with
pub record Passed (g : Program) : Type 0 where
  pub rooted : Places
  pub final : Places
  pub bodies : all_placed (λ d. d.body) scope_of (no_places g.nodes) g.decls ≡ Some rooted
  pub visits : all_visited g rooted 0 g.nodes ≡ Some final

pub passed : (g : Program) → made.are_made_nodes g ≡ true → Passed g
passed g h =
    let o = there (final_places g) h in
    let a = after_is (all_placed (λ d. d.body) scope_of (no_places g.nodes) g.decls) (λ s. all_visited g s 0 g.nodes) o.0 o.1 in
    record { rooted = a.0; final = o.0; bodies = a.1; visits = a.2 }
  where
    there : (o : Option Places) → is_some o ≡ true → (s : Places) × (o ≡ Some s)
    there None h = absurd (let e : false ≡ true = h in cc)
    there (Some s) h = (s, refl)

pub no_place : (nds : List Node) (k : ℕ) → at (no_places nds) k ≡ None
no_place [] k = refl
no_place (nd ∷ nds) zero = refl
no_place (nd ∷ nds) (suc k) = no_place nds k

pub long_places : (nds : List Node) → length (no_places nds) ≡ length nds
long_places [] = refl
long_places (nd ∷ nds) = ap suc (long_places nds)

module _ (g : Program) (p : Passed g) where
  -- each node has the scope in which it stands
  stands : (n vars fresh : ℕ) → StandsIn g n vars fresh → at p.final n ≡ Some (record { vars = vars; channels = fresh })
  stands n vars fresh (at_root k d e) = visits_kept g p.rooted 0 g.nodes p.final p.visits d.body (scope_of d) (all_there (λ d. d.body) scope_of (no_places g.nodes) g.decls p.rooted p.bodies k d e)
  stands m w h (at_child n vars fresh nd i kid s e k) =
      let seen = visits_seen g p.rooted 0 g.nodes p.final p.visits n nd e in
      let there : at p.final n ≡ Some seen.scope = subst (λ x. at p.final x ≡ Some seen.scope) (first n) seen.there in
      let same = some_same seen.scope (record { vars = vars; channels = fresh }) (sym there ∙ stands n vars fresh s) in
      seen.kids i kid k ∙ ap (λ (c : Scope). Some (below c nd)) same
    where
      first : (n : ℕ) → 0 + n ≡ n
      first n = omega arith

  nodes_made : (n vars fresh : ℕ) (nd : Node) → StandsIn g n vars fresh → slice_get g.nodes n ≡ Some nd → IsMadeNode g vars fresh nd
  nodes_made n vars fresh nd s e =
      let seen = visits_seen g p.rooted 0 g.nodes p.final p.visits n nd e in
      let first : 0 + n ≡ n = omega arith in
      let there : at p.final n ≡ Some seen.scope = subst (λ x. at p.final x ≡ Some seen.scope) first seen.there in
      let same = some_same seen.scope (record { vars = vars; channels = fresh }) (sym there ∙ stands n vars fresh s) in
      subst (λ (c : Scope). IsMadeNode g c.vars c.channels nd) same (node_made g seen.scope nd seen.made)

  no_first : (k : ℕ) → k < 0 → full (at p.rooted k) ≡ 1
  no_first k lt = absurd (omega arith)

  nodes_forward : (n : ℕ) (nd : Node) → slice_get g.nodes n ≡ Some nd → All (λ m. (n < m) × (m < length g.nodes)) (kids nd)
  nodes_forward n nd e =
      let first : 0 + n ≡ n = omega arith in
      let long = all_long (λ d. d.body) scope_of (no_places g.nodes) g.decls p.rooted p.bodies ∙ long_places g.nodes in
      subst (λ (x : ℕ). All (λ m. (x < m) × (m < length g.nodes)) (kids nd)) first
      (subst (λ (l : ℕ). All (λ m. (0 + n < m) × (m < l)) (kids nd)) long (visits_forward g p.rooted 0 g.nodes p.final no_first p.visits n nd e))

  nodes_placed : (n : ℕ) → n < length g.nodes → times_placed g n ≡ 1
  nodes_placed n lt =
      let end = visits_filled g p.rooted 0 g.nodes p.final no_first p.visits n (omega arith) in
      let later = visits_full g p.rooted 0 g.nodes p.final p.visits n in
      let earlier = all_full (λ d. d.body) scope_of (no_places g.nodes) g.decls p.rooted p.bodies n in
      let none = ap full (no_place g.nodes n) in
      omega arith

  bodies_within : AllByRecursion (λ d. d.body < length g.nodes) g.decls
  bodies_within = subst (λ l. AllByRecursion (λ d. d.body < l) g.decls) (long_places g.nodes) (all_within (λ d. d.body) scope_of (no_places g.nodes) g.decls p.rooted p.bodies)

decls_made : (g : Program) (ds : List Decl) → list_all (is_made_decl g) ds ≡ true → AllByRecursion (λ d. d.body < length g.nodes) ds → AllByRecursion (IsMadeDecl g) ds
decls_made g [] h b = tt
decls_made g (d ∷ ds) h b = let p = and_parts (is_made_decl g d) (list_all (is_made_decl g) ds) h in (decl_made g d p.0 b.0, decls_made g ds p.1 b.1)

pub well_made_is : (g : Program) → is_well_made g ≡ true → IsWellMade g
well_made_is g h =
    let a = and_parts (made.are_made_tables g) (is_made_main g g.main && (made.are_made_nodes g && made.are_all_said g)) h in
    let b = and_parts (is_made_main g g.main) (made.are_made_nodes g && made.are_all_said g) a.1 in
    let c = and_parts (made.are_made_nodes g) (made.are_all_said g) b.1 in
    let t = and_parts (list_all (is_made_def g) g.types.defs) (list_all (is_made_decl g) g.decls && list_all (is_made_equation g) g.equations) a.0 in
    let u = and_parts (list_all (is_made_decl g) g.decls) (list_all (is_made_equation g) g.equations) t.1 in
    let s = and_parts (are_said g names_of_def g.types.defs g.said.types) (are_said g names_of_decl g.decls g.said.decls && are_said g names_of_channels g.decls g.said.channels) c.1 in
    let r = and_parts (are_said g names_of_decl g.decls g.said.decls) (are_said g names_of_channels g.decls g.said.channels) s.1 in
    let p = passed g c.0 in
    record {
      types = each_is (is_made_def g) (IsMadeDef g) (def_made g) g.types.defs t.0;
      decls = All-from_recursion (IsMadeDecl g) g.decls (decls_made g g.decls u.0 (bodies_within g p));
      equations = each_is (is_made_equation g) (IsMadeEquation g) (equation_made g) g.equations u.1;
      nodes = nodes_made g p;
      main = main_made g g.main b.0;
      forward = nodes_forward g p;
      placed = nodes_placed g p;
      said_types = said_made g names_of_def g.types.defs g.said.types s.0;
      said_decls = said_made g names_of_decl g.decls g.said.decls r.0;
      said_channels = said_made g names_of_channels g.decls g.said.channels r.1;
    }
