-- In a forest, a way from a declaration's body down to a node is the nodes above it, and the declaration is the one in which it stands.
use Rattle.std.proofs.Common.{arith, ◌≡◌, ◌∙◌, ℕ, zero, suc, ◌+◌, ◌<◌, Bool, true, false, if◌then◌else◌, List, [], ◌∷◌, ◌++◌, length, Option, Some, None, refl, sym, ap, ap₂, append_assoc, inl, inr}
use Rattle.std.specs.Prelude.{◌==◌, reverse, slice_get}
use Rattle.std.specs.List.{list_any}
use Rattle.std.proofs.lemmas.Bool.{cases_lt}
use Rattle.std.proofs.lemmas.Bool.Decides.{Decides-eqb}
use Rattle.std.proofs.lemmas.List.{append-nil, reverse-append, reverse-reverse}
use Rattle.std.proofs.lemmas.List.Folds.{Any-from_list_any}
use Rattle.std.proofs.lemmas.Map.Keys.{any_passes_from_place}
use Rattle.std.proofs.lemmas.Option.{slice_get_read}
use Rattle.rast_terms.specs.Nodes.{kids}
use Rattle.rast_terms.specs.declared.node.Node.{Node}
use Rattle.rast_terms.specs.declared.program.Decl.{Decl}
use Rattle.rast_terms.specs.declared.program.Program.{Program}
use Rattle.rast_rules.specs.Plan.{IsBody, IsKid, IsForest}
use Rattle.rast_lines.specs.Naming.{Names, body_names, names_after, names_at}
use Rattle.rast_lines.specs.Places.{is_below, above, nodes_above, first_or, decl_from, decl_of, IsPath}

-- a number that a list has is somewhere in it
place : (n : ℕ) (ks : List ℕ) → list_any (λ m. m == n) ks ≡ true → (i : ℕ) × (slice_get ks i ≡ Some n)
place n ks e =
    let a = Any-from_list_any (λ m. m == n) ks e in
    (a.0, slice_get_read ks (length ks) a.0 a.1 refl a.2 (sym a.3) ∙ ap Some ((Decides-eqb a.1 n).0 a.4))

-- the first declaration with a body that only one has
decl_found : (ds : List Decl) (j i m : ℕ) (d : Decl) → slice_get ds i ≡ Some d → d.body ≡ m → ((l : ℕ) (e : Decl) → slice_get ds l ≡ Some e → e.body ≡ m → l ≡ i) → decl_from j ds m ≡ j + i
decl_found [] j i m d there is one = cc
decl_found (e ∷ ds) j zero m d there is one =
    let same : e ≡ d = cc in
    ap (λ b. if b then j else decl_from (j + 1) ds m) ((Decides-eqb e.body m).1 (ap (λ (x : Decl). x.body) same ∙ is)) ∙ omega arith
decl_found (e ∷ ds) j (suc i) m d there is one = by (e.body == m) refl (decl_found ds (j + 1) i m d there is (λ l x t h. let r = one (suc l) x t h in omega arith))
  where
    by : (b : Bool) → (e.body == m) ≡ b → decl_from (j + 1) ds m ≡ j + 1 + i → (if b then j else decl_from (j + 1) ds m) ≡ j + suc i
    by true s rest = let h = one zero e refl ((Decides-eqb e.body m).0 s) in absurd (omega arith)
    by false s rest = rest ∙ omega arith

module _ (g : Program) where
  -- what is no child of a node isn't below it, and a child is
  no_kid : (k n : ℕ) → ((i : ℕ) → IsKid g k i n → ⊥) → is_below n (slice_get g.nodes k) ≡ false
  no_kid k n none = by (slice_get g.nodes k) refl
    where
      by : (o : Option Node) → slice_get g.nodes k ≡ o → is_below n o ≡ false
      by None s = refl
      by (Some nd) s = test (is_below n (Some nd)) refl
        where
          test : (b : Bool) → is_below n (Some nd) ≡ b → b ≡ false
          test true e = let p = place n (kids nd) e in absurd (none p.0 (record { node = nd; there = s; is = p.1 }))
          test false e = refl

  a_kid : (k i n : ℕ) → IsKid g k i n → is_below n (slice_get g.nodes k) ≡ true
  a_kid k i n kid = ap (is_below n) kid.there ∙ any_passes_from_place (λ m. m == n) (kids kid.node) i n kid.is ((Decides-eqb n n).1 refl)

  -- nothing is above a node that is no child
  above_none : (m : ℕ) → ((p i : ℕ) → IsKid g p i m → ⊥) → (k : ℕ) → above g k m ≡ []
  above_none m none zero = refl
  above_none m none (suc k) = ap (λ b. if b then k ∷ above g k k else above g k m) (no_kid k m (none k)) ∙ above_none m none k

  first_path : (path : List ℕ) (m n : ℕ) → IsPath g m path n → first_or n path ≡ m
  first_path [] m n way = sym way
  first_path (p ∷ ps) m n way = way.0

  module _ (f : IsForest g) where
    -- above a child is its parent, and what is above that
    above_kid : (p i c : ℕ) → IsKid g p i c → (k : ℕ) → p < k → above g k c ≡ p ∷ above g p p
    above_kid p i c kid zero h = absurd (omega arith)
    above_kid p i c kid (suc k) h = elim (cases_lt p k) [
      | inl less ↦
          ap (λ b. if b then k ∷ above g k k else above g k c) (no_kid k c (λ j other. let same = (f.kids k p j i c other kid).0 in omega (arith, same, less)))
          ∙ above_kid p i c kid k less
      | inr least ↦
          let same : p ≡ k = omega (arith, h, least) in
          ap (λ b. if b then k ∷ above g k k else above g k c) (ap (λ m. is_below c (slice_get g.nodes m)) (sym same) ∙ a_kid p i c kid)
          ∙ ap (λ m. m ∷ above g m m) (sym same)
    ]

    above_path : (path : List ℕ) (m n : ℕ) → IsPath g m path n → above g n n ≡ reverse path ++ above g m m
    above_path [] m n way = ap (λ k. above g k k) (sym way)
    above_path (p ∷ ps) m n way =
        above_path ps way.2 n way.4
        ∙ ap (λ z. reverse ps ++ z) (above_kid m way.1 way.2 way.3 way.2 (f.forward m way.1 way.2 way.3) ∙ ap (λ q. q ∷ above g m m) (sym way.0))
        ∙ sym (append_assoc (reverse ps) (p ∷ []) (above g m m))
        ∙ ap (λ z. z ++ above g m m) (sym (reverse-append (p ∷ []) ps))

    module _ (k m : ℕ) (b : IsBody g k m) (path : List ℕ) (n : ℕ) (way : IsPath g m path n) where
      pub path_above : nodes_above g n ≡ path
      path_above =
          ap reverse (above_path path m n way ∙ ap (λ z. reverse path ++ z) (above_none m (λ p i kid. f.apart k p i m b kid) m) ∙ append-nil (reverse path))
          ∙ reverse-reverse path

      pub path_decl : decl_of g n ≡ k
      path_decl =
          ap (λ z. decl_from 0 g.decls (first_or n z)) path_above
          ∙ ap (decl_from 0 g.decls) (first_path path m n way)
          ∙ decl_found g.decls 0 k m b.decl b.there b.is (λ l e t h. f.bodies l k m (record { decl = e; there = t; is = h }) b)
          ∙ omega arith

      pub placed : (r : ℕ) (ns : List ℕ) → r ≡ decl_of g n → ns ≡ nodes_above g n → (r ≡ k) × (ns ≡ path)
      placed r ns e h = (e ∙ path_decl, h ∙ path_above)

      pub names_placed : (s : Names) → s ≡ names_at g n → (decl_of g n ≡ k) × (s ≡ names_after g (body_names g k) path)
      names_placed s e = (path_decl, e ∙ ap₂ (λ l ns. names_after g (body_names g l) ns) path_decl path_above)
