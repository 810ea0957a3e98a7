-- The program that the names of a file of the grammar resolve to is well made.
use Rattle.std.proofs.Common.{◌≡◌, ℕ, suc, ◌+◌, Bool, true, is_some, List, [], ◌∷◌, map, length, flat_map, refl, sym, ap, ◌∙◌, subst, arith, Some, Ok, slice_get, option_map}
use Rattle.std.specs.List.{AllByRecursion}
use Rattle.std.proofs.lemmas.List.Elements.{All-from_recursion}
use Rattle.std.proofs.lemmas.Bool.{and_parts}
use Rattle.std.proofs.lemmas.Option.{slice_get_within, slice_get-map, same_Some}
use Rattle.rast_terms.specs.declared.node.Node.{Node}
use Rattle.rast_terms.specs.declared.program.Program.{Program}
use Rattle.rast_terms.specs.declared.program.Decl.{Decl}
use Rattle.rast_made.specs.WellMade.{IsMadeDef, IsMadeDecl, IsMadeEquation, IsWellMade}
use Rattle.rast_forms.specs.Words.{all_true}
use Rattle.rast_ast.specs.Files.{item_fits, file_fits}
use Rattle.rast_ast.specs.declared.file.File.{File}
use Rattle.rast_ast.specs.declared.file.Item.{Item}
use Rattle.rast_resolve.specs.declared.program.Resolved.{Resolved}
use Rattle.rast_resolve.specs.Scopes.{Texts, is_among}
use Rattle.rast_resolve.specs.Bodies.{body_start}
use Rattle.rast_resolve.specs.Names.{item_names, known_of, body_sizes, starts_from, all_put}
use Rattle.rast_resolve.specs.Programs.{tables_of, none_seen, no_entries, none_fails, paired, runnable, program_of, program_with, resolved}
use Rattle.rast_resolve.proofs.Places.{place_there}
use Rattle.rast_meant.proofs.Kept.{Known, Seen, Tables}
use Rattle.rast_meant.proofs.Apart.{Gave, both, made}
use Rattle.rast_meant.proofs.Numbers.{AreAmong, left_among, right_among, once_among}
use Rattle.rast_meant.proofs.Places.{map_repeated, length_map, length_starts, there, each_at, at_places}
use Rattle.rast_meant.proofs.Forests.{body_root, Forest, none}
use Rattle.rast_meant.proofs.Grown.{IsKnown, forest_append}
use Rattle.rast_meant.proofs.Adding.{Added, all_added}
use Rattle.rast_meant.proofs.Shapes.{Shapes, shapes_of, none_failed, has_decl, has_proc, known_program}
use Rattle.rast_meant.proofs.Holding.{IsMadeHead, AreGood, tables_good, bodies_good, sizes_are}
use Rattle.rast_meant.proofs.Tables.{nodes_made, nodes_forward, nodes_placed, bodies_within}

-- bodies one after another are one forest
join : (g : Program) (n : ℕ) (ds : List Decl) (bs : List (List Node)) → map (λ (d : Decl). d.body) ds ≡ starts_from n (map length bs) → ((j : ℕ) (d : Decl) (b : List Node) → slice_get ds j ≡ Some d → slice_get bs j ≡ Some b → Forest g d.body (body_root d ∷ []) b)
    → Forest g n (map body_root ds) (flat_map (λ (b : List Node). b) bs)
join g n [] [] e f = none n
join g n [] (b ∷ bs) e f = absurd (cc e)
join g n (d ∷ ds) [] e f = absurd (cc e)
join g n (d ∷ ds) (b ∷ bs) e f =
    let at : d.body ≡ n = cc e in
    let rest : map (λ (d : Decl). d.body) ds ≡ starts_from (n + length b) (map length bs) = cc e in
    forest_append g n (n + length b) (body_root d ∷ []) b (map body_root ds) (flat_map (λ (b : List Node). b) bs) refl (subst (λ z. Forest g z (body_root d ∷ []) b) at (f 0 d b refl refl)) (join g (n + length b) ds bs rest (λ j x y p q. f (suc j) x y p q))

-- names of items, one after another
split_items : (names : Texts) (is : List Item) → AreAmong names (flat_map item_names is) → AllByRecursion (λ i. AreAmong names (item_names i)) is
split_items names [] h = tt
split_items names (i ∷ is) h = (left_among names (item_names i) (flat_map item_names is) h, split_items names is (right_among names (item_names i) (flat_map item_names is) h))

-- items that the grammar has, one after another
each_fits : (explicit : Bool) (is : List Item) → all_true (map (item_fits explicit) is) ≡ true → AllByRecursion (λ i. item_fits explicit i ≡ true) is
each_fits explicit [] h = tt
each_fits explicit (i ∷ is) h = let fits = and_parts (item_fits explicit i) (all_true (map (item_fits explicit) is)) h in (fits.0, each_fits explicit is fits.1)

and_also : {X : Type 0} (P Q R : X → Type 0) (xs : List X) → AllByRecursion P xs → AllByRecursion Q xs → AllByRecursion R xs → AllByRecursion (λ x. P x × Q x × R x) xs
and_also {X} P Q R [] h k l = tt
and_also {X} P Q R (x ∷ xs) h k l = ((h.0, k.0, l.0), and_also P Q R xs h.1 k.1 l.1)

module _ (is : List Item) (s : Seen) (t : Tables) (a : Added (known_of is) none_seen (no_entries (length (known_of is).decls)) is s t) (pairs : AllByRecursion (λ i. Gave (paired (known_of is) i) tt) is) (runs : AllByRecursion (λ i. Gave (runnable (known_of is) i) tt) is)
    (explicit : Bool) (fits : AllByRecursion (λ i. item_fits explicit i ≡ true) is) where
  abbrev k : Known
  k = known_of is

  abbrev g : Program
  g = program_of k t

  shapes : Shapes k s t
  shapes = shapes_of is s t a

  known : IsKnown k g
  known = known_program k s t shapes (has_decl k is pairs)

  among : AllByRecursion (λ i. AreAmong k.names (item_names i)) is
  among = split_items k.names is (once_among [] (flat_map item_names is))

  good : AreGood g t
  good = tables_good k g known shapes.params explicit none_seen (no_entries (length k.decls)) is s t (and_also (λ i. AreAmong k.names (item_names i)) (λ i. Gave (runnable k i) tt) (λ i. item_fits explicit i ≡ true) is among runs fits) a
      (record { defs = tt; decls = tt; equations = tt; main = tt; said_types = tt; said_decls = tt; said_channels = tt })

  starts : k.starts ≡ starts_from 0 (map length t.bodies)
  starts = ap (starts_from 0) (ap (λ z. all_put z (flat_map (body_sizes k.decls) is)) (sym (map_repeated length (length k.decls) [])) ∙ sym (sizes_are k g known shapes.params none_seen (no_entries (length k.decls)) is s t among a))

  begins : map (λ (d : Decl). d.body) t.decls ≡ starts_from 0 (map length t.bodies)
  begins = shapes.bodies ∙ at_places k.decls k.starts shapes.decls (sym (ap length starts ∙ length_starts 0 (map length t.bodies) ∙ length_map length t.bodies ∙ shapes.room)) ∙ starts

  body_at : (j : ℕ) (d : Decl) (b : List Node) → slice_get t.decls j ≡ Some d → slice_get t.bodies j ≡ Some b → Forest g d.body (body_root d ∷ []) b
  body_at j d b h l =
      let lt = slice_get_within t.bodies j b l in
      let f = there k.decls j (let room = shapes.room in omega (arith, lt, room)) in
      let place = shapes.decls j f.0 f.1 in
      let is_there : is_among f.0 k.decls ≡ true = sym (place_there f.0 k.decls) ∙ ap (λ o. is_some o) place in
      let seen : is_among f.0 s.procs ≡ true = ap (is_among f.0) shapes.procs ∙ has_proc k is pairs f.0 is_there in
      let grown = bodies_good k g known shapes.params none_seen (no_entries (length k.decls)) is s t among a (λ f j d b p i a m. absurd (cc m)) f.0 j d b place h l seen in
      let at : d.body ≡ body_start k f.0 = same_Some d.body (body_start k f.0) (sym (slice_get-map (λ (d : Decl). d.body) t.decls j ∙ ap (option_map (λ (d : Decl). d.body)) h) ∙ ap (λ z. slice_get z j) shapes.bodies ∙ slice_get-map (body_start k) k.decls j ∙ ap (option_map (body_start k)) f.1) in
      subst (λ z. Forest g z (record { node = z; vars = d.params; fresh = length d.uses + 1 } ∷ []) b) (sym at) grown

  forest : Forest g 0 (map body_root g.decls) g.nodes
  forest = join g 0 t.decls t.bodies begins body_at

  pub well_made : IsWellMade g
  well_made = record {
    types = All-from_recursion (IsMadeDef g) t.defs good.defs;
    decls = All-from_recursion (IsMadeDecl g) t.decls (each_at (IsMadeHead g) (IsMadeDecl g) t.decls good.decls (λ j d e h. record { name = h.name; uses = h.uses; potential = h.potential; gives = h.gives; body = bodies_within g forest j d e }));
    equations = All-from_recursion (IsMadeEquation g) t.equations good.equations;
    nodes = nodes_made g forest;
    main = good.main;
    forward = nodes_forward g forest;
    placed = nodes_placed g forest;
    said_types = good.said_types;
    said_decls = good.said_decls;
    said_channels = good.said_channels;
  }

pub meant : (f : File) (r : Resolved) → file_fits f ≡ true → resolved f ≡ Ok r → IsWellMade r.program
meant f r fit h =
    let k = known_of f.items in
    let p = made (program_with k f.items) (λ (p : Program). let z : Resolved = record { program = p; explicit = f.explicit } in z) r h in
    let t = both (tables_of k none_seen (no_entries (length k.decls)) f.items) _ p.0 p.1 in
    let u = both (none_fails (paired k) f.items) _ p.0 t.2 in
    let v = made (none_fails (runnable k) f.items) (λ v. program_of k t.0) p.0 u.2 in
    let a = all_added k none_seen (no_entries (length k.decls)) f.items t.0 t.1 in
    subst IsWellMade (v.2 ∙ ap (λ (z : Resolved). z.program) p.2) (well_made f.items a.0 t.0 a.1 (none_failed (paired k) f.items u.1) (none_failed (runnable k) f.items v.1) f.explicit (each_fits f.explicit f.items fit))
