-- The tables of a whole file have what was known of it from its beginning.
use Rattle.std.proofs.Common.{◌≡◌, ℕ, suc, Bool, true, false, ◌||◌, List, [], ◌∷◌, ◌++◌, map, length, flat_map, refl, sym, ap, ◌∙◌, subst, arith, Some, Ok, slice_get, option_map}
use Rattle.std.specs.Prelude.{nat_le}
use Rattle.std.specs.List.{AllByRecursion}
use Rattle.std.specs.Str.{bytes_eq}
use Rattle.std.proofs.lemmas.List.{append-nil, length-replicate}
use Rattle.std.proofs.lemmas.Option.{slice_get-map}
use Rattle.rast_types.specs.declared.ty.Ty.{Ty}
use Rattle.rast_types.specs.declared.table.TypeDef.{TypeDef}
use Rattle.rast_terms.specs.declared.program.Decl.{Decl}
use Rattle.rast_ast.specs.declared.file.Item.{Item}
use Rattle.rast_ast.specs.declared.file.Item.TheVariants as item
use Rattle.rast_ast.specs.declared.file.Channel.{Channel}
use Rattle.rast_resolve.specs.declared.fault.NameErr.TheVariants as fault
use Rattle.rast_resolve.specs.Answers.{Answer}
use Rattle.rast_resolve.specs.Scopes.{Text, Texts, is_among, place_of}
use Rattle.rast_resolve.specs.Types.{type_of}
use Rattle.rast_resolve.specs.Bodies.{body_start}
use Rattle.rast_resolve.specs.Names.{def_params, decl_names, decl_counts, body_names, known_of}
use Rattle.rast_resolve.specs.Programs.{used_types, seen_with, none_seen, no_entries, none_fails, paired, if_paired, program_of}
use Rattle.rast_meant.proofs.Kept.{Known, Counts, Seen, Tables}
use Rattle.rast_meant.proofs.Apart.{Gave, same, both, made, unless, where_true}
use Rattle.rast_meant.proofs.Numbers.{same_name, place_below}
use Rattle.rast_meant.proofs.Places.{map_append, length_map, length_put, there, of_each, ArePlaces, none_places, more_places}
use Rattle.rast_meant.proofs.Adding.{Adds, Added, total, kept}
use Rattle.rast_meant.proofs.Grown.{IsKnown}

-- what a declaration says of its process
pub counts_of : Decl → Counts
counts_of d = record { params = d.params; channels = length d.uses }

module _ (k : Known) where
  -- as many used types as used channels
  used_many : (whose : Text) (vars seen : Texts) (us : List Channel) (r : List Ty × Texts) → Gave (used_types k whose vars seen us) r → length r.0 ≡ length us
  used_many whose vars seen [] r h = ap (λ (z : List Ty × Texts). length z.0) (sym (same ([], seen) r h))
  used_many whose vars seen (c ∷ cs) r h =
      let u = unless (is_among c.name seen) (fault.Twice c.name) _ r h in
      let v = unless (nat_le 15 (length seen)) (fault.Limit whose) _ r u.1 in
      let a = both (type_of k whose c.body vars) _ r v.1 in
      let b = made (used_types k whose vars (seen ++ c.name ∷ []) cs) (λ (q : List Ty × Texts). let z : List Ty × Texts = (a.0 ∷ q.0, q.1) in z) r a.2 in
      ap (λ (z : List Ty × Texts). length z.0) (sym b.2) ∙ ap suc (used_many whose vars (seen ++ c.name ∷ []) cs b.0 b.1)

  nothing : {X : Type 0} (xs ys : List X) → xs ≡ ys → xs ≡ ys ++ []
  nothing {X} xs ys e = e ∙ sym (append-nil ys)

  params_step : (s : Seen) (i : Item) (t u : Tables) → Adds k s i t u → map (λ (d : TypeDef). d.params) u.defs ≡ map (λ (d : TypeDef). d.params) t.defs ++ def_params i
  params_step s (item.Def n ps a) t u w = ap (λ (z : Tables). map (λ (d : TypeDef). d.params) z.defs) w.2 ∙ map_append (λ (d : TypeDef). d.params) t.defs _
  params_step s (item.Decl n ps us q x) t u w = nothing _ _ (ap (λ (z : Tables). map (λ (d : TypeDef). d.params) z.defs) w.7)
  params_step s (item.Proc x f ps ys b) t u w = nothing _ _ (ap (λ (z : Tables). map (λ (d : TypeDef). d.params) z.defs) w.5)
  params_step s (item.Eq ps f a b by) t u w = nothing _ _ (ap (λ (z : Tables). map (λ (d : TypeDef). d.params) z.defs) w.7)
  params_step s (item.Exec n) t u w = nothing _ _ (ap (λ (z : Tables). map (λ (d : TypeDef). d.params) z.defs) w.2)

  counts_step : (s : Seen) (i : Item) (t u : Tables) → Adds k s i t u → map counts_of u.decls ≡ map counts_of t.decls ++ decl_counts i
  unfolding counts_of
  counts_step s (item.Def n ps a) t u w = nothing _ _ (ap (λ (z : Tables). map counts_of z.decls) w.2)
  counts_step s (item.Decl n ps us q x) t u w = ap (λ (z : Tables). map counts_of z.decls) w.7 ∙ map_append counts_of t.decls _ ∙ ap (λ m. map counts_of t.decls ++ record { params = length ps; channels = m } ∷ []) (used_many n ps [] us w.0 w.4)
  counts_step s (item.Proc x f ps ys b) t u w = nothing _ _ (ap (λ (z : Tables). map counts_of z.decls) w.5)
  counts_step s (item.Eq ps f a b by) t u w = nothing _ _ (ap (λ (z : Tables). map counts_of z.decls) w.7)
  counts_step s (item.Exec n) t u w = nothing _ _ (ap (λ (z : Tables). map counts_of z.decls) w.2)

  bodies_step : (s : Seen) (i : Item) (t u : Tables) → Adds k s i t u → map (λ (d : Decl). d.body) u.decls ≡ map (λ (d : Decl). d.body) t.decls ++ map (body_start k) (decl_names i)
  bodies_step s (item.Def n ps a) t u w = nothing _ _ (ap (λ (z : Tables). map (λ (d : Decl). d.body) z.decls) w.2)
  bodies_step s (item.Decl n ps us q x) t u w = ap (λ (z : Tables). map (λ (d : Decl). d.body) z.decls) w.7 ∙ map_append (λ (d : Decl). d.body) t.decls _
  bodies_step s (item.Proc x f ps ys b) t u w = nothing _ _ (ap (λ (z : Tables). map (λ (d : Decl). d.body) z.decls) w.5)
  bodies_step s (item.Eq ps f a b by) t u w = nothing _ _ (ap (λ (z : Tables). map (λ (d : Decl). d.body) z.decls) w.7)
  bodies_step s (item.Exec n) t u w = nothing _ _ (ap (λ (z : Tables). map (λ (d : Decl). d.body) z.decls) w.2)

  procs_step : (s : Seen) (i : Item) (t u : Tables) → Adds k s i t u → (seen_with i s).procs ≡ s.procs ++ body_names i
  procs_step s (item.Def n ps a) t u w = nothing _ _ refl
  procs_step s (item.Decl n ps us q x) t u w = nothing _ _ refl
  procs_step s (item.Proc x f ps ys b) t u w = refl
  procs_step s (item.Eq ps f a b by) t u w = nothing _ _ refl
  procs_step s (item.Exec n) t u w = nothing _ _ refl

  decls_step : (s : Seen) (i : Item) (t u : Tables) → Adds k s i t u → (seen_with i s).decls ≡ s.decls ++ decl_names i
  decls_step s (item.Def n ps a) t u w = nothing _ _ refl
  decls_step s (item.Decl n ps us q x) t u w = refl
  decls_step s (item.Proc x f ps ys b) t u w = nothing _ _ refl
  decls_step s (item.Eq ps f a b by) t u w = nothing _ _ refl
  decls_step s (item.Exec n) t u w = nothing _ _ refl

  places_step : (s : Seen) (i : Item) (t u : Tables) → Unit {0} → Adds k s i t u → ArePlaces s.decls → ArePlaces (seen_with i s).decls
  places_step s (item.Def n ps a) t u p w h = h
  places_step s (item.Decl n ps us q x) t u p w h = more_places s.decls n w.3 h
  places_step s (item.Proc x f ps ys b) t u p w h = h
  places_step s (item.Eq ps f a b by) t u p w h = h
  places_step s (item.Exec n) t u p w h = h

  room_step : (s : Seen) (i : Item) (t u : Tables) → Unit {0} → Adds k s i t u → length t.bodies ≡ length k.decls → length u.bodies ≡ length k.decls
  room_step s (item.Def n ps a) t u p w h = ap (λ (z : Tables). length z.bodies) w.2 ∙ h
  room_step s (item.Decl n ps us q x) t u p w h = ap (λ (z : Tables). length z.bodies) w.7 ∙ h
  room_step s (item.Proc x f ps ys b) t u p w h = ap (λ (z : Tables). length z.bodies) w.5 ∙ length_put t.bodies (place_of f k.decls) w.1 ∙ h
  room_step s (item.Eq ps f a b by) t u p w h = ap (λ (z : Tables). length z.bodies) w.7 ∙ h
  room_step s (item.Exec n) t u p w h = ap (λ (z : Tables). length z.bodies) w.2 ∙ h

map_flat : {X Y Z : Type 0} (f : Y → Z) (g : X → List Y) (xs : List X) → flat_map (λ x. map f (g x)) xs ≡ map f (flat_map g xs)
map_flat {X} {Y} {Z} f g [] = refl
map_flat {X} {Y} {Z} f g (x ∷ xs) = ap (λ r. map f (g x) ++ r) (map_flat f g xs) ∙ sym (map_append f (g x) (flat_map g xs))

-- the tables of all items have these shapes
pub record Shapes (k : Known) (s : Seen) (t : Tables) : Type 0 where
  pub params : map (λ (d : TypeDef). d.params) t.defs ≡ k.params
  pub counts : map counts_of t.decls ≡ k.counts
  pub bodies : map (λ (d : Decl). d.body) t.decls ≡ map (body_start k) k.decls
  pub procs : s.procs ≡ k.procs
  pub decls : ArePlaces k.decls
  pub room : length t.bodies ≡ length k.decls

pub shapes_of : (is : List Item) (s : Seen) (t : Tables) → Added (known_of is) none_seen (no_entries (length (known_of is).decls)) is s t → Shapes (known_of is) s t
shapes_of is s t a =
    let k = known_of is in
    let start = no_entries (length k.decls) in
    let units = of_each (λ (i : Item). Unit {0}) (λ i. tt) is in
    let named : s.decls ≡ flat_map decl_names is = total k (λ s t. s.decls) decl_names (decls_step k) none_seen start is s t a in
    record {
      params = total k (λ s t. map (λ (d : TypeDef). d.params) t.defs) def_params (params_step k) none_seen start is s t a;
      counts = total k (λ s t. map counts_of t.decls) decl_counts (counts_step k) none_seen start is s t a;
      bodies = total k (λ s t. map (λ (d : Decl). d.body) t.decls) (λ i. map (body_start k) (decl_names i)) (bodies_step k) none_seen start is s t a ∙ map_flat (body_start k) decl_names is;
      procs = total k (λ s t. s.procs) body_names (procs_step k) none_seen start is s t a;
      decls = subst ArePlaces named (kept k (λ s t. ArePlaces s.decls) (λ i. Unit {0}) (places_step k) none_seen start is s t units a none_places);
      room = kept k (λ s t. length t.bodies ≡ length k.decls) (λ i. Unit {0}) (room_step k) none_seen start is s t units a (length-replicate (length k.decls) []);
    }

-- ---- declarations and bodies

pub none_failed : (f : Item → Answer (Unit {0})) (is : List Item) → Gave (none_fails f is) tt → AllByRecursion (λ i. Gave (f i) tt) is
none_failed f [] h = tt
none_failed f (i ∷ is) h = let b = both (f i) (λ u. none_fails f is) tt h in (b.1, none_failed f is b.2)

module _ (k : Known) where
  pairs : (b : Bool) (n : Text) → Gave (if_paired b n) tt → b ≡ true
  pairs b n h = (where_true b (fault.Unknown n) (Ok tt) tt h).0

  here_or : (f n : Text) (b : Bool) (rest : Bool) (names : Texts) → is_among n names ≡ true → bytes_eq f n ≡ b → (b || rest) ≡ true → (rest ≡ true → is_among f names ≡ true) → is_among f names ≡ true
  here_or f n true rest names h e g i = subst (λ z. is_among z names ≡ true) (sym (same_name f n e)) h
  here_or f n false rest names h e g i = i g

  -- a process has a declaration
  pub has_decl : (is : List Item) → AllByRecursion (λ i. Gave (paired k i) tt) is → (f : Text) → is_among f (flat_map body_names is) ≡ true → is_among f k.decls ≡ true
  has_decl [] h f g = absurd (cc g)
  has_decl (item.Def n ps a ∷ is) h f g = has_decl is h.1 f g
  has_decl (item.Decl n ps us q x ∷ is) h f g = has_decl is h.1 f g
  has_decl (item.Proc x n ps ys b ∷ is) h f g = here_or f n (bytes_eq f n) (is_among f (flat_map body_names is)) k.decls (pairs (is_among n k.decls) n h.0) refl g (has_decl is h.1 f)
  has_decl (item.Eq ps p a b by ∷ is) h f g = has_decl is h.1 f g
  has_decl (item.Exec n ∷ is) h f g = has_decl is h.1 f g

  -- a declaration has a process
  pub has_proc : (is : List Item) → AllByRecursion (λ i. Gave (paired k i) tt) is → (f : Text) → is_among f (flat_map decl_names is) ≡ true → is_among f k.procs ≡ true
  has_proc [] h f g = absurd (cc g)
  has_proc (item.Def n ps a ∷ is) h f g = has_proc is h.1 f g
  has_proc (item.Decl n ps us q x ∷ is) h f g = here_or f n (bytes_eq f n) (is_among f (flat_map decl_names is)) k.procs (pairs (is_among n k.procs) n h.0) refl g (has_proc is h.1 f)
  has_proc (item.Proc x n ps ys b ∷ is) h f g = has_proc is h.1 f g
  has_proc (item.Eq ps p a b by ∷ is) h f g = has_proc is h.1 f g
  has_proc (item.Exec n ∷ is) h f g = has_proc is h.1 f g

  -- the program of the tables is one that is known
  pub known_program : (s : Seen) (t : Tables) → Shapes k s t → ((f : Text) → is_among f k.procs ≡ true → is_among f k.decls ≡ true) → IsKnown k (program_of k t)
  unfolding counts_of
  known_program s t h procs = record { names = refl; decls = found; procs = procs }
    where
      found : (f : Text) (j : ℕ) → place_of f k.decls ≡ Some j → (d : Decl) × (c : Counts) × (slice_get t.decls j ≡ Some d) × (slice_get k.counts j ≡ Some c) × (d.params ≡ c.params) × (length d.uses ≡ c.channels)
      found f j e =
          let lt = place_below f k.decls j e in
          let same : length t.decls ≡ length k.decls = sym (length_map (λ (d : Decl). d.body) t.decls) ∙ ap length h.bodies ∙ length_map (body_start k) k.decls in
          let d = there t.decls j (omega (arith, lt, same)) in
          (d.0, counts_of d.0, d.1, ap (λ z. slice_get z j) (sym h.counts) ∙ slice_get-map counts_of t.decls j ∙ ap (option_map counts_of) d.1, refl, refl)
