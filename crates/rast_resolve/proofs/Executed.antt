-- What a program executes is one of its declarations, and has no parameter.
use Rattle.std.proofs.Common.{◌≡◌, ◌∙◌, ◌==◌, ℕ, zero, suc, Bool, true, false, if◌then◌else◌, List, [], ◌∷◌, ◌++◌, map, flat_map, length, slice_get, Option, Some, None, Ok, Err, refl, sym, ap, subst, option_map, codes}
use Rattle.std.proofs.lemmas.Bool.{and_parts, eqb-true}
use Rattle.std.proofs.lemmas.Option.{slice_get-map}
use Rattle.rast_ast.specs.declared.file.File.{File}
use Rattle.rast_ast.specs.declared.file.Item.{Item}
use Rattle.rast_ast.specs.declared.file.Item.TheVariants as item
use Rattle.rast_ast.specs.declared.file.Channel.{Channel}
use Rattle.rast_ast.specs.declared.term.Lin.{Lin}
use Rattle.rast_ast.specs.declared.form.Form.{Form}
use Rattle.rast_ast.specs.declared.process.By.{By}
use Rattle.rast_ast.specs.declared.type_expr.TypeExpr.{TypeExpr}
use Rattle.rast_ast.specs.declared.process.Proc.{Proc}
use Rattle.rast_terms.specs.declared.program.Program.{Program}
use Rattle.rast_terms.specs.declared.program.Decl.{Decl}
use Rattle.rast_resolve.specs.declared.fault.NameErr.{NameErr}
use Rattle.rast_resolve.specs.declared.fault.NameErr.TheVariants as fault
use Rattle.rast_resolve.specs.declared.parts.Part.{Part}
use Rattle.rast_resolve.specs.declared.parts.Part.TheVariants as part
use Rattle.rast_resolve.specs.declared.seen.Seen.{Seen}
use Rattle.rast_resolve.specs.declared.tables.Tables.{Tables}
use Rattle.rast_resolve.specs.declared.program.Resolved.{Resolved}
use Rattle.rast_resolve.specs.Answers.{Answer, ◌>>=◌}
use Rattle.rast_resolve.specs.Scopes.{Texts, number_in, Known, Counts, place_of, at_place}
use Rattle.rast_resolve.specs.Bodies.{declared, nodes_of, refs_of, body_start}
use Rattle.rast_resolve.specs.Types.{type_of}
use Rattle.rast_resolve.specs.declared.gather.Sought.TheVariants as sought
use Rattle.rast_resolve.specs.Names.{known_of, decl_counts, names_in_type}
use Rattle.rast_resolve.specs.Programs.{unless_among, used_types, potential_of, premise_of, channel_quantifiers, params_of, header_channels, if_counted, numbers, def_of, decl_of, body_of, equation_of, main_of, part_of, seen_with, added, tables_of, none_seen, no_entries, is_main, runnable, none_fails, paired, program_of, program_with, resolved}

-- ---- answers one after another

-- the answer is this value
abbrev Gave : {X : Type 0} → Answer X → X → Type 0
Gave {X} a x = a ≡ Ok x

abbrev Passes : Answer (Unit {0}) → Type 0
Passes a = Gave a tt

no_value : {X : Type 0} (e : NameErr) (x : X) → Gave (Err e) x → ⊥
no_value {X} e x h = cc

-- each Ok answer of both has this, where each of the second has
follow : {X Y : Type 0} (P : Y → Type 0) (a : Answer X) (f : X → Answer Y) → ((x : X) (y : Y) → f x ≡ Ok y → P y) → (y : Y) → (a >>= f) ≡ Ok y → P y
follow {X} {Y} P (Ok x) f g y h = g x y h
follow {X} {Y} P (Err e) f g y h = absurd (no_value e y h)

-- an Ok answer of both is one of each
both : {X Y : Type 0} (a : Answer X) (f : X → Answer Y) (y : Y) → (a >>= f) ≡ Ok y → (x : X) × (a ≡ Ok x) × (f x ≡ Ok y)
both {X} {Y} (Ok x) f y h = (x, refl, h)
both {X} {Y} (Err e) f y h = absurd (no_value e y h)

given : {Y : Type 0} (P : Y → Type 0) (x y : Y) → Gave (Ok x) y → P x → P y
given {Y} P x y h p = let same : x ≡ y = cc in subst P same p

right_nil : {X : Type 0} (xs : List X) → xs ≡ xs ++ []
right_nil {X} [] = refl
right_nil {X} (x ∷ xs) = ap (λ ys. x ∷ ys) (right_nil xs)

map_last : {X Y : Type 0} (f : X → Y) (xs : List X) (x : X) → map f (xs ++ x ∷ []) ≡ map f xs ++ f x ∷ []
map_last {X} {Y} f [] x = refl
map_last {X} {Y} f (y ∷ ys) x = ap (λ zs. f y ∷ zs) (map_last f ys x)

append_assoc : {X : Type 0} (xs ys zs : List X) → (xs ++ ys) ++ zs ≡ xs ++ (ys ++ zs)
append_assoc {X} [] ys zs = refl
append_assoc {X} (x ∷ xs) ys zs = ap (λ r. x ∷ r) (append_assoc xs ys zs)

map_append : {X Y : Type 0} (f : X → Y) (xs ys : List X) → map f (xs ++ ys) ≡ map f xs ++ map f ys
map_append {X} {Y} f [] ys = refl
map_append {X} {Y} f (x ∷ xs) ys = ap (λ r. f x ∷ r) (map_append f xs ys)

-- ---- what items add to the declarations, and to what is executed

abbrev params : Tables → List ℕ
params t = map (λ (d : Decl). d.params) t.decls

abbrev counted : List Counts → List ℕ
counted cs = map (λ (c : Counts). c.params) cs

-- what is executed has a declaration without parameters
abbrev Runs : Known → Option ℕ → Type 0
Runs k None = Unit {0}
Runs k (Some d) = (c : Counts) × (slice_get k.counts d ≡ Some c) × (c.params ≡ 0)

abbrev AddsTo : Known → Item → Part → Tables → Type 0
AddsTo k i p t = (params (added p t) ≡ params t ++ counted (decl_counts i)) × (Runs k t.main → Runs k (added p t).main)

abbrev Adds : Known → Item → Part → Type 0
Adds k i p = Passes (runnable k i) → (t : Tables) → AddsTo k i p t

runs_here : (e : NameErr) (o : Option Counts) → Passes (if is_main o then Ok tt else Err e) → (c : Counts) × (o ≡ Some c) × (c.params ≡ 0)
runs_here e None h = absurd (no_value e tt h)
runs_here e (Some c) h = (c, refl, eqb-true c.params 0 (and_parts (c.params == 0) (c.channels == 0) (go (is_main (Some c)) h)).0)
  where
    go : (b : Bool) → Passes (if b then Ok tt else Err e) → b ≡ true
    go true h = refl
    go false h = absurd (no_value e tt h)

module _ (k : Known) where
  -- a part of another item adds neither a declaration nor what is executed
  def_adds : (n : List ℕ) (ps : Texts) (a : TypeExpr) (y : Part) → def_of k n ps a ≡ Ok y → Adds k (item.Def n ps a) y
  def_adds n ps a = follow (Adds k (item.Def n ps a)) (params_of n ps)
      (λ vars. type_of k n a vars >>= λ b. Ok (part.Def (record { name = number_in k.names n; params = length ps; body = b }) (numbers k (ps ++ names_in_type sought.Quantifiers a))))
      (λ vars. follow (Adds k (item.Def n ps a)) (type_of k n a vars)
      (λ b. Ok (part.Def (record { name = number_in k.names n; params = length ps; body = b }) (numbers k (ps ++ names_in_type sought.Quantifiers a))))
      (λ b y h. given (Adds k (item.Def n ps a)) _ y h (λ r t. (right_nil (params t), λ m. m))))

  body_adds : (x f : List ℕ) (ps ys : Texts) (p : Proc) (y : Part) → body_of k x f ps ys p ≡ Ok y → Adds k (item.Proc x f ps ys p) y
  body_adds x f ps ys p = follow (Adds k (item.Proc x f ps ys p)) (if_counted (declared k f) f (length ps) (length ys))
      (λ v. params_of f ps >>= λ vars. header_channels f x ys >>= λ channels. nodes_of k f p (record { vars = vars; channels = channels }) (body_start k f) >>= λ ns. Ok (part.Body (place_of f k.decls) ns))
      (λ v. follow (Adds k (item.Proc x f ps ys p)) (params_of f ps)
      (λ vars. header_channels f x ys >>= λ channels. nodes_of k f p (record { vars = vars; channels = channels }) (body_start k f) >>= λ ns. Ok (part.Body (place_of f k.decls) ns))
      (λ vars. follow (Adds k (item.Proc x f ps ys p)) (header_channels f x ys)
      (λ channels. nodes_of k f p (record { vars = vars; channels = channels }) (body_start k f) >>= λ ns. Ok (part.Body (place_of f k.decls) ns))
      (λ channels. follow (Adds k (item.Proc x f ps ys p)) (nodes_of k f p (record { vars = vars; channels = channels }) (body_start k f))
      (λ ns. Ok (part.Body (place_of f k.decls) ns))
      (λ ns y h. given (Adds k (item.Proc x f ps ys p)) ((part.Body (place_of f k.decls) ns)) y h (λ r t. (right_nil (params t), λ m. m))))))

  decl_adds : (n : List ℕ) (ps : Texts) (us : List Channel) (q : Option Lin) (x : Channel) (y : Part) → decl_of k n ps us q x ≡ Ok y → Adds k (item.Decl n ps us q x) y
  decl_adds n ps us q x = follow (Adds k (item.Decl n ps us q x)) (params_of n ps)
      (λ vars. used_types k n vars [] us >>= λ r. potential_of n vars q >>= λ p. unless_among x.name r.1 >>= λ u. type_of k n x.body vars >>= λ a. Ok (part.Decl (record { name = number_in k.names n; params = length ps; uses = r.0; potential = p; gives = a; body = body_start k n })
      (numbers k (ps ++ (flat_map channel_quantifiers us ++ channel_quantifiers x))) (numbers k (x.name ∷ map (λ c. c.name) us))))
      (λ vars. follow (Adds k (item.Decl n ps us q x)) (used_types k n vars [] us)
      (λ r. potential_of n vars q >>= λ p. unless_among x.name r.1 >>= λ u. type_of k n x.body vars >>= λ a. Ok (part.Decl (record { name = number_in k.names n; params = length ps; uses = r.0; potential = p; gives = a; body = body_start k n })
      (numbers k (ps ++ (flat_map channel_quantifiers us ++ channel_quantifiers x))) (numbers k (x.name ∷ map (λ c. c.name) us))))
      (λ r. follow (Adds k (item.Decl n ps us q x)) (potential_of n vars q)
      (λ p. unless_among x.name r.1 >>= λ u. type_of k n x.body vars >>= λ a. Ok (part.Decl (record { name = number_in k.names n; params = length ps; uses = r.0; potential = p; gives = a; body = body_start k n })
      (numbers k (ps ++ (flat_map channel_quantifiers us ++ channel_quantifiers x))) (numbers k (x.name ∷ map (λ c. c.name) us))))
      (λ p. follow (Adds k (item.Decl n ps us q x)) (unless_among x.name r.1)
      (λ u. type_of k n x.body vars >>= λ a. Ok (part.Decl (record { name = number_in k.names n; params = length ps; uses = r.0; potential = p; gives = a; body = body_start k n })
      (numbers k (ps ++ (flat_map channel_quantifiers us ++ channel_quantifiers x))) (numbers k (x.name ∷ map (λ c. c.name) us))))
      (λ u. follow (Adds k (item.Decl n ps us q x)) (type_of k n x.body vars)
      (λ a. Ok (part.Decl (record { name = number_in k.names n; params = length ps; uses = r.0; potential = p; gives = a; body = body_start k n })
      (numbers k (ps ++ (flat_map channel_quantifiers us ++ channel_quantifiers x))) (numbers k (x.name ∷ map (λ c. c.name) us))))
      (λ a y h. given (Adds k (item.Decl n ps us q x)) ((part.Decl (record { name = number_in k.names n; params = length ps; uses = r.0; potential = p; gives = a; body = body_start k n })
      (numbers k (ps ++ (flat_map channel_quantifiers us ++ channel_quantifiers x))) (numbers k (x.name ∷ map (λ c. c.name) us)))) y h (λ s t. (map_last (λ (d : Decl). d.params) t.decls (record { name = number_in k.names n; params = length ps; uses = r.0; potential = p; gives = a; body = body_start k n }), λ m. m)))))))

  equation_adds : (ps : Texts) (f : Option Form) (a b : TypeExpr) (by : Option By) (y : Part) → equation_of k (codes "equation") ps f a b by ≡ Ok y → Adds k (item.Eq ps f a b by) y
  equation_adds ps f a b by = follow (Adds k (item.Eq ps f a b by)) (params_of (codes "equation") ps)
      (λ vars. premise_of (codes "equation") vars f >>= λ g. type_of k (codes "equation") a vars >>= λ x. type_of k (codes "equation") b vars >>= λ z. refs_of (codes "equation") vars by >>= λ rs. Ok (part.Equation (record { vars = length ps; premise = g; left = x; right = z; refs = rs })))
      (λ vars. follow (Adds k (item.Eq ps f a b by)) (premise_of (codes "equation") vars f)
      (λ g. type_of k (codes "equation") a vars >>= λ x. type_of k (codes "equation") b vars >>= λ z. refs_of (codes "equation") vars by >>= λ rs. Ok (part.Equation (record { vars = length ps; premise = g; left = x; right = z; refs = rs })))
      (λ g. follow (Adds k (item.Eq ps f a b by)) (type_of k (codes "equation") a vars)
      (λ x. type_of k (codes "equation") b vars >>= λ z. refs_of (codes "equation") vars by >>= λ rs. Ok (part.Equation (record { vars = length ps; premise = g; left = x; right = z; refs = rs })))
      (λ x. follow (Adds k (item.Eq ps f a b by)) (type_of k (codes "equation") b vars)
      (λ z. refs_of (codes "equation") vars by >>= λ rs. Ok (part.Equation (record { vars = length ps; premise = g; left = x; right = z; refs = rs })))
      (λ z. follow (Adds k (item.Eq ps f a b by)) (refs_of (codes "equation") vars by)
      (λ rs. Ok (part.Equation (record { vars = length ps; premise = g; left = x; right = z; refs = rs })))
      (λ rs y h. given (Adds k (item.Eq ps f a b by)) ((part.Equation (record { vars = length ps; premise = g; left = x; right = z; refs = rs }))) y h (λ r t. (right_nil (params t), λ m. m)))))))

  exec_adds : (seen : Seen) (n : List ℕ) (o : Option ℕ) → place_of n k.decls ≡ o → (y : Part) → main_of seen n o ≡ Ok y → Adds k (item.Exec n) y
  exec_adds seen n None e y h = absurd (no_value (fault.Unknown n) y h)
  exec_adds seen n (Some d) e y h = go seen.exec h
    where
      found : Adds k (item.Exec n) (part.Main d)
      found r t = (right_nil (params t), λ m. runs_here (fault.BadMain n) (slice_get k.counts d) (subst (λ (o : Option ℕ). Passes (if is_main (at_place k.counts o) then Ok tt else Err (fault.BadMain n))) e r))

      go : (b : Bool) → Gave (if b then Err (fault.Twice n) else Ok (part.Main d)) y → Adds k (item.Exec n) y
      go true h = absurd (no_value (fault.Twice n) y h)
      go false h = given (Adds k (item.Exec n)) (part.Main d) y h found

  part_adds : (seen : Seen) (i : Item) (y : Part) → part_of k seen i ≡ Ok y → Adds k i y
  part_adds seen (item.Def n ps a) = follow (Adds k (item.Def n ps a)) (unless_among n seen.types) (λ u. def_of k n ps a) (λ u. def_adds n ps a)
  part_adds seen (item.Decl n ps us q x) = follow (Adds k (item.Decl n ps us q x)) (unless_among n seen.decls) (λ u. decl_of k n ps us q x) (λ u. decl_adds n ps us q x)
  part_adds seen (item.Proc x f ps ys p) = follow (Adds k (item.Proc x f ps ys p)) (unless_among f seen.procs) (λ u. body_of k x f ps ys p) (λ u. body_adds x f ps ys p)
  part_adds seen (item.Eq ps f a b by) = equation_adds ps f a b by
  part_adds seen (item.Exec n) = exec_adds seen n (place_of n k.decls) refl

  -- ---- whole files

  tables_add : (seen : Seen) (t : Tables) (is : List Item) (u : Tables) → tables_of k seen t is ≡ Ok u → Passes (none_fails (runnable k) is)
      → (params u ≡ params t ++ counted (flat_map decl_counts is)) × (Runs k t.main → Runs k u.main)
  tables_add seen t [] u h r = let same : t ≡ u = same_tables t u h in subst (λ (v : Tables). (params v ≡ params t ++ []) × (Runs k t.main → Runs k v.main)) same (right_nil (params t), λ m. m)
    where
      same_tables : (a b : Tables) → Gave (Ok a) b → a ≡ b
      same_tables a b h = cc
  tables_add seen t (i ∷ is) u h r =
      let b = both (part_of k seen i) (λ p. tables_of k (seen_with i seen) (added p t) is) u h in
      let s = both (runnable k i) (λ v. none_fails (runnable k) is) tt r in
      let one = part_adds seen i b.0 b.1 s.1 t in
      let more = tables_add (seen_with i seen) (added b.0 t) is u b.2 s.2 in (
        more.0 ∙ (ap (λ xs. xs ++ counted (flat_map decl_counts is)) one.0
            ∙ (append_assoc (params t) (counted (decl_counts i)) (counted (flat_map decl_counts is))
            ∙ ap (λ xs. params t ++ xs) (sym (map_append (λ (c : Counts). c.params) (decl_counts i) (flat_map decl_counts is))))),
        λ m. more.1 (one.1 m),
      )

-- the declaration that a number of what is executed means
abbrev IsDeclared : Program → ℕ → Type 0
IsDeclared g d = (x : Decl) × (slice_get g.decls d ≡ Some x) × (x.params ≡ 0)

some_inside : (a b : ℕ) → Some a ≡ Some b → a ≡ b
some_inside a b h = cc

declared_at : (ds : List Decl) (d n : ℕ) → slice_get (map (λ (x : Decl). x.params) ds) d ≡ Some n → (x : Decl) × (slice_get ds d ≡ Some x) × (x.params ≡ n)
declared_at [] d n h = let none : None ≡ Some n = h in cc
declared_at (x ∷ xs) zero n h = (x, refl, some_inside x.params n h)
declared_at (x ∷ xs) (suc d) n h = declared_at xs d n h

runs_declared : (k : Known) (g : Program) → map (λ (x : Decl). x.params) g.decls ≡ counted k.counts → (o : Option ℕ) → Runs k o → (d : ℕ) → o ≡ Some d → IsDeclared g d
runs_declared k g same None r d e = let none : None ≡ Some d = e in cc
runs_declared k g same (Some m) r d e =
    let n : m ≡ d = some_inside m d e in
    let c = r.0 in
    declared_at g.decls d 0
    (ap (λ xs. slice_get xs d) same ∙ (slice_get-map (λ (c : Counts). c.params) k.counts d ∙ (ap (option_map (λ (c : Counts). c.params)) (subst (λ (x : ℕ). slice_get k.counts x ≡ Some c) n r.1) ∙ ap Some r.2)))

pub main_declared : (f : File) (r : Resolved) (d : ℕ) → resolved f ≡ Ok r → r.program.main ≡ Some d → (x : Decl) × (slice_get r.program.decls d ≡ Some x) × (x.params ≡ 0)
main_declared f r d h e =
    let k = known_of f.items in
    let p = both (program_with k f.items) (λ p. Ok (record { program = p; explicit = f.explicit })) r h in
    let t = both (tables_of k none_seen (no_entries (length k.decls)) f.items) (λ t. none_fails (paired k) f.items >>= λ u. none_fails (runnable k) f.items >>= λ v. Ok (program_of k t)) p.0 p.1 in
    let u = both (none_fails (paired k) f.items) (λ u. none_fails (runnable k) f.items >>= λ v. Ok (program_of k t.0)) p.0 t.2 in
    let v = both (none_fails (runnable k) f.items) (λ v. Ok (program_of k t.0)) p.0 u.2 in
    let runs : Passes (none_fails (runnable k) f.items) = v.1 in
    let add = tables_add k none_seen (no_entries (length k.decls)) f.items t.0 t.1 runs in
    let program_is : program_of k t.0 ≡ p.0 = same_program (program_of k t.0) p.0 v.2 in
    let resolved_is : p.0 ≡ r.program = same_resolved p.0 f.explicit r p.2 in
    let whole = program_is ∙ resolved_is in
    subst (λ (g : Program). g.main ≡ Some d → IsDeclared g d) whole (runs_declared k (program_of k t.0) add.0 (program_of k t.0).main (add.1 tt) d) e
  where
    same_program : (a b : Program) → Gave (Ok a) b → a ≡ b
    same_program a b h = cc

    same_resolved : (p : Program) (b : Bool) (r : Resolved) → Gave (Ok (record { program = p; explicit = b })) r → p ≡ r.program
    same_resolved p b r h = ap (λ (x : Resolved). x.program) (inside (record { program = p; explicit = b }) r h)
      where
        inside : (a b : Resolved) → Gave (Ok a) b → a ≡ b
        inside a b h = cc
