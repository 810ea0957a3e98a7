-- What each item of a file added to the tables, where all of them are taken.
use Rattle.std.proofs.Common.{◌≡◌, ℕ, suc, ◌+◌, true, false, List, [], ◌∷◌, ◌++◌, map, length, flat_map, refl, sym, ap, ◌∙◌, subst, arith, Option, Some, None, Ok, codes, append_assoc}
use Rattle.std.specs.List.{AllByRecursion}
use Rattle.std.proofs.lemmas.List.{append-nil}
use Rattle.rast_index.specs.Linear.{Linear}
use Rattle.rast_index.specs.declared.formula.Formula.{Formula}
use Rattle.rast_types.specs.declared.ty.Ty.{Ty}
use Rattle.rast_types.specs.declared.equation.Ref.{Ref}
use Rattle.rast_terms.specs.declared.node.Node.{Node}
use Rattle.rast_ast.specs.declared.file.Item.{Item}
use Rattle.rast_ast.specs.declared.file.Item.TheVariants as item
use Rattle.rast_ast.specs.declared.file.Channel.{Channel}
use Rattle.rast_ast.specs.declared.term.Lin.{Lin}
use Rattle.rast_ast.specs.declared.form.Form.{Form}
use Rattle.rast_ast.specs.declared.process.By.{By}
use Rattle.rast_ast.specs.declared.process.Proc.{Proc}
use Rattle.rast_ast.specs.declared.type_expr.TypeExpr.{TypeExpr}
use Rattle.rast_resolve.specs.declared.fault.NameErr.TheVariants as fault
use Rattle.rast_resolve.specs.Scopes.{Text, Texts, is_among, place_of, number_in}
use Rattle.rast_resolve.specs.Types.{type_of}
use Rattle.rast_resolve.specs.Bodies.{nodes_of, is_counted, declared, body_start, refs_of}
use Rattle.rast_resolve.specs.Names.{put_at}
use Rattle.rast_resolve.specs.Programs.{params_of, header_channels, unless_among, used_types, potential_of, premise_of, if_counted, numbers, channel_quantifiers, def_of, decl_of, body_of, equation_of, main_of, part_of, seen_with, added, tables_of}
use Rattle.rast_resolve.proofs.Heads.{bound_all}
use Rattle.rast_meant.proofs.Kept.{Known, Seen, Tables, Part}
use Rattle.rast_meant.proofs.Apart.{Gave, no_value, same, both, made, unless, where_true}

-- the quantifiers of a written type
abbrev pub quantified : TypeExpr → Texts
quantified a = channel_quantifiers (record { name = []; body = a })

-- an item after those that are seen makes these tables of those
abbrev pub Adds : Known → Seen → Item → Tables → Tables → Type 0
Adds k s (item.Def n ps a) t u =
    (b : Ty) × Gave (type_of k n a ps) b
    × (u ≡ record t { defs = t.defs ++ record { name = number_in k.names n; params = length ps; body = b } ∷ []; def_said = t.def_said ++ numbers k (ps ++ quantified a) ∷ [] })
Adds k s (item.Decl n ps us q x) t u =
    (r : List Ty × Texts) × (p : Linear) × (a : Ty) × (is_among n s.decls ≡ false) × Gave (used_types k n ps [] us) r × Gave (potential_of n ps q) p × Gave (type_of k n x.body ps) a
    × (u ≡ record t {
      decls = t.decls ++ record { name = number_in k.names n; params = length ps; uses = r.0; potential = p; gives = a; body = body_start k n } ∷ [];
      decl_said = t.decl_said ++ numbers k (ps ++ (flat_map channel_quantifiers us ++ channel_quantifiers x)) ∷ [];
      channels = t.channels ++ numbers k (x.name ∷ map (λ c. c.name) us) ∷ [];
    })
Adds k s (item.Proc x f ps ys b) t u =
    (channels : Texts) × (ns : List Node) × (is_counted (declared k f) (length ps) (length ys) ≡ true) × (length channels ≡ length ys + 1)
    × Gave (nodes_of k f b (record { vars = ps; channels = channels }) (body_start k f)) ns × (u ≡ record t { bodies = put_at t.bodies (place_of f k.decls) ns })
Adds k s (item.Eq ps f a b by) t u =
    (p : Formula) × (x : Ty) × (y : Ty) × (rs : List Ref) × Gave (premise_of (codes "equation") ps f) p × Gave (type_of k (codes "equation") a ps) x × Gave (type_of k (codes "equation") b ps) y
    × (u ≡ record t { equations = t.equations ++ record { vars = length ps; premise = p; left = x; right = y; refs = rs } ∷ [] })
Adds k s (item.Exec n) t u = (d : ℕ) × (place_of n k.decls ≡ Some d) × (u ≡ record t { main = Some d })

module _ (k : Known) where
  -- the parameters are those that are written
  params_are : (whose : Text) (ps vars : Texts) → Gave (params_of whose ps) vars → vars ≡ ps
  params_are whose ps vars h = bound_all whose 16 [] ps vars h

  not_seen : (n : Text) (ns : Texts) (u : Unit {0}) → Gave (unless_among n ns) u → is_among n ns ≡ false
  not_seen n ns u h = (unless (is_among n ns) (fault.Twice n) (Ok tt) u h).0

  def_adds : (s : Seen) (n : Text) (ps : Texts) (a : TypeExpr) (p : Part) (t : Tables) → Gave (def_of k n ps a) p → Adds k s (item.Def n ps a) t (added p t)
  def_adds s n ps a p t h =
      let v = both (params_of n ps) _ p h in
      let b = made (type_of k n a v.0) _ p v.2 in
      (b.0, subst (λ z. Gave (type_of k n a z) b.0) (params_are n ps v.0 v.1) b.1, ap (λ z. added z t) (sym b.2))

  decl_adds : (s : Seen) (n : Text) (ps : Texts) (us : List Channel) (q : Option Lin) (x : Channel) (p : Part) (t : Tables) → is_among n s.decls ≡ false → Gave (decl_of k n ps us q x) p → Adds k s (item.Decl n ps us q x) t (added p t)
  decl_adds s n ps us q x p t new h =
      let v = both (params_of n ps) _ p h in
      let is = params_are n ps v.0 v.1 in
      let r = both (used_types k n v.0 [] us) _ p v.2 in
      let l = both (potential_of n v.0 q) _ p r.2 in
      let m = both (unless_among x.name r.0.1) _ p l.2 in
      let a = made (type_of k n x.body v.0) _ p m.2 in
      (r.0, l.0, a.0, new, subst (λ z. Gave (used_types k n z [] us) r.0) is r.1, subst (λ z. Gave (potential_of n z q) l.0) is l.1, subst (λ z. Gave (type_of k n x.body z) a.0) is a.1, ap (λ z. added z t) (sym a.2))

  body_adds : (s : Seen) (x f : Text) (ps ys : Texts) (b : Proc) (p : Part) (t : Tables) → Gave (body_of k x f ps ys b) p → Adds k s (item.Proc x f ps ys b) t (added p t)
  body_adds s x f ps ys b p t h =
      let c = both (if_counted (declared k f) f (length ps) (length ys)) _ p h in
      let v = both (params_of f ps) _ p c.2 in
      let is = params_are f ps v.0 v.1 in
      let d = both (header_channels f x ys) _ p v.2 in
      let all = bound_all f 16 (x ∷ []) ys d.0 d.1 in
      let ns = made (nodes_of k f b (record { vars = v.0; channels = d.0 }) (body_start k f)) _ p d.2 in (
        d.0,
        ns.0,
        (where_true (is_counted (declared k f) (length ps) (length ys)) (fault.Arity f) (Ok tt) c.0 c.1).0,
        ap length all ∙ (let e : suc (length ys) ≡ length ys + 1 = omega arith in e),
        subst (λ z. Gave (nodes_of k f b (record { vars = z; channels = d.0 }) (body_start k f)) ns.0) is ns.1,
        ap (λ z. added z t) (sym ns.2),
      )

  equation_adds : (s : Seen) (ps : Texts) (f : Option Form) (a b : TypeExpr) (by : Option By) (p : Part) (t : Tables) → Gave (equation_of k (codes "equation") ps f a b by) p → Adds k s (item.Eq ps f a b by) t (added p t)
  equation_adds s ps f a b by p t h =
      let v = both (params_of (codes "equation") ps) _ p h in
      let is = params_are (codes "equation") ps v.0 v.1 in
      let g = both (premise_of (codes "equation") v.0 f) _ p v.2 in
      let x = both (type_of k (codes "equation") a v.0) _ p g.2 in
      let y = both (type_of k (codes "equation") b v.0) _ p x.2 in
      let rs = made (refs_of (codes "equation") v.0 by) _ p y.2 in
      (g.0, x.0, y.0, rs.0, subst (λ z. Gave (premise_of (codes "equation") z f) g.0) is g.1, subst (λ z. Gave (type_of k (codes "equation") a z) x.0) is x.1, subst (λ z. Gave (type_of k (codes "equation") b z) y.0) is y.1, ap (λ z. added z t) (sym rs.2))

  main_adds : (s : Seen) (n : Text) (o : Option ℕ) (p : Part) (t : Tables) → place_of n k.decls ≡ o → Gave (main_of s n o) p → Adds k s (item.Exec n) t (added p t)
  main_adds s n None p t e h = absurd (no_value (fault.Unknown n) p h)
  main_adds s n (Some d) p t e h = let u = unless s.exec (fault.Twice n) _ p h in (d, e, ap (λ z. added z t) (sym (same _ p u.1)))

  pub part_adds : (s : Seen) (i : Item) (p : Part) (t : Tables) → Gave (part_of k s i) p → Adds k s i t (added p t)
  part_adds s (item.Def n ps a) p t h = let u = both (unless_among n s.types) _ p h in def_adds s n ps a p t u.2
  part_adds s (item.Decl n ps us q x) p t h = let u = both (unless_among n s.decls) _ p h in decl_adds s n ps us q x p t (not_seen n s.decls u.0 u.1) u.2
  part_adds s (item.Proc x f ps ys b) p t h = let u = both (unless_among f s.procs) _ p h in body_adds s x f ps ys b p t u.2
  part_adds s (item.Eq ps f a b by) p t h = equation_adds s ps f a b by p t h
  part_adds s (item.Exec n) p t h = main_adds s n (place_of n k.decls) p t refl h

  -- items one after another
  pub data Added : Seen → Tables → List Item → Seen → Tables → Type 0 where
    done : (s : Seen) (t : Tables) → Added s t [] s t
    more : (s : Seen) (t u : Tables) (i : Item) (is : List Item) (s' : Seen) (v : Tables) → Adds k s i t u → Added (seen_with i s) u is s' v → Added s t (i ∷ is) s' v

  pub all_added : (s : Seen) (t : Tables) (is : List Item) (v : Tables) → Gave (tables_of k s t is) v → (s' : Seen) × Added s t is s' v
  all_added s t [] v h = (s, subst (λ z. Added s t [] s z) (same t v h) (done s t))
  all_added s t (i ∷ is) v h =
      let p = both (part_of k s i) _ v h in
      let r = all_added (seen_with i s) (added p.0 t) is v p.2 in
      (r.0, more s t (added p.0 t) i is r.0 v (part_adds s i p.0 t p.1) r.1)

  -- a list to which each item adds its part
  pub total : {X : Type 0} (list : Seen → Tables → List X) (part : Item → List X) → ((s : Seen) (i : Item) (t u : Tables) → Adds k s i t u → list (seen_with i s) u ≡ list s t ++ part i)
      → (s : Seen) (t : Tables) (is : List Item) (s' : Seen) (v : Tables) → Added s t is s' v → list s' v ≡ list s t ++ flat_map part is
  total {X} list part step s t is s' v (done x y) = sym (append-nil (list x y))
  total {X} list part step s t is s' v (more x y u i js s'' w a r) =
      total list part step (seen_with i x) u js s'' w r ∙ ap (λ z. z ++ flat_map part js) (step x i y u a) ∙ append_assoc (list x y) (part i) (flat_map part js)

  -- what each item keeps
  pub kept : (Q : Seen → Tables → Type 0) (P : Item → Type 0) → ((s : Seen) (i : Item) (t u : Tables) → P i → Adds k s i t u → Q s t → Q (seen_with i s) u)
      → (s : Seen) (t : Tables) (is : List Item) (s' : Seen) (v : Tables) → AllByRecursion P is → Added s t is s' v → Q s t → Q s' v
  kept Q P step s t is s' v h (done x y) q = q
  kept Q P step s t is s' v h (more x y u i js s'' w a r) q = kept Q P step (seen_with i x) u js s'' w h.1 r (step x i y u h.0 a q)
