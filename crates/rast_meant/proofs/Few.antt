-- At most 16 variables are in scope in each definition, declaration and equation, and of each there are no more than items.
use Rattle.std.proofs.Common.{◌≡◌, ℕ, suc, ◌+◌, ◌≤◌, true, false, nat_le, List, [], ◌∷◌, ◌++◌, length, arith, length-append, Option, Some, None, Ok, codes, subst, ap, ◌∙◌, refl}
use Rattle.std.specs.List.{AllByRecursion}
use Rattle.std.proofs.lemmas.Bool.{leb-false}
use Rattle.std.proofs.lemmas.List.Elements.{All-from_recursion}
use Rattle.rast_types.specs.declared.table.TypeDef.{TypeDef}
use Rattle.rast_types.specs.declared.equation.Equation.{Equation}
use Rattle.rast_terms.specs.declared.program.Program.{Program}
use Rattle.rast_terms.specs.declared.program.Decl.{Decl}
use Rattle.rast_ast.specs.declared.file.File.{File}
use Rattle.rast_ast.specs.declared.file.Item.{Item}
use Rattle.rast_ast.specs.declared.file.Item.TheVariants as item
use Rattle.rast_ast.specs.declared.file.Channel.{Channel}
use Rattle.rast_ast.specs.declared.term.Lin.{Lin}
use Rattle.rast_ast.specs.declared.form.Form.{Form}
use Rattle.rast_ast.specs.declared.process.By.{By}
use Rattle.rast_ast.specs.declared.process.Proc.{Proc}
use Rattle.rast_ast.specs.declared.type_expr.TypeExpr.{TypeExpr}
use Rattle.rast_resolve.specs.declared.fault.NameErr.TheVariants as fault
use Rattle.rast_resolve.specs.declared.program.Resolved.{Resolved}
use Rattle.rast_resolve.specs.Scopes.{Text, Texts, is_among, place_of}
use Rattle.rast_resolve.specs.Types.{type_of}
use Rattle.rast_resolve.specs.Bodies.{nodes_of, declared, body_start, refs_of}
use Rattle.rast_resolve.specs.Names.{known_of}
use Rattle.rast_resolve.specs.Programs.{bound_names, params_of, header_channels, unless_among, used_types, potential_of, premise_of, if_counted, def_of, decl_of, body_of, equation_of, main_of, part_of, seen_with, added, tables_of, none_seen, no_entries, none_fails, paired, runnable, program_of, program_with, resolved}
use Rattle.rast_meant.specs.Limits.{IsLimited}
use Rattle.rast_meant.proofs.Kept.{Known, Seen, Tables, Part}
use Rattle.rast_meant.proofs.Apart.{Gave, no_value, same, both, made, unless}
use Rattle.rast_meant.proofs.Places.{each_append}

-- names that are bound in one list, and before it, are at most so many
bound_few : (whose : Text) (most : ℕ) (seen ns all : Texts) → length seen ≤ most → Gave (bound_names whose most seen ns) all → length seen + length ns ≤ most
bound_few whose most seen [] all le h = let z : length seen + 0 ≤ most = omega (arith, le) in z
bound_few whose most seen (n ∷ ns) all le h =
    let u = unless (is_among n seen) (fault.Twice n) _ all h in
    let v = unless (nat_le most (length seen)) (fault.Limit whose) _ all u.1 in
    let lt = leb-false most (length seen) v.0 in
    let e = length-append seen (n ∷ []) in
    let rest = bound_few whose most (seen ++ n ∷ []) ns all (omega (arith, e, lt)) v.1 in
    omega (arith, e, rest)

params_few : (whose : Text) (ps vars : Texts) → Gave (params_of whose ps) vars → length ps ≤ 16
params_few whose ps vars h = let few = bound_few whose 16 [] ps vars (omega arith) h in omega (arith, few)

longer : {X : Type 0} (n : ℕ) (xs : List X) (x : X) → length xs ≤ n → length (xs ++ x ∷ []) ≤ n + 1
longer {X} n xs x h = let e = length-append xs (x ∷ []) in omega (arith, e, h)

more : (a n : ℕ) → a ≤ n → a ≤ n + 1
more a n h = omega (arith, h)

-- what is in the tables has few variables, and there are at most so many of each
record Few (n : ℕ) (t : Tables) : Type 0 where
  defs : AllByRecursion (λ (d : TypeDef). d.params ≤ 16) t.defs
  decls : AllByRecursion (λ (d : Decl). d.params ≤ 16) t.decls
  equations : AllByRecursion (λ (e : Equation). e.vars ≤ 16) t.equations
  many_defs : length t.defs ≤ n
  many_decls : length t.decls ≤ n
  many_equations : length t.equations ≤ n

module _ (k : Known) (n : ℕ) (t : Tables) (few : Few n t) where
  def_few : (name : Text) (ps : Texts) (a : TypeExpr) (p : Part) → Gave (def_of k name ps a) p → Few (n + 1) (added p t)
  def_few name ps a p h =
      let v = both (params_of name ps) _ p h in
      let b = made (type_of k name a v.0) _ p v.2 in
      subst (λ z. Few (n + 1) (added z t)) b.2 (record {
        defs = each_append (λ (d : TypeDef). d.params ≤ 16) t.defs _ few.defs (params_few name ps v.0 v.1, tt);
        decls = few.decls;
        equations = few.equations;
        many_defs = longer n t.defs _ few.many_defs;
        many_decls = more (length t.decls) n few.many_decls;
        many_equations = more (length t.equations) n few.many_equations;
      })

  decl_few : (name : Text) (ps : Texts) (us : List Channel) (q : Option Lin) (x : Channel) (p : Part) → Gave (decl_of k name ps us q x) p → Few (n + 1) (added p t)
  decl_few name ps us q x p h =
      let v = both (params_of name ps) _ p h in
      let r = both (used_types k name v.0 [] us) _ p v.2 in
      let l = both (potential_of name v.0 q) _ p r.2 in
      let m = both (unless_among x.name r.0.1) _ p l.2 in
      let a = made (type_of k name x.body v.0) _ p m.2 in
      subst (λ z. Few (n + 1) (added z t)) a.2 (record {
        defs = few.defs;
        decls = each_append (λ (d : Decl). d.params ≤ 16) t.decls _ few.decls (params_few name ps v.0 v.1, tt);
        equations = few.equations;
        many_defs = more (length t.defs) n few.many_defs;
        many_decls = longer n t.decls _ few.many_decls;
        many_equations = more (length t.equations) n few.many_equations;
      })

  body_few : (x f : Text) (ps ys : Texts) (b : Proc) (p : Part) → Gave (body_of k x f ps ys b) p → Few (n + 1) (added p t)
  body_few x f ps ys b p h =
      let c = both (if_counted (declared k f) f (length ps) (length ys)) _ p h in
      let v = both (params_of f ps) _ p c.2 in
      let d = both (header_channels f x ys) _ p v.2 in
      let ns = made (nodes_of k f b (record { vars = v.0; channels = d.0 }) (body_start k f)) _ p d.2 in
      subst (λ z. Few (n + 1) (added z t)) ns.2 (record {
        defs = few.defs;
        decls = few.decls;
        equations = few.equations;
        many_defs = more (length t.defs) n few.many_defs;
        many_decls = more (length t.decls) n few.many_decls;
        many_equations = more (length t.equations) n few.many_equations;
      })

  equation_few : (ps : Texts) (f : Option Form) (a b : TypeExpr) (by : Option By) (p : Part) → Gave (equation_of k (codes "equation") ps f a b by) p → Few (n + 1) (added p t)
  equation_few ps f a b by p h =
      let v = both (params_of (codes "equation") ps) _ p h in
      let g = both (premise_of (codes "equation") v.0 f) _ p v.2 in
      let x = both (type_of k (codes "equation") a v.0) _ p g.2 in
      let y = both (type_of k (codes "equation") b v.0) _ p x.2 in
      let rs = made (refs_of (codes "equation") v.0 by) _ p y.2 in
      subst (λ z. Few (n + 1) (added z t)) rs.2 (record {
        defs = few.defs;
        decls = few.decls;
        equations = each_append (λ (e : Equation). e.vars ≤ 16) t.equations _ few.equations (params_few (codes "equation") ps v.0 v.1, tt);
        many_defs = more (length t.defs) n few.many_defs;
        many_decls = more (length t.decls) n few.many_decls;
        many_equations = longer n t.equations _ few.many_equations;
      })

  main_few : (s : Seen) (name : Text) (o : Option ℕ) (p : Part) → Gave (main_of s name o) p → Few (n + 1) (added p t)
  main_few s name None p h = absurd (no_value (fault.Unknown name) p h)
  main_few s name (Some d) p h =
      let u = unless s.exec (fault.Twice name) _ p h in
      subst (λ z. Few (n + 1) (added z t)) (same _ p u.1) (record {
        defs = few.defs;
        decls = few.decls;
        equations = few.equations;
        many_defs = more (length t.defs) n few.many_defs;
        many_decls = more (length t.decls) n few.many_decls;
        many_equations = more (length t.equations) n few.many_equations;
      })

  part_few : (s : Seen) (i : Item) (p : Part) → Gave (part_of k s i) p → Few (n + 1) (added p t)
  part_few s (item.Def name ps a) p h = let u = both (unless_among name s.types) _ p h in def_few name ps a p u.2
  part_few s (item.Decl name ps us q x) p h = let u = both (unless_among name s.decls) _ p h in decl_few name ps us q x p u.2
  part_few s (item.Proc x f ps ys b) p h = let u = both (unless_among f s.procs) _ p h in body_few x f ps ys b p u.2
  part_few s (item.Eq ps f a b by) p h = equation_few ps f a b by p h
  part_few s (item.Exec name) p h = main_few s name (place_of name k.decls) p h

-- the tables after all items
all_few : (k : Known) (s : Seen) (n : ℕ) (t : Tables) (is : List Item) (v : Tables) → Few n t → Gave (tables_of k s t is) v → Few (n + length is) v
all_few k s n t [] v few h = subst (λ z. Few z v) (let e : n ≡ n + 0 = omega arith in e) (subst (Few n) (same t v h) few)
all_few k s n t (i ∷ is) v few h =
    let p = both (part_of k s i) _ v h in
    let rest = all_few k (seen_with i s) (n + 1) (added p.0 t) is v (part_few k n t few s i p.0 p.1) p.2 in
    subst (λ z. Few z v) (let e : n + 1 + length is ≡ n + suc (length is) = omega arith in e) rest

none : 0 ≤ 0
none = omega arith

pub limited : (f : File) (r : Resolved) → resolved f ≡ Ok r → IsLimited (length f.items) r.program
limited f r h =
    let k = known_of f.items in
    let p = made (program_with k f.items) (λ (p : Program). let z : Resolved = record { program = p; explicit = f.explicit } in z) r h in
    let t = both (tables_of k none_seen (no_entries (length k.decls)) f.items) _ p.0 p.1 in
    let u = both (none_fails (paired k) f.items) _ p.0 t.2 in
    let v = made (none_fails (runnable k) f.items) (λ v. program_of k t.0) p.0 u.2 in
    let few = all_few k none_seen 0 (no_entries (length k.decls)) f.items t.0 (record { defs = tt; decls = tt; equations = tt; many_defs = none; many_decls = none; many_equations = none }) t.1 in
    let z : 0 + length f.items ≡ length f.items = omega arith in
    let whole = subst (λ m. Few m t.0) z few in
    subst (IsLimited (length f.items)) (v.2 ∙ ap (λ (z : Resolved). z.program) p.2) (record {
      defs = All-from_recursion (λ (d : TypeDef). d.params ≤ 16) t.0.defs whole.defs;
      decls = All-from_recursion (λ (d : Decl). d.params ≤ 16) t.0.decls whole.decls;
      equations = All-from_recursion (λ (e : Equation). e.vars ≤ 16) t.0.equations whole.equations;
      few_defs = whole.many_defs;
      few_decls = whole.many_decls;
      few_equations = whole.many_equations;
    })
