-- What each item of a file keeps of the tables: what they have is made as it has to be.
use Rattle.std.proofs.Common.{◌≡◌, ℕ, suc, ◌+◌, ◌<◌, Bool, true, false, List, [], ◌∷◌, ◌++◌, map, length, flat_map, refl, sym, ap, ap₂, ◌∙◌, subst, arith, Option, Some, None, Ok, slice_get, length-append, pos, codes}
use Rattle.std.specs.Prelude.{All, sum_by, nat_le, ◌==◌, ◌&&◌}
use Rattle.std.specs.List.{AllByRecursion}
use Rattle.std.specs.Str.{bytes_eq}
use Rattle.std.proofs.lemmas.Bool.{eqb-true, and_parts}
use Rattle.std.proofs.lemmas.Option.{same_Some}
use Rattle.std.proofs.lemmas.List.Sums.{sum_by-cons}
use Rattle.std.proofs.lemmas.List.Elements.{All-from_recursion}
use Rattle.rast_index.specs.Linear.{Linear, is_closed, fixed}
use Rattle.rast_index.specs.Truth.{is_closed_formula}
use Rattle.rast_index.specs.declared.formula.Formula.{Formula}
use Rattle.rast_index.specs.declared.formula.Formula.TheVariants as formula
use Rattle.rast_cooper.specs.Divisors.{divisors_above_zero}
use Rattle.rast_cooper.specs.Verdicts.{is_within}
use Rattle.rast_types.specs.declared.ty.Ty.{Ty}
use Rattle.rast_types.specs.declared.table.TypeDef.{TypeDef}
use Rattle.rast_equal.specs.WellMadeTypes.{is_labelled, quantifiers}
use Rattle.rast_terms.specs.declared.node.Node.{Node}
use Rattle.rast_terms.specs.declared.program.Program.{Program}
use Rattle.rast_terms.specs.declared.program.Decl.{Decl}
use Rattle.rast_made.specs.WellMade.{IsMadeType, IsMadeDef, IsMadeEquation, IsMadeMain, AreSaid, names_of_def, names_of_decl, names_of_channels}
use Rattle.rast_ast.specs.declared.file.Item.{Item}
use Rattle.rast_ast.specs.declared.file.Item.TheVariants as item
use Rattle.rast_ast.specs.declared.file.Channel.{Channel}
use Rattle.rast_ast.specs.declared.term.Lin.{Lin}
use Rattle.rast_ast.specs.declared.form.Form.{Form}
use Rattle.rast_ast.specs.declared.process.Proc.{Proc}
use Rattle.rast_ast.specs.declared.type_expr.TypeExpr.{TypeExpr}
use Rattle.rast_ast.specs.declared.type_expr.Prefix.{Prefix}
use Rattle.rast_ast.specs.declared.type_expr.Atom.TheOpen.{TypeExpr-F, Choice-F}
use Rattle.rast_forms.specs.Words.{all_true}
use Rattle.rast_ast.specs.Types as written
use Rattle.rast_ast.specs.Files.{premise_fits, item_fits}
use Rattle.rast_resolve.specs.declared.fault.NameErr.TheVariants as fault
use Rattle.rast_resolve.specs.Scopes.{Text, Texts, is_among, place_of, number_in, at_place}
use Rattle.rast_resolve.specs.Types.{type_of}
use Rattle.rast_resolve.specs.Bodies.{is_counted, declared, body_start}
use Rattle.rast_resolve.specs.Names.{item_names, put_at, all_put, body_sizes}
use Rattle.rast_resolve.specs.Programs.{used_types, potential_of, premise_of, numbers, channel_quantifiers, seen_with, is_main, runnable}
use Rattle.rast_meant.proofs.Forests.{Forest}
use Rattle.rast_meant.proofs.Kept.{Known, Seen, Tables}
use Rattle.rast_meant.proofs.Apart.{Gave, same, both, made, unless, where_true}
use Rattle.rast_meant.proofs.Numbers.{AreAmong, left_among, right_among, number_within, some_among, same_name, itself, same_place, among_before}
use Rattle.rast_meant.proofs.Places.{each_append, length_map, set_same, set_other, map_put}
use Rattle.rast_meant.proofs.Terms.{linear_shut, formula_shut, true_shut, fixed_shut}
use Rattle.rast_meant.proofs.Types.{Fits, Gathers, gathered, type_fits}
use Rattle.rast_meant.proofs.Adding.{Adds, Added, done, more, kept, quantified}
use Rattle.rast_meant.proofs.Grown.{IsKnown, term_grows}

-- a declaration, but for its body
pub record IsMadeHead (g : Program) (d : Decl) : Type 0 where
  pub name : d.name < length g.names
  pub uses : All (IsMadeType g d.params) d.uses
  pub potential : is_closed d.params d.potential ≡ true
  pub gives : IsMadeType g d.params d.gives

-- tables so far of a program
pub record AreGood (g : Program) (t : Tables) : Type 0 where
  pub defs : AllByRecursion (IsMadeDef g) t.defs
  pub decls : AllByRecursion (IsMadeHead g) t.decls
  pub equations : AllByRecursion (IsMadeEquation g) t.equations
  pub main : IsMadeMain g t.main
  pub said_types : AreSaid g names_of_def t.defs t.def_said
  pub said_decls : AreSaid g names_of_decl t.decls t.decl_said
  pub said_channels : AreSaid g names_of_channels t.decls t.channels

-- an item whose names are known, that may be executed where it says so, and that the grammar has in a file with `explicit` or without
abbrev pub IsSound : Known → Bool → Item → Type 0
IsSound k explicit i = AreAmong k.names (item_names i) × Gave (runnable k i) tt × (item_fits explicit i ≡ true)

said_more : {A : Type 0} (g : Program) (f : A → ℕ) (xs : List A) (ss : List (List ℕ)) (x : A) (s : List ℕ) → AreSaid g f xs ss → length s ≡ f x → All (λ n. n < length g.names) s → AreSaid g f (xs ++ x ∷ []) (ss ++ s ∷ [])
said_more {A} g f [] [] x s h e a = (e, a, tt)
said_more {A} g f [] (r ∷ ss) x s h e a = absurd h
said_more {A} g f (y ∷ xs) [] x s h e a = absurd h
said_more {A} g f (y ∷ xs) (r ∷ ss) x s h e a = (h.0, h.1, said_more g f xs ss x s h.2 e a)

no_members : {X : Type 0} (xs : List X) → length xs ≡ 0 → xs ≡ []
no_members {X} [] e = refl
no_members {X} (x ∷ xs) e = absurd (omega (arith, e))

module _ (k : Known) (g : Program) (w : IsKnown k g) (counts : map (λ (d : TypeDef). d.params) g.types.defs ≡ k.params) where
  some_names : (n : Text) → is_among n k.names ≡ true → 0 < length g.names
  some_names n h = subst (λ z. 0 < length z) (sym w.names) (some_among n k.names h)

  within : (n : Text) → 0 < length g.names → number_in k.names n < length g.names
  within n h = subst (λ z. number_in k.names n < length z) (sym w.names) (number_within n k.names (subst (λ z. 0 < length z) w.names h))

  numbers_within : (ns : Texts) → 0 < length g.names → All (λ m. m < length g.names) (numbers k ns)
  numbers_within ns h = All-from_recursion (λ m. m < length g.names) (numbers k ns) (by ns)
    where
      by : (ns : Texts) → AllByRecursion (λ m. m < length g.names) (numbers k ns)
      by [] = tt
      by (n ∷ ns) = (within n h, by ns)

  numbers_many : (ns : Texts) → length (numbers k ns) ≡ length ns
  numbers_many ns = length_map (number_in k.names) ns

  made_type : (n q : ℕ) (t : Ty) → Fits g.types.defs (length k.names) n q t → IsMadeType g n t
  made_type n q t h = record { within = h.within; scoped = h.scoped; named = h.named; labelled = subst (λ z. is_labelled (length z) t ≡ true) (sym w.names) h.labelled }

  -- a type of which the names that g and h gather are known
  fits : (whose : Text) (a : TypeExpr) (g' : TypeExpr-F Texts Texts Texts → Texts) (h : Choice-F Texts Texts Texts → Texts) (front : Prefix → Texts) (vars : Texts) (t : Ty) → written.type_fits a ≡ true → AreAmong k.names (gathered g' h a) → Gave (type_of k whose a vars) t → Gathers g' h front (λ n. n ∷ [])
      → Fits g.types.defs (length k.names) (length vars) (length (quantified a)) t
  fits whose a g' h front vars t fit am gave gathers =
      type_fits k g.types.defs whose counts g' _ h _ front _ gathers (record { prefixed = λ p x. refl; alone = λ x. refl; tensor = λ x y. refl; lolli = λ x y. refl; choice = λ c. refl })
      (record { ex = λ n. refl; all = λ n. refl; assert = λ f. refl; assume = λ f. refl; pays = λ l. refl; gets = λ l. refl; one = refl; next = λ l. refl }) a fit vars t am gave

  potential_shut : (whose : Text) (vars : Texts) (q : Option Lin) (p : Linear) → Gave (potential_of whose vars q) p → is_closed (length vars) p ≡ true
  potential_shut whose vars None p h = subst (λ z. is_closed (length vars) z ≡ true) (same (fixed (pos 0)) p h) (fixed_shut (length vars) (pos 0))
  potential_shut whose vars (Some l) p h = linear_shut whose vars l p h

  premise_shut : (whose : Text) (vars : Texts) (f : Option Form) (p : Formula) → premise_fits f ≡ true → Gave (premise_of whose vars f) p → is_within (length vars) p ≡ true
  premise_shut whose vars None p fit h = subst (λ z. is_within (length vars) z ≡ true) (same formula.True p h) (true_shut (length vars))
  premise_shut whose vars (Some f) p fit h = formula_shut whose vars f p fit h

  used_fit : (whose : Text) (g' : TypeExpr-F Texts Texts Texts → Texts) (h' : Choice-F Texts Texts Texts → Texts) (front : Prefix → Texts) (vars seen : Texts) (us : List Channel) (r : List Ty × Texts) → Gathers g' h' front (λ n. n ∷ []) → all_true (map (λ (c : Channel). written.type_fits c.body) us) ≡ true → AreAmong k.names (flat_map (λ (c : Channel). c.name ∷ gathered g' h' c.body) us) → Gave (used_types k whose vars seen us) r
      → AllByRecursion (IsMadeType g (length vars)) r.0 × (length r.0 ≡ length us) × (sum_by quantifiers r.0 ≡ length (flat_map channel_quantifiers us))
  used_fit whose g' h' front vars seen [] r l fit am h = subst (λ (z : List Ty × Texts). AllByRecursion (IsMadeType g (length vars)) z.0 × (length z.0 ≡ 0) × (sum_by quantifiers z.0 ≡ 0)) (same ([], seen) r h) (tt, refl, refl)
  used_fit whose g' h' front vars seen (c ∷ cs) r l fit am h =
      let proper = and_parts (written.type_fits c.body) (all_true (map (λ (c : Channel). written.type_fits c.body) cs)) fit in
      let u = unless (is_among c.name seen) (fault.Twice c.name) _ r h in
      let v = unless (nat_le 15 (length seen)) (fault.Limit whose) _ r u.1 in
      let a = both (type_of k whose c.body vars) _ r v.1 in
      let b = made (used_types k whose vars (seen ++ c.name ∷ []) cs) (λ (q : List Ty × Texts). let z : List Ty × Texts = (a.0 ∷ q.0, q.1) in z) r a.2 in
      let one = fits whose c.body g' h' front vars a.0 proper.0 (left_among k.names (gathered g' h' c.body) (flat_map (λ (c : Channel). c.name ∷ gathered g' h' c.body) cs) am.1) a.1 l in
      let rest = used_fit whose g' h' front vars (seen ++ c.name ∷ []) cs b.0 l proper.1 (right_among k.names (gathered g' h' c.body) (flat_map (λ (c : Channel). c.name ∷ gathered g' h' c.body) cs) am.1) b.1 in
      subst (λ (z : List Ty × Texts). AllByRecursion (IsMadeType g (length vars)) z.0 × (length z.0 ≡ length (c ∷ cs)) × (sum_by quantifiers z.0 ≡ length (flat_map channel_quantifiers (c ∷ cs)))) b.2 (
        (made_type (length vars) (length (quantified c.body)) a.0 one, rest.0),
        ap suc rest.1,
        sum_by-cons quantifiers a.0 b.0.0 ∙ ap₂ (λ x y. x + y) one.counted rest.2 ∙ sym (length-append (channel_quantifiers c) (flat_map channel_quantifiers cs)),
      )

  -- ---- definitions, declarations, equations

  def_good : (s : Seen) (n : Text) (ps : Texts) (a : TypeExpr) (t u : Tables) → written.type_fits a ≡ true → AreAmong k.names (item_names (item.Def n ps a)) → Adds k s (item.Def n ps a) t u → AreGood g t → AreGood g u
  def_good s n ps a t u fit am e h =
      let f = fits n a _ _ _ ps e.0 fit (right_among k.names ps _ am.1) e.1 (record { prefixed = λ p x. refl; alone = λ x. refl; tensor = λ x y. refl; lolli = λ x y. refl; choice = λ c. refl }) in
      let some = some_names n am.0 in
      subst (AreGood g) (sym e.2) (record {
        defs = each_append (IsMadeDef g) t.defs _ h.defs (record { name = within n some; body = made_type (length ps) (length (quantified a)) e.0 f }, tt);
        decls = h.decls;
        equations = h.equations;
        main = h.main;
        said_types = said_more g names_of_def t.defs t.def_said _ (numbers k (ps ++ quantified a)) h.said_types (numbers_many (ps ++ quantified a) ∙ length-append ps (quantified a) ∙ ap (λ z. length ps + z) (sym f.counted)) (numbers_within (ps ++ quantified a) some);
        said_decls = h.said_decls;
        said_channels = h.said_channels;
      })

  decl_good : (s : Seen) (n : Text) (ps : Texts) (us : List Channel) (q : Option Lin) (x : Channel) (t u : Tables) → all_true (map (λ (c : Channel). written.type_fits c.body) us) ≡ true → written.type_fits x.body ≡ true → AreAmong k.names (item_names (item.Decl n ps us q x)) → Adds k s (item.Decl n ps us q x) t u → AreGood g t → AreGood g u
  decl_good s n ps us q x t u fit gives am e h =
      let rest = right_among k.names ps _ am.1 in
      let r = used_fit n _ _ _ ps [] us e.0 (record { prefixed = λ p x. refl; alone = λ x. refl; tensor = λ x y. refl; lolli = λ x y. refl; choice = λ c. refl }) fit (left_among k.names _ _ rest) e.4 in
      let last = right_among k.names _ (x.name ∷ _) rest in
      let f = fits n x.body _ _ _ ps e.2 gives last.1 e.6 (record { prefixed = λ p x. refl; alone = λ x. refl; tensor = λ x y. refl; lolli = λ x y. refl; choice = λ c. refl }) in
      let some = some_names n am.0 in
      let said = ps ++ (flat_map channel_quantifiers us ++ channel_quantifiers x) in
      subst (AreGood g) (sym e.7) (record {
        defs = h.defs;
        decls = each_append (IsMadeHead g) t.decls _ h.decls (record { name = within n some; uses = All-from_recursion (IsMadeType g (length ps)) e.0.0 r.0; potential = potential_shut n ps q e.1 e.5; gives = made_type (length ps) (length (quantified x.body)) e.2 f }, tt);
        equations = h.equations;
        main = h.main;
        said_types = h.said_types;
        said_decls = said_more g names_of_decl t.decls t.decl_said _ (numbers k said) h.said_decls
            (numbers_many said ∙ length-append ps (flat_map channel_quantifiers us ++ channel_quantifiers x) ∙ ap (λ z. length ps + z) (length-append (flat_map channel_quantifiers us) (channel_quantifiers x) ∙ ap₂ (λ y z. y + z) (sym r.2) (sym f.counted))) (numbers_within said some);
        said_channels = said_more g names_of_channels t.decls t.channels _ (numbers k (x.name ∷ map (λ (c : Channel). c.name) us)) h.said_channels
            (numbers_many (x.name ∷ map (λ (c : Channel). c.name) us) ∙ ap suc (length_map (λ (c : Channel). c.name) us ∙ sym r.1) ∙ (let z : suc (length e.0.0) ≡ length e.0.0 + 1 = omega arith in z)) (numbers_within (x.name ∷ map (λ (c : Channel). c.name) us) some);
      })

  item_good : (explicit : Bool) (s : Seen) (i : Item) (t u : Tables) → IsSound k explicit i → Adds k s i t u → AreGood g t → AreGood g u
  item_good explicit s (item.Def n ps a) t u p e h = def_good s n ps a t u p.2 p.0 e h
  item_good explicit s (item.Decl n ps us q x) t u p e h =
      let fits = and_parts (all_true (map (λ (c : Channel). written.type_fits c.body) us)) (written.type_fits x.body) p.2 in
      decl_good s n ps us q x t u fits.0 fits.1 p.0 e h
  item_good explicit s (item.Proc x f ps ys b) t u p e h = subst (AreGood g) (sym e.5) (record { defs = h.defs; decls = h.decls; equations = h.equations; main = h.main; said_types = h.said_types; said_decls = h.said_decls; said_channels = h.said_channels })
  item_good explicit s (item.Eq ps f a b by) t u p e h =
      let asked = and_parts explicit (premise_fits f && (written.type_fits a && written.type_fits b)) p.2 in
      let premise = and_parts (premise_fits f) (written.type_fits a && written.type_fits b) asked.1 in
      let sides = and_parts (written.type_fits a) (written.type_fits b) premise.1 in
      let inside = premise_shut (codes "equation") ps f e.0 premise.0 e.4 in
      let x = fits (codes "equation") a _ _ _ ps e.1 sides.0 (left_among k.names _ _ p.0) e.5 (record { prefixed = λ p x. refl; alone = λ x. refl; tensor = λ x y. refl; lolli = λ x y. refl; choice = λ c. refl }) in
      let y = fits (codes "equation") b _ _ _ ps e.2 sides.1 (right_among k.names _ _ p.0) e.6 (record { prefixed = λ p x. refl; alone = λ x. refl; tensor = λ x y. refl; lolli = λ x y. refl; choice = λ c. refl }) in
      subst (AreGood g) (sym e.7) (record {
        defs = h.defs;
        decls = h.decls;
        equations = each_append (IsMadeEquation g) t.equations _ h.equations (record { within = inside; premise = (and_parts (is_closed_formula (length ps) e.0) (divisors_above_zero e.0) inside).0; left = made_type (length ps) (length (quantified a)) e.1 x; right = made_type (length ps) (length (quantified b)) e.2 y }, tt);
        main = h.main;
        said_types = h.said_types;
        said_decls = h.said_decls;
        said_channels = h.said_channels;
      })
  item_good explicit s (item.Exec n) t u p e h =
      subst (AreGood g) (sym e.2) (record { defs = h.defs; decls = h.decls; equations = h.equations; main = main_made; said_types = h.said_types; said_decls = h.said_decls; said_channels = h.said_channels })
    where
      main_made : IsMadeMain g (Some e.0)
      main_made =
          let d = w.decls n e.0 e.1 in
          let is : declared k n ≡ Some d.1 = ap (at_place k.counts) e.1 ∙ d.3 in
          let run : is_main (Some d.1) ≡ true = sym (ap is_main is) ∙ (where_true (is_main (declared k n)) (fault.BadMain n) (Ok tt) tt p.1).0 in
          let zero = and_parts (d.1.params == 0) (d.1.channels == 0) run in
          (d.0, d.2, d.4 ∙ eqb-true d.1.params 0 zero.0, no_members d.0.uses (d.5 ∙ eqb-true d.1.channels 0 zero.1))

  pub tables_good : (explicit : Bool) (s : Seen) (t : Tables) (is : List Item) (s' : Seen) (v : Tables) → AllByRecursion (IsSound k explicit) is → Added k s t is s' v → AreGood g t → AreGood g v
  tables_good explicit s t is s' v p a h = kept k (λ s t. AreGood g t) (IsSound k explicit) (item_good explicit) s t is s' v p a h

  -- ---- bodies

  -- the body of each process that is seen
  abbrev pub Bodies : Seen → Tables → Type 0
  Bodies s t = (f : Text) (j : ℕ) (d : Decl) (b : List Node) → place_of f k.decls ≡ Some j → slice_get g.decls j ≡ Some d → slice_get t.bodies j ≡ Some b → is_among f s.procs ≡ true
      → Forest g (body_start k f) (record { node = body_start k f; vars = d.params; fresh = length d.uses + 1 } ∷ []) b

  other_bodies : (s : Seen) (t u : Tables) → u.bodies ≡ t.bodies → Bodies s t → Bodies s u
  other_bodies s t u e h f j d b p i a m = h f j d b p i (ap (λ z. slice_get z j) (sym e) ∙ a) m

  body_good : (s : Seen) (x f : Text) (ps ys : Texts) (body : Proc) (t u : Tables) → AreAmong k.names (item_names (item.Proc x f ps ys body)) → Adds k s (item.Proc x f ps ys body) t u → Bodies s t → Bodies (seen_with (item.Proc x f ps ys body) s) u
  body_good s x f ps ys body t u am e h n j d b p i a m = by (bytes_eq n f) refl
    where
      grown : Forest g (body_start k f) (record { node = body_start k f; vars = length ps; fresh = length e.0 } ∷ []) e.1
      grown = (term_grows k g w f body (record { vars = ps; channels = e.0 }) (body_start k f) e.1 am e.4).0

      put : slice_get (put_at t.bodies (place_of f k.decls) e.1) j ≡ Some b
      put = ap (λ (z : Tables). slice_get z.bodies j) (sym e.5) ∙ a

      -- at this place
      here : place_of f k.decls ≡ Some j → Forest g (body_start k f) (record { node = body_start k f; vars = d.params; fresh = length d.uses + 1 } ∷ []) b
      here q =
          let c = w.decls f j q in
          let same_decl : c.0 ≡ d = same_Some c.0 d (sym c.2 ∙ i) in
          let is : declared k f ≡ Some c.1 = ap (at_place k.counts) q ∙ c.3 in
          let counted = and_parts (length ps == c.1.params) (length ys == c.1.channels) (sym (ap (λ o. is_counted o (length ps) (length ys)) is) ∙ e.2) in
          let params : length ps ≡ d.params = eqb-true (length ps) c.1.params counted.0 ∙ sym c.4 ∙ ap (λ (z : Decl). z.params) same_decl in
          let fresh : length e.0 ≡ length d.uses + 1 = e.3 ∙ ap (λ z. z + 1) (eqb-true (length ys) c.1.channels counted.1 ∙ sym c.5 ∙ ap (λ (z : Decl). length z.uses) same_decl) in
          let nodes : e.1 ≡ b = set_same t.bodies j e.1 b (sym (ap (λ o. slice_get (put_at t.bodies o e.1) j) q) ∙ put) in
          subst (λ z. Forest g (body_start k f) (record { node = body_start k f; vars = d.params; fresh = length d.uses + 1 } ∷ []) z) nodes
          (subst (λ z. Forest g (body_start k f) (record { node = body_start k f; vars = z; fresh = length d.uses + 1 } ∷ []) e.1) params
          (subst (λ z. Forest g (body_start k f) (record { node = body_start k f; vars = length ps; fresh = z } ∷ []) e.1) fresh grown))

      -- at another place
      elsewhere : (o : Option ℕ) → place_of f k.decls ≡ o → bytes_eq n f ≡ false → slice_get (put_at t.bodies o e.1) j ≡ slice_get t.bodies j
      elsewhere None q r = refl
      elsewhere (Some l) q r = set_other t.bodies j l e.1 (λ z. apart (same_place n f k.decls l (p ∙ ap Some z) q))
        where
          apart : n ≡ f → ⊥
          apart z = cc (sym r ∙ ap (λ y. bytes_eq y f) z ∙ itself f)

      by : (c : Bool) → bytes_eq n f ≡ c → Forest g (body_start k n) (record { node = body_start k n; vars = d.params; fresh = length d.uses + 1 } ∷ []) b
      by true r =
          let is : n ≡ f = same_name n f r in
          subst (λ z. Forest g (body_start k z) (record { node = body_start k z; vars = d.params; fresh = length d.uses + 1 } ∷ []) b) (sym is) (here (ap (λ z. place_of z k.decls) (sym is) ∙ p))
      by false r = h n j d b p i (sym (elsewhere (place_of f k.decls) refl r) ∙ put) (among_before n f s.procs m r)

  bodies_step : (s : Seen) (i : Item) (t u : Tables) → AreAmong k.names (item_names i) → Adds k s i t u → Bodies s t → Bodies (seen_with i s) u
  bodies_step s (item.Def n ps a) t u p e h = other_bodies s t u (ap (λ (z : Tables). z.bodies) e.2) h
  bodies_step s (item.Decl n ps us q x) t u p e h = other_bodies s t u (ap (λ (z : Tables). z.bodies) e.7) h
  bodies_step s (item.Proc x f ps ys b) t u p e h = body_good s x f ps ys b t u p e h
  bodies_step s (item.Eq ps f a b by) t u p e h = other_bodies s t u (ap (λ (z : Tables). z.bodies) e.7) h
  bodies_step s (item.Exec n) t u p e h = other_bodies s t u (ap (λ (z : Tables). z.bodies) e.2) h

  pub bodies_good : (s : Seen) (t : Tables) (is : List Item) (s' : Seen) (v : Tables) → AllByRecursion (λ i. AreAmong k.names (item_names i)) is → Added k s t is s' v → Bodies s t → Bodies s' v
  bodies_good s t is s' v p a h = kept k Bodies (λ i. AreAmong k.names (item_names i)) bodies_step s t is s' v p a h

  -- ---- how many nodes each body has

  put_sizes : (xs : List ℕ) (i : Item) (rest : List (Option ℕ × ℕ)) (ys : List ℕ) → ys ≡ all_put xs (body_sizes k.decls i) → all_put ys rest ≡ all_put xs (body_sizes k.decls i ++ rest)
  put_sizes xs (item.Def n ps a) rest ys e = ap (λ z. all_put z rest) e
  put_sizes xs (item.Decl n ps us q x) rest ys e = ap (λ z. all_put z rest) e
  put_sizes xs (item.Proc x f ps ys' b) rest ys e = ap (λ z. all_put z rest) e
  put_sizes xs (item.Eq ps f a b by) rest ys e = ap (λ z. all_put z rest) e
  put_sizes xs (item.Exec n) rest ys e = ap (λ z. all_put z rest) e

  size_step : (s : Seen) (i : Item) (t u : Tables) → AreAmong k.names (item_names i) → Adds k s i t u → map length u.bodies ≡ all_put (map length t.bodies) (body_sizes k.decls i)
  size_step s (item.Def n ps a) t u p e = ap (λ (z : Tables). map length z.bodies) e.2
  size_step s (item.Decl n ps us q x) t u p e = ap (λ (z : Tables). map length z.bodies) e.7
  size_step s (item.Proc x f ps ys b) t u p e =
      ap (λ (z : Tables). map length z.bodies) e.5 ∙ map_put length t.bodies (place_of f k.decls) e.1
      ∙ ap (put_at (map length t.bodies) (place_of f k.decls)) (term_grows k g w f b (record { vars = ps; channels = e.0 }) (body_start k f) e.1 p e.4).1
  size_step s (item.Eq ps f a b by) t u p e = ap (λ (z : Tables). map length z.bodies) e.7
  size_step s (item.Exec n) t u p e = ap (λ (z : Tables). map length z.bodies) e.2

  pub sizes_are : (s : Seen) (t : Tables) (is : List Item) (s' : Seen) (v : Tables) → AllByRecursion (λ i. AreAmong k.names (item_names i)) is → Added k s t is s' v → map length v.bodies ≡ all_put (map length t.bodies) (flat_map (body_sizes k.decls) is)
  sizes_are s t is s' v p (done x y) = refl
  sizes_are s t is s' v p (more x y u i js s'' z a r) =
      sizes_are (seen_with i x) u js s'' z p.1 r ∙ put_sizes (map length y.bodies) i (flat_map (body_sizes k.decls) js) (map length u.bodies) (size_step x i y u p.0 a)
