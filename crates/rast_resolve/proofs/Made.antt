-- What an item adds, from what its parts are.
use Rattle.std.proofs.Common.{◌≡◌, ℕ, List, [], ◌∷◌, ◌++◌, map, length, sym, ◌∙◌, ap, ap₂, subst, refl, Ok, Option}
use Rattle.std.specs.List.{flat_map}
use Rattle.rast_index.specs.Linear.{Linear}
use Rattle.rast_index.specs.declared.formula.Formula.{Formula}
use Rattle.rast_types.specs.declared.ty.Ty.{Ty}
use Rattle.rast_types.specs.declared.equation.Ref.{Ref}
use Rattle.rast_ast.specs.declared.term.Lin.{Lin}
use Rattle.rast_ast.specs.declared.form.Form.{Form}
use Rattle.rast_ast.specs.declared.file.Channel.{Channel}
use Rattle.rast_ast.specs.declared.type_expr.TypeExpr.{TypeExpr}
use Rattle.rast_ast.specs.declared.process.Proc.{Proc}
use Rattle.rast_ast.specs.declared.process.By.{By}
use Rattle.rast_resolve.specs.declared.gather.Sought.TheVariants as sought
use Rattle.rast_resolve.specs.declared.parts.Part.{Part}
use Rattle.rast_resolve.specs.declared.parts.Part.TheVariants as part
use Rattle.rast_ast.specs.declared.file.File.{File}
use Rattle.rast_ast.specs.declared.file.Item.{Item}
use Rattle.rast_terms.specs.declared.program.Decl.{Decl}
use Rattle.rast_terms.specs.declared.program.Program.{Program}
use Rattle.rast_resolve.specs.declared.fault.NameErr.{NameErr}
use Rattle.rast_resolve.specs.Answers.{Answer, ◌>>=◌, Fails, Gives}
use Rattle.rast_resolve.specs.Scopes.{Text, Texts, Known, Counts, number_in, place_of}
use Rattle.rast_resolve.specs.Types.{type_of}
use Rattle.rast_resolve.specs.Bodies.{nodes_of, refs_of, declared, body_start}
use Rattle.rast_resolve.specs.Names.{names_in_type, names_of, def_names, def_params, decl_names, decl_counts, body_names, starts_of, known_of}
use Rattle.rast_resolve.specs.Programs.{params_of, header_channels, used_types, potential_of, premise_of, unless_among, if_counted, numbers, channel_quantifiers, def_of, decl_of, body_of, equation_of, program_with, resolved}
use Rattle.rast_resolve.proofs.Chains.{passes, same_fault, made_fails, chained}
use Rattle.rast_resolve.proofs.Heads.{params_counted}

module _ (k : Known) (n : Text) (ps vars : Texts) (bound : params_of n ps ≡ Ok vars) (cnt : ℕ) (counted : cnt ≡ length vars) where
  as_many : cnt ≡ length ps
  as_many = counted ∙ params_counted n ps vars bound

  pub def_made : (a : TypeExpr) (b : Ty) (nm : ℕ) (said : List ℕ) → type_of k n a vars ≡ Ok b → nm ≡ number_in k.names n → said ≡ numbers k (ps ++ names_in_type sought.Quantifiers a) →
      def_of k n ps a ≡ Ok (part.Def (record { name = nm; params = cnt; body = b }) said)
  def_made a b nm said is named says = rw (bound, is, named, says, as_many) refl

  module _ (us : List Channel) (q : Option Lin) (x : Channel) (nm : ℕ) (said channels : List ℕ) (none : Texts) (named : nm ≡ number_in k.names n)
      (says : said ≡ numbers k (ps ++ (flat_map channel_quantifiers us ++ channel_quantifiers x))) (names : channels ≡ numbers k (x.name ∷ map (λ c. c.name) us)) (empty : none ≡ []) where
    abbrev made : List Ty × Texts → Linear → Ty → Decl
    made r p a = record { name = nm; params = cnt; uses = r.0; potential = p; gives = a; body = body_start k n }

    abbrev whole : Decl → Answer Part
    whole d = Ok (part.Decl d said channels)

    abbrev head : Answer Decl
    head = used_types k n vars none us >>= λ r. potential_of n vars q >>= λ p. unless_among x.name r.1 >>= λ u. type_of k n x.body vars >>= λ a. Ok (made r p a)

    on_head : decl_of k n ps us q x ≡ (used_types k n vars none us >>= λ r. potential_of n vars q >>= λ p. unless_among x.name r.1 >>= λ u. type_of k n x.body vars >>= λ a. whole (made r p a))
    on_head = rw (bound, named, says, names, as_many, empty) refl

    decl_on : decl_of k n ps us q x ≡ (head >>= whole)
    decl_on =
        on_head
        ∙ chained (used_types k n vars none us) (λ r. potential_of n vars q >>= λ p. unless_among x.name r.1 >>= λ u. type_of k n x.body vars >>= λ a. Ok (made r p a)) whole
        (λ r. potential_of n vars q >>= λ p. unless_among x.name r.1 >>= λ u. type_of k n x.body vars >>= λ a. whole (made r p a))
        (λ r. chained (potential_of n vars q) (λ p. unless_among x.name r.1 >>= λ u. type_of k n x.body vars >>= λ a. Ok (made r p a)) whole
        (λ p. unless_among x.name r.1 >>= λ u. type_of k n x.body vars >>= λ a. whole (made r p a))
        (λ p. chained (unless_among x.name r.1) (λ u. type_of k n x.body vars >>= λ a. Ok (made r p a)) whole (λ u. type_of k n x.body vars >>= λ a. whole (made r p a))
        (λ u. chained (type_of k n x.body vars) (λ a. Ok (made r p a)) whole (λ a. whole (made r p a)) (λ a. refl))))

    pub decl_made : (d : Decl) → head ≡ Ok d → decl_of k n ps us q x ≡ whole d
    decl_made d h = decl_on ∙ ap (λ z. z >>= whole) h

    pub decl_stops : (e : NameErr) → Fails head e → Fails (decl_of k n ps us q x) e
    decl_stops e h = same_fault _ _ e (sym decl_on) (passes head whole e h)

-- an equation, from its sides and its references
module _ (k : Known) (w : Text) (vars : Texts) (cnt : ℕ) (f : Option Form) (a b : TypeExpr) (by : Option By) (g : Formula) (premise : premise_of w vars f ≡ Ok g) where
  abbrev Sides : Type 0
  Sides = Ty × Ty × List Ref

  abbrev equal : Sides → Answer Part
  equal t = Ok (part.Equation (record { vars = cnt; premise = g; left = t.0; right = t.1; refs = t.2 }))

  abbrev sides : Answer Sides
  sides = type_of k w a vars >>= λ x. type_of k w b vars >>= λ y. refs_of w vars by >>= λ rs. Ok (x, y, rs)

  abbrev over : Answer Part
  over = premise_of w vars f >>= λ h. type_of k w a vars >>= λ x. type_of k w b vars >>= λ y. refs_of w vars by >>= λ rs. Ok (part.Equation (record { vars = cnt; premise = h; left = x; right = y; refs = rs }))

  on_sides : over ≡ (type_of k w a vars >>= λ x. type_of k w b vars >>= λ y. refs_of w vars by >>= λ rs. equal (x, y, rs))
  on_sides = rw premise refl

  over_on : over ≡ (sides >>= equal)
  over_on =
      on_sides
      ∙ chained (type_of k w a vars) (λ x. type_of k w b vars >>= λ y. refs_of w vars by >>= λ rs. Ok (x, y, rs)) equal (λ x. type_of k w b vars >>= λ y. refs_of w vars by >>= λ rs. equal (x, y, rs))
      (λ x. chained (type_of k w b vars) (λ y. refs_of w vars by >>= λ rs. Ok (x, y, rs)) equal (λ y. refs_of w vars by >>= λ rs. equal (x, y, rs))
      (λ y. chained (refs_of w vars by) (λ rs. Ok (x, y, rs)) equal (λ rs. equal (x, y, rs)) (λ rs. refl)))

  pub over_made : (t : Sides) → sides ≡ Ok t → over ≡ equal t
  over_made t h = over_on ∙ ap (λ z. z >>= equal) h

  pub over_stops : (e : NameErr) → Fails sides e → Fails over e
  over_stops e h = same_fault _ _ e (sym over_on) (passes sides equal e h)

-- an equation, over its variables
pub equation_made : (k : Known) (w : Text) (ps vars : Texts) (cnt : ℕ) (f : Option Form) (a b : TypeExpr) (by : Option By) (r : Answer Part) → params_of w ps ≡ Ok vars → cnt ≡ length vars →
    Gives (premise_of w vars f >>= λ g. type_of k w a vars >>= λ x. type_of k w b vars >>= λ y. refs_of w vars by >>= λ rs. Ok (part.Equation (record { vars = cnt; premise = g; left = x; right = y; refs = rs }))) r
    → Gives (equation_of k w ps f a b by) r
equation_made k w ps vars cnt f a b by r bound counted h =
    let many : cnt ≡ length ps = counted ∙ params_counted w ps vars bound in
    let e : equation_of k w ps f a b by
    ≡ (premise_of w vars f >>= λ g. type_of k w a vars >>= λ x. type_of k w b vars >>= λ y. refs_of w vars by >>= λ rs. Ok (part.Equation (record { vars = cnt; premise = g; left = x; right = y; refs = rs }))) =
    rw (bound, many) refl in
    subst (λ z. Gives z r) (sym e) h

-- an equation, whose item has the name w for its faults
pub equation_named : (k : Known) (whose w : Text) (ps : Texts) (f : Option Form) (a b : TypeExpr) (by : Option By) (r : Answer Part) → w ≡ whose → Gives (equation_of k w ps f a b by) r → Gives (equation_of k whose ps f a b by) r
equation_named k whose w ps f a b by r same h = subst (λ z. Gives (equation_of k z ps f a b by) r) same h

-- a body
module _ (k : Known) (x f : Text) (ps ys : Texts) (t : Proc) (m l start : ℕ) (v : Unit {0}) (vars channels : Texts)
    (counted : if_counted (declared k f) f m l ≡ Ok v) (params : m ≡ length ps) (used : l ≡ length ys) (bound : params_of f ps ≡ Ok vars) (header : header_channels f x ys ≡ Ok channels) (starts : start ≡ body_start k f) where
  body_on : body_of k x f ps ys t ≡ (nodes_of k f t (record { vars = vars; channels = channels }) start >>= λ ns. Ok (part.Body (place_of f k.decls) ns))
  body_on =
      let counted' : if_counted (declared k f) f (length ps) (length ys) ≡ Ok v = ap₂ (if_counted (declared k f) f) (sym params) (sym used) ∙ counted in
      rw (counted', bound, header, starts) refl

  pub body_stops : (e : NameErr) → Fails (nodes_of k f t (record { vars = vars; channels = channels }) start) e → Fails (body_of k x f ps ys t) e
  body_stops e h = made_fails _ (nodes_of k f t (record { vars = vars; channels = channels }) start) (part.Body (place_of f k.decls)) e body_on h

-- what is known of a file
pub known_made : (is : List Item) (ns ts : Texts) (ps : List ℕ) (ds : Texts) (cs : List Counts) (fs : Texts) (ss : List ℕ) (d : Texts) → ns ≡ names_of is → ts ≡ flat_map def_names is → ps ≡ flat_map def_params is
    → ds ≡ flat_map decl_names is → cs ≡ flat_map decl_counts is → fs ≡ flat_map body_names is → ss ≡ starts_of d is → d ≡ flat_map decl_names is →
    ◌≡◌ {A = Known} (record { names = ns; types = ts; params = ps; decls = ds; counts = cs; procs = fs; starts = ss }) (known_of is)
known_made is ns ts ps ds cs fs ss d a b c e f g h i =
    let starts : ss ≡ starts_of (flat_map decl_names is) is = h ∙ ap (λ z. starts_of z is) i in
    rw (a, b, c, e, f, g, starts) refl

-- the program of a file
module _ (f : File) (is js : List Item) (k : Known) where
  same_program : is ≡ f.items → js ≡ f.items → k ≡ known_of is → program_with (known_of f.items) f.items ≡ program_with k js
  same_program e e' g = ap₂ program_with (sym (g ∙ ap known_of e)) (sym e')

  pub resolved_made : (p : Program) → is ≡ f.items → js ≡ f.items → k ≡ known_of is → program_with k js ≡ Ok p → resolved f ≡ Ok (record { program = p; explicit = f.explicit })
  resolved_made p e e' g h = ap (λ (a : Answer Program). a >>= λ q. Ok (record { program = q; explicit = f.explicit })) (same_program e e' g ∙ h)

  pub resolved_stops : (e : NameErr) → is ≡ f.items → js ≡ f.items → k ≡ known_of is → Fails (program_with k js) e → Fails (resolved f) e
  resolved_stops x e e' g h =
      made_fails _ (program_with (known_of f.items) f.items) (λ (q : Program). record { program = q; explicit = f.explicit }) x refl (same_fault _ _ x (sym (same_program e e' g)) h)
