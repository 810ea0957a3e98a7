-- A program that a text says passes the check's test of form.
use Rattle.std.proofs.Common.{◌≡◌, ◌∙◌, ℕ, ◌+◌, ◌<◌, ◌≤◌, ◌^◌, Bool, true, ◌&&◌, nat_le, nat_lt, List, [], ◌∷◌, length, Ok, arith, ap₂, refl, sym, subst}
use Rattle.std.specs.Prelude.{All}
use Rattle.std.specs.List.{list_all, AllByRecursion}
use Rattle.std.proofs.lemmas.Bool.{le-leb, lt-ltb}
use Rattle.std.proofs.lemmas.List.Elements.{recursion_from_All}
use Rattle.rast_ast.specs.declared.file.File.{File}
use Rattle.rast_cooper.specs.Verdicts.{is_within}
use Rattle.rast_equal.specs.Fit.{is_within_type}
use Rattle.rast_index.specs.Linear.{is_closed}
use Rattle.rast_types.specs.declared.equation.Equation.{Equation}
use Rattle.rast_types.specs.declared.table.TypeDef.{TypeDef}
use Rattle.rast_types.specs.declared.ty.Ty.{Ty}
use Rattle.rast_terms.specs.declared.program.Decl.{Decl}
use Rattle.rast_terms.specs.declared.program.Program.{Program}
use Rattle.rast_made.specs.WellMade.{IsWellMade, IsMadeType, IsMadeDef, IsMadeDecl, IsMadeEquation}
use Rattle.rast_made.proofs.Exactly.{well_made_true}
use Rattle.rast_check.specs.Formed.{is_fit_def, is_fit_decl, is_fit_equation, is_counted, is_scoped, is_formed}
use Rattle.rast_meant.specs.Limits.{IsLimited}
use Rattle.rast_resolve.specs.declared.program.Resolved.{Resolved}
use Rattle.rast_resolve.specs.Programs.{resolved}
use Rattle.rast_accept.specs.Loading.{Says}
use Rattle.rast_accept.proofs.Counting.{items_within}

both : (a b : Bool) → a ≡ true → b ≡ true → (a && b) ≡ true
both a b p q = ap₂ (λ x y. x && y) p q

-- a test that what is known of each tells
each_passes : {X : Type 0} (p : X → Bool) (P Q : X → Type 0) → ((x : X) → P x → Q x → p x ≡ true) → (xs : List X) → AllByRecursion P xs → AllByRecursion Q xs → list_all p xs ≡ true
each_passes {X} p P Q f [] h k = refl
each_passes {X} p P Q f (x ∷ xs) h k = both (p x) (list_all p xs) (f x h.0 k.0) (each_passes p P Q f xs h.1 k.1)

all_pass : {X : Type 0} (p : X → Bool) (P Q : X → Type 0) → ((x : X) → P x → Q x → p x ≡ true) → (xs : List X) → All P xs → All Q xs → list_all p xs ≡ true
all_pass {X} p P Q f xs h k = each_passes p P Q f xs (recursion_from_All P xs h) (recursion_from_All Q xs k)

module _ (g : Program) (made : IsWellMade g) (n : ℕ) (limited : IsLimited n g) where
  def_fits : (d : TypeDef) → IsMadeDef g d → d.params ≤ 16 → is_fit_def d ≡ true
  def_fits d m few = both (nat_le d.params 16) (is_within_type d.params d.body) (le-leb d.params 16 few) m.body.within

  types_within : (vars : ℕ) (as' : List Ty) → AllByRecursion (IsMadeType g vars) as' → list_all (is_within_type vars) as' ≡ true
  types_within vars [] h = refl
  types_within vars (a ∷ as') h = both (is_within_type vars a) (list_all (is_within_type vars) as') h.0.within (types_within vars as' h.1)

  decl_fits : (d : Decl) → IsMadeDecl g d → d.params ≤ 16 → is_fit_decl d ≡ true
  decl_fits d m few =
      let uses = types_within d.params d.uses (recursion_from_All (IsMadeType g d.params) d.uses m.uses) in
      let rest = both (is_within_type d.params d.gives) (is_closed d.params d.potential) m.gives.within m.potential in
      both (nat_le d.params 16) (list_all (is_within_type d.params) d.uses && (is_within_type d.params d.gives && is_closed d.params d.potential)) (le-leb d.params 16 few)
      (both (list_all (is_within_type d.params) d.uses) (is_within_type d.params d.gives && is_closed d.params d.potential) uses rest)

  equation_fits : (e : Equation) → IsMadeEquation g e → e.vars ≤ 16 → is_fit_equation e ≡ true
  equation_fits e m few =
      let sides = both (is_within_type e.vars e.left) (is_within_type e.vars e.right) m.left.within m.right.within in
      both (nat_le e.vars 16) (is_within e.vars e.premise && (is_within_type e.vars e.left && is_within_type e.vars e.right)) (le-leb e.vars 16 few)
      (both (is_within e.vars e.premise) (is_within_type e.vars e.left && is_within_type e.vars e.right) m.within sides)

  scoped : is_scoped g ≡ true
  scoped =
      let defs = all_pass is_fit_def (IsMadeDef g) (λ (d : TypeDef). d.params ≤ 16) def_fits g.types.defs made.types limited.defs in
      let decls = all_pass is_fit_decl (IsMadeDecl g) (λ (d : Decl). d.params ≤ 16) decl_fits g.decls made.decls limited.decls in
      let equations = all_pass is_fit_equation (IsMadeEquation g) (λ (e : Equation). e.vars ≤ 16) equation_fits g.equations made.equations limited.equations in
      both (list_all is_fit_def g.types.defs) (list_all is_fit_decl g.decls && list_all is_fit_equation g.equations) defs
      (both (list_all is_fit_decl g.decls) (list_all is_fit_equation g.equations) decls equations)

  module _ (short : n ≤ 2 ^ 20) where
    counted : is_counted g ≡ true
    counted =
        let defs = limited.few_defs in
        let decls = limited.few_decls in
        let equations = limited.few_equations in
        both (nat_lt (length g.types.defs) (2 ^ 32)) (nat_lt (length g.decls) (2 ^ 32) && nat_lt (length g.equations + 1) (2 ^ 32))
        (lt-ltb (length g.types.defs) (2 ^ 32) (omega (arith, defs, short)))
        (both (nat_lt (length g.decls) (2 ^ 32)) (nat_lt (length g.equations + 1) (2 ^ 32))
        (lt-ltb (length g.decls) (2 ^ 32) (omega (arith, decls, short)))
        (lt-ltb (length g.equations + 1) (2 ^ 32) (omega (arith, equations, short))))

    pub formed : is_formed g ≡ true
    formed = both (is_counted g) _ counted (both (is_scoped g) _ scoped (well_made_true g made))

-- the program of a file has few variables in scope, and no more entries than items
abbrev pub IsFew : Type 0
IsFew = (f : File) (r : Resolved) → resolved f ≡ Ok r → IsLimited (length f.items) r.program

pub says_formed : IsFew → (text : List ℕ) (program : Program) → length text ≤ 2 ^ 20 → Says text program → IsWellMade program → is_formed program ≡ true
says_formed law text program short s made =
    let items = items_within text s.file s.is.0 in
    formed program made (length s.file.items) (subst (IsLimited (length s.file.items)) (sym s.program_is) (law s.file s.resolved_to s.resolved_is)) (omega (arith, items, short))
