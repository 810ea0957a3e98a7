-- Types, declarations and equations: what the calls of a check answer.
use Rattle.std.proofs.Common.{◌≡◌, ℕ, ◌+◌, ◌<◌, List, [], ◌∷◌, ◌++◌, map, flat_map, length, drop, get_or, Option, Some, None, sym, ap, ◌∙◌, subst, append_assoc, append-nil}
use Rattle.std.proofs.lemmas.List.{map-append, drop_more}
use Rattle.std.proofs.lemmas.Grind.{flat_map-append}
use Rattle.rast_equal.specs.Invalid.{IsTypeErr, table_refusal, type_refusal as alone}
use Rattle.rast_equal.specs.Valid.{Claim, Asks as CAsks, IsTrueClaim, IsValidTable, IsValidType, claims_of, nonneg}
use Rattle.rast_equal.specs.Equated.{equations_fault, unless_memory}
use Rattle.rast_equal.specs.Walk.{IsGoodTable}
use Rattle.rast_equal.specs.declared.equations.EquationErr.{EquationErr}
use Rattle.rast_equal.specs.declared.validity.TypeErr.{TypeErr}
use Rattle.rast_index.specs.declared.formula.Formula.{Formula}
use Rattle.rast_rules.specs.Rules.{Program, Decl, defs}
use Rattle.rast_types.specs.declared.equation.Equation.{Equation}
use Rattle.rast_types.specs.declared.ty.Ty.{Ty}
use Rattle.rast_check.specs.Lifted.{type_refusal, decl_refusal, equation_refusal}
use Rattle.rast_check.specs.Questions.{Question, OfDecl, IsTrueQuestion, from_number, uses_claims, decl_claims, type_questions, equation_questions}
use Rattle.rast_check.specs.Refusals.{Clears, IsRefusal}
use Rattle.rast_check.specs.declared.answer.CheckErr.{CheckErr}
use Rattle.rast_check.proofs.Every.{every_map}
use Rattle.std.proofs.lemmas.List.Elements.{All-from_recursion, recursion_from_All}
use Rattle.rast_check.proofs.Leads.{error_of, refusal_is}
use Rattle.rast_check.proofs.Lifts.{types_error, claims_decl, equations_error}
use Rattle.rast_check.proofs.Parts.{valid_types, good_equations}

pub types_clear : (g : Program) → table_refusal (defs g) 0 (defs g) ≡ None → IsValidTable (defs g) → Clears g (type_questions g)
types_clear g n h = (types_error g ∙ ap type_refusal n, All-from_recursion (IsTrueQuestion g) (type_questions g) (valid_types g h))

pub types_refused : (g : Program) (why : TypeErr) (e : CheckErr) → IsTypeErr (table_refusal (defs g) 0 (defs g)) why → ((o : Option TypeErr) → IsTypeErr o why → IsRefusal (type_refusal o) e) → IsRefusal (error_of g (type_questions g)) e
types_refused g why e h f = refusal_is _ _ e (sym (types_error g)) (f (table_refusal (defs g) 0 (defs g)) h)

-- ---- equations

pub equations_clear : (g : Program) (es : List Equation) → es ≡ g.equations → equations_fault (defs g) es 1 es ≡ None → IsGoodTable (defs g) es → Clears g (equation_questions g)
equations_clear g es e n h = (
  equations_error g ∙ ap equation_refusal (subst (λ (xs : List Equation). equations_fault (defs g) xs 1 xs ≡ None) e n),
  All-from_recursion (IsTrueQuestion g) (equation_questions g) (good_equations g (subst (IsGoodTable (defs g)) e h)),
)

pub equations_refused : (g : Program) (es : List Equation) (why : EquationErr) (e : CheckErr) → es ≡ g.equations → unless_memory why.why (equations_fault (defs g) es 1 es ≡ Some why) →
    ((o : Option EquationErr) → unless_memory why.why (o ≡ Some why) → IsRefusal (equation_refusal o) e) → IsRefusal (error_of g (equation_questions g)) e
equations_refused g es why e is h f =
    refusal_is _ _ e (sym (equations_error g))
    (f (equations_fault (defs g) g.equations 1 g.equations) (subst (λ (xs : List Equation). unless_memory why.why (equations_fault (defs g) xs 1 xs ≡ Some why)) is h))

-- ---- a type of a declaration

pub type_clear : (g : Program) (k n : ℕ) (ps : List Formula) (a : Ty) → ps ≡ [] → alone (defs g) n ps a ≡ None → IsValidType (defs g) n ps a → Clears g (map (OfDecl k) (claims_of (defs g) n [] a))
type_clear g k n ps a e h v =
    let r = subst (λ (qs : List Formula). alone (defs g) n qs a ≡ None) e h in
    let w = subst (λ (qs : List Formula). IsValidType (defs g) n qs a) e v in (
      claims_decl g k (claims_of (defs g) n [] a) ∙ ap (decl_refusal k) r,
      All-from_recursion (IsTrueQuestion g) (map (OfDecl k) (claims_of (defs g) n [] a)) (every_map (IsTrueQuestion g) (OfDecl k) (claims_of (defs g) n [] a) (recursion_from_All IsTrueClaim (claims_of (defs g) n [] a) w)),
    )

pub type_refused : (g : Program) (k n : ℕ) (ps : List Formula) (a : Ty) (why : TypeErr) (e : CheckErr) → ps ≡ [] → IsTypeErr (alone (defs g) n ps a) why →
    ((o : Option TypeErr) → IsTypeErr o why → IsRefusal (decl_refusal k o) e) → IsRefusal (error_of g (map (OfDecl k) (claims_of (defs g) n [] a))) e
type_refused g k n ps a why e d h f =
    refusal_is _ _ e (sym (claims_decl g k (claims_of (defs g) n [] a)))
    (f (alone (defs g) n [] a) (subst (λ (qs : List Formula). IsTypeErr (alone (defs g) n qs a) why) d h))

-- ---- the used types of a declaration

abbrev pub uses_asked : Program → ℕ → ℕ → List Ty → List Question
uses_asked g k n as' = map (OfDecl k) (uses_claims (defs g) n as')

pub uses_next : (g : Program) (k n : ℕ) (as' : List Ty) (i : ℕ) (a : Ty) → i < length as' → a ≡ get_or as' i a → uses_asked g k n (drop i as') ≡ map (OfDecl k) (claims_of (defs g) n [] a) ++ uses_asked g k n (drop (i + 1) as')
uses_next g k n as' i a h e =
    ap (uses_asked g k n) (drop_more as' i a h)
    ∙ map-append (OfDecl k) (claims_of (defs g) n [] (get_or as' i a)) (uses_claims (defs g) n (drop (i + 1) as'))
    ∙ ap (λ (x : Ty). map (OfDecl k) (claims_of (defs g) n [] x) ++ uses_asked g k n (drop (i + 1) as')) (sym e)

-- ---- a declaration

abbrev pub all_asked : Program → ℕ → Decl → List Question
all_asked g k d = map (OfDecl k) (decl_claims g d)

abbrev pub gives_asked : Program → ℕ → Decl → List Question
gives_asked g k d = map (OfDecl k) (claims_of (defs g) d.params [] d.gives)

abbrev pub potential_asked : ℕ → Decl → List Question
potential_asked k d = map (OfDecl k) (CAsks 6 d.params [] (nonneg d.potential) ∷ [])

three_parts : (k : ℕ) (us gs : List Claim) (c : Claim) → map (OfDecl k) ((us ++ (gs ++ [])) ++ c ∷ []) ≡ map (OfDecl k) us ++ (map (OfDecl k) gs ++ OfDecl k c ∷ [])
three_parts k us gs c =
    map-append (OfDecl k) (us ++ (gs ++ [])) (c ∷ [])
    ∙ ap (λ (qs : List Question). qs ++ OfDecl k c ∷ []) (ap (λ (cs : List Claim). map (OfDecl k) (us ++ cs)) (append-nil gs) ∙ map-append (OfDecl k) us gs)
    ∙ append_assoc (map (OfDecl k) us) (map (OfDecl k) gs) (OfDecl k c ∷ [])

pub decl_parts : (g : Program) (k : ℕ) (d : Decl) (us : List Ty) → us ≡ d.uses → all_asked g k d ≡ uses_asked g k d.params us ++ (gives_asked g k d ++ potential_asked k d)
decl_parts g k d us e =
    subst (λ (vs : List Ty). all_asked g k d ≡ uses_asked g k d.params vs ++ (gives_asked g k d ++ potential_asked k d)) (sym e)
    (ap (map (OfDecl k)) (ap (λ (cs : List Claim). cs ++ CAsks 6 d.params [] (nonneg d.potential) ∷ []) (flat_map-append (claims_of (defs g) d.params []) d.uses (d.gives ∷ [])))
    ∙ three_parts k (uses_claims (defs g) d.params d.uses) (claims_of (defs g) d.params [] d.gives) (CAsks 6 d.params [] (nonneg d.potential)))

-- ---- all of them

abbrev pub decl_asked : Program → (ℕ × Decl) → List Question
decl_asked g e = map (OfDecl e.0) (decl_claims g e.1)

abbrev pub decls_asked : Program → ℕ → List Decl → List Question
decls_asked g k ds = flat_map (decl_asked g) (from_number k ds)

pub decls_next : (g : Program) (ds : List Decl) (i : ℕ) (d : Decl) → ds ≡ g.decls → i < length ds → d ≡ get_or ds i d →
    decls_asked g i (drop i g.decls) ≡ map (OfDecl i) (decl_claims g d) ++ decls_asked g (i + 1) (drop (i + 1) g.decls)
decls_next g ds i d is h e =
    subst (λ (xs : List Decl). decls_asked g i (drop i xs) ≡ map (OfDecl i) (decl_claims g d) ++ decls_asked g (i + 1) (drop (i + 1) xs)) is
    (ap (decls_asked g i) (drop_more ds i d h) ∙ ap (λ (x : Decl). map (OfDecl i) (decl_claims g x) ++ decls_asked g (i + 1) (drop (i + 1) ds)) (sym e))
