-- What is asked of types, declarations and equations is true exactly where they are valid.
use Rattle.std.proofs.Common.{ℕ, ◌+◌, List, [], ◌∷◌, ◌++◌, map, flat_map, All}
use Rattle.rast_types.specs.declared.table.TypeDef.{TypeDef}
use Rattle.rast_types.specs.declared.equation.Equation.{Equation}
use Rattle.rast_equal.specs.Valid.{Claim, Asks as CAsks, IsTrueClaim, IsValidType, IsValidTable, claims_of, def_claims, nonneg}
use Rattle.rast_equal.specs.Walk.{Point, IsTruePoint, IsGoodTable, equation_points}
use Rattle.rast_rules.specs.Rules.{Program, Decl, defs, IsValidDecl}
use Rattle.rast_check.specs.Questions.{Question, OfType, OfDecl, OfEquation, IsTrueQuestion, from_number, type_questions, decl_claims, decl_questions, equation_questions}
use Rattle.rast_check.proofs.Every.{every_to, every_append, every_map, every_mapped, every_flat, every_flattened}
use Rattle.std.proofs.lemmas.List.Elements.{All-from_recursion, recursion_from_All}
use Rattle.std.specs.List.{AllByRecursion}
use Rattle.rast_equal.proofs.Every.{every_left, every_right}

-- what holds of things with their numbers, and of the things
pub every_numbered : {A : Type 0} (P : (ℕ × A) → Type 0) (Q : A → Type 0) → ((k : ℕ) (x : A) → P (k, x) → Q x) → (k : ℕ) (xs : List A) → AllByRecursion P (from_number k xs) → AllByRecursion Q xs
every_numbered {A} P Q f k [] h = tt
every_numbered {A} P Q f k (x ∷ xs) h = (f k x h.0, every_numbered P Q f (k + 1) xs h.1)

pub every_number : {A : Type 0} (P : (ℕ × A) → Type 0) (Q : A → Type 0) → ((k : ℕ) (x : A) → Q x → P (k, x)) → (k : ℕ) (xs : List A) → AllByRecursion Q xs → AllByRecursion P (from_number k xs)
every_number {A} P Q f k [] h = tt
every_number {A} P Q f k (x ∷ xs) h = (f k x h.0, every_number P Q f (k + 1) xs h.1)

-- ---- types

abbrev pub def_asked : Program → (ℕ × TypeDef) → List Question
def_asked g e = map (OfType e.0) (def_claims (defs g) e.1)

pub types_valid : (g : Program) → AllByRecursion (IsTrueQuestion g) (type_questions g) → IsValidTable (defs g)
types_valid g h =
    All-from_recursion (λ d. All IsTrueClaim (def_claims (defs g) d)) (defs g)
    (every_numbered (λ e. AllByRecursion (IsTrueQuestion g) (def_asked g e)) (λ d. All IsTrueClaim (def_claims (defs g) d))
    (λ k d t. All-from_recursion IsTrueClaim (def_claims (defs g) d) (every_mapped (IsTrueQuestion g) (OfType k) (def_claims (defs g) d) t))
    0 (defs g) (every_flattened (IsTrueQuestion g) (def_asked g) (from_number 0 (defs g)) h))

pub valid_types : (g : Program) → IsValidTable (defs g) → AllByRecursion (IsTrueQuestion g) (type_questions g)
valid_types g h =
    every_flat (IsTrueQuestion g) (def_asked g) (from_number 0 (defs g))
    (every_number (λ e. AllByRecursion (IsTrueQuestion g) (def_asked g e)) (λ d. All IsTrueClaim (def_claims (defs g) d))
    (λ k d t. every_map (IsTrueQuestion g) (OfType k) (def_claims (defs g) d) (recursion_from_All IsTrueClaim (def_claims (defs g) d) t))
    0 (defs g) (recursion_from_All (λ d. All IsTrueClaim (def_claims (defs g) d)) (defs g) h))

-- ---- declarations

abbrev pub decl_asked : Program → (ℕ × Decl) → List Question
decl_asked g e = map (OfDecl e.0) (decl_claims g e.1)

abbrev pub claims_in : Program → Decl → List Claim
claims_in g d = flat_map (claims_of (defs g) d.params []) (d.uses ++ d.gives ∷ [])

abbrev pub potential_claim : Decl → Claim
potential_claim d = CAsks 6 d.params [] (nonneg d.potential)

decl_valid : (g : Program) (d : Decl) → AllByRecursion IsTrueClaim (decl_claims g d) → IsValidDecl g d
decl_valid g d h =
    let ts = every_flattened IsTrueClaim (claims_of (defs g) d.params []) (d.uses ++ d.gives ∷ []) (every_left IsTrueClaim (claims_in g d) (potential_claim d ∷ []) h) in
    let as' = every_to (λ a. AllByRecursion IsTrueClaim (claims_of (defs g) d.params [] a)) (IsValidType (defs g) d.params []) (λ a t. All-from_recursion IsTrueClaim (claims_of (defs g) d.params [] a) t) (d.uses ++ d.gives ∷ []) ts in
    record {
      uses = All-from_recursion (IsValidType (defs g) d.params []) d.uses (every_left (IsValidType (defs g) d.params []) d.uses (d.gives ∷ []) as');
      gives = (every_right (IsValidType (defs g) d.params []) d.uses (d.gives ∷ []) as').0;
      potential = (every_right IsTrueClaim (claims_in g d) (potential_claim d ∷ []) h).0;
    }

valid_decl : (g : Program) (d : Decl) → IsValidDecl g d → AllByRecursion IsTrueClaim (decl_claims g d)
valid_decl g d v =
    let us = recursion_from_All (IsValidType (defs g) d.params []) d.uses v.uses in
    let as' : AllByRecursion (IsValidType (defs g) d.params []) (d.uses ++ d.gives ∷ []) = every_append (IsValidType (defs g) d.params []) d.uses (d.gives ∷ []) us (v.gives, tt) in
    every_append IsTrueClaim (claims_in g d) (potential_claim d ∷ [])
    (every_flat IsTrueClaim (claims_of (defs g) d.params []) (d.uses ++ d.gives ∷ [])
    (every_to (IsValidType (defs g) d.params []) (λ a. AllByRecursion IsTrueClaim (claims_of (defs g) d.params [] a)) (λ a t. recursion_from_All IsTrueClaim (claims_of (defs g) d.params [] a) t) (d.uses ++ d.gives ∷ []) as'))
    (v.potential, tt)

pub decls_valid : (g : Program) → AllByRecursion (IsTrueQuestion g) (decl_questions g) → All (IsValidDecl g) g.decls
decls_valid g h =
    All-from_recursion (IsValidDecl g) g.decls
    (every_numbered (λ e. AllByRecursion (IsTrueQuestion g) (decl_asked g e)) (IsValidDecl g)
    (λ k d t. decl_valid g d (every_mapped (IsTrueQuestion g) (OfDecl k) (decl_claims g d) t))
    0 g.decls (every_flattened (IsTrueQuestion g) (decl_asked g) (from_number 0 g.decls) h))

pub valid_decls : (g : Program) → All (IsValidDecl g) g.decls → AllByRecursion (IsTrueQuestion g) (decl_questions g)
valid_decls g h =
    every_flat (IsTrueQuestion g) (decl_asked g) (from_number 0 g.decls)
    (every_number (λ e. AllByRecursion (IsTrueQuestion g) (decl_asked g e)) (IsValidDecl g)
    (λ k d t. every_map (IsTrueQuestion g) (OfDecl k) (decl_claims g d) (valid_decl g d t))
    0 g.decls (recursion_from_All (IsValidDecl g) g.decls h))

-- ---- equations

abbrev pub tagged_question : ℕ → (ℕ × Point) → Question
tagged_question k p = OfEquation k p.0 p.1

abbrev pub equation_asked : Program → (ℕ × Equation) → List Question
equation_asked g e = map (λ p. OfEquation e.0 p.0 p.1) (equation_points (defs g) g.equations e.1)

abbrev pub IsGood : Program → Equation → Type 0
IsGood g e = All (λ x. IsTruePoint x.1) (equation_points (defs g) g.equations e)

pub equations_good : (g : Program) → AllByRecursion (IsTrueQuestion g) (equation_questions g) → IsGoodTable (defs g) g.equations
equations_good g h =
    All-from_recursion (IsGood g) g.equations
    (every_numbered (λ e. AllByRecursion (IsTrueQuestion g) (equation_asked g e)) (IsGood g)
    (λ k e t. All-from_recursion (λ x. IsTruePoint x.1) (equation_points (defs g) g.equations e) (every_mapped (IsTrueQuestion g) (λ p. OfEquation k p.0 p.1) (equation_points (defs g) g.equations e) t))
    1 g.equations (every_flattened (IsTrueQuestion g) (equation_asked g) (from_number 1 g.equations) h))

pub good_equations : (g : Program) → IsGoodTable (defs g) g.equations → AllByRecursion (IsTrueQuestion g) (equation_questions g)
good_equations g h =
    every_flat (IsTrueQuestion g) (equation_asked g) (from_number 1 g.equations)
    (every_number (λ e. AllByRecursion (IsTrueQuestion g) (equation_asked g e)) (IsGood g)
    (λ k e t. every_map (IsTrueQuestion g) (λ p. OfEquation k p.0 p.1) (equation_points (defs g) g.equations e) (recursion_from_All (λ x. IsTruePoint x.1) (equation_points (defs g) g.equations e) t))
    1 g.equations (recursion_from_All (IsGood g) g.equations h))
