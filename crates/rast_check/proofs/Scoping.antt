-- What is asked of the types, declarations and equations of a formed program is in scope.
use Rattle.std.proofs.Common.{ℕ, zero, suc, List, [], ◌∷◌, ◌++◌, map, flat_map, zip, length, slice_get, Option, Some, None, Result, Ok, Err, refl, All}
use Rattle.rast_equal.specs.Fit.{IsFitEquation, IsFitTypeDef, IsWithinType}
use Rattle.rast_equal.specs.Valid.{Asks as CAsks, claims_of, def_claims, nonneg}
use Rattle.rast_equal.specs.Walk.{Point, equation_points}
use Rattle.rast_rules.specs.Rules.{Program, Decl, children, defs, limited, premises, root}
use Rattle.rast_rules.specs.declared.judgement.Judgement.{Judgement}
use Rattle.rast_rules.specs.declared.premise.Premise.{Premise}
use Rattle.rast_terms.specs.Nodes.{kids}
use Rattle.rast_terms.specs.declared.node.Node.{Node}
use Rattle.rast_types.specs.declared.equation.Equation.{Equation}
use Rattle.rast_types.specs.declared.stop.Stop.{Stop}
use Rattle.rast_types.specs.declared.table.TypeDef.{TypeDef}
use Rattle.rast_check.specs.Formed.{IsFitDecl, IsFormed, IsScoped}
use Rattle.rast_check.specs.Questions.{Question, OfType, OfDecl, OfEquation, OfLimit, OfPremise, body_questions, decl_claims, decl_questions, equation_questions, from_number, judged_and_below, node_and_below, node_questions, premise_questions, questions, type_questions, uses_claims}
use Rattle.rast_check.proofs.Claiming.{InScope, claims_scoped, natural_asked}
use Rattle.rast_check.proofs.Equating.{equation_in}
use Rattle.rast_check.proofs.Pointing.{PointIn}
use Rattle.rast_check.proofs.Every.{every_append, every_flat, every_map, every_to}
use Rattle.std.proofs.lemmas.List.Elements.{recursion_from_All}
use Rattle.std.specs.List.{AllByRecursion}
use Rattle.rast_check.proofs.Parts.{every_number}

-- a rule on numbers, or a point of an equation, in its scope; nothing of other questions
abbrev pub Placed : Question → Type 0
Placed (OfType d c) = InScope c
Placed (OfDecl d c) = InScope c
Placed (OfEquation n k p) = PointIn p
Placed (OfLimit n s) = Unit {0}
Placed (OfPremise n k j p) = Unit {0}

every_any : {X : Type 0} (P : X → Type 0) → ((x : X) → P x) → (xs : List X) → AllByRecursion P xs
every_any {X} P f [] = tt
every_any {X} P f (x ∷ xs) = (f x, every_any P f xs)

def_placed : (g : Program) (k : ℕ) (d : TypeDef) → IsFitTypeDef d → AllByRecursion Placed (map (OfType k) (def_claims (defs g) d))
def_placed g k d f = every_map Placed (OfType k) (def_claims (defs g) d) (tt, claims_scoped (defs g) d.params [] d.body f.few (λ m le. refl) f.within)

types_placed : (g : Program) → All IsFitTypeDef (defs g) → AllByRecursion Placed (type_questions g)
types_placed g h =
    every_flat Placed (λ (e : ℕ × TypeDef). map (OfType e.0) (def_claims (defs g) e.1)) (from_number 0 (defs g))
    (every_number (λ (e : ℕ × TypeDef). AllByRecursion Placed (map (OfType e.0) (def_claims (defs g) e.1))) IsFitTypeDef (def_placed g) 0 (defs g) (recursion_from_All IsFitTypeDef (defs g) h))

decl_placed : (g : Program) (k : ℕ) (d : Decl) → IsFitDecl d → AllByRecursion Placed (map (OfDecl k) (decl_claims g d))
decl_placed g k d f =
    every_map Placed (OfDecl k) (decl_claims g d)
    (every_append InScope (uses_claims (defs g) d.params (d.uses ++ d.gives ∷ [])) (CAsks 6 d.params [] (nonneg d.potential) ∷ [])
    (every_flat InScope (claims_of (defs g) d.params []) (d.uses ++ d.gives ∷ [])
    (every_to (IsWithinType d.params) (λ a. AllByRecursion InScope (claims_of (defs g) d.params [] a)) (λ a w. claims_scoped (defs g) d.params [] a f.few (λ m le. refl) w) (d.uses ++ d.gives ∷ [])
    (every_append (IsWithinType d.params) d.uses (d.gives ∷ []) (recursion_from_All (IsWithinType d.params) d.uses f.uses) (f.gives, tt))))
    (natural_asked d.params [] d.potential f.few (λ m le. refl) f.potential, tt))

decls_placed : (g : Program) → All IsFitDecl g.decls → AllByRecursion Placed (decl_questions g)
decls_placed g h =
    every_flat Placed (λ (e : ℕ × Decl). map (OfDecl e.0) (decl_claims g e.1)) (from_number 0 g.decls)
    (every_number (λ (e : ℕ × Decl). AllByRecursion Placed (map (OfDecl e.0) (decl_claims g e.1))) IsFitDecl (decl_placed g) 0 g.decls (recursion_from_All IsFitDecl g.decls h))

equation_placed : (g : Program) → IsScoped g → (k : ℕ) (e : Equation) → IsFitEquation e → AllByRecursion Placed (map (λ (p : ℕ × Point). OfEquation k p.0 p.1) (equation_points (defs g) g.equations e))
equation_placed g s k e f = every_map Placed (λ (p : ℕ × Point). OfEquation k p.0 p.1) (equation_points (defs g) g.equations e) (equation_in (defs g) g.equations e s.defs s.equations f)

equations_placed : (g : Program) → IsScoped g → AllByRecursion Placed (equation_questions g)
equations_placed g s =
    every_flat Placed (λ (e : ℕ × Equation). map (λ (p : ℕ × Point). OfEquation e.0 p.0 p.1) (equation_points (defs g) g.equations e.1)) (from_number 1 g.equations)
    (every_number (λ (e : ℕ × Equation). AllByRecursion Placed (map (λ (p : ℕ × Point). OfEquation e.0 p.0 p.1) (equation_points (defs g) g.equations e.1))) IsFitEquation (equation_placed g s) 1 g.equations (recursion_from_All IsFitEquation g.equations s.equations))

below_placed : (g : Program) (f n : ℕ) (j : Judgement) → ((e : ℕ × Result Judgement Stop) → AllByRecursion Placed (node_questions g f e)) → (o : Option Node) → AllByRecursion Placed (node_and_below g (node_questions g f) n j o)
below_placed g f n j h None = tt
below_placed g f n j h (Some nd) =
    every_append Placed (premise_questions g n j nd) (flat_map (node_questions g f) (zip (kids nd) (children g j nd)))
    (every_map Placed (λ (p : ℕ × Premise). OfPremise n p.0 j p.1) (premises g j nd) (every_any (λ (p : ℕ × Premise). Placed (OfPremise n p.0 j p.1)) (λ p. tt) (premises g j nd)))
    (every_flat Placed (node_questions g f) (zip (kids nd) (children g j nd)) (every_any (λ (e : ℕ × Result Judgement Stop). AllByRecursion Placed (node_questions g f e)) h (zip (kids nd) (children g j nd))))

judged_placed : (g : Program) (f n : ℕ) → ((e : ℕ × Result Judgement Stop) → AllByRecursion Placed (node_questions g f e)) → (r : Result Judgement Stop) → AllByRecursion Placed (judged_and_below g (node_questions g f) n r)
judged_placed g f n h (Err s) = (tt, tt)
judged_placed g f n h (Ok j) = below_placed g f n j h (slice_get g.nodes n)

node_placed : (g : Program) (f : ℕ) (e : ℕ × Result Judgement Stop) → AllByRecursion Placed (node_questions g f e)
node_placed g zero e = tt
node_placed g (suc f) e = judged_placed g f e.0 (node_placed g f) e.1

bodies_placed : (g : Program) → AllByRecursion Placed (body_questions g)
bodies_placed g =
    every_flat Placed (λ (e : ℕ × Decl). node_questions g (length g.nodes) (e.1.body, limited (root e.0 e.1))) (from_number 0 g.decls)
    (every_any (λ (e : ℕ × Decl). AllByRecursion Placed (node_questions g (length g.nodes) (e.1.body, limited (root e.0 e.1)))) (λ e. node_placed g (length g.nodes) (e.1.body, limited (root e.0 e.1))) (from_number 0 g.decls))

pub all_placed : (g : Program) → IsFormed g → AllByRecursion Placed (questions g)
all_placed g f =
    every_append Placed (type_questions g) (decl_questions g ++ (equation_questions g ++ body_questions g)) (types_placed g f.scoped.defs)
    (every_append Placed (decl_questions g) (equation_questions g ++ body_questions g) (decls_placed g f.scoped.decls)
    (every_append Placed (equation_questions g) (body_questions g) (equations_placed g f.scoped) (bodies_placed g)))
