-- What lower calls answer is what is refused first of their questions.
use Rattle.std.proofs.Common.{arith, ◌≡◌, ℕ, suc, ◌+◌, List, [], ◌∷◌, length, map, flat_map, true, false, Option, Some, None, refl, ap, ap₂, ◌∙◌}
use Rattle.rast_cooper.specs.Verdicts.{verdict, most_states}
use Rattle.rast_cooper.specs.declared.verdict.Verdict as cooper
use Rattle.rast_cooper.specs.declared.verdict.Verdict.TheVariants as verdicts
use Rattle.rast_types.specs.Closed.{Table}
use Rattle.rast_types.specs.declared.equation.Equation.{Equation}
use Rattle.rast_types.specs.declared.table.TypeDef.{TypeDef}
use Rattle.rast_equal.specs.declared.answer.SameErr.{SameErr}
use Rattle.rast_equal.specs.declared.answer.SameErr.TheVariants as same
use Rattle.rast_equal.specs.declared.equations.EquationErr.{EquationErr}
use Rattle.rast_equal.specs.declared.place.Place.{Place}
use Rattle.rast_equal.specs.declared.validity.TypeErr.{TypeErr}
use Rattle.rast_equal.specs.Equated.{or_premise, first_premise, or_equation, equations_fault}
use Rattle.rast_equal.specs.Fault.{verdict_fault, point_fault, or_next, first_fault}
use Rattle.rast_equal.specs.Invalid.{verdict_refusal, or_later, first_refusal, type_errs, table_refusal}
use Rattle.rast_equal.specs.Valid.{Claim, Asks as CAsks, Shape as CShape, Over as COver, def_claims}
use Rattle.rast_equal.specs.Walk.{Point, Asks, Wanted, Never, TooMany, Bound, equation_points}
use Rattle.rast_rules.specs.Rules.{Program, defs}
use Rattle.rast_check.specs.Decided.{as_verdict, searched}
use Rattle.rast_check.specs.Lifted.{type_refusal, decl_refusal, equation_refusal}
use Rattle.rast_check.specs.Questions.{unless, point_error, or_else, first_error, OfType, OfDecl, OfEquation, Refusal, BadType, TypeBound, BadDecl, DeclBound, BadEquation, point_refusal, refusal, from_number, type_questions, equation_questions}
use Rattle.rast_check.proofs.Leads.{error_of, error_append}

-- ---- points of a walk

abbrev point_unless : Place → cooper.Verdict → Option SameErr
point_unless p w = unless (as_verdict w) (λ vs. same.Fails p.path p.vars vs) (λ l. same.Bound l)

point_same : (p : Point) → point_error searched p ≡ point_fault p
point_same (Asks p goal) = by p (verdict most_states p.vars p.premises goal)
  where
    by : (p : Place) (w : cooper.Verdict) → point_unless p w ≡ verdict_fault p w
    by p verdicts.Holds = refl
    by p (verdicts.Fails vs) = refl
    by p verdicts.NodeLimit = refl
    by p verdicts.NumberLimit = refl
point_same (Wanted path) = refl
point_same (Never p) = refl
point_same TooMany = refl
point_same (Bound s) = refl

next_same : (a b c d : Option SameErr) → a ≡ c → b ≡ d → or_else a b ≡ or_next c d
next_same a b c d h k = ap₂ or_else h k ∙ step c d
  where
    step : (c d : Option SameErr) → or_else c d ≡ or_next c d
    step None d = refl
    step (Some e) d = refl

-- the first error of a walk's points is the walk's first fault
pub points_same : (ps : List Point) → first_error (point_error searched) ps ≡ first_fault ps
points_same [] = refl
points_same (p ∷ ps) = next_same (point_error searched p) (first_error (point_error searched) ps) (point_fault p) (first_fault ps) (point_same p) (points_same ps)

-- ---- rules of types

-- what is refused first of a rule and then of others
module _ (g : Program) (k : ℕ) where
  type_step : (c : Claim) (cs : List Claim) → or_else (refusal searched g (OfType k c)) (type_refusal (type_errs k (first_refusal cs))) ≡ type_refusal (type_errs k (first_refusal (c ∷ cs)))
  type_step (CAsks rule n ps goal) cs = by (verdict most_states n ps goal)
    where
      by : (w : cooper.Verdict) → or_else (unless (as_verdict w) (λ vs. BadType k rule n (Some vs)) (TypeBound k)) (type_refusal (type_errs k (first_refusal cs))) ≡ type_refusal (type_errs k (or_later (verdict_refusal rule n w) (first_refusal cs)))
      by verdicts.Holds = refl
      by (verdicts.Fails vs) = refl
      by verdicts.NodeLimit = refl
      by verdicts.NumberLimit = refl
  type_step (CShape rule n true) cs = refl
  type_step (CShape rule n false) cs = refl
  type_step COver cs = refl

  pub claims_type : (cs : List Claim) → error_of g (map (OfType k) cs) ≡ type_refusal (type_errs k (first_refusal cs))
  claims_type [] = refl
  claims_type (c ∷ cs) = ap (or_else (refusal searched g (OfType k c))) (claims_type cs) ∙ type_step c cs

  -- a type of a declaration has for a definition's number how many there are
  decl_step : (c : Claim) (cs : List Claim) → or_else (refusal searched g (OfDecl k c)) (decl_refusal k (type_errs (length (defs g)) (first_refusal cs))) ≡ decl_refusal k (type_errs (length (defs g)) (first_refusal (c ∷ cs)))
  decl_step (CAsks rule n ps goal) cs = by (length (defs g)) (verdict most_states n ps goal)
    where
      by : (d : ℕ) (w : cooper.Verdict) → or_else (unless (as_verdict w) (λ vs. BadDecl k d rule n (Some vs)) (DeclBound k d)) (decl_refusal k (type_errs d (first_refusal cs))) ≡ decl_refusal k (type_errs d (or_later (verdict_refusal rule n w) (first_refusal cs)))
      by d verdicts.Holds = refl
      by d (verdicts.Fails vs) = refl
      by d verdicts.NodeLimit = refl
      by d verdicts.NumberLimit = refl
  decl_step (CShape rule n true) cs = refl
  decl_step (CShape rule n false) cs = refl
  decl_step COver cs = refl

  pub claims_decl : (cs : List Claim) → error_of g (map (OfDecl k) cs) ≡ decl_refusal k (type_errs (length (defs g)) (first_refusal cs))
  claims_decl [] = refl
  claims_decl (c ∷ cs) = ap (or_else (refusal searched g (OfDecl k c))) (claims_decl cs) ∙ decl_step c cs

-- ---- definitions

table_later : (k : ℕ) (cs : List Claim) (b : Option TypeErr) → or_else (type_refusal (type_errs k (first_refusal cs))) (type_refusal b) ≡ type_refusal (or_later (type_errs k (first_refusal cs)) b)
table_later k [] b = refl
table_later k (CAsks rule n ps goal ∷ cs) b = by (table_later k cs b) (verdict most_states n ps goal)
  where
    by : or_else (type_refusal (type_errs k (first_refusal cs))) (type_refusal b) ≡ type_refusal (or_later (type_errs k (first_refusal cs)) b) → (w : cooper.Verdict) → or_else (type_refusal (type_errs k (or_later (verdict_refusal rule n w) (first_refusal cs)))) (type_refusal b) ≡ type_refusal (or_later (type_errs k (or_later (verdict_refusal rule n w) (first_refusal cs))) b)
    by h verdicts.Holds = h
    by h (verdicts.Fails vs) = refl
    by h verdicts.NodeLimit = refl
    by h verdicts.NumberLimit = refl
table_later k (CShape rule n true ∷ cs) b = table_later k cs b
table_later k (CShape rule n false ∷ cs) b = refl
table_later k (COver ∷ cs) b = refl

types_from : (g : Program) (t : Table) (k : ℕ) (ds : List TypeDef) →
    error_of g (flat_map (λ (e : ℕ × TypeDef). map (OfType e.0) (def_claims t e.1)) (from_number k ds)) ≡ type_refusal (table_refusal t k ds)
types_from g t k [] = refl
types_from g t k (d ∷ ds) =
    error_append (refusal searched g) (map (OfType k) (def_claims t d)) (flat_map (λ (e : ℕ × TypeDef). map (OfType e.0) (def_claims t e.1)) (from_number (k + 1) ds))
    ∙ ap₂ or_else (claims_type g k (def_claims t d)) (types_from g t (k + 1) ds ∙ ap (λ (m : ℕ). type_refusal (table_refusal t m ds)) (omega arith))
    ∙ table_later k (def_claims t d) (table_refusal t (suc k) ds)

pub types_error : (g : Program) → error_of g (type_questions g) ≡ type_refusal (table_refusal (defs g) 0 (defs g))
types_error g = types_from g (defs g) 0 (defs g)

-- ---- equations

abbrev lifted : ℕ → Option (ℕ × SameErr) → Option Refusal
lifted n None = None
lifted n (Some e) = Some (BadEquation n e.0 e.1)

or_premise_same : (n k : ℕ) (a : Option SameErr) (b : Option (ℕ × SameErr)) →
    or_else (point_refusal n k a) (lifted n b) ≡ lifted n (or_premise k a b)
or_premise_same n k None b = refl
or_premise_same n k (Some e) b = refl

tagged_error : (g : Program) (n : ℕ) (ps : List (ℕ × Point)) → error_of g (map (λ (p : ℕ × Point). OfEquation n p.0 p.1) ps) ≡ lifted n (first_premise ps)
tagged_error g n [] = refl
tagged_error g n (p ∷ ps) =
    ap₂ or_else (ap (point_refusal n p.0) (point_same p.1)) (tagged_error g n ps) ∙ or_premise_same n p.0 (point_fault p.1) (first_premise ps)

equation_later : (n : ℕ) (a : Option (ℕ × SameErr)) (b : Option EquationErr) → or_else (lifted n a) (equation_refusal b) ≡ equation_refusal (or_equation n a b)
equation_later n None b = refl
equation_later n (Some e) b = refl

equations_from : (g : Program) (t : Table) (all : List Equation) (k : ℕ) (es : List Equation) →
    error_of g (flat_map (λ (e : ℕ × Equation). map (λ (p : ℕ × Point). OfEquation e.0 p.0 p.1) (equation_points t all e.1)) (from_number k es)) ≡ equation_refusal (equations_fault t all k es)
equations_from g t all k [] = refl
equations_from g t all k (e ∷ es) =
    error_append (refusal searched g) (map (λ (p : ℕ × Point). OfEquation k p.0 p.1) (equation_points t all e)) (flat_map (λ (e : ℕ × Equation). map (λ (p : ℕ × Point). OfEquation e.0 p.0 p.1) (equation_points t all e.1)) (from_number (k + 1) es))
    ∙ ap₂ or_else (tagged_error g k (equation_points t all e)) (equations_from g t all (k + 1) es ∙ ap (λ (m : ℕ). equation_refusal (equations_fault t all m es)) (omega arith))
    ∙ equation_later k (first_premise (equation_points t all e)) (equations_fault t all (suc k) es)

pub equations_error : (g : Program) → error_of g (equation_questions g) ≡ equation_refusal (equations_fault (defs g) g.equations 1 g.equations)
equations_error g = equations_from g (defs g) g.equations 1 g.equations
