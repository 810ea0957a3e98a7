-- Definitions and equations checked one after the other.
use Rattle.std.proofs.Common.{◌≡◌, ℕ, ◌+◌, ◌<◌, ◌≤◌, List, [], ◌∷◌, length, get_or, drop, sym, ◌∙◌, ap, ap₂, refl, subst, Option, Some, None, Result, Ok, Err, add-one, arith}
use Rattle.std.specs.Prelude.{All, IsErrAnd, not, true, false}
use Rattle.std.proofs.Math.Seq.{drop-cons}
use Rattle.std.proofs.lemmas.List.{drop_all}
use Rattle.std.proofs.lemmas.List.Elements.{All-nil, All-cons}
use Rattle.rast_types.specs.Closed.{Table}
use Rattle.rast_types.specs.Symbolic.{is_name}
use Rattle.rast_types.specs.declared.equation.Equation.{Equation}
use Rattle.rast_types.specs.declared.table.TypeDef.{TypeDef}
use Rattle.rast_equal.specs.declared.answer.SameErr.{SameErr}
use Rattle.rast_equal.specs.declared.answer.SameErr.TheVariants as err
use Rattle.rast_equal.specs.declared.equations.EquationErr.{EquationErr}
use Rattle.rast_equal.specs.declared.validity.Refusal.{Refusal}
use Rattle.rast_equal.specs.declared.validity.Refusal.TheVariants.{False, Stopped, Memory}
use Rattle.rast_equal.specs.declared.validity.TypeErr.{TypeErr}
use Rattle.rast_equal.specs.Equated.{AnswersEquations, equation_err, equations_fault, first_premise, or_equation, unless_memory}
use Rattle.rast_equal.specs.Invalid.{IsRefusal, IsTypeErr, Judges, first_refusal, or_later, table_refusal, type_err, type_errs}
use Rattle.rast_equal.specs.Valid.{Shape, IsTrueClaim, claims_of, def_claims}
use Rattle.rast_equal.specs.Walk.{IsTruePoint, equation_points}
use Rattle.rast_equal.proofs.Claims.{AreTrue, judges_after}

-- ---- the answer on a definition

pub type_err_of : (k : ℕ) (o : Option Refusal) (e : Refusal) → IsRefusal o e → IsTypeErr (type_errs k o) (type_err k e)
type_err_of k o (False rule n values) h = ap (type_errs k) h
type_err_of k o (Stopped s) h = ap (type_errs k) h
type_err_of k o Memory h = tt

err_first : (k : ℕ) (o q : Option TypeErr) (p : Option Refusal) (e : Refusal) → IsRefusal p e → o ≡ or_later (type_errs k p) q → IsTypeErr o (type_err k e)
err_first k o q p (False rule n values) h is = is ∙ ap (λ x. or_later (type_errs k x) q) h
err_first k o q p (Stopped s) h is = is ∙ ap (λ x. or_later (type_errs k x) q) h
err_first k o q p Memory h is = tt

-- ---- definitions

module _ (t : Table) where
  -- what is wrong first is among the definitions from this one on
  pub record Remains (i : ℕ) : Type 0 where
    pub fault : table_refusal t 0 t ≡ table_refusal t i (drop i t)
    pub holds : All (λ d. All IsTrueClaim (def_claims t d)) (drop i t) → All (λ d. All IsTrueClaim (def_claims t d)) t

  pub remains_first : Remains 0
  remains_first = record { fault = refl; holds = λ h. h }

  at_next : (i : ℕ) (d : TypeDef) → i < length t → d ≡ get_or t i d → drop i t ≡ d ∷ drop (i + 1) t
  at_next i d lt is = drop-cons t i d lt ∙ ap₂ (λ (x : TypeDef) j. x ∷ drop j t) (sym is) (sym (add-one i))

  refusal_next : (i : ℕ) (d : TypeDef) → i < length t → d ≡ get_or t i d → table_refusal t i (drop i t) ≡ or_later (type_errs i (first_refusal (def_claims t d))) (table_refusal t (i + 1) (drop (i + 1) t))
  refusal_next i d lt is = ap (table_refusal t i) (at_next i d lt is) ∙ ap (λ j. or_later (type_errs i (first_refusal (def_claims t d))) (table_refusal t j (drop (i + 1) t))) (sym (add-one i))

  pub remains_next : (i : ℕ) (d : TypeDef) → i < length t → d ≡ get_or t i d → Remains i → AreTrue (def_claims t d) → Remains (i + 1)
  remains_next i d lt is r h = record {
    fault = r.fault ∙ refusal_next i d lt is ∙ ap (λ o. or_later (type_errs i o) (table_refusal t (i + 1) (drop (i + 1) t))) h.0;
    holds = λ k. r.holds (subst (All (λ (x : TypeDef). All IsTrueClaim (def_claims t x))) (sym (at_next i d lt is)) (All-cons (λ (x : TypeDef). All IsTrueClaim (def_claims t x)) d (drop (i + 1) t) h.1 k));
  }

  pub remains_false : (i : ℕ) (d : TypeDef) (e : Refusal) → i < length t → d ≡ get_or t i d → Remains i → IsRefusal (first_refusal (def_claims t d)) e → IsTypeErr (table_refusal t 0 t) (type_err i e)
  remains_false i d e lt is r h = err_first i (table_refusal t 0 t) (table_refusal t (i + 1) (drop (i + 1) t)) (first_refusal (def_claims t d)) e h (r.fault ∙ refusal_next i d lt is)

  pub remains_none : (i : ℕ) → length t ≤ i → Remains i → (table_refusal t 0 t ≡ None) × All (λ d. All IsTrueClaim (def_claims t d)) t
  remains_none i past r = (
    r.fault ∙ ap (table_refusal t i) (drop_all i t past),
    r.holds (subst (All (λ (x : TypeDef). All IsTrueClaim (def_claims t x))) (sym (drop_all i t past)) (All-nil (λ (x : TypeDef). All IsTrueClaim (def_claims t x)))),
  )

  -- a definition whose body is a name, and another
  pub name_false : (d : TypeDef) → is_name d.body ≡ true → IsRefusal (first_refusal (def_claims t d)) (False 1 d.params None)
  name_false d e = ap (λ b. first_refusal (Shape 1 d.params (not b) ∷ claims_of t d.params [] d.body)) e

  pub body_judged : {X : Type 0} (d : TypeDef) (n : ℕ) (ps : _) (r : Result X Refusal) → is_name d.body ≡ false → n ≡ d.params → ps ≡ [] → Judges (claims_of t n ps d.body) r → Judges (def_claims t d) r
  body_judged {X} d n ps r e f g h =
      judges_after (def_claims t d) (Shape 1 d.params (not (is_name d.body)) ∷ []) (claims_of t d.params [] d.body) r refl
      (ap (λ b. first_refusal (Shape 1 d.params (not b) ∷ [])) e, All-cons IsTrueClaim (Shape 1 d.params (not (is_name d.body))) [] (ap not e) (All-nil IsTrueClaim))
      (subst (λ k. Judges (claims_of t k [] d.body) r) f (subst (λ qs. Judges (claims_of t n qs d.body) r) g h))

-- ---- equations

-- what is said unless memory is wanted, by what it leads to
unless_of : (w : SameErr) (T U : Type 0) → (T → U) → unless_memory w T → unless_memory w U
unless_of (err.Fails path vars values) T U f h = f h
unless_of (err.Wanted path) T U f h = f h
unless_of err.Left T U f h = f h
unless_of (err.Bound b) T U f h = f h
unless_of err.Memory T U f h = tt

-- the number of a place, where there are few places
pub next_below : (i n m : ℕ) → i < n → n + 1 < m → i + 1 < m
next_below i n m lt few = omega arith

-- the answer, where something is wrong
pub answers_from : {X : Type 0} (o : Option EquationErr) (y : EquationErr) (r : Result X EquationErr) → IsErrAnd r (λ f. f ≡ y) → unless_memory y.why (o ≡ Some y) → AnswersEquations o r
answers_from {X} o y (Ok x) is h = absurd is
answers_from {X} o y (Err f) is h = subst (λ (z : EquationErr). unless_memory z.why (o ≡ Some z)) (sym is) h

-- what is wrong with an equation comes before what is wrong with the later ones
wrong_first : (k : ℕ) (p : Option (ℕ × SameErr)) (q : Option EquationErr) (y : EquationErr) → or_equation k p None ≡ Some y → or_equation k p q ≡ Some y
wrong_first k None q y h = absurd (cc)
wrong_first k (Some x) q y h = h

-- a premise, with the number of its equation
pub premise_numbered : (k : ℕ) (p : Option (ℕ × SameErr)) (x : ℕ × SameErr) → unless_memory x.1 (p ≡ Some x) → unless_memory x.1 (or_equation k p None ≡ Some (equation_err k x))
premise_numbered k p x h = unless_of x.1 (p ≡ Some x) (or_equation k p None ≡ Some (equation_err k x)) (λ e. ap (λ (o : Option (ℕ × SameErr)). or_equation k o None) e) h

module _ (t : Table) (es : List Equation) where
  abbrev IsGood : Equation → Type 0
  IsGood e = All (λ x. IsTruePoint x.1) (equation_points t es e)

  -- what is wrong first is among the equations from this one on
  pub record Rests (i : ℕ) : Type 0 where
    pub fault : equations_fault t es 1 es ≡ equations_fault t es (i + 1) (drop i es)
    pub holds : All (λ e. All (λ x. IsTruePoint x.1) (equation_points t es e)) (drop i es) → All (λ e. All (λ x. IsTruePoint x.1) (equation_points t es e)) es

  pub rests_first : Rests 0
  rests_first = record { fault = refl; holds = λ h. h }

  equation_next : (i : ℕ) (e : Equation) → i < length es → e ≡ get_or es i e → drop i es ≡ e ∷ drop (i + 1) es
  equation_next i e lt is = drop-cons es i e lt ∙ ap₂ (λ (x : Equation) j. x ∷ drop j es) (sym is) (sym (add-one i))

  fault_next : (i : ℕ) (e : Equation) → i < length es → e ≡ get_or es i e →
      equations_fault t es (i + 1) (drop i es) ≡ or_equation (i + 1) (first_premise (equation_points t es e)) (equations_fault t es (i + 1 + 1) (drop (i + 1) es))
  fault_next i e lt is =
      ap (equations_fault t es (i + 1)) (equation_next i e lt is)
      ∙ ap (λ j. or_equation (i + 1) (first_premise (equation_points t es e)) (equations_fault t es j (drop (i + 1) es))) (sym (add-one (i + 1)))

  pub rests_next : (i : ℕ) (e : Equation) → i < length es → e ≡ get_or es i e → Rests i → (first_premise (equation_points t es e) ≡ None) × All (λ x. IsTruePoint x.1) (equation_points t es e) → Rests (i + 1)
  rests_next i e lt is r h = record {
    fault = r.fault ∙ fault_next i e lt is ∙ ap (λ o. or_equation (i + 1) o (equations_fault t es (i + 1 + 1) (drop (i + 1) es))) h.0;
    holds = λ k. r.holds (subst (All IsGood) (sym (equation_next i e lt is)) (All-cons IsGood e (drop (i + 1) es) h.1 k));
  }

  -- the equation with this number is wrong
  pub rests_false : (i n : ℕ) (e : Equation) (y : EquationErr) → n ≡ i + 1 → i < length es → e ≡ get_or es i e → Rests i → unless_memory y.why (or_equation n (first_premise (equation_points t es e)) None ≡ Some y) →
      unless_memory y.why (equations_fault t es 1 es ≡ Some y)
  rests_false i n e y at lt is r h =
      let p = first_premise (equation_points t es e) in
      unless_of y.why (or_equation n p None ≡ Some y) (equations_fault t es 1 es ≡ Some y)
      (λ s. r.fault ∙ fault_next i e lt is ∙ wrong_first (i + 1) p (equations_fault t es (i + 1 + 1) (drop (i + 1) es)) y (ap (λ k. or_equation k p None) (sym at) ∙ s)) h

  pub rests_none : (i : ℕ) → length es ≤ i → Rests i → (equations_fault t es 1 es ≡ None) × All (λ e. All (λ x. IsTruePoint x.1) (equation_points t es e)) es
  rests_none i past r =
      (r.fault ∙ ap (equations_fault t es (i + 1)) (drop_all i es past), r.holds (subst (All IsGood) (sym (drop_all i es past)) (All-nil IsGood)))
