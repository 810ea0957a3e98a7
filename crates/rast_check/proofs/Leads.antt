-- Questions one after the other: the first that is refused of all is the first of those that are left.
use Rattle.std.proofs.Common.{◌≡◌, ℕ, List, [], ◌∷◌, ◌++◌, Option, Some, None, Result, Ok, Err, refl, sym, ap, ◌∙◌, subst, All}
use Rattle.std.specs.Result.{IsErrAnd}
use Rattle.std.proofs.lemmas.List.Elements.{All-nil, All-from_recursion, recursion_from_All}
use Rattle.rast_equal.specs.declared.answer.SameErr.{SameErr}
use Rattle.rast_equal.specs.declared.answer.SameErr.TheVariants as same
use Rattle.rast_equal.specs.declared.validity.TypeErr.{TypeErr}
use Rattle.rast_equal.specs.declared.validity.TypeErr.TheVariants as type
use Rattle.rast_rules.specs.Rules.{Program}
use Rattle.rast_check.specs.Decided.{searched}
use Rattle.rast_check.specs.Questions.{Question, IsTrueQuestion, Refusal, or_else, first_error, refusal}
use Rattle.rast_check.specs.Refusals.{IsTypeRefusal, IsDeclRefusal, IsEquationRefusal, IsRefusal, Clears, Asked}
use Rattle.rast_check.specs.declared.answer.CheckErr.{CheckErr}
use Rattle.rast_check.specs.declared.answer.CheckErr.TheVariants as err
use Rattle.rast_check.proofs.Every.{every_append}

pub or_else_assoc : {E : Type 0} (a b c : Option E) → or_else (or_else a b) c ≡ or_else a (or_else b c)
or_else_assoc {E} None b c = refl
or_else_assoc {E} (Some e) b c = refl

pub error_append : {A E : Type 0} (f : A → Option E) (xs ys : List A) → first_error f (xs ++ ys) ≡ or_else (first_error f xs) (first_error f ys)
error_append {A} {E} f [] ys = refl
error_append {A} {E} f (x ∷ xs) ys = ap (or_else (f x)) (error_append f xs ys) ∙ sym (or_else_assoc (f x) (first_error f xs) (first_error f ys))

abbrev pub error_of : Program → List Question → Option Refusal
error_of g qs = first_error (refusal searched g) qs

pub refusal_is : (o p : Option Refusal) (e : CheckErr) → o ≡ p → IsRefusal o e → IsRefusal p e
refusal_is o p e h k = subst (λ (x : Option Refusal). IsRefusal x e) h k

some_first : (o p : Option Refusal) (r : Refusal) → o ≡ Some r → or_else o p ≡ Some r
some_first o p r h = ap (λ (x : Option Refusal). or_else x p) h

type_first : (o p : Option Refusal) (e : TypeErr) → IsTypeRefusal o e → IsTypeRefusal (or_else o p) e
type_first o p (type.Invalid d r n vs) h = some_first o p _ h
type_first o p (type.Bound d s) h = some_first o p _ h
type_first o p type.Memory h = h

decl_first : (o p : Option Refusal) (k : ℕ) (e : TypeErr) → IsDeclRefusal o k e → IsDeclRefusal (or_else o p) k e
decl_first o p k (type.Invalid d r n vs) h = some_first o p _ h
decl_first o p k (type.Bound d s) h = some_first o p _ h
decl_first o p k type.Memory h = h

equation_first : (o p : Option Refusal) (n k : ℕ) (e : SameErr) → IsEquationRefusal o n k e → IsEquationRefusal (or_else o p) n k e
equation_first o p n k (same.Fails path vars vs) h = some_first o p _ h
equation_first o p n k (same.Wanted path) h = some_first o p _ h
equation_first o p n k same.Left h = some_first o p _ h
equation_first o p n k (same.Bound s) h = some_first o p _ h
equation_first o p n k same.Memory h = h

-- what is refused first of some is refused first of more
pub refusal_first : (o p : Option Refusal) (e : CheckErr) → IsRefusal o e → IsRefusal (or_else o p) e
refusal_first o p (err.BadType e) h = type_first o p e h
refusal_first o p (err.BadDecl k e) h = decl_first o p k e h
refusal_first o p (err.BadEquation e) h = equation_first o p e.number e.premise e.why h
refusal_first o p (err.Refused s k w) h = some_first o p _ h
refusal_first o p (err.Bound s k t) h = some_first o p _ h
refusal_first o p (err.Limit s t) h = some_first o p _ h
refusal_first o p err.Memory h = h

pub error_here : (g : Program) (xs ys : List Question) (e : CheckErr) → IsRefusal (error_of g xs) e → IsRefusal (error_of g (xs ++ ys)) e
error_here g xs ys e h = refusal_is _ _ e (sym (error_append (refusal searched g) xs ys)) (refusal_first (error_of g xs) (error_of g ys) e h)

error_later : (g : Program) (xs ys : List Question) → Clears g xs → error_of g (xs ++ ys) ≡ error_of g ys
error_later g xs ys c = error_append (refusal searched g) xs ys ∙ ap (λ (o : Option Refusal). or_else o (error_of g ys)) c.0

pub clears_none : (g : Program) → Clears g []
clears_none g = (refl, All-nil (IsTrueQuestion g))

true_both : (g : Program) (xs ys : List Question) → All (IsTrueQuestion g) xs → All (IsTrueQuestion g) ys → All (IsTrueQuestion g) (xs ++ ys)
true_both g xs ys h k = All-from_recursion (IsTrueQuestion g) (xs ++ ys) (every_append (IsTrueQuestion g) xs ys (recursion_from_All (IsTrueQuestion g) xs h) (recursion_from_All (IsTrueQuestion g) ys k))

-- these are clear, and then those are answered
pub asked_after : {X : Type 0} (g : Program) (xs ys : List Question) (r : Result X CheckErr) → Clears g xs → Asked g ys r → Asked g (xs ++ ys) r
asked_after {X} g xs ys (Ok x) c h = (error_later g xs ys c ∙ h.0, true_both g xs ys c.1 h.1)
asked_after {X} g xs ys (Err e) c h = refusal_is _ _ e (sym (error_later g xs ys c)) h

pub asked_is : {X : Type 0} (g : Program) (xs ys : List Question) (r : Result X CheckErr) → xs ≡ ys → Asked g ys r → Asked g xs r
asked_is {X} g xs ys r e h = subst (λ (qs : List Question). Asked g qs r) (sym e) h

pub clears_is : (g : Program) (xs ys : List Question) → xs ≡ ys → Clears g ys → Clears g xs
clears_is g xs ys e h = subst (λ (qs : List Question). Clears g qs) (sym e) h

-- ---- what is left to be asked

pub record Leads (g : Program) (all rest : List Question) : Type 0 where
  pub none : error_of g all ≡ error_of g rest
  pub holds : All (IsTrueQuestion g) rest → All (IsTrueQuestion g) all

pub leads_start : (g : Program) (all rest : List Question) → rest ≡ all → Leads g all rest
leads_start g all rest e = subst (λ (qs : List Question). Leads g all qs) (sym e) (record { none = refl; holds = λ h. h })

pub leads_step : (g : Program) (all both xs ys : List Question) → Leads g all both → both ≡ xs ++ ys → Clears g xs → Leads g all ys
leads_step g all both xs ys l e c =
    record {
      none = l.none ∙ ap (error_of g) e ∙ error_later g xs ys c;
      holds = λ h. l.holds (subst (λ (qs : List Question). All (IsTrueQuestion g) qs) (sym e) (true_both g xs ys c.1 h));
    }

pub leads_end : (g : Program) (all rest : List Question) → Leads g all rest → rest ≡ [] → Clears g all
leads_end g all rest l e = (l.none ∙ ap (error_of g) e, l.holds (subst (λ (qs : List Question). All (IsTrueQuestion g) qs) (sym e) (All-nil (IsTrueQuestion g))))

pub leads_stop : (g : Program) (all both xs ys : List Question) (e : CheckErr) → Leads g all both → both ≡ xs ++ ys → IsRefusal (error_of g xs) e → IsRefusal (error_of g all) e
leads_stop g all both xs ys e l d h = refusal_is _ _ e (sym (l.none ∙ ap (error_of g) d)) (error_here g xs ys e h)

-- ---- answers

pub asked_from : {X : Type 0} (g : Program) (qs : List Question) (e : CheckErr) (r : Result X CheckErr) → IsErrAnd r (λ f. f ≡ e) → IsRefusal (error_of g qs) e → Asked g qs r
asked_from {X} g qs e (Ok x) is h = absurd is
asked_from {X} g qs e (Err f) is h = subst (IsRefusal (error_of g qs)) (sym is) h

-- what is refused first of what is left is the answer
pub asked_stop : {X : Type 0} (g : Program) (all both xs ys : List Question) (e : CheckErr) (r : Result X CheckErr) → Leads g all both → both ≡ xs ++ ys → IsErrAnd r (λ f. f ≡ e) → IsRefusal (error_of g xs) e → Asked g all r
asked_stop {X} g all both xs ys e r l d is h = asked_from g all e r is (leads_stop g all both xs ys e l d h)

-- the answer to what is left is the answer
pub asked_last : {X : Type 0} (g : Program) (all rest : List Question) (r : Result X CheckErr) → Leads g all rest → Asked g rest r → Asked g all r
asked_last {X} g all rest (Ok x) l h = (l.none ∙ h.0, l.holds h.1)
asked_last {X} g all rest (Err e) l h = refusal_is _ _ e (sym l.none) h
