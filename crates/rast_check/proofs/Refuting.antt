-- What is refused, and not for a bound, is false.
use Rattle.std.proofs.Common.{◌≡◌, ℕ, ◌≤◌, Bool, true, false, nat_le, List, [], ◌∷◌, length, Option, Some, None, Result, Ok, Err, refl, sym, ◌∙◌, subst, true≢false}
use Rattle.std.specs.List.{list_all, AllByRecursion}
use Rattle.std.specs.Prelude.{IfErr, All}
use Rattle.std.proofs.lemmas.Bool.{leb-true}
use Rattle.rast_cooper.proofs.Closed.{and_true}
use Rattle.rast_cooper.proofs.Obligation.{tells}
use Rattle.rast_cooper.specs.Verdicts.{is_within, verdict, most_states, Tells}
use Rattle.rast_cooper.specs.declared.verdict.Verdict as cooper
use Rattle.rast_cooper.specs.declared.verdict.Verdict.TheVariants as verdicts
use Rattle.rast_equal.specs.Valid.{Claim, Asks as CAsks, Shape as CShape, Over as COver, IsTrueClaim}
use Rattle.rast_equal.specs.declared.answer.SameErr.{SameErr}
use Rattle.rast_equal.specs.declared.answer.SameErr.TheVariants as same
use Rattle.rast_equal.specs.declared.validity.TypeErr.{TypeErr}
use Rattle.rast_equal.specs.declared.validity.TypeErr.TheVariants as type
use Rattle.rast_equal.specs.Walk.{Point, Asks, Wanted, Never, TooMany, Bound, IsTruePoint, same_points}
use Rattle.rast_index.specs.Truth.{Follows}
use Rattle.rast_index.specs.declared.formula.Formula.{Formula}
use Rattle.rast_rules.specs.Rules.{Program, defs, IsTruePremise, IsAccepted}
use Rattle.rast_rules.specs.declared.judgement.Judgement.{Judgement}
use Rattle.rast_rules.specs.declared.premise.Evidence.TheVariants as why
use Rattle.rast_rules.specs.declared.premise.Premise.{Premise}
use Rattle.rast_rules.specs.declared.premise.Premise.TheVariants.{Truth, Shape, Same, Passed}
use Rattle.rast_types.specs.declared.stop.Stop.{Stop}
use Rattle.rast_types.specs.declared.stop.Stop.TheVariants as stop
use Rattle.rast_check.specs.Decided.{as_verdict, searched}
use Rattle.rast_check.specs.Formed.{IsFormed}
use Rattle.rast_check.specs.Questions.{unless, Question, OfType, OfDecl, OfEquation, OfLimit, OfPremise, IsTrueQuestion, Refusal, BadType, TypeBound, BadDecl, DeclBound, BadEquation, Refused, StopsAt, are_compared, claim_error, first_error, in_scope, is_asked, is_bound, is_placed, is_scope, point_error, premise_error, questions, refusal, walk_error, answer}
use Rattle.rast_check.specs.Refusals.{Asked, IsDeclRefusal, IsEquationRefusal, IsRefusal, IsTypeRefusal}
use Rattle.rast_check.specs.Shown.{Refutes, RefutesSame, RefutesType}
use Rattle.rast_check.specs.declared.answer.CheckErr.{CheckErr}
use Rattle.rast_check.specs.declared.answer.CheckErr.TheVariants as err
use Rattle.rast_check.proofs.Answers.{first_some, is_stop, point_refusal_some, same_some}
use Rattle.rast_check.proofs.Claiming.{InScope}
use Rattle.rast_check.proofs.Decisions.{refuted_by}
use Rattle.std.proofs.lemmas.List.Elements.{recursion_from_All}
use Rattle.rast_check.proofs.Pointing.{PointIn, all_in}
use Rattle.rast_check.proofs.Laws.{all_true}
use Rattle.rast_check.proofs.Scoping.{Placed, all_placed}

none_some : {X : Type 0} (x : X) → None ≡ Some x → ⊥
none_some {X} x h = cc

inside : {X : Type 0} (a b : X) → Some a ≡ Some b → a ≡ b
inside {X} a b h = cc

only : {X : Type 0} (Q : X → Type 0) (a r : X) → Q a → Some a ≡ Some r → Q r
only {X} Q a r h e = subst Q (inside a r e) h

abbrev IsBound : Refusal → Type 0
IsBound r = is_bound r ≡ true

abbrev IsStop : SameErr → Type 0
IsStop e = is_stop e ≡ true

-- a goal that follows and is in scope is at most undecided
goal_stops : {E : Type 0} (Q : E → Type 0) (m : ℕ) (ps : List Formula) (goal : Formula) (bad : List ℕ → E) (stops : Stop → E) (r : E) → ((s : Stop) → Q (stops s)) → is_asked m ps goal ≡ true → Follows m ps goal →
    unless (searched m ps goal) bad stops ≡ Some r → Q r
goal_stops {E} Q m ps goal bad stops r s a f h =
    let p = and_true (is_scope m ps) (is_within m goal) a in
    let q = and_true (nat_le m 16) (list_all (is_within m) ps) p.0 in
    let few = leb-true m 16 q.0 in
    by few (verdict most_states m ps goal) (tells m ps goal few q.1 p.1 most_states) h
  where
    by : m ≤ 16 → (w : cooper.Verdict) → Tells m ps goal w → unless (as_verdict w) bad stops ≡ Some r → Q r
    by few verdicts.Holds t h = absurd (none_some r h)
    by few (verdicts.Fails vs) t h = absurd (refuted_by m ps goal vs (verdicts.Fails vs) few t refl f)
    by few verdicts.NodeLimit t h = only Q (stops stop.NodeLimit) r (s stop.NodeLimit) h
    by few verdicts.NumberLimit t h = only Q (stops stop.NumberLimit) r (s stop.NumberLimit) h

claim_bound : (c : Claim) (bad : ℕ → ℕ → Option (List ℕ) → Refusal) (stops : Stop → Refusal) (r : Refusal) → ((s : Stop) → IsBound (stops s)) → InScope c → IsTrueClaim c → claim_error searched c bad stops ≡ Some r → IsBound r
claim_bound (CAsks rule n ps goal) bad stops r s i t h = goal_stops IsBound n ps goal (λ vs. bad rule n (Some vs)) stops r s i t h
claim_bound (CShape rule n true) bad stops r s i t h = absurd (none_some r h)
claim_bound (CShape rule n false) bad stops r s i t h = absurd (true≢false (sym t))
claim_bound COver bad stops r s i t h = absurd t

point_stops : (p : Point) (e : SameErr) → PointIn p → IsTruePoint p → point_error searched p ≡ Some e → IsStop e
point_stops (Asks p goal) e i t h = goal_stops IsStop p.vars p.premises goal (λ vs. same.Fails p.path p.vars vs) (λ l. same.Bound l) e (λ s. refl) i t h
point_stops (Wanted path) e i t h = absurd t
point_stops (Never p) e i t h = absurd t
point_stops TooMany e i t h = absurd t
point_stops (Bound s) e i t h = absurd t

both_every : {X : Type 0} (P Q : X → Type 0) (xs : List X) → AllByRecursion P xs → AllByRecursion Q xs → AllByRecursion (λ x. P x × Q x) xs
both_every {X} P Q [] h k = tt
both_every {X} P Q (x ∷ xs) h k = ((h.0, k.0), both_every P Q xs h.1 k.1)

walk_stops : (xs : List Point) (e : SameErr) → list_all is_placed xs ≡ true → All IsTruePoint xs → first_error (point_error searched) xs ≡ Some e → IsStop e
walk_stops xs e i t h =
    first_some (point_error searched) (λ (p : Point). PointIn p × IsTruePoint p) IsStop e (λ p k d. point_stops p e k.0 k.1 d) xs
    (both_every PointIn IsTruePoint xs (all_in xs i) (recursion_from_All IsTruePoint xs t)) h

scope_bound : (n k : ℕ) (b : Bool) (o : Option Refusal) (r : Refusal) → (b ≡ true → o ≡ Some r → IsBound r) → in_scope n k b o ≡ Some r → IsBound r
scope_bound n k true o r f h = f refl h
scope_bound n k false o r f h = only IsBound (StopsAt n k stop.Variables) r refl h

walk_bound : (n k : ℕ) (xs : List Point) (r : Refusal) → All IsTruePoint xs → walk_error searched xs n k ≡ Some r → IsBound r
walk_bound n k xs r t h = scope_bound n k (list_all is_placed xs) _ r (λ i e. same_some n k (first_error (point_error searched) xs) r (λ x d. walk_stops xs x i t d) e) h

premise_bound : (g : Program) (n k : ℕ) (j : Judgement) (p : Premise) (r : Refusal) → IsTruePremise g j p → premise_error searched g n k j p ≡ Some r → IsBound r
premise_bound g n k j (Truth goal) r t h = scope_bound n k (is_asked j.ctx.vars j.ctx.premises goal) _ r (λ a e. goal_stops IsBound j.ctx.vars j.ctx.premises goal (λ vs. Refused n k (why.Fails j.ctx.vars vs)) (StopsAt n k) r (λ s. refl) a t e) h
premise_bound g n k j (Shape true w) r t h = absurd (none_some r h)
premise_bound g n k j (Shape false w) r t h = absurd (true≢false (sym t))
premise_bound g n k j (Same a b rs) r t h = scope_bound n k (are_compared j.ctx.vars j.ctx.premises a b) _ r (λ c e. walk_bound n k (same_points g.equations j.ctx.vars j.ctx.premises a b rs) r t e) h
premise_bound g n k j (Passed s) r t h = absurd t

question_bound : (g : Program) (q : Question) (r : Refusal) → Placed q → IsTrueQuestion g q → refusal searched g q ≡ Some r → IsBound r
question_bound g (OfType d c) r i t h = claim_bound c (BadType d) (TypeBound d) r (λ s. refl) i t h
question_bound g (OfDecl d c) r i t h = claim_bound c (BadDecl d (length (defs g))) (DeclBound d (length (defs g))) r (λ s. refl) i t h
question_bound g (OfEquation n k p) r i t h = point_refusal_some n k (point_error searched p) r (λ x d. point_stops p x i t d) h
question_bound g (OfLimit n s) r i t h = absurd t
question_bound g (OfPremise n k j p) r i t h = premise_bound g n k j p r t h

-- a refusal that is no bound is of a program that isn't accepted
shown_refuses : (g : Program) (r : Refusal) → IsFormed g → answer searched g ≡ Some r → is_bound r ≡ false → IsAccepted g → ⊥
shown_refuses g r f h s a =
    true≢false (sym (first_some (refusal searched g) (λ q. Placed q × IsTrueQuestion g q) IsBound r (λ q t e. question_bound g q r t.0 t.1 e) (questions g)
    (both_every Placed (IsTrueQuestion g) (questions g) (all_placed g f) (all_true g a)) h) ∙ s)

type_refutes : (g : Program) (e : TypeErr) → IsFormed g → IsTypeRefusal (answer searched g) e → RefutesType g e
type_refutes g (type.Invalid d rule n vs) f h = λ a. shown_refuses g (BadType d rule n vs) f h refl a
type_refutes g (type.Bound d s) f h = tt
type_refutes g type.Memory f h = tt

decl_refutes : (g : Program) (k : ℕ) (e : TypeErr) → IsFormed g → IsDeclRefusal (answer searched g) k e → RefutesType g e
decl_refutes g k (type.Invalid d rule n vs) f h = λ a. shown_refuses g (BadDecl k d rule n vs) f h refl a
decl_refutes g k (type.Bound d s) f h = tt
decl_refutes g k type.Memory f h = tt

equation_refutes : (g : Program) (n k : ℕ) (e : SameErr) → IsFormed g → IsEquationRefusal (answer searched g) n k e → RefutesSame g e
equation_refutes g n k (same.Fails path vars vs) f h = λ a. shown_refuses g (BadEquation n k (same.Fails path vars vs)) f h refl a
equation_refutes g n k (same.Wanted path) f h = λ a. shown_refuses g (BadEquation n k (same.Wanted path)) f h refl a
equation_refutes g n k same.Left f h = λ a. shown_refuses g (BadEquation n k same.Left) f h refl a
equation_refutes g n k (same.Bound s) f h = tt
equation_refutes g n k same.Memory f h = tt

-- what is refused, and isn't only undecided or over a limit, is of a program that isn't accepted
refutes : (g : Program) (e : CheckErr) → IsFormed g → IsRefusal (answer searched g) e → Refutes g e
refutes g (err.BadType e) f h = type_refutes g e f h
refutes g (err.BadDecl k e) f h = decl_refutes g k e f h
refutes g (err.BadEquation e) f h = equation_refutes g e.number e.premise e.why f h
refutes g (err.Refused n k evidence) f h = λ a. shown_refuses g (Refused n k evidence) f h refl a
refutes g (err.Bound n k t) f h = tt
refutes g (err.Limit n t) f h = tt
refutes g err.Memory f h = tt

pub refutes_all : {X : Type 0} (g : Program) (r : Result X CheckErr) → IsFormed g → Asked g (questions g) r → IfErr r (Refutes g)
refutes_all {X} g (Ok x) f h = tt
refutes_all {X} g (Err e) f h = refutes g e f h
