-- The first error of a list: none where nothing is wrong, and else an error of one of its elements.
use Rattle.std.proofs.Common.{◌≡◌, ℕ, Bool, true, false, List, [], ◌∷◌, length, Option, Some, None, refl, sym, subst, ◌∙◌, true≢false}
use Rattle.std.specs.List.{list_all, AllByRecursion}
use Rattle.rast_index.specs.Truth.{Follows}
use Rattle.rast_index.specs.declared.formula.Formula.{Formula}
use Rattle.rast_equal.specs.Valid.{Claim, Asks as CAsks, Shape as CShape, Over as COver, IsTrueClaim}
use Rattle.rast_equal.specs.Walk.{Point, Asks, Wanted, Never, TooMany, Bound, IsTruePoint, same_points}
use Rattle.rast_equal.specs.declared.answer.SameErr.{SameErr}
use Rattle.rast_equal.specs.declared.answer.SameErr.TheVariants as same
use Rattle.rast_rules.specs.Rules.{Program, defs, IsTruePremise}
use Rattle.rast_rules.specs.declared.judgement.Judgement.{Judgement}
use Rattle.rast_rules.specs.declared.premise.Premise.{Premise}
use Rattle.rast_rules.specs.declared.premise.Premise.TheVariants.{Truth, Shape, Same, Passed}
use Rattle.rast_types.specs.declared.stop.Stop.{Stop}
use Rattle.rast_types.specs.declared.stop.Stop.TheVariants as stop
use Rattle.rast_check.specs.Questions.{Decision, Verdict, Holds, Fails, Limits, unless, point_error, or_else, first_error, Question, OfType, OfDecl, OfEquation, OfLimit, OfPremise, IsTrueQuestion, Refusal, BadType, TypeBound, BadDecl, DeclBound, BadEquation, StopsAt, in_scope, is_asked, is_placed, are_compared, claim_error, same_refusal, premise_error, point_refusal, refusal, is_bound}
use Rattle.std.proofs.lemmas.List.Elements.{All-from_recursion, recursion_from_All}

no_some : {X : Type 0} (x : X) → Some x ≡ None → ⊥
no_some {X} x h = cc

-- where the decision holds, the goal follows
abbrev pub IsSoundly : Decision → Type 0
IsSoundly v = (n : ℕ) (ps : List Formula) (goal : Formula) → v n ps goal ≡ Holds → Follows n ps goal

-- where it fails, the goal doesn't follow
abbrev pub IsRefuting : Decision → Type 0
IsRefuting v = (n : ℕ) (ps : List Formula) (goal : Formula) (vs : List ℕ) → v n ps goal ≡ Fails vs → Follows n ps goal → ⊥

pub unless_none : {E : Type 0} (w : Verdict) (f : List ℕ → E) (s : Stop → E) → unless w f s ≡ None → w ≡ Holds
unless_none {E} Holds f s h = refl
unless_none {E} (Fails vs) f s h = absurd (no_some (f vs) h)
unless_none {E} (Limits l) f s h = absurd (no_some (s l) h)

-- an error of an obligation that is true is a stop
pub unless_some : {E : Type 0} (v : Decision) (n : ℕ) (ps : List Formula) (goal : Formula) (f : List ℕ → E) (s : Stop → E) (e : E) → IsRefuting v → Follows n ps goal → unless (v n ps goal) f s ≡ Some e → (l : Stop) × (s l ≡ e)
unless_some {E} v n ps goal f s e r t h = by_verdict v n ps goal f s e r t (v n ps goal) refl h
  where
    by_verdict : {E : Type 0} (v : Decision) (n : ℕ) (ps : List Formula) (goal : Formula) (f : List ℕ → E) (s : Stop → E) (e : E) → IsRefuting v → Follows n ps goal → (w : Verdict) → v n ps goal ≡ w → unless w f s ≡ Some e → (l : Stop) × (s l ≡ e)
    by_verdict {E} v n ps goal f s e r t Holds k h = absurd (let c : None ≡ Some e = h in cc)
    by_verdict {E} v n ps goal f s e r t (Fails vs) k h = absurd (r n ps goal vs k t)
    by_verdict {E} v n ps goal f s e r t (Limits l) k h = (l, inside (s l) e h)
      where
        inside : {E : Type 0} (a b : E) → Some a ≡ Some b → a ≡ b
        inside {E} a b h = cc

pub or_else_none : {E : Type 0} (a b : Option E) → or_else a b ≡ None → (a ≡ None) × (b ≡ None)
or_else_none {E} None b h = (refl, h)
or_else_none {E} (Some e) b h = absurd (no_some e h)

pub first_none : {A E : Type 0} (f : A → Option E) (xs : List A) → first_error f xs ≡ None → AllByRecursion (λ x. f x ≡ None) xs
first_none {A} {E} f [] h = tt
first_none {A} {E} f (x ∷ xs) h = let k = or_else_none (f x) (first_error f xs) h in (k.0, first_none f xs k.1)

pub first_some : {A E : Type 0} (f : A → Option E) (P : A → Type 0) (Q : E → Type 0) (e : E) → ((x : A) → P x → f x ≡ Some e → Q e) → (xs : List A) → AllByRecursion P xs → first_error f xs ≡ Some e → Q e
first_some {A} {E} f P Q e g [] h k = absurd (let c : None ≡ Some e = k in cc)
first_some {A} {E} f P Q e g (x ∷ xs) h k = at f P Q e g x h.0 (first_error f xs) (first_some f P Q e g xs h.1) (f x) refl k
  where
    at : {A E : Type 0} (f : A → Option E) (P : A → Type 0) (Q : E → Type 0) (e : E) → ((x : A) → P x → f x ≡ Some e → Q e) → (x : A) → P x → (more : Option E) → (more ≡ Some e → Q e) → (o : Option E) → f x ≡ o → or_else o more ≡ Some e → Q e
    at {A} {E} f P Q e g x p more m None d k = m k
    at {A} {E} f P Q e g x p more m (Some a) d k = g x p (d ∙ k)

-- ---- points of a walk

pub point_none : (v : Decision) → IsSoundly v → (p : Point) → point_error v p ≡ None → IsTruePoint p
point_none v s (Asks p goal) h = s p.vars p.premises goal (unless_none _ _ _ h)
point_none v s (Wanted path) h = absurd (no_some _ h)
point_none v s (Never p) h = absurd (no_some _ h)
point_none v s TooMany h = absurd (no_some _ h)
point_none v s (Bound l) h = absurd (no_some _ h)

abbrev pub is_stop : SameErr → Bool
is_stop (same.Bound s) = true
is_stop e = false

stop_of : (l : Stop) (e : SameErr) → same.Bound l ≡ e → is_stop e ≡ true
stop_of l e h = subst (λ (x : SameErr). is_stop x ≡ true) h refl

pub point_some : (v : Decision) → IsRefuting v → (p : Point) (e : SameErr) → IsTruePoint p → point_error v p ≡ Some e → is_stop e ≡ true
point_some v r (Asks p goal) e t h = let k = unless_some v p.vars p.premises goal _ _ e r t h in stop_of k.0 e k.1
point_some v r (Wanted path) e t h = absurd t
point_some v r (Never p) e t h = absurd t
point_some v r TooMany e t h = absurd t
point_some v r (Bound l) e t h = absurd t

-- ---- questions

same_none : (n k : ℕ) (o : Option SameErr) → same_refusal n k o ≡ None → o ≡ None
same_none n k None h = refl
same_none n k (Some (same.Bound s)) h = absurd (no_some _ h)
same_none n k (Some (same.Fails path vars vs)) h = absurd (no_some _ h)
same_none n k (Some (same.Wanted path)) h = absurd (no_some _ h)
same_none n k (Some same.Left) h = absurd (no_some _ h)
same_none n k (Some same.Memory) h = absurd (no_some _ h)

scope_none : (n k : ℕ) (b : Bool) (o : Option Refusal) → in_scope n k b o ≡ None → o ≡ None
scope_none n k true o h = h
scope_none n k false o h = absurd (no_some _ h)

premise_none : (v : Decision) → IsSoundly v → (g : Program) (n k : ℕ) (j : Judgement) (p : Premise) → premise_error v g n k j p ≡ None → IsTruePremise g j p
premise_none v s g n k j (Truth goal) h = s j.ctx.vars j.ctx.premises goal (unless_none _ _ _ (scope_none n k (is_asked j.ctx.vars j.ctx.premises goal) _ h))
premise_none v s g n k j (Shape true w) h = refl
premise_none v s g n k j (Shape false w) h = absurd (no_some _ h)
premise_none v s g n k j (Same a b rs) h =
    let ps = same_points g.equations j.ctx.vars j.ctx.premises a b rs in
    All-from_recursion IsTruePoint ps (to_true v s ps (first_none (point_error v) ps (same_none n k (first_error (point_error v) ps) (scope_none n k (list_all is_placed ps) _ (scope_none n k (are_compared j.ctx.vars j.ctx.premises a b) _ h)))))
  where
    to_true : (v : Decision) → IsSoundly v → (ps : List Point) → AllByRecursion (λ p. point_error v p ≡ None) ps → AllByRecursion IsTruePoint ps
    to_true v s [] h = tt
    to_true v s (p ∷ ps) h = (point_none v s p h.0, to_true v s ps h.1)
premise_none v s g n k j (Passed l) h = absurd (no_some _ h)

claim_none : (v : Decision) → IsSoundly v → (c : Claim) (bad : ℕ → ℕ → Option (List ℕ) → Refusal) (stops : Stop → Refusal) → claim_error v c bad stops ≡ None → IsTrueClaim c
claim_none v s (CAsks rule n ps goal) bad stops h = s n ps goal (unless_none _ _ _ h)
claim_none v s (CShape rule n true) bad stops h = refl
claim_none v s (CShape rule n false) bad stops h = absurd (no_some _ h)
claim_none v s COver bad stops h = absurd (no_some _ h)

point_refusal_none : (n k : ℕ) (o : Option SameErr) → point_refusal n k o ≡ None → o ≡ None
point_refusal_none n k None h = refl
point_refusal_none n k (Some e) h = absurd (no_some _ h)

-- a question without a refusal is true
pub question_none : (v : Decision) → IsSoundly v → (g : Program) (q : Question) → refusal v g q ≡ None → IsTrueQuestion g q
question_none v s g (OfType d c) h = claim_none v s c (BadType d) (TypeBound d) h
question_none v s g (OfDecl d c) h = claim_none v s c (BadDecl d (length (defs g))) (DeclBound d (length (defs g))) h
question_none v s g (OfEquation n k p) h = point_none v s p (point_refusal_none n k (point_error v p) h)
question_none v s g (OfLimit n l) h = absurd (no_some _ h)
question_none v s g (OfPremise n k j p) h = premise_none v s g n k j p h

bound_of : (r e : Refusal) → is_bound r ≡ true → r ≡ e → is_bound e ≡ true
bound_of r e b h = subst (λ (x : Refusal). is_bound x ≡ true) h b

some_same : {X : Type 0} (a b : X) → Some a ≡ Some b → a ≡ b
some_same {X} a b h = cc

claim_some : (v : Decision) → IsRefuting v → (c : Claim) (bad : ℕ → ℕ → Option (List ℕ) → Refusal) (stops : Stop → Refusal) → ((l : Stop) → is_bound (stops l) ≡ true) → (e : Refusal) → IsTrueClaim c → claim_error v c bad stops ≡ Some e → is_bound e ≡ true
claim_some v r (CAsks rule n ps goal) bad stops b e t h = let k = unless_some v n ps goal _ stops e r t h in bound_of (stops k.0) e (b k.0) k.1
claim_some v r (CShape rule n true) bad stops b e t h = absurd (let c : None ≡ Some e = h in cc)
claim_some v r (CShape rule n false) bad stops b e t h = absurd (true≢false (sym t))
claim_some v r COver bad stops b e t h = absurd t

pub same_some : (n k : ℕ) (o : Option SameErr) (e : Refusal) → ((x : SameErr) → o ≡ Some x → is_stop x ≡ true) → same_refusal n k o ≡ Some e → is_bound e ≡ true
same_some n k None e f h = absurd (let c : None ≡ Some e = h in cc)
same_some n k (Some (same.Bound s)) e f h = bound_of (StopsAt n k s) e refl (some_same _ _ h)
same_some n k (Some (same.Fails path vars vs)) e f h = absurd (true≢false (sym (f (same.Fails path vars vs) refl)))
same_some n k (Some (same.Wanted path)) e f h = absurd (true≢false (sym (f (same.Wanted path) refl)))
same_some n k (Some same.Left) e f h = absurd (true≢false (sym (f same.Left refl)))
same_some n k (Some same.Memory) e f h = absurd (true≢false (sym (f same.Memory refl)))

scope_some : (n k : ℕ) (b : Bool) (o : Option Refusal) (e : Refusal) → (o ≡ Some e → is_bound e ≡ true) → in_scope n k b o ≡ Some e → is_bound e ≡ true
scope_some n k true o e f h = f h
scope_some n k false o e f h = bound_of (StopsAt n k stop.Variables) e refl (some_same _ _ h)

premise_some : (v : Decision) → IsRefuting v → (g : Program) (n k : ℕ) (j : Judgement) (p : Premise) (e : Refusal) → IsTruePremise g j p → premise_error v g n k j p ≡ Some e → is_bound e ≡ true
premise_some v r g n k j (Truth goal) e t d = scope_some n k (is_asked j.ctx.vars j.ctx.premises goal) _ e (λ h. let u = unless_some v j.ctx.vars j.ctx.premises goal _ (StopsAt n k) e r t h in bound_of (StopsAt n k u.0) e refl u.1) d
premise_some v r g n k j (Shape true w) e t h = absurd (let c : None ≡ Some e = h in cc)
premise_some v r g n k j (Shape false w) e t h = absurd (true≢false (sym t))
premise_some v r g n k j (Same a b rs) e t h =
    let ps = same_points g.equations j.ctx.vars j.ctx.premises a b rs in
    scope_some n k (are_compared j.ctx.vars j.ctx.premises a b) _ e (scope_some n k (list_all is_placed ps) _ e (same_some n k (first_error (point_error v) ps) e (λ x d. first_some (point_error v) IsTruePoint (λ y. is_stop y ≡ true) x (λ p i m. point_some v r p x i m) ps (recursion_from_All IsTruePoint ps t) d))) h
premise_some v r g n k j (Passed l) e t h = absurd t

pub point_refusal_some : (n k : ℕ) (o : Option SameErr) (e : Refusal) → ((x : SameErr) → o ≡ Some x → is_stop x ≡ true) → point_refusal n k o ≡ Some e → is_bound e ≡ true
point_refusal_some n k None e f h = absurd (let c : None ≡ Some e = h in cc)
point_refusal_some n k (Some (same.Bound s)) e f h = bound_of (BadEquation n k (same.Bound s)) e refl (some_same _ _ h)
point_refusal_some n k (Some (same.Fails path vars vs)) e f h = absurd (true≢false (sym (f (same.Fails path vars vs) refl)))
point_refusal_some n k (Some (same.Wanted path)) e f h = absurd (true≢false (sym (f (same.Wanted path) refl)))
point_refusal_some n k (Some same.Left) e f h = absurd (true≢false (sym (f same.Left refl)))
point_refusal_some n k (Some same.Memory) e f h = absurd (true≢false (sym (f same.Memory refl)))

-- a refusal of a true question is a bound
pub question_some : (v : Decision) → IsRefuting v → (g : Program) (q : Question) (e : Refusal) → IsTrueQuestion g q → refusal v g q ≡ Some e → is_bound e ≡ true
question_some v r g (OfType d c) e t h = claim_some v r c (BadType d) (TypeBound d) (λ l. refl) e t h
question_some v r g (OfDecl d c) e t h = claim_some v r c (BadDecl d (length (defs g))) (DeclBound d (length (defs g))) (λ l. refl) e t h
question_some v r g (OfEquation n k p) e t h = point_refusal_some n k (point_error v p) e (λ x d. point_some v r p x t d) h
question_some v r g (OfLimit n l) e t h = absurd t
question_some v r g (OfPremise n k j p) e t h = premise_some v r g n k j p e t h
