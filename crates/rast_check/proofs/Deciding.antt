-- One premise decided.
use Rattle.std.proofs.Common.{◌≡◌, ℕ, ◌+◌, ◌<◌, Bool, true, List, [], ◌∷◌, ◌++◌, drop, length, get_or, Option, Some, None, Result, Ok, refl, sym, ap, ◌∙◌, subst, All}
use Rattle.std.proofs.lemmas.List.{drop_more}
use Rattle.std.proofs.lemmas.List.Elements.{All-nil, All-cons}
use Rattle.rast_equal.specs.Fault.{IsFault, first_fault}
use Rattle.rast_equal.specs.Fit.{AreFit, IsFitEquation}
use Rattle.rast_equal.specs.Walk.{IsSame, same_points, top}
use Rattle.rast_equal.specs.declared.answer.SameErr.{SameErr}
use Rattle.rast_index.specs.Truth.{Follows}
use Rattle.rast_index.specs.declared.formula.Formula.{Formula}
use Rattle.rast_rules.specs.Rules.{Program}
use Rattle.rast_rules.specs.declared.judgement.Judgement.{Judgement}
use Rattle.rast_rules.specs.declared.premise.Premise.{Premise}
use Rattle.rast_rules.specs.declared.premise.Premise.TheVariants.{Truth}
use Rattle.rast_types.specs.declared.equation.Equation.{Equation}
use Rattle.rast_types.specs.declared.equation.Ref.{Ref}
use Rattle.rast_types.specs.declared.ty.Ty.{Ty}
use Rattle.rast_check.specs.Decided.{searched}
use Rattle.rast_check.specs.Questions.{OfPremise, IsTrueQuestion, Refusal, are_compared, asked_at, in_scope, or_else, premise_error, point_error, first_error, same_refusal, truth_error, types_error, walk_error}
use Rattle.rast_check.specs.Refusals.{Answered, AnswersPremise, Clears, IsRefusal, IsWhy}
use Rattle.rast_check.specs.declared.answer.CheckErr.{CheckErr}
use Rattle.rast_check.specs.declared.premise.Why.{Why}
use Rattle.rast_check.proofs.Leads.{error_of}
use Rattle.rast_check.proofs.Lifts.{points_same}
use Rattle.rast_check.proofs.Pointing.{placed_all, same_in}

-- what the walk of two types asks, where they may be compared
compared_error : (g : Program) (j : Judgement) (a b : Ty) (rs : List Ref) (ps : List Formula) (es : List Equation) (t : Bool) → All IsFitEquation g.equations → AreFit (top j.ctx.vars ps) a b → ps ≡ j.ctx.premises → es ≡ g.equations → t ≡ are_compared j.ctx.vars ps a b → t ≡ true →
    (n k : ℕ) → types_error searched g j a b rs n k ≡ same_refusal n k (first_fault (same_points es j.ctx.vars j.ctx.premises a b rs))
compared_error g j a b rs ps es t f fit p e is fits n k =
    let fine : are_compared j.ctx.vars j.ctx.premises a b ≡ true = subst (λ (qs : List Formula). are_compared j.ctx.vars qs a b ≡ true) p (sym is ∙ fits) in
    let xs = same_points g.equations j.ctx.vars j.ctx.premises a b rs in
    ap (λ (x : Bool). in_scope n k x (walk_error searched xs n k)) fine
    ∙ ap (λ (x : Bool). in_scope n k x (same_refusal n k (first_error (point_error searched) xs))) (placed_all xs (same_in g.equations j.ctx.vars j.ctx.premises a b rs f (subst (λ (qs : List Formula). AreFit (top j.ctx.vars qs) a b) p fit)))
    ∙ ap (same_refusal n k) (points_same xs)
    ∙ ap (λ (ys : List Equation). same_refusal n k (first_fault (same_points ys j.ctx.vars j.ctx.premises a b rs))) (sym e)

pub compared_ok : (g : Program) (j : Judgement) (a b : Ty) (rs : List Ref) (ps : List Formula) (es : List Equation) (t : Bool) → All IsFitEquation g.equations → AreFit (top j.ctx.vars ps) a b → ps ≡ j.ctx.premises → es ≡ g.equations → t ≡ are_compared j.ctx.vars ps a b → t ≡ true →
    first_fault (same_points es j.ctx.vars j.ctx.premises a b rs) ≡ None → IsSame es j.ctx.vars j.ctx.premises a b rs →
    ((n k : ℕ) → types_error searched g j a b rs n k ≡ None) × IsSame g.equations j.ctx.vars j.ctx.premises a b rs
compared_ok g j a b rs ps es t f fit p e is fits none same = (
  λ n k. compared_error g j a b rs ps es t f fit p e is fits n k ∙ ap (same_refusal n k) none,
  subst (λ (xs : List Equation). IsSame xs j.ctx.vars j.ctx.premises a b rs) e same,
)

pub compared_err : (g : Program) (j : Judgement) (a b : Ty) (rs : List Ref) (ps : List Formula) (es : List Equation) (t : Bool) (fault-of : SameErr) (w : Why) → All IsFitEquation g.equations → AreFit (top j.ctx.vars ps) a b → ps ≡ j.ctx.premises → es ≡ g.equations → t ≡ are_compared j.ctx.vars ps a b → t ≡ true →
    IsFault (first_fault (same_points es j.ctx.vars j.ctx.premises a b rs)) fault-of → ((o : Option SameErr) (n k : ℕ) → IsFault o fault-of → IsWhy n k (same_refusal n k o) w) →
    (n k : ℕ) → IsWhy n k (types_error searched g j a b rs n k) w
compared_err g j a b rs ps es t fault-of w fs fit p e is fits fault f n k =
    subst (λ (o : Option Refusal). IsWhy n k o w) (sym (compared_error g j a b rs ps es t fs fit p e is fits n k)) (f (first_fault (same_points es j.ctx.vars j.ctx.premises a b rs)) n k fault)

pub truth_answers : {X : Type 0} (g : Program) (j : Judgement) (p : Premise) (goal : Formula) (r : Result X Why) → p ≡ Truth goal → Answered (truth_error searched j goal) (Follows j.ctx.vars j.ctx.premises goal) r → AnswersPremise g j p r
truth_answers {X} g j p goal r e h = subst (λ (q : Premise). AnswersPremise g j q r) (sym e) h

-- ---- the premises of a node

pub premises_next : (n : ℕ) (j : Judgement) (ps : List (ℕ × Premise)) (i : ℕ) (x : ℕ × Premise) → i < length ps → x ≡ get_or ps i x → asked_at n j (drop i ps) ≡ (OfPremise n x.0 j x.1 ∷ []) ++ asked_at n j (drop (i + 1) ps)
premises_next n j ps i x h e = ap (asked_at n j) (drop_more ps i x h) ∙ ap (λ (y : ℕ × Premise). OfPremise n y.0 j y.1 ∷ asked_at n j (drop (i + 1) ps)) (sym e)

pub premise_clear : {X : Type 0} (g : Program) (n k : ℕ) (j : Judgement) (p : Premise) (x : X) → AnswersPremise g j p (Ok x) → Clears g (OfPremise n k j p ∷ [])
premise_clear {X} g n k j p x h = (ap (λ (o : Option Refusal). or_else o None) (h.0 n k), All-cons (IsTrueQuestion g) (OfPremise n k j p) [] h.1 (All-nil (IsTrueQuestion g)))

or_none : (o : Option Refusal) → or_else o None ≡ o
or_none None = refl
or_none (Some e) = refl

pub premise_refused : (g : Program) (n k : ℕ) (j : Judgement) (p : Premise) (w : Why) (e : CheckErr) → ((n k : ℕ) → IsWhy n k (premise_error searched g n k j p) w) →
    ((o : Option Refusal) → IsWhy n k o w → IsRefusal o e) → IsRefusal (error_of g (OfPremise n k j p ∷ [])) e
premise_refused g n k j p w e h f = subst (λ (o : Option Refusal). IsRefusal o e) (sym (or_none (premise_error searched g n k j p))) (f (premise_error searched g n k j p) (h n k))
