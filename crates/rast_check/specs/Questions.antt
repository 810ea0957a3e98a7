-- All that a check asks of a program, in order, and its answer.
use Rattle.std.specs.Prelude.{◌≡◌, ℕ, zero, suc, ◌+◌, ◌<◌, ◌++◌, Bool, true, false, List, [], ◌∷◌, map, flat_map, zip, length, slice_get, Option, Some, None, Result, Ok, Err, All}
use Rattle.rast_equal.specs.Valid.{Claim, Asks as CAsks, Shape as CShape, Over as COver, IsTrueClaim, claims_of, def_claims, nonneg}
use Rattle.rast_equal.specs.Fit.{is_within_type}
use Rattle.rast_equal.specs.Walk.{Point, Asks, Wanted, Never, TooMany, Bound, IsTruePoint, same_points, equation_points}
use Rattle.rast_cooper.specs.Verdicts.{is_within}
use Rattle.std.specs.List.{list_all}
use Rattle.std.specs.Prelude.{◌&&◌, nat_le}
use Rattle.rast_terms.specs.Nodes.{kids}
use Rattle.rast_types.specs.Closed.{Table}
use Rattle.rast_rules.specs.Rules.{Program, Decl, premises, children, limited, root, defs, IsTruePremise}
use Rattle.rast_rules.specs.declared.judgement.Judgement.{Judgement}
use Rattle.rast_terms.specs.declared.node.Node.{Node}
use Rattle.rast_index.specs.declared.formula.Formula.{Formula}
use Rattle.rast_types.specs.declared.equation.Ref.{Ref}
use Rattle.rast_types.specs.declared.stop.Stop.{Stop}
use Rattle.rast_types.specs.declared.ty.Ty.{Ty}
use Rattle.rast_types.specs.declared.stop.Stop.TheVariants as stop
use Rattle.rast_rules.specs.declared.premise.Evidence.{Evidence}
use Rattle.rast_rules.specs.declared.premise.Evidence.TheVariants as why
use Rattle.rast_equal.specs.declared.answer.SameErr.{SameErr}
use Rattle.rast_equal.specs.declared.answer.SameErr.TheVariants as same
use Rattle.rast_rules.specs.declared.premise.Premise.{Premise}
use Rattle.rast_rules.specs.declared.premise.Premise.TheVariants.{Truth, Shape, Same, Passed}

-- what the decision answers to an obligation (rast_cooper)
pub data Verdict : Type 0 where
  Holds : Verdict
  Fails : (values : List ℕ) → Verdict
  Limits : (stop : Stop) → Verdict

abbrev pub Decision : Type 0
Decision = ℕ → List Formula → Formula → Verdict

-- ---- the first point of a walk that isn't shown

abbrev pub unless : {E : Type 0} → Verdict → (List ℕ → E) → (Stop → E) → Option E
unless {E} Holds f s = None
unless {E} (Fails vs) f s = Some (f vs)
unless {E} (Limits l) f s = Some (s l)

abbrev pub point_error : Decision → Point → Option SameErr
point_error v (Asks p goal) = unless (v p.vars p.premises goal) (λ vs. same.Fails p.path p.vars vs) (λ l. same.Bound l)
point_error v (Wanted path) = Some (same.Wanted path)
point_error v (Never p) = Some (same.Fails p.path p.vars (zeros 16))
  where
    zeros : ℕ → List ℕ
    zeros zero = []
    zeros (suc n) = 0 ∷ zeros n
point_error v TooMany = Some same.Left
point_error v (Bound s) = Some (same.Bound s)

-- the first answer
abbrev pub or_else : {E : Type 0} → Option E → Option E → Option E
or_else {E} None b = b
or_else {E} (Some e) b = Some e

abbrev pub first_error : {A E : Type 0} → (A → Option E) → List A → Option E
first_error {A} {E} f [] = None
first_error {A} {E} f (x ∷ xs) = or_else (f x) (first_error f xs)

-- ---- the whole check

pub data Question : Type 0 where
  OfType : (def : ℕ) (claim : Claim) → Question
  OfDecl : (decl : ℕ) (claim : Claim) → Question
  OfEquation : (number premise : ℕ) (point : Point) → Question
  -- a judgement has to be within the limits
  OfLimit : (node : ℕ) (stop : Stop) → Question
  OfPremise : (node number : ℕ) (at : Judgement) (premise : Premise) → Question

abbrev pub IsTrueQuestion : Program → Question → Type 0
IsTrueQuestion g (OfType d c) = IsTrueClaim c
IsTrueQuestion g (OfDecl d c) = IsTrueClaim c
IsTrueQuestion g (OfEquation n k p) = IsTruePoint p
IsTrueQuestion g (OfLimit n s) = ⊥
IsTrueQuestion g (OfPremise n k j p) = IsTruePremise g j p

-- things with their numbers
abbrev pub from_number : {A : Type 0} → ℕ → List A → List (ℕ × A)
from_number {A} k [] = []
from_number {A} k (x ∷ xs) = (k, x) ∷ from_number (k + 1) xs

abbrev pub type_questions : Program → List Question
type_questions g = flat_map (λ e. map (OfType e.0) (def_claims (defs g) e.1)) (from_number 0 (defs g))

abbrev pub uses_claims : Table → ℕ → List Ty → List Claim
uses_claims t n as' = flat_map (claims_of t n []) as'

abbrev pub decl_claims : Program → Decl → List Claim
decl_claims g d = uses_claims (defs g) d.params (d.uses ++ d.gives ∷ []) ++ CAsks 6 d.params [] (nonneg d.potential) ∷ []

abbrev pub decl_questions : Program → List Question
decl_questions g = flat_map (λ e. map (OfDecl e.0) (decl_claims g e.1)) (from_number 0 g.decls)

abbrev pub equation_questions : Program → List Question
equation_questions g = flat_map (λ e. map (λ p. OfEquation e.0 p.0 p.1) (equation_points (defs g) g.equations e.1)) (from_number 1 g.equations)

-- premises with their numbers, of a node under its judgement
abbrev pub asked_at : ℕ → Judgement → List (ℕ × Premise) → List Question
asked_at n j ps = map (λ p. OfPremise n p.0 j p.1) ps

abbrev pub premise_questions : Program → ℕ → Judgement → Node → List Question
premise_questions g n j nd = asked_at n j (premises g j nd)

-- what a walk below the node's children asks, after the node's own premises
abbrev pub node_and_below : Program → ((ℕ × Result Judgement Stop) → List Question) → ℕ → Judgement → Option Node → List Question
node_and_below g below n j None = []
node_and_below g below n j (Some nd) = premise_questions g n j nd ++ flat_map below (zip (kids nd) (children g j nd))

abbrev pub judged_and_below : Program → ((ℕ × Result Judgement Stop) → List Question) → ℕ → Result Judgement Stop → List Question
judged_and_below g below n (Err s) = OfLimit n s ∷ []
judged_and_below g below n (Ok j) = node_and_below g below n j (slice_get g.nodes n)

-- the node n with its judgement, and then the nodes below it, at most to a depth
abbrev pub node_questions : Program → ℕ → (ℕ × Result Judgement Stop) → List Question
node_questions g zero e = []
node_questions g (suc f) e = judged_and_below g (node_questions g f) e.0 e.1

abbrev pub body_questions : Program → List Question
body_questions g = flat_map (λ e. node_questions g (length g.nodes) (e.1.body, limited (root e.0 e.1))) (from_number 0 g.decls)

-- types, declarations, equations, and then the nodes in preorder
abbrev pub questions : Program → List Question
questions g = type_questions g ++ (decl_questions g ++ (equation_questions g ++ body_questions g))

-- what a check refuses
pub data Refusal : Type 0 where
  BadType : (def rule vars : ℕ) (values : Option (List ℕ)) → Refusal
  TypeBound : (def : ℕ) (stop : Stop) → Refusal
  -- a type of a declaration stands alone: for a definition's number it has how many there are
  BadDecl : (decl def rule vars : ℕ) (values : Option (List ℕ)) → Refusal
  DeclBound : (decl def : ℕ) (stop : Stop) → Refusal
  BadEquation : (number premise : ℕ) (why : SameErr) → Refusal
  Refused : (node premise : ℕ) (evidence : Evidence) → Refusal
  StopsAt : (node premise : ℕ) (stop : Stop) → Refusal
  Limit : (node : ℕ) (stop : Stop) → Refusal

abbrev pub claim_error : Decision → Claim → (ℕ → ℕ → Option (List ℕ) → Refusal) → (Stop → Refusal) → Option Refusal
claim_error v (CAsks rule n ps goal) bad stops = unless (v n ps goal) (λ vs. bad rule n (Some vs)) stops
claim_error v (CShape rule n true) bad stops = None
claim_error v (CShape rule n false) bad stops = Some (bad rule n None)
claim_error v COver bad stops = Some (stops stop.Variables)

-- an undecided walk is a bound, any other refusal its evidence
abbrev pub same_refusal : ℕ → ℕ → Option SameErr → Option Refusal
same_refusal n k None = None
same_refusal n k (Some (same.Bound s)) = Some (StopsAt n k s)
same_refusal n k (Some e) = Some (Refused n k (why.Types e))

-- at most 16 variables, and no others occur in the premises
abbrev pub is_scope : ℕ → List Formula → Bool
is_scope n ps = nat_le n 16 && list_all (is_within n) ps

-- nor in a goal
abbrev pub is_asked : ℕ → List Formula → Formula → Bool
is_asked n ps goal = is_scope n ps && is_within n goal

-- nor in two types
abbrev pub are_compared : ℕ → List Formula → Ty → Ty → Bool
are_compared n ps a b = is_scope n ps && (is_within_type n a && is_within_type n b)

-- what is asked in a scope that isn't as it has to be stops there
abbrev pub in_scope : ℕ → ℕ → Bool → Option Refusal → Option Refusal
in_scope n k true o = o
in_scope n k false o = Some (StopsAt n k stop.Variables)

abbrev pub truth_error : Decision → Judgement → Formula → ℕ → ℕ → Option Refusal
truth_error v j goal n k = in_scope n k (is_asked j.ctx.vars j.ctx.premises goal) (unless (v j.ctx.vars j.ctx.premises goal) (λ vs. Refused n k (why.Fails j.ctx.vars vs)) (StopsAt n k))

abbrev pub shape_error : Bool → Evidence → ℕ → ℕ → Option Refusal
shape_error true w n k = None
shape_error false w n k = Some (Refused n k w)

-- whether a point asks nothing out of its scope
abbrev pub is_placed : Point → Bool
is_placed (Asks p goal) = is_asked p.vars p.premises goal
is_placed (Wanted path) = true
is_placed (Never p) = true
is_placed TooMany = true
is_placed (Bound s) = true

-- the first of the points of a walk that isn't shown
abbrev pub walk_error : Decision → List Point → ℕ → ℕ → Option Refusal
walk_error v xs n k = in_scope n k (list_all is_placed xs) (same_refusal n k (first_error (point_error v) xs))

abbrev pub types_error : Decision → Program → Judgement → Ty → Ty → List Ref → ℕ → ℕ → Option Refusal
types_error v g j a b rs n k = in_scope n k (are_compared j.ctx.vars j.ctx.premises a b) (walk_error v (same_points g.equations j.ctx.vars j.ctx.premises a b rs) n k)

abbrev pub premise_error : Decision → Program → ℕ → ℕ → Judgement → Premise → Option Refusal
premise_error v g n k j (Truth goal) = truth_error v j goal n k
premise_error v g n k j (Shape ok w) = shape_error ok w n k
premise_error v g n k j (Same a b rs) = types_error v g j a b rs n k
premise_error v g n k j (Passed s) = Some (StopsAt n k s)

abbrev pub point_refusal : ℕ → ℕ → Option SameErr → Option Refusal
point_refusal n k None = None
point_refusal n k (Some e) = Some (BadEquation n k e)

abbrev pub refusal : Decision → Program → Question → Option Refusal
refusal v g (OfType d c) = claim_error v c (BadType d) (TypeBound d)
refusal v g (OfDecl d c) = claim_error v c (BadDecl d (length (defs g))) (DeclBound d (length (defs g)))
refusal v g (OfEquation n k p) = point_refusal n k (point_error v p)
refusal v g (OfLimit n s) = Some (Limit n s)
refusal v g (OfPremise n k j p) = premise_error v g n k j p

-- the answer of a check: the first place that is false, undecided or over a limit
abbrev pub answer : Decision → Program → Option Refusal
answer v g = first_error (refusal v g) (questions g)

-- ---- which programs are asked

-- children come after their parent
pub record IsForward (g : Program) : Type 0 where
  pub kids : (n : ℕ) (nd : Node) → slice_get g.nodes n ≡ Some nd → All (λ m. (n < m) × (m < length g.nodes)) (kids nd)
  pub bodies : All (λ d. d.body < length g.nodes) g.decls

-- a refusal for a bound or an undecided obligation
abbrev pub is_bound : Refusal → Bool
is_bound (TypeBound d s) = true
is_bound (DeclBound d k s) = true
is_bound (BadEquation n k (same.Bound s)) = true
is_bound (StopsAt n k s) = true
is_bound (Limit n s) = true
is_bound r = false
