-- What the decisions on the parts of a type say of the rules of the whole.
use Rattle.std.proofs.Common.{◌≡◌, ℕ, ◌+◌, ◌<◌, ◌≤◌, Bool, true, false, not, List, [], ◌∷◌, ◌++◌, sym, ◌∙◌, ap, ap₂, refl, subst, arith, None, Result, Err}
use Rattle.std.specs.Prelude.{IsErrAnd}
use Rattle.std.proofs.lemmas.List.Elements.{All-nil, All-cons}
use Rattle.rast_index.specs.Linear.{Linear}
use Rattle.rast_index.specs.declared.formula.Formula.{Formula}
use Rattle.rast_types.specs.Closed.{Table}
use Rattle.rast_types.specs.declared.stop.Stop.TheVariants as stop
use Rattle.rast_types.specs.declared.ty.Ty.{Ty}
use Rattle.rast_types.specs.declared.ty.Ty.TheVariants as ty
use Rattle.rast_equal.specs.Invalid.{first_refusal, IsRefusal, Judges, choice_claims, natural_claims, potential_claims, ticks_claims}
use Rattle.rast_equal.specs.Valid.{Claim, Asks, Shape, IsTrueClaim, claims_of, leads_to_next, nonneg}
use Rattle.rast_equal.specs.declared.validity.Refusal.{Refusal}
use Rattle.rast_equal.specs.declared.validity.Refusal.TheVariants.{False, Stopped}
use Rattle.rast_types.specs.declared.table.Ctx.{Ctx}
use Rattle.rast_equal.specs.Fit.{AreWithin, IsWithin, IsWithinType}
use Rattle.rast_equal.proofs.Fits.{all_append}
use Rattle.rast_cooper.specs.Verdicts.{is_within}
use Rattle.rast_equal.proofs.Claims.{AreTrue, claims_all, claims_assert, claims_assume, claims_ex, claims_gets, claims_lolli, claims_named, claims_next, claims_one, claims_over, claims_pays, claims_plus, claims_tensor, claims_with, judges_after, judges_from, judges_is, refused_first, true_none}

-- the first of two lists of rules is false, or all of it is true
pub first_false : {X : Type 0} (cs xs ys : List Claim) (e : Refusal) (r : Result X Refusal) → cs ≡ xs ++ ys → IsRefusal (first_refusal xs) e → IsErrAnd r (λ f. f ≡ e) → Judges cs r
first_false {X} cs xs ys e r is h err = judges_from cs e r err (refused_first cs xs ys e is h)

-- too many variables
pub judged_over : (t : Table) (n : ℕ) (ps : List Formula) (a : Ty) → 16 < n → IsRefusal (first_refusal (claims_of t n ps a)) (Stopped stop.Variables)
judged_over t n ps a lt = ap first_refusal (claims_over t n ps a lt)

-- ---- the parts are in scope

pub record Ready (n : ℕ) (ps : List Formula) (a : Ty) : Type 0 where
  pub few : n ≤ 17
  pub premises : AreWithin n ps
  pub within : IsWithinType n a

pub ready_part : (n : ℕ) (ps : List Formula) (b d : Ty) → d ≡ b → n ≤ 16 → AreWithin n ps → IsWithinType n b → Ready n ps d
ready_part n ps b d e few h w = record { few = omega arith; premises = h; within = subst (IsWithinType n) (sym e) w }

pub ready_variable : (n : ℕ) (ps : List Formula) (x : Ctx) (b d : Ty) → x ≡ record { vars = n + 1; premises = ps } → d ≡ b → n ≤ 16 → AreWithin n ps → IsWithinType (n + 1) b → Ready x.vars x.premises d
ready_variable n ps x b d e f few h w = subst (λ (y : Ctx). Ready y.vars y.premises d) (sym e) (record {
  few = omega arith;
  premises = λ m le. h m (omega arith);
  within = subst (IsWithinType (n + 1)) (sym f) w;
})

pub ready_premise : (n : ℕ) (ps : List Formula) (g : Formula) (x : Ctx) (b d : Ty) → x ≡ record { vars = n; premises = ps ++ g ∷ [] } → d ≡ b → n ≤ 16 → AreWithin n ps → IsWithin n g → IsWithinType n b → Ready x.vars x.premises d
ready_premise n ps g x b d e f few h k w = subst (λ (y : Ctx). Ready y.vars y.premises d) (sym e) (record {
  few = omega arith;
  premises = λ m le. all_append (is_within m) ps g (h m le) (k m le);
  within = subst (IsWithinType n) (sym f) w;
})

-- ---- the rules of the whole

module _ (t : Table) (n : ℕ) (ps : List Formula) (few : n ≤ 16) (a : Ty) where
  pub judged_one : a ≡ ty.One → AreTrue (claims_of t n ps a)
  judged_one e = subst AreTrue (sym (ap (claims_of t n ps) e ∙ claims_one t n ps few)) true_none

  pub judged_plus : {X : Type 0} (ts : List (ℕ × Ty)) (r : Result X Refusal) → a ≡ ty.Plus ts → Judges (choice_claims t n ps ts) r → Judges (claims_of t n ps a) r
  judged_plus {X} ts r e h = judges_is (claims_of t n ps a) (choice_claims t n ps ts) r (ap (claims_of t n ps) e ∙ claims_plus t n ps few ts) h

  pub judged_with : {X : Type 0} (ts : List (ℕ × Ty)) (r : Result X Refusal) → a ≡ ty.With ts → Judges (choice_claims t n ps ts) r → Judges (claims_of t n ps a) r
  judged_with {X} ts r e h = judges_is (claims_of t n ps a) (choice_claims t n ps ts) r (ap (claims_of t n ps) e ∙ claims_with t n ps few ts) h

  pub tensor_false : {X : Type 0} (b c : Ty) (x : Refusal) (r : Result X Refusal) → a ≡ ty.Tensor b c → IsRefusal (first_refusal (claims_of t n ps b)) x → IsErrAnd r (λ f. f ≡ x) → Judges (claims_of t n ps a) r
  tensor_false {X} b c x r e h k = first_false (claims_of t n ps a) (claims_of t n ps b) (claims_of t n ps c) x r (ap (claims_of t n ps) e ∙ claims_tensor t n ps few b c) h k

  pub tensor_then : {X : Type 0} (b c : Ty) (r : Result X Refusal) → a ≡ ty.Tensor b c → AreTrue (claims_of t n ps b) → Judges (claims_of t n ps c) r → Judges (claims_of t n ps a) r
  tensor_then {X} b c r e h k = judges_after (claims_of t n ps a) (claims_of t n ps b) (claims_of t n ps c) r (ap (claims_of t n ps) e ∙ claims_tensor t n ps few b c) h k

  pub lolli_false : {X : Type 0} (b c : Ty) (x : Refusal) (r : Result X Refusal) → a ≡ ty.Lolli b c → IsRefusal (first_refusal (claims_of t n ps b)) x → IsErrAnd r (λ f. f ≡ x) → Judges (claims_of t n ps a) r
  lolli_false {X} b c x r e h k = first_false (claims_of t n ps a) (claims_of t n ps b) (claims_of t n ps c) x r (ap (claims_of t n ps) e ∙ claims_lolli t n ps few b c) h k

  pub lolli_then : {X : Type 0} (b c : Ty) (r : Result X Refusal) → a ≡ ty.Lolli b c → AreTrue (claims_of t n ps b) → Judges (claims_of t n ps c) r → Judges (claims_of t n ps a) r
  lolli_then {X} b c r e h k = judges_after (claims_of t n ps a) (claims_of t n ps b) (claims_of t n ps c) r (ap (claims_of t n ps) e ∙ claims_lolli t n ps few b c) h k

  pub judged_named : {X : Type 0} (k : ℕ) (es : List Linear) (r : Result X Refusal) → a ≡ ty.Named k es → Judges (natural_claims n ps es) r → Judges (claims_of t n ps a) r
  judged_named {X} k es r e h = judges_is (claims_of t n ps a) (natural_claims n ps es) r (ap (claims_of t n ps) e ∙ claims_named t n ps few k es) h

  -- the part inside, in the scope m and under the premises qs
  pub judged_ex : {X : Type 0} (m : ℕ) (qs : List Formula) (b : Ty) (r : Result X Refusal) → a ≡ ty.Ex b → m ≡ n + 1 → qs ≡ ps → Judges (claims_of t m qs b) r → Judges (claims_of t n ps a) r
  judged_ex {X} m qs b r e f g h =
      judges_is (claims_of t n ps a) (claims_of t m qs b) r (ap (claims_of t n ps) e ∙ claims_ex t n ps few b ∙ ap₂ (λ k (rs : List Formula). claims_of t k rs b) (sym f) (sym g)) h

  pub judged_all : {X : Type 0} (m : ℕ) (qs : List Formula) (b : Ty) (r : Result X Refusal) → a ≡ ty.All b → m ≡ n + 1 → qs ≡ ps → Judges (claims_of t m qs b) r → Judges (claims_of t n ps a) r
  judged_all {X} m qs b r e f g h =
      judges_is (claims_of t n ps a) (claims_of t m qs b) r (ap (claims_of t n ps) e ∙ claims_all t n ps few b ∙ ap₂ (λ k (rs : List Formula). claims_of t k rs b) (sym f) (sym g)) h

  pub judged_assert : {X : Type 0} (f : Formula) (m : ℕ) (qs : List Formula) (b : Ty) (r : Result X Refusal) → a ≡ ty.Assert f b → m ≡ n → qs ≡ ps ++ f ∷ [] → Judges (claims_of t m qs b) r → Judges (claims_of t n ps a) r
  judged_assert {X} f m qs b r e i g h =
      judges_is (claims_of t n ps a) (claims_of t m qs b) r (ap (claims_of t n ps) e ∙ claims_assert t n ps few f b ∙ ap₂ (λ k (rs : List Formula). claims_of t k rs b) (sym i) (sym g)) h

  pub judged_assume : {X : Type 0} (f : Formula) (m : ℕ) (qs : List Formula) (b : Ty) (r : Result X Refusal) → a ≡ ty.Assume f b → m ≡ n → qs ≡ ps ++ f ∷ [] → Judges (claims_of t m qs b) r → Judges (claims_of t n ps a) r
  judged_assume {X} f m qs b r e i g h =
      judges_is (claims_of t n ps a) (claims_of t m qs b) r (ap (claims_of t n ps) e ∙ claims_assume t n ps few f b ∙ ap₂ (λ k (rs : List Formula). claims_of t k rs b) (sym i) (sym g)) h

  pub judged_pays : {X : Type 0} (l : Linear) (b : Ty) (r : Result X Refusal) → a ≡ ty.Pays l b → Judges (potential_claims t n ps l b) r → Judges (claims_of t n ps a) r
  judged_pays {X} l b r e h = judges_is (claims_of t n ps a) (potential_claims t n ps l b) r (ap (claims_of t n ps) e ∙ claims_pays t n ps few l b) h

  pub judged_gets : {X : Type 0} (l : Linear) (b : Ty) (r : Result X Refusal) → a ≡ ty.Gets l b → Judges (potential_claims t n ps l b) r → Judges (claims_of t n ps a) r
  judged_gets {X} l b r e h = judges_is (claims_of t n ps a) (potential_claims t n ps l b) r (ap (claims_of t n ps) e ∙ claims_gets t n ps few l b) h

  pub judged_next : {X : Type 0} (l : Linear) (b : Ty) (r : Result X Refusal) → a ≡ ty.Next l b → Judges (ticks_claims t n ps l b) r → Judges (claims_of t n ps a) r
  judged_next {X} l b r e h = judges_is (claims_of t n ps a) (ticks_claims t n ps l b) r (ap (claims_of t n ps) e ∙ claims_next t n ps few l b) h

-- ---- the rules below a node

module _ (t : Table) (n : ℕ) (ps : List Formula) where
  -- in the scope and under the premises that were made
  pub judged_here : {X : Type 0} (x : Ctx) (b : Ty) (r : Result X Refusal) → x ≡ record { vars = n; premises = ps } → Judges (claims_of t x.vars x.premises b) r → Judges (claims_of t n ps b) r
  judged_here {X} x b r e h = subst (λ (y : Ctx). Judges (claims_of t y.vars y.premises b) r) e h

  module _ (l : Linear) (b : Ty) where
    pub potential_false : {X : Type 0} (x : Refusal) (r : Result X Refusal) → IsRefusal (first_refusal (Asks 3 n ps (nonneg l) ∷ [])) x → IsErrAnd r (λ f. f ≡ x) → Judges (potential_claims t n ps l b) r
    potential_false {X} x r h k = first_false (potential_claims t n ps l b) (Asks 3 n ps (nonneg l) ∷ []) (claims_of t n ps b) x r refl h k

    pub potential_then : {X : Type 0} (r : Result X Refusal) → AreTrue (Asks 3 n ps (nonneg l) ∷ []) → Judges (claims_of t n ps b) r → Judges (potential_claims t n ps l b) r
    potential_then {X} r h k = judges_after (potential_claims t n ps l b) (Asks 3 n ps (nonneg l) ∷ []) (claims_of t n ps b) r refl h k

    pub ticks_false : {X : Type 0} (x : Refusal) (r : Result X Refusal) → IsRefusal (first_refusal (Asks 4 n ps (nonneg l) ∷ [])) x → IsErrAnd r (λ f. f ≡ x) → Judges (ticks_claims t n ps l b) r
    ticks_false {X} x r h k = first_false (ticks_claims t n ps l b) (Asks 4 n ps (nonneg l) ∷ []) ((Shape 5 n (not (leads_to_next t b)) ∷ []) ++ claims_of t n ps b) x r refl h k

    shape_false : (ok : Bool) → ok ≡ true → IsRefusal (first_refusal (Shape 5 n (not ok) ∷ [])) (False 5 n None)
    shape_false true e = refl
    shape_false false e = absurd (cc)

    shape_true : (ok : Bool) → ok ≡ false → AreTrue (Shape 5 n (not ok) ∷ [])
    shape_true false e = (refl, All-cons IsTrueClaim (Shape 5 n true) [] refl (All-nil IsTrueClaim))
    shape_true true e = absurd (cc)

    pub ticks_shape : (ok : Bool) → AreTrue (Asks 4 n ps (nonneg l) ∷ []) → ok ≡ leads_to_next t b → ok ≡ true → IsRefusal (first_refusal (ticks_claims t n ps l b)) (False 5 n None)
    ticks_shape ok h is f =
        judges_after {X = Unit {0}} (ticks_claims t n ps l b) (Asks 4 n ps (nonneg l) ∷ []) ((Shape 5 n (not (leads_to_next t b)) ∷ []) ++ claims_of t n ps b) (Err (False 5 n None)) refl h
        (refused_first ((Shape 5 n (not (leads_to_next t b)) ∷ []) ++ claims_of t n ps b) (Shape 5 n (not (leads_to_next t b)) ∷ []) (claims_of t n ps b) (False 5 n None) refl (shape_false (leads_to_next t b) (sym is ∙ f)))

    pub ticks_then : {X : Type 0} (ok : Bool) (r : Result X Refusal) → AreTrue (Asks 4 n ps (nonneg l) ∷ []) → ok ≡ leads_to_next t b → ok ≡ false → Judges (claims_of t n ps b) r → Judges (ticks_claims t n ps l b) r
    ticks_then {X} ok r h is f k =
        judges_after (ticks_claims t n ps l b) (Asks 4 n ps (nonneg l) ∷ []) ((Shape 5 n (not (leads_to_next t b)) ∷ []) ++ claims_of t n ps b) r refl h
        (judges_after ((Shape 5 n (not (leads_to_next t b)) ∷ []) ++ claims_of t n ps b) (Shape 5 n (not (leads_to_next t b)) ∷ []) (claims_of t n ps b) r refl (shape_true (leads_to_next t b) (sym is ∙ f)) k)
