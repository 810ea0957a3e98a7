-- The scopes at the claims of a type, by its form, and the first refuted one among them.
use Rattle.std.proofs.Common.{◌≡◌, ℕ, suc, ◌+◌, ◌<◌, ◌≤◌, Bool, true, false, List, [], ◌∷◌, ◌++◌, map, length, take, drop, get_or, sym, ◌∙◌, ap, ap₂, refl, Option, Some, append-nil, cond, add-one, arith, ⊎_elim}
use Rattle.std.specs.Prelude.{nat_lt}
use Rattle.std.proofs.Math.Seq.{drop-cons}
use Rattle.std.proofs.lemmas.Bool.{cases_lt, lt-ltb, le-ltb}
use Rattle.std.proofs.lemmas.List.{length-append, length-map}
use Rattle.rast_index.specs.Linear.{Linear}
use Rattle.rast_index.specs.declared.formula.Formula.{Formula}
use Rattle.rast_types.specs.Closed.{Table, Layer}
use Rattle.rast_types.specs.declared.ty.Ty.{Ty, out-Ty, roll-Ty, roll-out-Ty}
use Rattle.rast_types.specs.declared.ty.Ty.TheVariants as ty
use Rattle.rast_types.specs.declared.ty.Ty.TheOpen.{Ty-F, One, Plus, With, Tensor, Lolli, Named, Ex, All as Each, Assert, Assume, Pays, Gets, Next}
use Rattle.rast_types.specs.declared.ty.Ty.TheFolds.{fold-Ty, map-Ty}
use Rattle.rast_types.proofs.Binders.{Such, bare, induction}
use Rattle.rast_equal.specs.Invalid.{or_later, choice_claims}
use Rattle.rast_equal.specs.Valid.{Claim, Asks, claims_of, nonneg}
use Rattle.rast_equal.specs.WellMadeTypes.{quantifiers}
use Rattle.rast_equal.proofs.Claims.{claims_over, claims_one, claims_plus, claims_with, claims_tensor, claims_lolli, claims_named, claims_ex, claims_all, claims_assert, claims_assume, claims_pays, claims_gets, claims_next}
use Rattle.rast_equal.proofs.Trees.{folded_at, has_tree}
use Rattle.rast_lines.specs.Scopes.{Scoped, own_scopes, scopes_of_each, scopes_below, scoped_step, scoped, scopes_of, is_refuted, refuted_scope}

-- ---- the scopes, by the form of a type

scoped_tree : (a : Ty) → (scoped a).tree ≡ a
scoped_tree a = has_tree Scoped (λ c. c.tree) scoped_step (λ y. refl) a

abbrev pub choice_scopes : List (ℕ × Ty) → ℕ → List ℕ → List ℕ → List (List ℕ)
choice_scopes ts = scopes_of_each (map (λ (e : ℕ × Ty). scoped e.1) ts)

module _ (n : ℕ) (left s : List ℕ) where
  scopes_at : (x : Layer) → scopes_of n left s (roll-Ty x) ≡
      cond (nat_lt 16 n) (s ∷ []) (own_scopes (map-Ty Ty Scoped (fold-Ty Scoped scoped_step) x) s ++ scopes_below (map-Ty Ty Scoped (fold-Ty Scoped scoped_step) x) n left s)
  scopes_at x = ap (λ (c : Scoped). c.scopes n left s) (folded_at Scoped (λ c. c.tree) scoped_step (λ y. refl) x)

  pub scopes_over : (a : Ty) → 16 < n → scopes_of n left s a ≡ s ∷ []
  scopes_over a lt =
      ap (scopes_of n left s) (sym (roll-out-Ty a)) ∙ scopes_at (out-Ty a)
      ∙ ap (λ b. cond b (s ∷ []) (own_scopes (map-Ty Ty Scoped (fold-Ty Scoped scoped_step) (out-Ty a)) s ++ scopes_below (map-Ty Ty Scoped (fold-Ty Scoped scoped_step) (out-Ty a)) n left s)) (lt-ltb 16 n lt)

  -- after a part the names past its quantifiers are left
  after_tree : (a : Ty) (f : List ℕ → List (List ℕ)) → scopes_of n left s a ++ f (drop (quantifiers (scoped a).tree) left) ≡ scopes_of n left s a ++ f (drop (quantifiers a) left)
  after_tree a f = ap (λ (b : Ty). scopes_of n left s a ++ f (drop (quantifiers b) left)) (scoped_tree a)

  parts_scoped : (ts : List (ℕ × Ty)) → map (λ (e : ℕ × Scoped). e.1) (map (λ (e : ℕ × Ty). (e.0, fold-Ty Scoped scoped_step e.1)) ts) ≡ map (λ (e : ℕ × Ty). scoped e.1) ts
  parts_scoped [] = refl
  parts_scoped (e ∷ ts) = ap (λ as'. scoped e.1 ∷ as') (parts_scoped ts)

  choices_scoped : (ts : List (ℕ × Ty)) → scopes_of_each (map (λ (e : ℕ × Scoped). e.1) (map (λ (e : ℕ × Ty). (e.0, fold-Ty Scoped scoped_step e.1)) ts)) n left s ≡ choice_scopes ts n left s
  choices_scoped ts = ap (λ as'. scopes_of_each as' n left s) (parts_scoped ts)

  module _ (few : n ≤ 16) where
    scopes_here : (a : Ty) (x : Layer) → roll-Ty x ≡ a → scopes_of n left s a ≡
        own_scopes (map-Ty Ty Scoped (fold-Ty Scoped scoped_step) x) s ++ scopes_below (map-Ty Ty Scoped (fold-Ty Scoped scoped_step) x) n left s
    scopes_here a x is =
        ap (scopes_of n left s) (sym is) ∙ scopes_at x
        ∙ ap (λ b. cond b (s ∷ []) (own_scopes (map-Ty Ty Scoped (fold-Ty Scoped scoped_step) x) s ++ scopes_below (map-Ty Ty Scoped (fold-Ty Scoped scoped_step) x) n left s)) (le-ltb 16 n few)

    pub scopes_one : scopes_of n left s ty.One ≡ []
    scopes_one = scopes_here ty.One One ty.rolls-One

    pub scopes_plus : (ts : List (ℕ × Ty)) → scopes_of n left s (ty.Plus ts) ≡ choice_scopes ts n left s
    scopes_plus ts = scopes_here (ty.Plus ts) (Plus ts) (ty.rolls-Plus ts) ∙ choices_scoped ts

    pub scopes_with : (ts : List (ℕ × Ty)) → scopes_of n left s (ty.With ts) ≡ choice_scopes ts n left s
    scopes_with ts = scopes_here (ty.With ts) (With ts) (ty.rolls-With ts) ∙ choices_scoped ts

    pub scopes_tensor : (a b : Ty) → scopes_of n left s (ty.Tensor a b) ≡ scopes_of n left s a ++ scopes_of n (drop (quantifiers a) left) s b
    scopes_tensor a b = scopes_here (ty.Tensor a b) (Tensor a b) (ty.rolls-Tensor a b) ∙ after_tree a (λ l. scopes_of n l s b)

    pub scopes_lolli : (a b : Ty) → scopes_of n left s (ty.Lolli a b) ≡ scopes_of n left s a ++ scopes_of n (drop (quantifiers a) left) s b
    scopes_lolli a b = scopes_here (ty.Lolli a b) (Lolli a b) (ty.rolls-Lolli a b) ∙ after_tree a (λ l. scopes_of n l s b)

    pub scopes_named : (k : ℕ) (es : List Linear) → scopes_of n left s (ty.Named k es) ≡ map (λ e. s) es
    scopes_named k es = scopes_here (ty.Named k es) (Named k es) (ty.rolls-Named k es) ∙ append-nil (map (λ e. s) es)

    pub scopes_ex : (a : Ty) → scopes_of n left s (ty.Ex a) ≡ scopes_of (n + 1) (drop 1 left) (s ++ take 1 left) a
    scopes_ex a = scopes_here (ty.Ex a) (Ex a) (ty.rolls-Ex a)

    pub scopes_all : (a : Ty) → scopes_of n left s (ty.All a) ≡ scopes_of (n + 1) (drop 1 left) (s ++ take 1 left) a
    scopes_all a = scopes_here (ty.All a) (Each a) (ty.rolls-All a)

    pub scopes_assert : (f : Formula) (a : Ty) → scopes_of n left s (ty.Assert f a) ≡ scopes_of n left s a
    scopes_assert f a = scopes_here (ty.Assert f a) (Assert f a) (ty.rolls-Assert f a)

    pub scopes_assume : (f : Formula) (a : Ty) → scopes_of n left s (ty.Assume f a) ≡ scopes_of n left s a
    scopes_assume f a = scopes_here (ty.Assume f a) (Assume f a) (ty.rolls-Assume f a)

    pub scopes_pays : (l : Linear) (a : Ty) → scopes_of n left s (ty.Pays l a) ≡ (s ∷ []) ++ scopes_of n left s a
    scopes_pays l a = scopes_here (ty.Pays l a) (Pays l a) (ty.rolls-Pays l a)

    pub scopes_gets : (l : Linear) (a : Ty) → scopes_of n left s (ty.Gets l a) ≡ (s ∷ []) ++ scopes_of n left s a
    scopes_gets l a = scopes_here (ty.Gets l a) (Gets l a) (ty.rolls-Gets l a)

    pub scopes_next : (l : Linear) (a : Ty) → scopes_of n left s (ty.Next l a) ≡ (s ∷ []) ++ ((s ∷ []) ++ scopes_of n left s a)
    scopes_next l a = scopes_here (ty.Next l a) (Next l a) (ty.rolls-Next l a)

-- ---- types one after the other

pub choice_scopes_next : (n : ℕ) (left s : List ℕ) (ts : List (ℕ × Ty)) (i : ℕ) (e : ℕ × Ty) → i < length ts → e ≡ get_or ts i e →
    choice_scopes (drop i ts) n left s ≡ scopes_of n left s e.1 ++ choice_scopes (drop (i + 1) ts) n (drop (quantifiers e.1) left) s
choice_scopes_next n left s ts i e lt is =
    ap (λ us. choice_scopes us n left s) (drop-cons ts i e lt ∙ ap₂ (λ (x : ℕ × Ty) j. x ∷ drop j ts) (sym is) (sym (add-one i)))
    ∙ after_tree n left s e.1 (λ l. choice_scopes (drop (i + 1) ts) n l s)

pub types_scopes_next : (n : ℕ) (left s : List ℕ) (a : Ty) (xs : List Ty) → scopes_of_each (map scoped (a ∷ xs)) n left s ≡ scopes_of n left s a ++ scopes_of_each (map scoped xs) n (drop (quantifiers a) left) s
types_scopes_next n left s a xs = after_tree n left s a (λ l. scopes_of_each (map scoped xs) n l s)

-- ---- there is a scope for each claim

Even : Ty → Type 0
Even a = (t : Table) (n : ℕ) (ps : List Formula) (left s : List ℕ) → length (scopes_of n left s a) ≡ length (claims_of t n ps a)

even_both : (xs ys : List (List ℕ)) (us vs : List Claim) → length xs ≡ length us → length ys ≡ length vs → length (xs ++ ys) ≡ length (us ++ vs)
even_both xs ys us vs d e = length-append xs ys ∙ ap₂ (λ i j. i + j) d e ∙ sym (length-append us vs)

even_at : (a b : Ty) → a ≡ b → ((t : Table) (n : ℕ) (ps : List Formula) (left s : List ℕ) → n ≤ 16 → length (scopes_of n left s b) ≡ length (claims_of t n ps b)) → Even a
unfolding Even
even_at a b is h t n ps left s =
    ap (λ (x : Ty). length (scopes_of n left s x)) is
    ∙ ⊎_elim (λ (over : 16 < n). ap length (scopes_over n left s b over) ∙ sym (ap length (claims_over t n ps b over))) (λ (few : n ≤ 16). h t n ps left s few) (cases_lt 16 n)
    ∙ sym (ap (λ (x : Ty). length (claims_of t n ps x)) is)

abbrev parts : List (ℕ × Such Even) → List (ℕ × Ty)
parts ts = map (λ e. (e.0, e.1.0)) ts

even_each : (ts : List (ℕ × Such Even)) (t : Table) (n : ℕ) (ps : List Formula) (left s : List ℕ) → length (choice_scopes (parts ts) n left s) ≡ length (choice_claims t n ps (parts ts))
unfolding Even
even_each [] t n ps left s = refl
even_each (e ∷ ts) t n ps left s =
    even_both (scopes_of n left s e.1.0) (choice_scopes (parts ts) n (drop (quantifiers (scoped e.1.0).tree) left) s) (claims_of t n ps e.1.0) (choice_claims t n ps (parts ts))
    (e.1.1 t n ps left s) (even_each ts t n ps (drop (quantifiers (scoped e.1.0).tree) left) s)

even_step : (y : Ty-F (Such Even)) → Even (roll-Ty (bare Even y))
unfolding Even
even_step One = even_at (roll-Ty One) ty.One ty.rolls-One (λ t n ps left s few. ap length (scopes_one n left s few) ∙ sym (ap length (claims_one t n ps few)))
even_step (Plus ts) = even_at (roll-Ty (Plus (parts ts))) (ty.Plus (parts ts)) (ty.rolls-Plus (parts ts)) (λ t n ps left s few. ap length (scopes_plus n left s few (parts ts)) ∙ even_each ts t n ps left s ∙ sym (ap length (claims_plus t n ps few (parts ts))))
even_step (With ts) = even_at (roll-Ty (With (parts ts))) (ty.With (parts ts)) (ty.rolls-With (parts ts)) (λ t n ps left s few. ap length (scopes_with n left s few (parts ts)) ∙ even_each ts t n ps left s ∙ sym (ap length (claims_with t n ps few (parts ts))))
even_step (Tensor a b) = even_at (roll-Ty (Tensor a.0 b.0)) (ty.Tensor a.0 b.0) (ty.rolls-Tensor a.0 b.0) (λ t n ps left s few. ap length (scopes_tensor n left s few a.0 b.0) ∙ even_both (scopes_of n left s a.0) (scopes_of n (drop (quantifiers a.0) left) s b.0) (claims_of t n ps a.0) (claims_of t n ps b.0) (a.1 t n ps left s) (b.1 t n ps (drop (quantifiers a.0) left) s) ∙ sym (ap length (claims_tensor t n ps few a.0 b.0)))
even_step (Lolli a b) = even_at (roll-Ty (Lolli a.0 b.0)) (ty.Lolli a.0 b.0) (ty.rolls-Lolli a.0 b.0) (λ t n ps left s few. ap length (scopes_lolli n left s few a.0 b.0) ∙ even_both (scopes_of n left s a.0) (scopes_of n (drop (quantifiers a.0) left) s b.0) (claims_of t n ps a.0) (claims_of t n ps b.0) (a.1 t n ps left s) (b.1 t n ps (drop (quantifiers a.0) left) s) ∙ sym (ap length (claims_lolli t n ps few a.0 b.0)))
even_step (Named k es) = even_at (roll-Ty (Named k es)) (ty.Named k es) (ty.rolls-Named k es) (λ t n ps left s few. ap length (scopes_named n left s few k es) ∙ length-map es (λ e. s) ∙ sym (length-map es (λ e. Asks 2 n ps (nonneg e))) ∙ sym (ap length (claims_named t n ps few k es)))
even_step (Ex a) = even_at (roll-Ty (Ex a.0)) (ty.Ex a.0) (ty.rolls-Ex a.0) (λ t n ps left s few. ap length (scopes_ex n left s few a.0) ∙ a.1 t (n + 1) ps (drop 1 left) (s ++ take 1 left) ∙ sym (ap length (claims_ex t n ps few a.0)))
even_step (Each a) = even_at (roll-Ty (Each a.0)) (ty.All a.0) (ty.rolls-All a.0) (λ t n ps left s few. ap length (scopes_all n left s few a.0) ∙ a.1 t (n + 1) ps (drop 1 left) (s ++ take 1 left) ∙ sym (ap length (claims_all t n ps few a.0)))
even_step (Assert f a) = even_at (roll-Ty (Assert f a.0)) (ty.Assert f a.0) (ty.rolls-Assert f a.0) (λ t n ps left s few. ap length (scopes_assert n left s few f a.0) ∙ a.1 t n (ps ++ f ∷ []) left s ∙ sym (ap length (claims_assert t n ps few f a.0)))
even_step (Assume f a) = even_at (roll-Ty (Assume f a.0)) (ty.Assume f a.0) (ty.rolls-Assume f a.0) (λ t n ps left s few. ap length (scopes_assume n left s few f a.0) ∙ a.1 t n (ps ++ f ∷ []) left s ∙ sym (ap length (claims_assume t n ps few f a.0)))
even_step (Pays l a) = even_at (roll-Ty (Pays l a.0)) (ty.Pays l a.0) (ty.rolls-Pays l a.0) (λ t n ps left s few. ap length (scopes_pays n left s few l a.0) ∙ ap suc (a.1 t n ps left s) ∙ sym (ap length (claims_pays t n ps few l a.0)))
even_step (Gets l a) = even_at (roll-Ty (Gets l a.0)) (ty.Gets l a.0) (ty.rolls-Gets l a.0) (λ t n ps left s few. ap length (scopes_gets n left s few l a.0) ∙ ap suc (a.1 t n ps left s) ∙ sym (ap length (claims_gets t n ps few l a.0)))
even_step (Next l a) = even_at (roll-Ty (Next l a.0)) (ty.Next l a.0) (ty.rolls-Next l a.0) (λ t n ps left s few. ap length (scopes_next n left s few l a.0) ∙ ap (λ k. suc (suc k)) (a.1 t n ps left s) ∙ sym (ap length (claims_next t n ps few l a.0)))

-- a type has as many scopes as claims
pub scope_for_each_claim : (a : Ty) (t : Table) (n : ℕ) (ps : List Formula) (left s : List ℕ) → length (scopes_of n left s a) ≡ length (claims_of t n ps a)
unfolding Even
scope_for_each_claim = induction Even even_step

-- ---- the first refuted claim of two lists

module _ (r v : ℕ) where
  later_cond : (b : Bool) (s : List ℕ) (x y : Option (List ℕ)) → cond b (Some s) (or_later x y) ≡ or_later (cond b (Some s) x) y
  later_cond true s x y = refl
  later_cond false s x y = refl

  pub refuted_append : (cs ds : List Claim) (ss us : List (List ℕ)) → length ss ≡ length cs → refuted_scope r v (cs ++ ds) (ss ++ us) ≡ or_later (refuted_scope r v cs ss) (refuted_scope r v ds us)
  refuted_append [] ds [] us e = refl
  refuted_append [] ds (s ∷ ss) us e = absurd (omega (arith, e))
  refuted_append (c ∷ cs) ds [] us e = absurd (omega (arith, e))
  refuted_append (c ∷ cs) ds (s ∷ ss) us e =
      ap (λ x. cond (is_refuted r v c) (Some s) x) (refuted_append cs ds ss us (omega (arith, e)))
      ∙ later_cond (is_refuted r v c) s (refuted_scope r v cs ss) (refuted_scope r v ds us)
