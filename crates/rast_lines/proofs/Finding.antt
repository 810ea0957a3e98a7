-- What is found first where types stand side by side.
use Rattle.std.proofs.Common.{◌≡◌, ℕ, ◌+◌, ◌<◌, ◌≤◌, List, [], ◌∷◌, ◌++◌, map, length, drop, get_or, sym, ◌∙◌, ap, ap₂, Option, Some, None, Result, add-one, ◌⊎◌, inl, inr}
use Rattle.std.specs.Prelude.{IfOk, flat_map}
use Rattle.std.proofs.Math.Seq.{drop-cons}
use Rattle.std.proofs.lemmas.Result.{IfOk-weaker}
use Rattle.rast_index.specs.declared.formula.Formula.{Formula}
use Rattle.rast_types.specs.Closed.{Table}
use Rattle.rast_types.specs.declared.ty.Ty.{Ty}
use Rattle.rast_types.specs.declared.ty.Ty.TheVariants as ty
use Rattle.rast_equal.specs.Invalid.{or_later, choice_claims}
use Rattle.rast_equal.specs.Valid.{Claim, claims_of}
use Rattle.rast_equal.specs.WellMadeTypes.{quantifiers}
use Rattle.rast_equal.proofs.Claims.{claims_plus, claims_with, claims_tensor, claims_lolli, choice_next}
use Rattle.rast_lines.specs.Scopes.{scopes_of_each, scoped, scopes_of, refuted_scope}
use Rattle.rast_lines.proofs.Scoping.{choice_scopes, choice_scopes_next, types_scopes_next, refuted_append, scope_for_each_claim, scopes_plus, scopes_with, scopes_tensor, scopes_lolli}

module _ (r v : ℕ) where
  -- what is found is the scope of the first refuted of these claims, under each table
  abbrev pub Finds : {E : Type 0} → (Table → List Claim) → List (List ℕ) → Result (Option (List ℕ)) E → Type 0
  Finds {E} cs ss res = IfOk res (λ found. (t : Table) → found ≡ refuted_scope r v (cs t) ss)

  finds_by : {E : Type 0} (cs ds : Table → List Claim) (ss us : List (List ℕ)) (res : Result (Option (List ℕ)) E) → ((t : Table) → refuted_scope r v (cs t) ss ≡ refuted_scope r v (ds t) us) → Finds ds us res → Finds cs ss res
  finds_by {E} cs ds ss us res e h =
      IfOk-weaker res (λ found. (t : Table) → found ≡ refuted_scope r v (ds t) us) (λ found. (t : Table) → found ≡ refuted_scope r v (cs t) ss) (λ found g t. g t ∙ sym (e t)) h

  -- among the first claims
  first_here : (x : List ℕ) (cs ds es : List Claim) (ss us ts : List (List ℕ)) → es ≡ cs ++ ds → ts ≡ ss ++ us → length ss ≡ length cs → Some x ≡ refuted_scope r v cs ss → Some x ≡ refuted_scope r v es ts
  first_here x cs ds es ss us ts e f l h =
      sym (ap₂ (refuted_scope r v) e f ∙ refuted_append r v cs ds ss us l ∙ ap (λ o. or_later o (refuted_scope r v ds us)) (sym h))

  -- not among these
  first_later : (cs ds es : List Claim) (ss us ts : List (List ℕ)) → es ≡ cs ++ ds → ts ≡ ss ++ us → length ss ≡ length cs → None ≡ refuted_scope r v cs ss → refuted_scope r v es ts ≡ refuted_scope r v ds us
  first_later cs ds es ss us ts e f l h =
      ap₂ (refuted_scope r v) e f ∙ refuted_append r v cs ds ss us l ∙ ap (λ o. or_later o (refuted_scope r v ds us)) (sym h)

  module _ (n : ℕ) (ps : List Formula) (left s : List ℕ) where
    -- ---- by the form of a type

    module _ (few : n ≤ 16) (a : Ty) where
      abbrev Answers : {E : Type 0} → Result (Option (List ℕ)) E → Type 0
      Answers {E} res = Finds (λ t. claims_of t n ps a) (scopes_of n left s a) res

      pub finds_plus : {E : Type 0} (res : Result (Option (List ℕ)) E) (ts : List (ℕ × Ty)) → a ≡ ty.Plus ts → Finds (λ t. choice_claims t n ps ts) (choice_scopes ts n left s) res → Answers res
      finds_plus {E} res ts is = finds_by (λ t. claims_of t n ps a) (λ t. choice_claims t n ps ts) (scopes_of n left s a) (choice_scopes ts n left s) res
          (λ t. ap₂ (refuted_scope r v) (ap (claims_of t n ps) is ∙ claims_plus t n ps few ts) (ap (scopes_of n left s) is ∙ scopes_plus n left s few ts))

      pub finds_with : {E : Type 0} (res : Result (Option (List ℕ)) E) (ts : List (ℕ × Ty)) → a ≡ ty.With ts → Finds (λ t. choice_claims t n ps ts) (choice_scopes ts n left s) res → Answers res
      finds_with {E} res ts is = finds_by (λ t. claims_of t n ps a) (λ t. choice_claims t n ps ts) (scopes_of n left s a) (choice_scopes ts n left s) res
          (λ t. ap₂ (refuted_scope r v) (ap (claims_of t n ps) is ∙ claims_with t n ps few ts) (ap (scopes_of n left s) is ∙ scopes_with n left s few ts))

      -- a type of two parts
      module _ (b c : Ty) (is : (a ≡ ty.Tensor b c) ⊎ (a ≡ ty.Lolli b c)) where
        claims_two : (t : Table) → (a ≡ ty.Tensor b c) ⊎ (a ≡ ty.Lolli b c) → claims_of t n ps a ≡ claims_of t n ps b ++ claims_of t n ps c
        claims_two t (inl e) = ap (claims_of t n ps) e ∙ claims_tensor t n ps few b c
        claims_two t (inr e) = ap (claims_of t n ps) e ∙ claims_lolli t n ps few b c

        scopes_two : (a ≡ ty.Tensor b c) ⊎ (a ≡ ty.Lolli b c) → scopes_of n left s a ≡ scopes_of n left s b ++ scopes_of n (drop (quantifiers b) left) s c
        scopes_two (inl e) = ap (scopes_of n left s) e ∙ scopes_tensor n left s few b c
        scopes_two (inr e) = ap (scopes_of n left s) e ∙ scopes_lolli n left s few b c

        pub first_part : (x : List ℕ) (t : Table) → Some x ≡ refuted_scope r v (claims_of t n ps b) (scopes_of n left s b) → Some x ≡ refuted_scope r v (claims_of t n ps a) (scopes_of n left s a)
        first_part x t = first_here x (claims_of t n ps b) (claims_of t n ps c) (claims_of t n ps a) (scopes_of n left s b) (scopes_of n (drop (quantifiers b) left) s c) (scopes_of n left s a)
            (claims_two t is) (scopes_two is) (scope_for_each_claim b t n ps left s)

        pub second_part : {E : Type 0} (res : Result (Option (List ℕ)) E) (l : List ℕ) → l ≡ drop (quantifiers b) left → ((t : Table) → None ≡ refuted_scope r v (claims_of t n ps b) (scopes_of n left s b)) →
            Finds (λ t. claims_of t n ps c) (scopes_of n l s c) res → Answers res
        second_part {E} res l past none = finds_by (λ t. claims_of t n ps a) (λ t. claims_of t n ps c) (scopes_of n left s a) (scopes_of n l s c) res
            (λ t. first_later (claims_of t n ps b) (claims_of t n ps c) (claims_of t n ps a) (scopes_of n left s b) (scopes_of n (drop (quantifiers b) left) s c) (scopes_of n left s a)
            (claims_two t is) (scopes_two is) (scope_for_each_claim b t n ps left s) (none t)
            ∙ ap (λ m. refuted_scope r v (claims_of t n ps c) (scopes_of n m s c)) (sym past))

    -- ---- the types of a choice

    module _ (ts : List (ℕ × Ty)) (i : ℕ) (e : ℕ × Ty) (lt : i < length ts) (is : e ≡ get_or ts i e) (t : Table) where
      pub choice_here : (x : List ℕ) → Some x ≡ refuted_scope r v (claims_of t n ps e.1) (scopes_of n left s e.1) → Some x ≡ refuted_scope r v (choice_claims t n ps (drop i ts)) (choice_scopes (drop i ts) n left s)
      choice_here x = first_here x (claims_of t n ps e.1) (choice_claims t n ps (drop (i + 1) ts)) (choice_claims t n ps (drop i ts)) (scopes_of n left s e.1) (choice_scopes (drop (i + 1) ts) n (drop (quantifiers e.1) left) s) (choice_scopes (drop i ts) n left s)
          (choice_next t n ps ts i e lt is) (choice_scopes_next n left s ts i e lt is) (scope_for_each_claim e.1 t n ps left s)

      pub choice_later : (l : List ℕ) → l ≡ drop (quantifiers e.1) left → None ≡ refuted_scope r v (claims_of t n ps e.1) (scopes_of n left s e.1) →
          refuted_scope r v (choice_claims t n ps (drop i ts)) (choice_scopes (drop i ts) n left s) ≡ refuted_scope r v (choice_claims t n ps (drop (i + 1) ts)) (choice_scopes (drop (i + 1) ts) n l s)
      choice_later l past none =
          first_later (claims_of t n ps e.1) (choice_claims t n ps (drop (i + 1) ts)) (choice_claims t n ps (drop i ts)) (scopes_of n left s e.1) (choice_scopes (drop (i + 1) ts) n (drop (quantifiers e.1) left) s) (choice_scopes (drop i ts) n left s)
          (choice_next t n ps ts i e lt is) (choice_scopes_next n left s ts i e lt is) (scope_for_each_claim e.1 t n ps left s) none
          ∙ ap (λ m. refuted_scope r v (choice_claims t n ps (drop (i + 1) ts)) (choice_scopes (drop (i + 1) ts) n m s)) (sym past)

    -- ---- types before a last one

    module _ (xs : List Ty) (z : Ty) (i : ℕ) (a : Ty) (lt : i < length xs) (is : a ≡ get_or xs i a) (t : Table) where
      abbrev types_claims : List Ty → List Claim
      types_claims ys = flat_map (claims_of t n ps) (ys ++ z ∷ [])

      abbrev types_scopes : List Ty → List ℕ → List (List ℕ)
      types_scopes ys l = scopes_of_each (map scoped (ys ++ z ∷ [])) n l s

      types_at : drop i xs ≡ a ∷ drop (i + 1) xs
      types_at = drop-cons xs i a lt ∙ ap₂ (λ (x : Ty) j. x ∷ drop j xs) (sym is) (sym (add-one i))

      pub type_here : (x : List ℕ) → Some x ≡ refuted_scope r v (claims_of t n ps a) (scopes_of n left s a) → Some x ≡ refuted_scope r v (types_claims (drop i xs)) (types_scopes (drop i xs) left)
      type_here x = first_here x (claims_of t n ps a) (types_claims (drop (i + 1) xs)) (types_claims (drop i xs)) (scopes_of n left s a) (types_scopes (drop (i + 1) xs) (drop (quantifiers a) left)) (types_scopes (drop i xs) left)
          (ap types_claims types_at) (ap (λ ys. types_scopes ys left) types_at ∙ types_scopes_next n left s a (drop (i + 1) xs ++ z ∷ [])) (scope_for_each_claim a t n ps left s)

      pub type_later : (l : List ℕ) → l ≡ drop (quantifiers a) left → None ≡ refuted_scope r v (claims_of t n ps a) (scopes_of n left s a) →
          refuted_scope r v (types_claims (drop i xs)) (types_scopes (drop i xs) left) ≡ refuted_scope r v (types_claims (drop (i + 1) xs)) (types_scopes (drop (i + 1) xs) l)
      type_later l past none =
          first_later (claims_of t n ps a) (types_claims (drop (i + 1) xs)) (types_claims (drop i xs)) (scopes_of n left s a) (types_scopes (drop (i + 1) xs) (drop (quantifiers a) left)) (types_scopes (drop i xs) left)
          (ap types_claims types_at) (ap (λ ys. types_scopes ys left) types_at ∙ types_scopes_next n left s a (drop (i + 1) xs ++ z ∷ [])) (scope_for_each_claim a t n ps left s) none
          ∙ ap (λ m. refuted_scope r v (types_claims (drop (i + 1) xs)) (types_scopes (drop (i + 1) xs) m)) (sym past)
