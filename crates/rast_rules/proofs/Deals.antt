-- How references are dealt out to what is asked.
use Rattle.std.proofs.Common.{◌≡◌, ℕ, Bool, true, false, ◌||◌, if◌then◌else◌, List, [], ◌∷◌, ◌++◌, map, length, Option, Some, None, ◌∙◌, ap, ap₂, refl, arith}
use Rattle.std.proofs.lemmas.List.{take_all}
use Rattle.rast_index.specs.Truth.{all_small}
use Rattle.rast_index.specs.declared.formula.Formula.{Formula}
use Rattle.rast_types.specs.declared.equation.Ref.{Ref}
use Rattle.rast_types.specs.declared.ty.Ty.{Ty}
use Rattle.rast_types.specs.declared.ty.Kind.{Kind}
use Rattle.rast_types.specs.declared.stop.Stop.TheVariants as stop
use Rattle.rast_rules.specs.declared.premise.Premise.TheVariants.{Truth, Same, Passed}
use Rattle.rast_rules.specs.declared.judgement.Judgement.{Judgement}
use Rattle.rast_rules.specs.Rules.{Asked, Askings, Is, Shaped, Alike, Stopped, is_alike, premise_of, deal, made_truth, are_used, none_left, head_is}
use Rattle.rast_rules.specs.Trail.{plain, asks_sameness, truth_premise}

pub or_false : (b c : Bool) → (b || c) ≡ false → (b ≡ false) × (c ≡ false)
or_false true c e = absurd (cc)
or_false false c e = (refl, e)

module _ (n : ℕ) (rs : List Ref) where
  deal_quiet_one : (k : ℕ) (a : Asked) (more : Askings) → is_alike a ≡ false → deal n rs ((k, a) ∷ more) ≡ (k, premise_of a []) ∷ deal n rs more
  deal_quiet_one k (Is goal) more e = refl
  deal_quiet_one k (Shaped ok w) more e = refl
  deal_quiet_one k (Alike a b failed) more e = absurd (cc)
  deal_quiet_one k (Stopped s) more e = refl

  -- where no sameness is asked, no reference is taken
  pub deal_quiet : (as' more : Askings) → asks_sameness as' ≡ false → deal n rs (as' ++ more) ≡ plain as' ++ deal n rs more
  deal_quiet [] more e = refl
  deal_quiet (a ∷ as') more e =
      let h = or_false (is_alike a.1) (asks_sameness as') e in
      deal_quiet_one a.0 a.1 (as' ++ more) h.0 ∙ ap (λ ps. (a.0, premise_of a.1 []) ∷ ps) (deal_quiet as' more h.1)

  pub deal_plain : (as' : Askings) → asks_sameness as' ≡ false → deal n rs as' ≡ plain as'
  deal_plain [] e = refl
  deal_plain (a ∷ as') e =
      let h = or_false (is_alike a.1) (asks_sameness as') e in
      deal_quiet_one a.0 a.1 as' h.0 ∙ ap (λ ps. (a.0, premise_of a.1 []) ∷ ps) (deal_plain as' h.1)

  pub deal_truth : (k : ℕ) (f : Formula) (more : Askings) → deal n rs (made_truth k f ∷ more) ≡ (k, truth_premise f) ∷ deal n rs more
  deal_truth k f more = either (all_small f)
    where
      either : (b : Bool) → deal n rs ((if b then (k, Is f) else (k, Stopped stop.Coefficient)) ∷ more) ≡ (k, (if b then Truth f else Passed stop.Coefficient)) ∷ deal n rs more
      either true = refl
      either false = refl

  -- the last that asks for sameness gets all references
  pub deal_last : (k : ℕ) (a b : Ty) → deal n rs ((k, Alike a b None) ∷ []) ≡ (k, Same a b rs) ∷ []
  deal_last k a b = ap (λ xs. (k, Same a b xs) ∷ []) (take_all (length rs) rs (omega arith))

-- ---- lists in which no sameness is asked

pub quiet_map : {X : Type 0} (f : X → ℕ × Asked) (xs : List X) → ((x : X) → is_alike (f x).1 ≡ false) → asks_sameness (map f xs) ≡ false
quiet_map f [] h = refl
quiet_map f (x ∷ xs) h = ap₂ (λ b c. b || c) (h x) (quiet_map f xs h)

pub quiet_append : (as' bs : Askings) → asks_sameness as' ≡ false → asks_sameness bs ≡ false → asks_sameness (as' ++ bs) ≡ false
quiet_append [] bs e h = h
quiet_append (a ∷ as') bs e h = let g = or_false (is_alike a.1) (asks_sameness as') e in ap₂ (λ b c. b || c) g.0 (quiet_append as' bs g.1 h)

pub quiet_used : (j : Judgement) (k : ℕ) (seen ys : List ℕ) → asks_sameness (are_used j k seen ys) ≡ false
quiet_used j k seen [] = refl
quiet_used j k seen (y ∷ ys) = quiet_used j k (y ∷ seen) ys

pub quiet_left : (k : ℕ) (us : List (ℕ × Ty)) → asks_sameness (none_left k us) ≡ false
quiet_left k [] = refl
quiet_left k (u ∷ us) = refl

pub quiet_head : (want : Kind) (found : Option Kind) → asks_sameness (head_is want found) ≡ false
quiet_head want None = refl
quiet_head want (Some found) = refl

pub plain_append : (as' bs : Askings) → plain (as' ++ bs) ≡ plain as' ++ plain bs
plain_append [] bs = refl
plain_append (a ∷ as') bs = ap (λ ps. (a.0, premise_of a.1 []) ∷ ps) (plain_append as' bs)
