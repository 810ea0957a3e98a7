-- The test of a judgement's limits, from the answers of its parts.
use Rattle.std.proofs.Common.{◌≡◌, ℕ, ◌+◌, ◌<◌, ◌≤◌, min, Bool, true, false, ◌||◌, ◌&&◌, if◌then◌else◌, List, [], ◌∷◌, map, length, Result, Ok, Err, ◌∙◌, ap, ap₂, refl, arith, nat_lt}
use Rattle.std.specs.List.{list_any, list_all}
use Rattle.std.proofs.lemmas.Bool.Decides.{nat_tests}
use Rattle.std.proofs.lemmas.Bool.{and_right}
use Rattle.std.proofs.lemmas.List.Folds.{list_any-append, list_all-append, list_all-map}
use Rattle.rast_index.proofs.Trees.{list_any-map}
use Rattle.rast_index.specs.Linear.{Linear, is_small}
use Rattle.rast_index.specs.Truth.{all_small}
use Rattle.rast_index.specs.declared.formula.Formula.{Formula}
use Rattle.rast_types.specs.declared.stop.Stop.{Stop}
use Rattle.rast_types.specs.declared.stop.Stop.TheVariants as stop
use Rattle.rast_types.specs.declared.table.Ctx.{Ctx}
use Rattle.rast_types.specs.declared.ty.Ty.{Ty}
use Rattle.rast_types.specs.Symbolic.{within, is_deep, is_small_type, binders}
use Rattle.rast_rules.specs.Rules.{Judgement, limited, all_types, is_small_judgement}
use Rattle.rast_rules.specs.Making.{made_term}

-- what an answer within the limits tells, where no variable is too many
pub not_deep : {X : Type 0} (deep small : Bool) (x : X) (r : Result X Stop) → r ≡ within deep small x → (r ≡ Err stop.Variables → ⊥) → deep ≡ false
not_deep {X} true small x r e h = absurd (h e)
not_deep {X} false small x r e h = refl

pub not_small : {X : Type 0} (deep small : Bool) (x : X) (s : Stop) → within deep small x ≡ Err s → deep ≡ false → small ≡ false
not_small {X} true small x s e h = absurd (cc)
not_small {X} false true x s e h = absurd (cc)
not_small {X} false false x s e h = refl

pub term_ok : (l q : Linear) → made_term l ≡ Ok q → (is_small l ≡ true) × (l ≡ q)
term_ok l q e = by_case (is_small l) refl e
  where
    the_same : (r : Result Linear Stop) → r ≡ Ok l → r ≡ Ok q → l ≡ q
    the_same r d f = cc

    by_case : (b : Bool) → is_small l ≡ b → (if b then Ok l else Err stop.Coefficient) ≡ Ok q → (is_small l ≡ true) × (l ≡ q)
    by_case true h f = (h, the_same (Ok l) refl f)
    by_case false h f = absurd (cc)

pub term_err : (l : Linear) (s : Stop) → made_term l ≡ Err s → is_small l ≡ false
term_err l s e = by_case (is_small l) refl e
  where
    by_case : (b : Bool) → is_small l ≡ b → (if b then Ok l else Err stop.Coefficient) ≡ Err s → is_small l ≡ false
    by_case true h f = absurd (cc)
    by_case false h f = h

pub term_fits : (l : Linear) → is_small l ≡ true → made_term l ≡ Ok l
term_fits l h = ap (λ b. if b then Ok l else Err stop.Coefficient) h

or_any : (a b : Bool) → b ≡ true → (a || b) ≡ true
or_any true b e = refl
or_any false b e = e

or_left : (a b : Bool) → a ≡ true → (a || b) ≡ true
or_left a b e = ap (λ c. c || b) e

module _ (j : Judgement) where
  abbrev n : ℕ
  n = j.ctx.vars

  abbrev deep_uses : Bool
  deep_uses = list_any (λ u. is_deep n u.1) j.uses

  abbrev deep_gives : Bool
  deep_gives = is_deep n j.gives.1

  abbrev small_uses : Bool
  small_uses = list_all (λ u. is_small_type u.1) j.uses

  abbrev small_gives : Bool
  small_gives = is_small_type j.gives.1

  any_types : list_any (λ a. is_deep n a.1) (all_types j) ≡ (deep_uses || (deep_gives || false))
  any_types = list_any-append (λ a. is_deep n a.1) (map (λ (u : ℕ × Ty). (false, u.1)) j.uses) ((true, j.gives.1) ∷ []) ∙ ap (λ b. b || (deep_gives || false)) (list_any-map (λ (a : Bool × Ty). is_deep n a.1) (λ (u : ℕ × Ty). (false, u.1)) j.uses)

  all_types_small : list_all (λ a. is_small_type a.1) (all_types j) ≡ (small_uses && (small_gives && true))
  all_types_small = list_all-append (λ a. is_small_type a.1) (map (λ (u : ℕ × Ty). (false, u.1)) j.uses) ((true, j.gives.1) ∷ []) ∙ ap (λ b. b && (small_gives && true)) (list_all-map (λ (a : Bool × Ty). is_small_type a.1) (λ (u : ℕ × Ty). (false, u.1)) j.uses)

  by : (d m s : Bool) → (nat_lt 16 n || list_any (λ a. is_deep n a.1) (all_types j)) ≡ d → nat_lt 15 (length j.uses) ≡ m → is_small_judgement j ≡ s →
      limited j ≡ (if d then Err stop.Variables else (if m then Err stop.Channels else (if s then Ok j else Err stop.Coefficient)))
  by d m s e f g =
      ap (λ b. if b then Err stop.Variables else (if nat_lt 15 (length j.uses) then Err stop.Channels else (if is_small_judgement j then Ok j else Err stop.Coefficient))) e
      ∙ ap₂ (λ b c. if d then Err stop.Variables else (if b then Err stop.Channels else (if c then Ok j else Err stop.Coefficient))) f g

  pub limit_scope : nat_lt 16 n ≡ true → limited j ≡ Err stop.Variables
  limit_scope h = by true _ _ (or_left _ _ h) refl refl

  pub limit_uses : deep_uses ≡ true → limited j ≡ Err stop.Variables
  limit_uses h = by true _ _ (or_any _ _ (any_types ∙ or_left _ _ h)) refl refl

  pub limit_gives : deep_gives ≡ true → limited j ≡ Err stop.Variables
  limit_gives h = by true _ _ (or_any _ _ (any_types ∙ or_any deep_uses _ (or_left _ _ h))) refl refl

  in_scope : (b : ℕ) → nat_lt 16 (n + b) ≡ false → nat_lt 16 n ≡ false
  in_scope b h = grind (arith, nat_tests)

  shallow : deep_uses ≡ false → deep_gives ≡ false → (nat_lt 16 n || list_any (λ a. is_deep n a.1) (all_types j)) ≡ false
  shallow e f = ap₂ (λ b c. b || c) (in_scope (binders j.gives.1) f) (any_types ∙ ap₂ (λ b c. b || (c || false)) e f)

  many : (c : ℕ) → c ≡ min 16 (length j.uses) → nat_lt 15 (length j.uses) ≡ nat_lt 15 c
  many c e = grind (arith, nat_tests)

  pub limit_channels : (c : ℕ) → deep_uses ≡ false → deep_gives ≡ false → c ≡ min 16 (length j.uses) → 15 < c → limited j ≡ Err stop.Channels
  limit_channels c e f g h = by false true _ (shallow e f) (many c g ∙ above c h) refl
    where
      above : (c : ℕ) → 15 < c → nat_lt 15 c ≡ true
      above c h = grind (arith, nat_tests)

  few : (c : ℕ) → c ≡ min 16 (length j.uses) → c ≤ 15 → nat_lt 15 (length j.uses) ≡ false
  few c e h = grind (arith, nat_tests)

  great : (c : ℕ) → deep_uses ≡ false → deep_gives ≡ false → c ≡ min 16 (length j.uses) → c ≤ 15 → is_small_judgement j ≡ false → limited j ≡ Err stop.Coefficient
  great c e f g h i = by false false false (shallow e f) (few c g h) i

  and_left : (a b : Bool) → a ≡ false → (a && b) ≡ false
  and_left a b e = ap (λ c. c && b) e

  pub great_uses : (c : ℕ) → deep_uses ≡ false → deep_gives ≡ false → c ≡ min 16 (length j.uses) → c ≤ 15 → small_uses ≡ false → limited j ≡ Err stop.Coefficient
  great_uses c e f g h s = great c e f g h (ap (λ b. b && (is_small j.potential && list_all all_small j.ctx.premises)) (all_types_small ∙ and_left _ _ s))

  pub great_gives : (c : ℕ) → deep_uses ≡ false → deep_gives ≡ false → c ≡ min 16 (length j.uses) → c ≤ 15 → small_gives ≡ false → limited j ≡ Err stop.Coefficient
  great_gives c e f g h s = great c e f g h (ap (λ b. b && (is_small j.potential && list_all all_small j.ctx.premises)) (all_types_small ∙ and_right small_uses _ (and_left _ _ s)))

  pub great_potential : (c : ℕ) → deep_uses ≡ false → deep_gives ≡ false → c ≡ min 16 (length j.uses) → c ≤ 15 → is_small j.potential ≡ false → limited j ≡ Err stop.Coefficient
  great_potential c e f g h s = great c e f g h (and_right _ _ (and_left _ _ s))

  pub limit_none : (c : ℕ) → deep_uses ≡ false → deep_gives ≡ false → c ≡ min 16 (length j.uses) → c ≤ 15 → small_uses ≡ true → small_gives ≡ true → is_small j.potential ≡ true → list_all all_small j.ctx.premises ≡ true → limited j ≡ Ok j
  limit_none c e f g h su sg sq sp =
      by false false true (shallow e f) (few c g h) (ap₂ (λ a b. a && b) (all_types_small ∙ ap₂ (λ a b. a && (b && true)) su sg) (ap₂ (λ a b. a && b) sq sp))

-- a judgement from its parts
pub built : (j : Judgement) (d vars : ℕ) (ps : List Formula) (us : List (ℕ × Ty)) (q : Linear) (x : ℕ) (a : Ty) (f : ℕ) → d ≡ j.decl → vars ≡ j.ctx.vars → ps ≡ j.ctx.premises → us ≡ j.uses → q ≡ j.potential → x ≡ j.gives.0 → a ≡ j.gives.1 → f ≡ j.fresh →
    record { decl = d; ctx = record { vars = vars; premises = ps }; uses = us; potential = q; gives = (x, a); fresh = f } ≡ j
built j d vars ps us q x a f e1 e2 e3 e4 e5 e6 e7 e8 =
    let c : Ctx = record { vars = vars; premises = ps } in
    let same : c ≡ j.ctx = ap₂ (λ v p. record { vars = v; premises = p }) e2 e3 in
    let pair : (x, a) ≡ j.gives = ap₂ (λ y b. (y, b)) e6 e7 in
    let one : Judgement = record { decl = j.decl; ctx = j.ctx; uses = us; potential = q; gives = (x, a); fresh = f } in
    let two : Judgement = record { decl = j.decl; ctx = j.ctx; uses = j.uses; potential = j.potential; gives = (x, a); fresh = f } in
    ap₂ (λ (k : ℕ) (e : Ctx). record one { decl = k; ctx = e }) e1 same ∙ ap₂ (λ (w : List (ℕ × Ty)) (l : Linear). record two { uses = w; potential = l }) e4 e5 ∙ ap₂ (λ (g : ℕ × Ty) (k : ℕ). record j { gives = g; fresh = k }) pair e8
