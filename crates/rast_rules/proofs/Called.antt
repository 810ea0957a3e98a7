-- What is dealt out at a spawn and at a call.
use Rattle.std.proofs.Common.{◌≡◌, ℕ, zero, suc, ◌+◌, ◌-◌, ◌<◌, ◌≤◌, min, Bool, true, false, not, ◌||◌, ◌&&◌, ◌==◌, if◌then◌else◌, List, [], ◌∷◌, ◌++◌, map, zip, length, take, drop, get_or, Option, Some, Result, Ok, Err, sym, ◌∙◌, ap, ap₂, refl, arith, add-one, nat_eq, inl, inr, eq-eqb}
use Rattle.std.proofs.Math.Seq.{drop-cons, take-suc}
use Rattle.std.proofs.lemmas.Bool.{cases_lt, ne_eqb}
use Rattle.std.proofs.lemmas.Bool.Decides.{nat_tests}
use Rattle.std.proofs.lemmas.List.{take_all, drop_all, length-drop}
use Rattle.std.proofs.lemmas.List.Folds.{list_any-append}
use Rattle.std.specs.Prelude.{is_some}
use Rattle.std.specs.List.{list_any}
use Rattle.rast_index.specs.Linear.{Linear, replaced}
use Rattle.rast_index.specs.Truth.{is_equal, is_at_least}
use Rattle.rast_types.specs.declared.equation.Ref.{Ref}
use Rattle.rast_types.specs.declared.stop.Stop.{Stop}
use Rattle.rast_types.specs.declared.ty.Ty.{Ty}
use Rattle.rast_types.specs.Symbolic.{made_type}
use Rattle.rast_equal.specs.Valid.{nonneg}
use Rattle.rast_equal.specs.Walk.{meets, count, top}
use Rattle.rast_rules.specs.declared.premise.Premise.TheVariants.{Shape, Same, Passed}
use Rattle.rast_rules.specs.declared.premise.Evidence.TheVariants.{Linear as WLinear}
use Rattle.rast_rules.specs.Rules.{Decl, Judgement, Asked, Askings, Is, Shaped, Alike, is_alike, deal, share, failure, same_or_passed, are_used, is_new, is_provided, used_type, arg_asked, at_args, spawn_asked, call_asked, none_left, without}
use Rattle.rast_rules.specs.Trail.{and_then, any_stops, plain, asks_sameness, truth_premise}
use Rattle.rast_rules.proofs.Deals.{deal_quiet, deal_truth, deal_last, quiet_map, quiet_used, quiet_left}
use Rattle.rast_rules.proofs.Trails.{Found, then_then, then_nil, then_closed, any_after}

pub spawn_deal : (j : Judgement) (es : List Linear) (ys : List ℕ) (d : Decl) (n : ℕ) (rs : List Ref) →
    plain (map (λ e. (1, Is (nonneg e))) es) ++ (plain (are_used j 2 [] ys) ++ ((3, truth_premise (is_at_least j.potential (replaced es d.potential))) ∷ [] ++ deal n rs (map (arg_asked j 4 es) (zip ys d.uses)))) ≡ deal n rs (spawn_asked j es ys (Some d))
spawn_deal j es ys d n rs =
    let f : Linear → ℕ × Asked = λ e. (1, Is (nonneg e)) in
    sym (deal_quiet n rs (map f es) _ (quiet_map f es (λ e. refl))
    ∙ ap (λ ps. plain (map f es) ++ ps) (deal_quiet n rs (are_used j 2 [] ys) _ (quiet_used j 2 [] ys)
    ∙ ap (λ ps. plain (are_used j 2 [] ys) ++ ps) (deal_truth n rs 3 (is_at_least j.potential (replaced es d.potential)) (map (arg_asked j 4 es) (zip ys d.uses)))))

pub call_deal : (j : Judgement) (x : ℕ) (es : List Linear) (ys : List ℕ) (d : Decl) (n : ℕ) (rs : List Ref) → let b = at_args j es d.gives in
    plain (map (λ e. (1, Is (nonneg e))) es) ++ ((2, Shape (is_provided j x) (WLinear x)) ∷ [] ++ (plain (are_used j 3 [] ys) ++ (plain (none_left 3 (without j ys).uses) ++ ((4, truth_premise (is_equal j.potential (replaced es d.potential))) ∷ [] ++ deal n rs (map (arg_asked j 5 es) (zip ys d.uses) ++ (5, Alike b j.gives.1 (failure (made_type j.ctx.vars b))) ∷ []))))) ≡ deal n rs (call_asked j x es ys (Some d))
call_deal j x es ys d n rs =
    let f : Linear → ℕ × Asked = λ e. (1, Is (nonneg e)) in
    let b = at_args j es d.gives in
    sym (deal_quiet n rs (map f es) _ (quiet_map f es (λ e. refl))
    ∙ ap (λ ps. plain (map f es) ++ ((2, Shape (is_provided j x) (WLinear x)) ∷ ps)) (deal_quiet n rs (are_used j 3 [] ys) _ (quiet_used j 3 [] ys)
    ∙ ap (λ ps. plain (are_used j 3 [] ys) ++ ps) (deal_quiet n rs (none_left 3 (without j ys).uses) _ (quiet_left 3 (without j ys).uses)
    ∙ ap (λ ps. plain (none_left 3 (without j ys).uses) ++ ps) (deal_truth n rs 4 (is_equal j.potential (replaced es d.potential)) (map (arg_asked j 5 es) (zip ys d.uses) ++ (5, Alike b j.gives.1 (failure (made_type j.ctx.vars b))) ∷ [])))))

-- ---- used channels

or_swap : (a b : Bool) → (a || b) ≡ (b || (a || false))
or_swap true true = refl
or_swap true false = refl
or_swap false true = refl
or_swap false false = refl

used_same : (j : Judgement) (k : ℕ) (s t ys : List ℕ) → ((z : ℕ) → list_any (λ x. x == z) s ≡ list_any (λ x. x == z) t) → are_used j k s ys ≡ are_used j k t ys
used_same j k s t [] h = refl
used_same j k s t (y ∷ ys) h =
    ap₂ (λ b more. (k, Shaped (is_some (used_type j y) && not b) (WLinear y)) ∷ more) (h y) (used_same j k (y ∷ s) (y ∷ t) ys (λ z. ap (λ b. (y == z) || b) (h z)))

pub used_turn : (j : Judgement) (k : ℕ) (G now new : Found) (ys : List ℕ) (i y : ℕ) → and_then now (plain (are_used j k (take i ys) (drop i ys))) ≡ G → i < length ys → y ≡ get_or ys i 0 →
    new ≡ and_then now ((k, Shape (is_some (used_type j y) && is_new (take i ys) y) (WLinear y)) ∷ []) →
    and_then new (plain (are_used j k (take (i + 1) ys) (drop (i + 1) ys))) ≡ G
used_turn j k G now new ys i y inv below is step =
    let seen : take (suc i) ys ≡ take i ys ++ y ∷ [] = take-suc ys i 0 below ∙ ap (λ z. take i ys ++ z ∷ []) (sym is) in
    let rest = drop (suc i) ys in
    let opened : drop i ys ≡ y ∷ rest = drop-cons ys i 0 below ∙ ap (λ z. z ∷ rest) (sym is) in
    let same : are_used j k (y ∷ take i ys) rest ≡ are_used j k (take (suc i) ys) rest =
    used_same j k (y ∷ take i ys) (take (suc i) ys) rest (λ z. or_swap (y == z) (list_any (λ x. x == z) (take i ys)) ∙ sym (ap (list_any (λ x. x == z)) seen ∙ list_any-append (λ x. x == z) (take i ys) (y ∷ []))) in
    ap (λ m. and_then new (plain (are_used j k (take m ys) (drop m ys)))) (add-one i)
    ∙ ap (λ as'. and_then new (plain as')) (sym same)
    ∙ ap (λ ps. and_then ps (plain (are_used j k (y ∷ take i ys) rest))) step
    ∙ then_then now ((k, Shape (is_some (used_type j y) && is_new (take i ys) y) (WLinear y)) ∷ []) (plain (are_used j k (y ∷ take i ys) rest))
    ∙ ap (λ zs. and_then now (plain (are_used j k (take i ys) zs))) (sym opened) ∙ inv

pub used_end : (j : Judgement) (k : ℕ) (G now : Found) (ys : List ℕ) (i : ℕ) → and_then now (plain (are_used j k (take i ys) (drop i ys))) ≡ G → length ys ≤ i → now ≡ G
used_end j k G now ys i inv past = sym (then_nil now) ∙ ap (λ zs. and_then now (plain (are_used j k (take i ys) zs))) (sym (drop_all i ys past)) ∙ inv

-- ---- one argument

take_least : {X : Type 0} (xs : List X) (c : ℕ) → take (min (length xs) c) xs ≡ take c xs
take_least xs c = elim (cases_lt (length xs) c) [
  | inl below ↦ ap (λ k. take k xs) (let e : min (length xs) c ≡ length xs = omega arith in e) ∙ take_all (length xs) xs (omega arith) ∙ sym (take_all c xs (omega arith))
  | inr above ↦ ap (λ k. take k xs) (let e : min (length xs) c ≡ c = omega arith in e)
]

drop_least : {X : Type 0} (xs : List X) (c : ℕ) → drop (min (length xs) c) xs ≡ drop c xs
drop_least xs c = elim (cases_lt (length xs) c) [
  | inl below ↦ ap (λ k. drop k xs) (let e : min (length xs) c ≡ length xs = omega arith in e) ∙ drop_all (length xs) xs (omega arith) ∙ sym (drop_all c xs (omega arith))
  | inr above ↦ ap (λ k. drop k xs) (let e : min (length xs) c ≡ c = omega arith in e)
]

-- the references that a sameness takes, and those that are left
cut : (s : Bool) (c taken : ℕ) (rs : List Ref) → taken ≡ (if not s then length rs else min (length rs) c) →
    (take taken rs ≡ take (if s then c else length rs) rs) × (drop taken rs ≡ drop (if s then c else length rs) rs)
cut true c taken rs e = (ap (λ k. take k rs) e ∙ take_least rs c, ap (λ k. drop k rs) e ∙ drop_least rs c)
cut false c taken rs e = (ap (λ k. take k rs) e, ap (λ k. drop k rs) e)

module _ (n k : ℕ) (a b : Ty) (rs : List Ref) (m : Result Ty Stop) (more : Askings) (old new : Found) where
  pub arg_ok : (w : Ty) (taken : ℕ) (last : Bool) → m ≡ Ok w → b ≡ w → not (asks_sameness more) ≡ last → taken ≡ (if last then length rs else min (length rs) (count (meets a w (top n [])))) →
      new ≡ and_then old ((k, Same a w (take taken rs)) ∷ []) → and_then new (deal n (drop taken rs) more) ≡ and_then old (deal n rs ((k, Alike a b (failure m)) ∷ more))
  arg_ok w taken last is same lasts e step =
      let s = asks_sameness more in
      let c = count (meets a w (top n [])) in
      let h = cut s c taken rs (e ∙ ap (λ l. if l then length rs else min (length rs) c) (sym lasts)) in
      let q : ℕ = if s then c else length rs in
      ap (λ ps. and_then ps (deal n (drop taken rs) more)) step
      ∙ then_then old ((k, Same a w (take taken rs)) ∷ []) (deal n (drop taken rs) more)
      ∙ ap₂ (λ (xs ys : List Ref). and_then old ((k, Same a w xs) ∷ deal n ys more)) h.0 h.1
      ∙ sym (ap₂ (λ (r : Result Ty Stop) (t : Ty). and_then old (deal n rs ((k, Alike a t (failure r)) ∷ more))) is same)

  pub arg_err : (s : Stop) → m ≡ Err s → new ≡ and_then old ((k, Passed s) ∷ []) → and_then new (deal n rs more) ≡ and_then old (deal n rs ((k, Alike a b (failure m)) ∷ more))
  arg_err s is step =
      let closed : any_stops new ≡ true = ap any_stops step ∙ any_after old (k, Passed s) refl in
      let q = share n rs (Alike a b (failure m)) more in
      then_closed new (deal n rs more) closed
      ∙ sym (then_closed new (deal n (drop q rs) more) closed)
      ∙ ap (λ ps. and_then ps (deal n (drop q rs) more)) step
      ∙ then_then old ((k, Passed s) ∷ []) (deal n (drop q rs) more)
      ∙ sym (ap (λ (f : Option Stop). and_then old ((k, same_or_passed a b (take q rs) f) ∷ deal n (drop q rs) more)) (ap failure is))

pub taken_few : (last : Bool) (taken c : ℕ) (rs : List Ref) → taken ≡ (if last then length rs else min (length rs) c) → taken ≤ length rs
taken_few true taken c rs e = omega arith
taken_few false taken c rs e = omega arith

-- ---- all arguments

pub zip_open : (ys : List ℕ) (us : List Ty) (i y : ℕ) (u : Ty) → i < length ys → i < length us → y ≡ get_or ys i 0 → u ≡ get_or us i u → drop i (zip ys us) ≡ (y, u) ∷ drop (suc i) (zip ys us)
zip_open [] us i y u h g e f = absurd (omega arith)
zip_open (y' ∷ ys) [] i y u h g e f = absurd (omega arith)
zip_open (y' ∷ ys) (u' ∷ us) zero y u h g e f = ap₂ (λ a b. (a, b) ∷ zip ys us) (sym e) (sym f)
zip_open (y' ∷ ys) (u' ∷ us) (suc i) y u h g e f = zip_open ys us i y u (omega arith) (omega arith) e f

pub zip_past : (ys : List ℕ) (us : List Ty) (i : ℕ) → min (length ys) (length us) ≤ i → drop i (zip ys us) ≡ []
zip_past [] us zero h = refl
zip_past [] us (suc i) h = refl
zip_past (y ∷ ys) [] zero h = refl
zip_past (y ∷ ys) [] (suc i) h = refl
zip_past (y ∷ ys) (u ∷ us) zero h = absurd (omega arith)
zip_past (y ∷ ys) (u ∷ us) (suc i) h = zip_past ys us i (omega arith)

length_zip : (ys : List ℕ) (us : List Ty) → length (zip ys us) ≡ min (length ys) (length us)
length_zip [] us = omega arith
length_zip (y ∷ ys) [] = omega arith
length_zip (y ∷ ys) (u ∷ us) = let h = length_zip ys us in omega arith

same_test : (i n : ℕ) → nat_eq (i + 1) n ≡ nat_eq (suc i + 1) (suc n)
same_test i n = grind (arith, nat_tests)

-- sameness is asked of each pair
asks_map : (j : Judgement) (k : ℕ) (es : List Linear) (ps : List (ℕ × Ty)) (more : Askings) → asks_sameness (map (arg_asked j k es) ps ++ more) ≡ (asks_sameness (map (arg_asked j k es) ps) || asks_sameness more)
asks_map j k es ps more = list_any-append (λ a. is_alike a.1) (map (arg_asked j k es) ps) more

asks_rest : (j : Judgement) (k : ℕ) (es : List Linear) (ps : List (ℕ × Ty)) (i : ℕ) → i < length ps → asks_sameness (map (arg_asked j k es) (drop (suc i) ps)) ≡ not (nat_eq (i + 1) (length ps))
asks_rest j k es [] i h = absurd (omega arith)
asks_rest j k es (p ∷ []) zero h = ap not (sym (eq-eqb (0 + 1) 1 refl))
asks_rest j k es (p ∷ q ∷ ps) zero h = ap not (sym (ne_eqb (0 + 1) (suc (suc (length ps))) (λ e. omega arith)))
asks_rest j k es (p ∷ ps) (suc i) h = asks_rest j k es ps i (omega arith) ∙ ap not (same_test i (length ps))

-- the last pair is the last that asks, if nothing behind it does
pub last_asks : (j : Judgement) (k : ℕ) (es : List Linear) (ps : List (ℕ × Ty)) (i n : ℕ) (more : Askings) (followed last : Bool) → i < n → length ps ≡ n → asks_sameness more ≡ followed →
    last ≡ (not followed && nat_eq (i + 1) n) → not (asks_sameness (map (arg_asked j k es) (drop (suc i) ps) ++ more)) ≡ last
last_asks j k es ps i n more followed last below counted asks is =
    ap not (asks_map j k es (drop (suc i) ps) more ∙ ap₂ (λ a b. a || b) (asks_rest j k es ps i (omega (arith, counted)) ∙ ap (λ m. not (nat_eq (i + 1) m)) counted) asks)
    ∙ morgan (nat_eq (i + 1) n) followed ∙ sym is
  where
    morgan : (a b : Bool) → not (not a || b) ≡ (not b && a)
    morgan true true = refl
    morgan true false = refl
    morgan false true = refl
    morgan false false = refl

pub args_turn : (j : Judgement) (n k : ℕ) (es : List Linear) (ys : List ℕ) (us : List Ty) (i y taken served : ℕ) (u : Ty) (G now new : Found) (rs : List Ref) (more : Askings) (followed last : Bool) →
    i < min (length ys) (length us) → y ≡ get_or ys i 0 → u ≡ get_or us i u → asks_sameness more ≡ followed → last ≡ (not followed && nat_eq (i + 1) (min (length ys) (length us))) →
    ((rest : Askings) → not (asks_sameness rest) ≡ last → and_then new (deal n (drop taken rs) rest) ≡ and_then now (deal n (drop served rs) (arg_asked j k es (y, u) ∷ rest))) →
    and_then now (deal n (drop served rs) (map (arg_asked j k es) (drop i (zip ys us)) ++ more)) ≡ G →
    and_then new (deal n (drop taken rs) (map (arg_asked j k es) (drop (i + 1) (zip ys us)) ++ more)) ≡ G
args_turn j n k es ys us i y taken served u G now new rs more followed last below isy isu asks lasts step inv =
    let ps = zip ys us in
    let tail : Askings = map (arg_asked j k es) (drop (suc i) ps) ++ more in
    let opened = zip_open ys us i y u (omega arith) (omega arith) isy isu in
    ap (λ m. and_then new (deal n (drop taken rs) (map (arg_asked j k es) (drop m ps) ++ more))) (add-one i)
    ∙ step tail (last_asks j k es ps i (min (length ys) (length us)) more followed last below (length_zip ys us) asks lasts)
    ∙ ap (λ (zs : List (ℕ × Ty)). and_then now (deal n (drop served rs) (map (arg_asked j k es) zs ++ more))) (sym opened) ∙ inv

pub args_end : (j : Judgement) (n k : ℕ) (es : List Linear) (ys : List ℕ) (us : List Ty) (i : ℕ) (G now : Found) (rs : List Ref) (more : Askings) → min (length ys) (length us) ≤ i →
    and_then now (deal n rs (map (arg_asked j k es) (drop i (zip ys us)) ++ more)) ≡ G → and_then now (deal n rs more) ≡ G
args_end j n k es ys us i G now rs more past inv = ap (λ (zs : List (ℕ × Ty)). and_then now (deal n rs (map (arg_asked j k es) zs ++ more))) (sym (zip_past ys us i past)) ∙ inv

-- where a premise stops, what follows does not matter
pub args_closed : (G now xs ys : Found) → and_then now xs ≡ G → any_stops now ≡ true → and_then now ys ≡ G
args_closed G now xs ys inv closed = then_closed now ys closed ∙ sym (then_closed now xs closed) ∙ inv

drop_nothing : (k : ℕ) → drop {A = Ref} k [] ≡ []
drop_nothing zero = refl
drop_nothing (suc k) = refl

-- the references that are left
pub drop_more : (rs : List Ref) (served taken : ℕ) → drop taken (drop served rs) ≡ drop (served + taken) rs
drop_more rs zero taken = ap (λ k. drop k rs) (let e : taken ≡ 0 + taken = omega arith in e)
drop_more [] (suc served) taken = drop_nothing taken ∙ sym (drop_nothing (suc served + taken))
drop_more (r ∷ rs) (suc served) taken = drop_more rs served taken ∙ ap (λ k. drop k (r ∷ rs)) (let e : suc (served + taken) ≡ suc served + taken = omega arith in e)

pub given_is : (rs : List Ref) (served taken : ℕ) → take (served + taken - served) (drop served rs) ≡ take taken (drop served rs)
given_is rs served taken = ap (λ k. take k (drop served rs)) (let e : served + taken - served ≡ taken = omega arith in e)

pub length_left : (rs : List Ref) (served : ℕ) → served ≤ length rs → length (drop served rs) ≡ length rs - served
length_left rs served h = length-drop served rs

pub result_ok : (n k : ℕ) (a b w : Ty) (rs xs : List Ref) (m : Result Ty Stop) (old new : Found) → m ≡ Ok w → a ≡ w → xs ≡ rs → new ≡ and_then old ((k, Same w b xs) ∷ []) → new ≡ and_then old (deal n rs ((k, Alike a b (failure m)) ∷ []))
result_ok n k a b w rs xs m old new is same given step =
    step ∙ ap (λ (ys : List Ref). and_then old ((k, Same w b ys) ∷ [])) given ∙ ap (and_then old) (sym (deal_last n rs k w b))
    ∙ sym (ap₂ (λ (r : Result Ty Stop) (t : Ty). and_then old (deal n rs ((k, Alike t b (failure r)) ∷ []))) is same)
