-- The numbers that stand beside codes, where an obligation is found and where one more comes.
use Rattle.std.proofs.Common.{◌≡◌, ℕ, zero, suc, ◌≤◌, ◌&&◌, append_assoc, ◌⊎◌, inl, inr, ⊎_elim, ℤ, Bool, true, false, cond, List, [], ◌∷◌, ◌++◌, length, map, take, arith, refl, sym, ◌∙◌, ap, ap₂, subst}
use Rattle.std.specs.Prelude.{Option, Some, None, slice_get}
use Rattle.std.specs.BTreeMap.{Updates, get, is_at}
use Rattle.std.specs.Cmp.{int_cmp_total}
use Rattle.std.specs.Cmp.Lexicographic.{slice_cmp, lists_total}
use Rattle.std.specs.FinMap.{int_cmp-IsAntisymmetric, slice_cmp-IsAntisymmetric}
use Rattle.std.specs.List.{list_all}
use Rattle.std.specs.Option.{option_map}
use Rattle.std.specs.Ordering.{int_cmp, is_eq}
use Rattle.std.specs.declared.alloc.Global.{Global}
use Rattle.std.specs.declared.cmp.Ordering.{Ordering}
use Rattle.std.specs.declared.cmp.Ordering.TheVariants.{Less, Equal, Greater}
use Rattle.std.specs.declared.vec.Vec.{Vec}
use Rattle.std.proofs.lemmas.Cmp.{eq_by_cmp_equiv}
use Rattle.std.proofs.Math.Seq.{take-length}
use Rattle.std.proofs.lemmas.List.{length-take, length-map, take-append-le}
use Rattle.std.proofs.lemmas.Option.{slice_get-map}
use Rattle.rast_cooper.specs.declared.verdict.Verdict.{Verdict}
use Rattle.rast_memo.specs.Codes.{obligation_code}
use Rattle.rast_memo.specs.Numbers.{AreAsked, AreKnown, IsContinued, IsNew, IsNumbered, Numbers, code_cmp, verdicts_on}
use Rattle.rast_memo.specs.Obligations.{is_fit, verdict_on}
use Rattle.rast_memo.specs.declared.obligation.Obligation.{Obligation}
use Rattle.rast_memo.proofs.Telling.{same_code}

-- ---- lists with one more at the end

pub at_end : {X : Type 0} (xs : List X) (x : X) → slice_get (xs ++ x ∷ []) (length xs) ≡ Some x
at_end {X} [] x = refl
at_end {X} (y ∷ xs) x = at_end xs x

pub at_more : {X : Type 0} (xs : List X) (x : X) (i : ℕ) (y : X) → slice_get xs i ≡ Some y → slice_get (xs ++ x ∷ []) i ≡ Some y
at_more {X} [] x i y e = absurd (cc)
at_more {X} (z ∷ xs) x zero y e = e
at_more {X} (z ∷ xs) x (suc i) y e = at_more xs x i y e

pub at_one : {X : Type 0} (xs : List X) (x : X) (i : ℕ) (y : X) → slice_get (xs ++ x ∷ []) i ≡ Some y → (slice_get xs i ≡ Some y) ⊎ ((i ≡ length xs) × (x ≡ y))
at_one {X} [] x zero y e = inr (refl, let h : x ≡ y = cc in h)
at_one {X} [] x (suc i) y e = absurd (cc)
at_one {X} (z ∷ xs) x zero y e = inl e
at_one {X} (z ∷ xs) x (suc i) y e = ⊎_elim (λ h. inl h) (λ h. inr (ap suc h.0, h.1)) (at_one xs x i y e)

some_same : {X : Type 0} (x y : X) → Some x ≡ Some y → x ≡ y
some_same {X} x y e = cc

none_some : {X : Type 0} (x : X) (o : Option X) → o ≡ None → o ≡ Some x → ⊥
none_some {X} x o e h = cc

-- ---- codes that are compared

level : (r : Ordering) → is_eq r ≡ true → r ≡ Equal
level Less e = absurd (cc)
level Equal e = refl
level Greater e = absurd (cc)

same_items : (c d : Vec ℤ Global) → is_at (code_cmp c) d ≡ true → c.items ≡ d.items
same_items c d e = slice_cmp-IsAntisymmetric int_cmp-IsAntisymmetric c.items d.items (level (slice_cmp int_cmp c.items d.items) e)

at_same : (c d : Vec ℤ Global) → c.items ≡ d.items → is_at (code_cmp c) d ≡ true
at_same c d e = subst (λ (xs : List ℤ). is_eq (slice_cmp int_cmp c.items xs) ≡ true) e ((eq_by_cmp_equiv (lists_total int_cmp_total)).refl c.items)

-- ---- an obligation that is found

holder : (o : Obligation) (p : Option Obligation) → option_map obligation_code p ≡ Some (obligation_code o) → p ≡ Some o
holder o None e = absurd (cc)
holder o (Some p) e = ap Some (same_code p o (some_same _ _ e))

pub found_numbered : (o : Obligation) (os : List Obligation) (numbers : Numbers) (c : Vec ℤ Global) (n : ℕ) → AreKnown os numbers → AreAsked os numbers → c.items ≡ obligation_code o → get code_cmp numbers c ≡ Some n → IsNumbered o os os n
found_numbered o os numbers c n known asked is e = record {
  there = holder o (slice_get os n) (asked c n e ∙ ap Some is);
  only = λ i h. some_same i n (sym (known i o c h is) ∙ e);
  grown = inl refl;
}

-- ---- one more obligation

module _ (o : Obligation) (os : List Obligation) (numbers : Numbers) (c : Vec ℤ Global) (is : c.items ≡ obligation_code o) (none : get code_cmp numbers c ≡ None) where
  pub new_numbered : AreKnown os numbers → IsNumbered o os (os ++ o ∷ []) (length os)
  new_numbered known =
      let fresh : IsNew o os = λ i h. none_some i _ none (known i o c h is) in record {
        there = at_end os o;
        only = λ i h. ⊎_elim (λ k. absurd (fresh i k)) (λ k. k.0) (at_one os o i o h);
        grown = inr (fresh, refl, refl);
      }

  module _ (after : Numbers) (put : (q : Vec ℤ Global) → get code_cmp after q ≡ cond (is_at (code_cmp c) q) (Some (length os)) (get code_cmp numbers q)) where
    put_at : (q : Vec ℤ Global) (b : Bool) → is_at (code_cmp c) q ≡ b → get code_cmp after q ≡ cond b (Some (length os)) (get code_cmp numbers q)
    put_at q b e = put q ∙ ap (λ x. cond x (Some (length os)) (get code_cmp numbers q)) e

    old_known : AreKnown os numbers → (i : ℕ) (p : Obligation) (d : Vec ℤ Global) → slice_get os i ≡ Some p → d.items ≡ obligation_code p → (b : Bool) → is_at (code_cmp c) d ≡ b → get code_cmp after d ≡ Some i
    old_known known i p d h e true t = absurd (none_some i _ none (known i p c h (same_items c d t ∙ e)))
    old_known known i p d h e false t = put_at d false t ∙ known i p d h e

    pub known_more : AreKnown os numbers → AreKnown (os ++ o ∷ []) after
    known_more known i p d h e =
        ⊎_elim
        (λ k. old_known known i p d k e (is_at (code_cmp c) d) refl)
        (λ k. put_at d true (at_same c d (is ∙ ap obligation_code k.1 ∙ sym e)) ∙ ap Some (sym k.0))
        (at_one os o i p h)

    holds_more : (n : ℕ) (xs : List ℤ) → option_map obligation_code (slice_get os n) ≡ Some xs → option_map obligation_code (slice_get (os ++ o ∷ []) n) ≡ Some xs
    holds_more n xs e = by (slice_get os n) refl e
      where
        by : (p : Option Obligation) → slice_get os n ≡ p → option_map obligation_code p ≡ Some xs → option_map obligation_code (slice_get (os ++ o ∷ []) n) ≡ Some xs
        by None h e = absurd (cc)
        by (Some p) h e = ap (option_map obligation_code) (at_more os o n p h) ∙ e

    asked_at : AreAsked os numbers → (d : Vec ℤ Global) (n : ℕ) (b : Bool) → is_at (code_cmp c) d ≡ b → get code_cmp after d ≡ Some n → option_map obligation_code (slice_get (os ++ o ∷ []) n) ≡ Some d.items
    asked_at asked d n true t e =
        ap (λ k. option_map obligation_code (slice_get (os ++ o ∷ []) k)) (some_same n (length os) (sym e ∙ put_at d true t))
        ∙ ap (option_map obligation_code) (at_end os o) ∙ ap Some (sym is ∙ same_items c d t)
    asked_at asked d n false t e = holds_more n d.items (asked d n (sym (put_at d false t) ∙ e))

    pub asked_more : AreAsked os numbers → AreAsked (os ++ o ∷ []) after
    asked_more asked d n e = asked_at asked d n (is_at (code_cmp c) d) refl e

-- what is put beside the code of a new obligation
pub known_put : (o : Obligation) (os : List Obligation) (numbers after : Numbers) (c : Vec ℤ Global) (n : ℕ) → c.items ≡ obligation_code o → get code_cmp numbers c ≡ None → n ≡ length os → Updates code_cmp numbers after c (Some n) → AreKnown os numbers → AreKnown (os ++ o ∷ []) after
known_put o os numbers after c n is none e u known = known_more o os numbers c is none after (λ q. u.0 q ∙ ap (λ k. cond (is_at (code_cmp c) q) (Some k) (get code_cmp numbers q)) e) known

pub asked_put : (o : Obligation) (os : List Obligation) (numbers after : Numbers) (c : Vec ℤ Global) (n : ℕ) → c.items ≡ obligation_code o → get code_cmp numbers c ≡ None → n ≡ length os → Updates code_cmp numbers after c (Some n) → AreAsked os numbers → AreAsked (os ++ o ∷ []) after
asked_put o os numbers after c n is none e u asked = asked_more o os numbers c is none after (λ q. u.0 q ∙ ap (λ k. cond (is_at (code_cmp c) q) (Some k) (get code_cmp numbers q)) e) asked

pub numbered_put : (o : Obligation) (os after : List Obligation) (numbers : Numbers) (c : Vec ℤ Global) (n : ℕ) → c.items ≡ obligation_code o → get code_cmp numbers c ≡ None → n ≡ length os → after ≡ os ++ o ∷ [] → AreKnown os numbers → IsNumbered o os after n
numbered_put o os after numbers c n is none e grown known =
    subst (λ (k : ℕ). IsNumbered o os after k) (sym e) (subst (λ (xs : List Obligation). IsNumbered o os xs (length os)) (sym grown) (new_numbered o os numbers c is none known))

-- ---- verdicts

few : (vs : List Verdict) (os : List Obligation) → vs ≡ verdicts_on (length vs) os → length vs ≤ length os
few vs os e = omega (arith, ap length e, length-map (take (length vs) os) verdict_on, length-take (length vs) os)

-- verdicts on obligations stay right where one more comes
pub right_more : (vs : List Verdict) (os : List Obligation) (o : Obligation) → vs ≡ verdicts_on (length vs) os → vs ≡ verdicts_on (length vs) (os ++ o ∷ [])
right_more vs os o e = e ∙ ap (map verdict_on) (sym (take-append-le (length vs) os (o ∷ []) (few vs os e)))

both : (a b : Bool) → (a && b) ≡ true → (a ≡ true) × (b ≡ true)
both true b e = (refl, e)
both false b e = absurd (cc)

pub fit_more : (os : List Obligation) (o : Obligation) → list_all is_fit os ≡ true → is_fit o ≡ true → list_all is_fit (os ++ o ∷ []) ≡ true
fit_more [] o e h = ap (λ b. b && true) h
fit_more (p ∷ os) o e h = let k = both (is_fit p) (list_all is_fit os) e in ap₂ (λ a b. a && b) k.0 (fit_more os o k.1 h)

-- ---- verdicts that follow

pub continued_on : (xs ys zs : List Verdict) → IsContinued xs ys → IsContinued ys zs → IsContinued xs zs
continued_on xs ys zs a b = record { more = a.more ++ b.more; is = b.is ∙ ap (λ ws. ws ++ b.more) a.is ∙ append_assoc xs a.more b.more }

-- ---- verdicts where all are decided

pub decided_at : (os : List Obligation) (k n : ℕ) (o : Obligation) → k ≡ length os → slice_get os n ≡ Some o → slice_get (verdicts_on k os) n ≡ Some (verdict_on o)
decided_at os k n o e h =
    ap (λ (xs : List Obligation). slice_get (map verdict_on xs) n) (ap (λ (i : ℕ). take i os) e ∙ take-length os)
    ∙ slice_get-map verdict_on os n
    ∙ ap (option_map verdict_on) h
