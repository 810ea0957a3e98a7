-- Heads whose walk is good agree, where the parts do.
use Rattle.std.proofs.Common.{◌≡◌, ℕ, ℤ, pos, ◌+◌, ◌≤◌, Bool, true, false, ◌&&◌, ◌==◌, List, [], ◌∷◌, ◌++◌, map, flat_map, length, Option, Some, None, is_some, refl, sym, ap, ◌∙◌, subst, subst₂, arith, if◌then◌else◌, cond, length-append, eqb-true, ltb-false}
use Rattle.std.specs.Prelude.{nat_lt}
use Rattle.std.specs.List.{list_all}
use Rattle.rast_index.specs.Keys.{find_key}
use Rattle.rast_index.specs.Linear.{Linear, whole, is_closed}
use Rattle.rast_index.specs.Truth.{truth, Follows, is_closed_formula}
use Rattle.rast_index.specs.declared.formula.Formula.{Formula}
use Rattle.rast_index.specs.declared.formula.Formula.TheVariants as form
use Rattle.rast_index.proofs.Scope.{both_true}
use Rattle.rast_types.specs.declared.ty.Ty.{Ty, out-Ty}
use Rattle.rast_types.specs.declared.ty.Ty.TheOpen.{One, Plus, With, Tensor, Lolli, Ex, All as Each, Assert, Assume, Pays, Gets}
use Rattle.rast_types.specs.declared.ty.Ty.TheFolds.{map-Ty}
use Rattle.rast_types.specs.Closed.{Closed, closed, Table, Layer, Way, Label as ByLabel, First, Second, Inner, At, close_some, part_layer, kind_layer, figure_layer, Agree, EqualTo}
use Rattle.rast_types.specs.Symbolic.{is_scoped}
use Rattle.rast_equal.specs.WellMadeTypes.{is_named}
use Rattle.rast_equal.specs.declared.place.Place.{Place}
use Rattle.rast_equal.specs.declared.met.Met.{Met}
use Rattle.rast_equal.specs.declared.met.Met.TheVariants.{Differs, Shuffled}
use Rattle.rast_equal.specs.declared.answer.Part.TheVariants.{Label as LabelPart, First as FirstPart, Second as SecondPart, Inner as InnerPart}
use Rattle.rast_equal.specs.Walk.{Walker, walker, meets, heads, heads_of, all_of, choices, at_label, is_among, same_list, down, bind, under}
use Rattle.rast_equal.proofs.Equals.{some_of}
use Rattle.rast_equal.proofs.Proper.{Proper}
use Rattle.rast_equal.proofs.Scoped.{scoped_layer}
use Rattle.rast_equal.proofs.Steady.{AreSteady, steady_closed, steady_more, steady_append, true_still}
use Rattle.rast_equal.proofs.Substitution.{whole-append}
use Rattle.rast_equal.proofs.Truths.{equal_true, truth_false}
use Rattle.rast_equal.proofs.WellFormed.{named_layer, found_true, all_and}
use Rattle.rast_equal.proofs.Walks.{meets_over}
use Rattle.rast_equal.proofs.Good.{AllGood, good_left, good_right}

-- a valuation at a place, at which its premises are true
pub record Valued (p : Place) (vs : List ℕ) : Type 0 where
  pub sized : length vs ≡ p.vars
  pub holds : list_all (λ f. truth f (whole vs)) p.premises ≡ true
  pub steady : AreSteady p.vars p.premises

-- a type in scope, whose names are defined and that is well formed at the valuation
pub record Fit (t : Table) (n : ℕ) (vs : List ℕ) (a : Ty) : Type 0 where
  pub named : is_named t a ≡ true
  pub scoped : is_scoped n a ≡ true
  pub proper : Proper t (closed a (whole vs))

-- types whose walk is good are equal to the depth
abbrev pub Claim : (Place → Ty → Ty → Type 0) → Table → ℕ → Type 0
Claim R t k = (p : Place) (a b : Ty) (vs : List ℕ) → Valued p vs → Fit t p.vars vs a → Fit t p.vars vs b → AllGood R (meets a b p) → EqualTo t k (closed a (whole vs)) (closed b (whole vs))

-- ---- places below

under_valued : (p : Place) (f : Formula) (vs : List ℕ) → Valued p vs → is_closed_formula p.vars f ≡ true → truth f (whole vs) ≡ true → Valued (under f p) vs
under_valued p f vs v c h = record { sized = v.sized; holds = all_and p.premises f (whole vs) v.holds h; steady = steady_append p.vars p.premises (f ∷ []) v.steady (steady_closed p.vars f c, tt) }

bind_valued : (p : Place) (vs : List ℕ) (m : ℕ) → Valued p vs → p.vars + 1 ≤ 16 → Valued (bind p) (vs ++ m ∷ [])
bind_valued p vs m v few = record {
  sized = length-append vs (m ∷ []) ∙ ap (λ (i : ℕ). i + 1) v.sized;
  holds = true_still p.vars p.premises vs (m ∷ []) v.steady (omega (arith, v.sized)) (omega (arith, v.sized, few)) v.holds;
  steady = steady_more p.vars p.premises v.steady;
}

-- ---- parts

-- both have the part, and the parts are equal to the depth; or neither has it
abbrev pub Parts : Table → ℕ → Option Closed → Option Closed → Type 0
Parts t k None None = Unit {0}
Parts t k None (Some y) = ⊥
Parts t k (Some x) None = ⊥
Parts t k (Some x) (Some y) = EqualTo t k x y

parts_ways : (t : Table) (k : ℕ) (o u : Option Closed) → Parts t k o u → is_some o ≡ is_some u
parts_ways t k None None h = refl
parts_ways t k None (Some y) h = absurd h
parts_ways t k (Some x) None h = absurd h
parts_ways t k (Some x) (Some y) h = refl

parts_same : (t : Table) (k : ℕ) (o u : Option Closed) (x y : Closed) → Parts t k o u → o ≡ Some x → u ≡ Some y → EqualTo t k x y
parts_same t k None u x y h p q = cc
parts_same t k (Some v) None x y h p q = cc
parts_same t k (Some v) (Some w) x y h p q = let a : v ≡ x = cc in let b : w ≡ y = cc in subst₂ (EqualTo t k) a b h

-- two layers agree
record LayersAgree (t : Table) (k : ℕ) (x y : Layer) (at : List ℤ) : Type 0 where
  kind : kind_layer x ≡ kind_layer y
  figure : figure_layer x at ≡ figure_layer y at
  parts : (w : Way) → Parts t k (part_layer x at w) (part_layer y at w)

agree_of : (t : Table) (k : ℕ) (a b : Ty) (at : List ℤ) → LayersAgree t k (out-Ty a) (out-Ty b) at → Agree (EqualTo t k) (closed a at) (closed b at)
agree_of t k a b at h = record {
  kind = h.kind;
  figure = h.figure;
  ways = λ w. parts_ways t k (part_layer (out-Ty a) at w) (part_layer (out-Ty b) at w) (h.parts w);
  parts = λ w x y p q. parts_same t k (part_layer (out-Ty a) at w) (part_layer (out-Ty b) at w) x y (h.parts w) p q;
}

-- what is known of a head
pub record HeadFit (t : Table) (n : ℕ) (vs : List ℕ) (x : Layer) : Type 0 where
  pub named : named_layer t x ≡ true
  pub scoped : scoped_layer n x ≡ true
  pub parts : (w : Way) (c : Closed) → part_layer x (whole vs) w ≡ Some c → Proper t c

-- ---- choices

abbrev walked : List (ℕ × Ty) → List (ℕ × Walker)
walked ts = map (λ e. (e.0, walker e.1)) ts

found_walked : (l : ℕ) (ts : List (ℕ × Ty)) → is_some (find_key l (walked ts)) ≡ is_some (find_key l ts)
found_walked l [] = refl
found_walked l (e ∷ ts) = pick (e.0 == l) (found_walked l ts)
  where
    pick : (b : Bool) → is_some (find_key l (walked ts)) ≡ is_some (find_key l ts) → is_some (if b then Some (walker e.1) else find_key l (walked ts)) ≡ is_some (if b then Some e.1 else find_key l ts)
    pick true h = refl
    pick false h = h

-- a label of the one is among the other's
among_has : {A B : Type 0} (us : List (ℕ × B)) (ts : List (ℕ × A)) (l : ℕ) (x : A) → list_all (is_among us) ts ≡ true → find_key l ts ≡ Some x → is_some (find_key l us) ≡ true
among_has {A} {B} us [] l x h e = cc
among_has {A} {B} us (t ∷ ts) l x h e =
    let r = both_true (is_among us t) (list_all (is_among us) ts) h in pick (t.0 == l) refl r.0 (λ q. among_has us ts l x r.1 q) e
  where
    pick : (b : Bool) → (t.0 == l) ≡ b → is_some (find_key t.0 us) ≡ true → (find_key l ts ≡ Some x → is_some (find_key l us) ≡ true) → (if b then Some t.1 else find_key l ts) ≡ Some x → is_some (find_key l us) ≡ true
    pick true q s r e = subst (λ (n : ℕ). is_some (find_key n us) ≡ true) (eqb-true t.0 l q) s
    pick false q s r e = r e

-- what is met at a label of both
label_good : (R : Place → Ty → Ty → Type 0) (p : Place) (us ts : List (ℕ × Ty)) (l : ℕ) (x y : Ty) → AllGood R (flat_map (λ e. at_label p e (find_key e.0 us)) (walked ts)) → find_key l ts ≡ Some x → find_key l us ≡ Some y → AllGood R (meets x y (down (LabelPart l) p))
label_good R p us [] l x y h e f = cc
label_good R p us (t ∷ ts) l x y h e f =
    pick (t.0 == l) refl e (λ q. label_good R p us ts l x y (good_right R (at_label p (t.0, walker t.1) (find_key t.0 us)) (flat_map (λ e. at_label p e (find_key e.0 us)) (walked ts)) h) q f)
  where
    pick : (b : Bool) → (t.0 == l) ≡ b → (if b then Some t.1 else find_key l ts) ≡ Some x → (find_key l ts ≡ Some x → AllGood R (meets x y (down (LabelPart l) p))) → AllGood R (meets x y (down (LabelPart l) p))
    pick false q e r = r e
    pick true q e r =
        let s : t.1 ≡ x = cc in
        let k : t.0 ≡ l = eqb-true t.0 l q in
        let o : find_key t.0 us ≡ Some y = ap (λ n. find_key n us) k ∙ f in
        let g : AllGood R (meets t.1 y (down (LabelPart t.0) p)) = subst (λ u. AllGood R (at_label p (t.0, walker t.1) u)) o (good_left R (at_label p (t.0, walker t.1) (find_key t.0 us)) (flat_map (λ e. at_label p e (find_key e.0 us)) (walked ts)) h) in
        subst₂ (λ (a : Ty) (n : ℕ). AllGood R (meets a y (down (LabelPart n) p))) s k g

-- an entry of a choice
entry_fit : (t : Table) (n : ℕ) (vs : List ℕ) (ts : List (ℕ × Ty)) (l : ℕ) (x : Ty) → list_all (λ e. is_named t e.1) ts ≡ true → list_all (λ e. is_scoped n e.1) ts ≡ true → ((c : Closed) → close_some (whole vs) (find_key l ts) ≡ Some c → Proper t c) → find_key l ts ≡ Some x → Fit t n vs x
entry_fit t n vs ts l x h k r e = record { named = found_true (is_named t) ts l x h e; scoped = found_true (is_scoped n) ts l x k e; proper = r (closed x (whole vs)) (ap (close_some (whole vs)) e) }

-- the parts at a label
label_parts : (R : Place → Ty → Ty → Type 0) (t : Table) (k : ℕ) → Claim R t k → (p : Place) (vs : List ℕ) → Valued p vs → (ts us : List (ℕ × Ty)) → ((l : ℕ) (x : Ty) → find_key l ts ≡ Some x → Fit t p.vars vs x) → ((l : ℕ) (x : Ty) → find_key l us ≡ Some x → Fit t p.vars vs x) → list_all (is_among us) (walked ts) ≡ true → list_all (is_among (walked ts)) us ≡ true → AllGood R (flat_map (λ e. at_label p e (find_key e.0 us)) (walked ts)) → (l : ℕ) → Parts t k (close_some (whole vs) (find_key l ts)) (close_some (whole vs) (find_key l us))
label_parts R t k c p vs v ts us f g one two h l = pick (find_key l ts) (find_key l us) refl refl
  where
    pick : (o u : Option Ty) → find_key l ts ≡ o → find_key l us ≡ u → Parts t k (close_some (whole vs) o) (close_some (whole vs) u)
    pick None None e q = tt
    pick (Some x) (Some y) e q = c (down (LabelPart l) p) x y vs (record { sized = v.sized; holds = v.holds; steady = v.steady }) (f l x e) (g l y q) (label_good R p us ts l x y h e q)
    pick (Some x) None e q =
        let m : is_some (find_key l (walked ts)) ≡ true = found_walked l ts ∙ ap is_some e in
        let s = some_of (find_key l (walked ts)) m in
        let z : false ≡ true = sym (ap is_some q) ∙ among_has us (walked ts) l s.0 one s.1 in cc
    pick None (Some y) e q =
        let z : false ≡ true = sym (ap is_some e) ∙ (sym (found_walked l ts) ∙ among_has (walked ts) us l y two q) in cc

-- a walk that is good stands at 16 variables at most
pub good_few : (R : Place → Ty → Ty → Type 0) (p : Place) (a b : Ty) → AllGood R (meets a b p) → p.vars ≤ 16
good_few R p a b h = pick (nat_lt 16 p.vars) refl
  where
    pick : (o : Bool) → nat_lt 16 p.vars ≡ o → p.vars ≤ 16
    pick true e = absurd (subst (AllGood R) (meets_over a b p e) h).0
    pick false e = ltb-false 16 p.vars e

never : (p : Place) (vs : List ℕ) → Valued p vs → Follows p.vars p.premises form.False → ⊥
never p vs v h = let z : false ≡ true = sym (truth_false (whole vs)) ∙ h vs v.sized v.holds in cc

-- ---- each form of head

choice_head : (R : Place → Ty → Ty → Type 0) (t : Table) (k : ℕ) → Claim R t k → (p : Place) (vs : List ℕ) → Valued p vs → (ts us : List (ℕ × Ty)) → ((l : ℕ) (x : Ty) → find_key l ts ≡ Some x → Fit t p.vars vs x) → ((l : ℕ) (x : Ty) → find_key l us ≡ Some x → Fit t p.vars vs x) → (b : Bool) → list_all (is_among us) (walked ts) && list_all (is_among (walked ts)) us ≡ b → (own : List Met) → AllGood R (all_of (if b then record { own = own; parts = flat_map (λ e. at_label p e (find_key e.0 us)) (walked ts) } else record { own = Differs p ∷ []; parts = [] })) → (l : ℕ) → Parts t k (close_some (whole vs) (find_key l ts)) (close_some (whole vs) (find_key l us))
choice_head R t k c p vs v ts us f g true e own h l =
    let r = both_true (list_all (is_among us) (walked ts)) (list_all (is_among (walked ts)) us) e in
    label_parts R t k c p vs v ts us f g r.0 r.1 (good_right R own (flat_map (λ e. at_label p e (find_key e.0 us)) (walked ts)) h) l
choice_head R t k c p vs v ts us f g false e own h l = absurd (never p vs v h.0)

plus_parts : (R : Place → Ty → Ty → Type 0) (t : Table) (k : ℕ) → Claim R t k → (p : Place) (vs : List ℕ) → Valued p vs → (ts us : List (ℕ × Ty)) → HeadFit t p.vars vs (Plus ts) → HeadFit t p.vars vs (Plus us) → AllGood R (all_of (choices (walked ts) us p)) → (w : Way) → Parts t k (part_layer (Plus ts) (whole vs) w) (part_layer (Plus us) (whole vs) w)
plus_parts R t k c p vs v ts us f g h (ByLabel l) = choice_head R t k c p vs v ts us (λ l x e. entry_fit t p.vars vs ts l x f.named f.scoped (f.parts (ByLabel l)) e) (λ l x e. entry_fit t p.vars vs us l x g.named g.scoped (g.parts (ByLabel l)) e) (list_all (is_among us) (walked ts) && list_all (is_among (walked ts)) us) refl (if same_list (map (λ e. e.0) (walked ts)) (map (λ e. e.0) us) then [] else Shuffled p ∷ []) h l
plus_parts R t k c p vs v ts us f g h w = tt

with_parts : (R : Place → Ty → Ty → Type 0) (t : Table) (k : ℕ) → Claim R t k → (p : Place) (vs : List ℕ) → Valued p vs → (ts us : List (ℕ × Ty)) → HeadFit t p.vars vs (With ts) → HeadFit t p.vars vs (With us) → AllGood R (all_of (choices (walked ts) us p)) → (w : Way) → Parts t k (part_layer (With ts) (whole vs) w) (part_layer (With us) (whole vs) w)
with_parts R t k c p vs v ts us f g h (ByLabel l) = choice_head R t k c p vs v ts us (λ l x e. entry_fit t p.vars vs ts l x f.named f.scoped (f.parts (ByLabel l)) e) (λ l x e. entry_fit t p.vars vs us l x g.named g.scoped (g.parts (ByLabel l)) e) (list_all (is_among us) (walked ts) && list_all (is_among (walked ts)) us) refl (if same_list (map (λ e. e.0) (walked ts)) (map (λ e. e.0) us) then [] else Shuffled p ∷ []) h l
with_parts R t k c p vs v ts us f g h w = tt

-- two types whose place has the same variables and premises
below : (R : Place → Ty → Ty → Type 0) (t : Table) (k : ℕ) → Claim R t k → (p q : Place) (vs : List ℕ) (a b : Ty) → Valued p vs → q.vars ≡ p.vars → q.premises ≡ p.premises → Fit t p.vars vs a → Fit t p.vars vs b → AllGood R (meets a b q) → EqualTo t k (closed a (whole vs)) (closed b (whole vs))
below R t k c p q vs a b v e f x y h =
    c q a b vs (record { sized = v.sized ∙ sym e; holds = subst (λ fs. list_all (λ g. truth g (whole vs)) fs ≡ true) (sym f) v.holds; steady = subst₂ AreSteady (sym e) (sym f) v.steady }) (subst (λ n. Fit t n vs a) (sym e) x) (subst (λ n. Fit t n vs b) (sym e) y) h

pair_fit : (t : Table) (n : ℕ) (vs : List ℕ) (a b : Ty) → is_named t a && is_named t b ≡ true → is_scoped n a && is_scoped n b ≡ true → Proper t (closed a (whole vs)) → Proper t (closed b (whole vs)) → Fit t n vs a × Fit t n vs b
pair_fit t n vs a b h k x y =
    let r = both_true (is_named t a) (is_named t b) h in
    let s = both_true (is_scoped n a) (is_scoped n b) k in
    (record { named = r.0; scoped = s.0; proper = x }, record { named = r.1; scoped = s.1; proper = y })

tensor_parts : (R : Place → Ty → Ty → Type 0) (t : Table) (k : ℕ) → Claim R t k → (p : Place) (vs : List ℕ) → Valued p vs → (a b x y : Ty) → HeadFit t p.vars vs (Tensor a b) → HeadFit t p.vars vs (Tensor x y) → AllGood R (meets a x (down FirstPart p) ++ meets b y (down SecondPart p)) → (w : Way) → Parts t k (part_layer (Tensor a b) (whole vs) w) (part_layer (Tensor x y) (whole vs) w)
tensor_parts R t k c p vs v a b x y f g h First =
    let m = pair_fit t p.vars vs a b f.named f.scoped (f.parts First (closed a (whole vs)) refl) (f.parts Second (closed b (whole vs)) refl) in
    let n = pair_fit t p.vars vs x y g.named g.scoped (g.parts First (closed x (whole vs)) refl) (g.parts Second (closed y (whole vs)) refl) in
    below R t k c p (down FirstPart p) vs a x v refl refl m.0 n.0 (good_left R (meets a x (down FirstPart p)) (meets b y (down SecondPart p)) h)
tensor_parts R t k c p vs v a b x y f g h Second =
    let m = pair_fit t p.vars vs a b f.named f.scoped (f.parts First (closed a (whole vs)) refl) (f.parts Second (closed b (whole vs)) refl) in
    let n = pair_fit t p.vars vs x y g.named g.scoped (g.parts First (closed x (whole vs)) refl) (g.parts Second (closed y (whole vs)) refl) in
    below R t k c p (down SecondPart p) vs b y v refl refl m.1 n.1 (good_right R (meets a x (down FirstPart p)) (meets b y (down SecondPart p)) h)
tensor_parts R t k c p vs v a b x y f g h w = tt

lolli_parts : (R : Place → Ty → Ty → Type 0) (t : Table) (k : ℕ) → Claim R t k → (p : Place) (vs : List ℕ) → Valued p vs → (a b x y : Ty) → HeadFit t p.vars vs (Lolli a b) → HeadFit t p.vars vs (Lolli x y) → AllGood R (meets a x (down FirstPart p) ++ meets b y (down SecondPart p)) → (w : Way) → Parts t k (part_layer (Lolli a b) (whole vs) w) (part_layer (Lolli x y) (whole vs) w)
lolli_parts R t k c p vs v a b x y f g h First =
    let m = pair_fit t p.vars vs a b f.named f.scoped (f.parts First (closed a (whole vs)) refl) (f.parts Second (closed b (whole vs)) refl) in
    let n = pair_fit t p.vars vs x y g.named g.scoped (g.parts First (closed x (whole vs)) refl) (g.parts Second (closed y (whole vs)) refl) in
    below R t k c p (down FirstPart p) vs a x v refl refl m.0 n.0 (good_left R (meets a x (down FirstPart p)) (meets b y (down SecondPart p)) h)
lolli_parts R t k c p vs v a b x y f g h Second =
    let m = pair_fit t p.vars vs a b f.named f.scoped (f.parts First (closed a (whole vs)) refl) (f.parts Second (closed b (whole vs)) refl) in
    let n = pair_fit t p.vars vs x y g.named g.scoped (g.parts First (closed x (whole vs)) refl) (g.parts Second (closed y (whole vs)) refl) in
    below R t k c p (down SecondPart p) vs b y v refl refl m.1 n.1 (good_right R (meets a x (down FirstPart p)) (meets b y (down SecondPart p)) h)
lolli_parts R t k c p vs v a b x y f g h w = tt

-- the body of a quantifier at a natural
bound_equal : (R : Place → Ty → Ty → Type 0) (t : Table) (k : ℕ) → Claim R t k → (p : Place) (vs : List ℕ) → Valued p vs → (a b : Ty) (m : ℕ) → is_named t a ≡ true → is_named t b ≡ true → is_scoped (p.vars + 1) a ≡ true → is_scoped (p.vars + 1) b ≡ true → Proper t (closed a (whole vs ++ pos m ∷ [])) → Proper t (closed b (whole vs ++ pos m ∷ [])) → AllGood R (meets a b (down InnerPart (bind p))) → EqualTo t k (closed a (whole vs ++ pos m ∷ [])) (closed b (whole vs ++ pos m ∷ []))
bound_equal R t k c p vs v a b m na nb sa sb pa pb h =
    let e : whole (vs ++ m ∷ []) ≡ whole vs ++ pos m ∷ [] = whole-append vs (m ∷ []) in
    let few : p.vars + 1 ≤ 16 = good_few R (down InnerPart (bind p)) a b h in
    subst (λ at. EqualTo t k (closed a at) (closed b at)) e
    (below R t k c (bind p) (down InnerPart (bind p)) (vs ++ m ∷ []) a b (bind_valued p vs m v few) refl refl (record { named = na; scoped = sa; proper = subst (λ at. Proper t (closed a at)) (sym e) pa }) (record { named = nb; scoped = sb; proper = subst (λ at. Proper t (closed b at)) (sym e) pb }) h)

ex_parts : (R : Place → Ty → Ty → Type 0) (t : Table) (k : ℕ) → Claim R t k → (p : Place) (vs : List ℕ) → Valued p vs → (a b : Ty) → HeadFit t p.vars vs (Ex a) → HeadFit t p.vars vs (Ex b) → AllGood R (meets a b (down InnerPart (bind p))) → (w : Way) → Parts t k (part_layer (Ex a) (whole vs) w) (part_layer (Ex b) (whole vs) w)
ex_parts R t k c p vs v a b f g h (At m) = bound_equal R t k c p vs v a b m f.named g.named f.scoped g.scoped (f.parts (At m) (closed a (whole vs ++ pos m ∷ [])) refl) (g.parts (At m) (closed b (whole vs ++ pos m ∷ [])) refl) h
ex_parts R t k c p vs v a b f g h w = tt

all_parts : (R : Place → Ty → Ty → Type 0) (t : Table) (k : ℕ) → Claim R t k → (p : Place) (vs : List ℕ) → Valued p vs → (a b : Ty) → HeadFit t p.vars vs (Each a) → HeadFit t p.vars vs (Each b) → AllGood R (meets a b (down InnerPart (bind p))) → (w : Way) → Parts t k (part_layer (Each a) (whole vs) w) (part_layer (Each b) (whole vs) w)
all_parts R t k c p vs v a b f g h (At m) = bound_equal R t k c p vs v a b m f.named g.named f.scoped g.scoped (f.parts (At m) (closed a (whole vs ++ pos m ∷ [])) refl) (g.parts (At m) (closed b (whole vs ++ pos m ∷ [])) refl) h
all_parts R t k c p vs v a b f g h w = tt

-- formulas of which each follows from the other
one_truth : (x y : Bool) → (x ≡ true → y ≡ true) → (y ≡ true → x ≡ true) → x ≡ y
one_truth true y f g = sym (f refl)
one_truth false true f g = g refl
one_truth false false f g = refl

both_follow : (p : Place) (vs : List ℕ) (f g : Formula) → Valued p vs → Follows p.vars (p.premises ++ f ∷ []) g → Follows p.vars (p.premises ++ g ∷ []) f → truth f (whole vs) ≡ truth g (whole vs)
both_follow p vs f g v h k = one_truth (truth f (whole vs)) (truth g (whole vs)) (λ e. h vs v.sized (all_and p.premises f (whole vs) v.holds e)) (λ e. k vs v.sized (all_and p.premises g (whole vs) v.holds e))

-- the body below a constraint
guarded : (R : Place → Ty → Ty → Type 0) (t : Table) (k : ℕ) → Claim R t k → (p : Place) (vs : List ℕ) → Valued p vs → (f g : Formula) (a b : Ty) → truth f (whole vs) ≡ truth g (whole vs) → is_closed_formula p.vars f ≡ true → (truth f (whole vs) ≡ true → Fit t p.vars vs a) → (truth g (whole vs) ≡ true → Fit t p.vars vs b) → AllGood R (meets a b (down InnerPart (under f p))) → Parts t k (if truth f (whole vs) then Some (closed a (whole vs)) else None) (if truth g (whole vs) then Some (closed b (whole vs)) else None)
guarded R t k c p vs v f g a b e cf fa fb h = pick (truth f (whole vs)) refl
  where
    pick : (x : Bool) → truth f (whole vs) ≡ x → Parts t k (if truth f (whole vs) then Some (closed a (whole vs)) else None) (if truth g (whole vs) then Some (closed b (whole vs)) else None)
    pick true q = subst₂ (λ x y. Parts t k (if x then Some (closed a (whole vs)) else None) (if y then Some (closed b (whole vs)) else None)) (sym q) (sym q ∙ e) (below R t k c (under f p) (down InnerPart (under f p)) vs a b (under_valued p f vs v cf q) refl refl (fa q) (fb (sym e ∙ q)) h)
    pick false q = subst₂ (λ x y. Parts t k (if x then Some (closed a (whole vs)) else None) (if y then Some (closed b (whole vs)) else None)) (sym q) (sym q ∙ e) tt

guard_fit : (t : Table) (n : ℕ) (vs : List ℕ) (f : Formula) (a : Ty) → is_named t a ≡ true → is_closed_formula n f && is_scoped n a ≡ true → ((c : Closed) → (if truth f (whole vs) then Some (closed a (whole vs)) else None) ≡ Some c → Proper t c) → truth f (whole vs) ≡ true → Fit t n vs a
guard_fit t n vs f a h k r e = record { named = h; scoped = (both_true (is_closed_formula n f) (is_scoped n a) k).1; proper = r (closed a (whole vs)) (ap (λ (b : Bool). if b then Some (closed a (whole vs)) else None) e) }

assert_parts : (R : Place → Ty → Ty → Type 0) (t : Table) (k : ℕ) → Claim R t k → (p : Place) (vs : List ℕ) → Valued p vs → (f g : Formula) (a b : Ty) → truth f (whole vs) ≡ truth g (whole vs) → HeadFit t p.vars vs (Assert f a) → HeadFit t p.vars vs (Assert g b) → AllGood R (meets a b (down InnerPart (under f p))) → (w : Way) → Parts t k (part_layer (Assert f a) (whole vs) w) (part_layer (Assert g b) (whole vs) w)
assert_parts R t k c p vs v f g a b e x y h Inner = guarded R t k c p vs v f g a b e (both_true (is_closed_formula p.vars f) (is_scoped p.vars a) x.scoped).0 (guard_fit t p.vars vs f a x.named x.scoped (x.parts Inner)) (guard_fit t p.vars vs g b y.named y.scoped (y.parts Inner)) h
assert_parts R t k c p vs v f g a b e x y h w = tt

assume_parts : (R : Place → Ty → Ty → Type 0) (t : Table) (k : ℕ) → Claim R t k → (p : Place) (vs : List ℕ) → Valued p vs → (f g : Formula) (a b : Ty) → truth f (whole vs) ≡ truth g (whole vs) → HeadFit t p.vars vs (Assume f a) → HeadFit t p.vars vs (Assume g b) → AllGood R (meets a b (down InnerPart (under f p))) → (w : Way) → Parts t k (part_layer (Assume f a) (whole vs) w) (part_layer (Assume g b) (whole vs) w)
assume_parts R t k c p vs v f g a b e x y h Inner = guarded R t k c p vs v f g a b e (both_true (is_closed_formula p.vars f) (is_scoped p.vars a) x.scoped).0 (guard_fit t p.vars vs f a x.named x.scoped (x.parts Inner)) (guard_fit t p.vars vs g b y.named y.scoped (y.parts Inner)) h
assume_parts R t k c p vs v f g a b e x y h w = tt

paid_fit : (t : Table) (n : ℕ) (vs : List ℕ) (l : Linear) (a : Ty) → is_named t a ≡ true → is_closed n l && is_scoped n a ≡ true → Proper t (closed a (whole vs)) → Fit t n vs a
paid_fit t n vs l a h k x = record { named = h; scoped = (both_true (is_closed n l) (is_scoped n a) k).1; proper = x }

pays_parts : (R : Place → Ty → Ty → Type 0) (t : Table) (k : ℕ) → Claim R t k → (p : Place) (vs : List ℕ) → Valued p vs → (l m : Linear) (a b : Ty) → HeadFit t p.vars vs (Pays l a) → HeadFit t p.vars vs (Pays m b) → AllGood R (meets a b (down InnerPart p)) → (w : Way) → Parts t k (part_layer (Pays l a) (whole vs) w) (part_layer (Pays m b) (whole vs) w)
pays_parts R t k c p vs v l m a b x y h Inner = below R t k c p (down InnerPart p) vs a b v refl refl (paid_fit t p.vars vs l a x.named x.scoped (x.parts Inner (closed a (whole vs)) refl)) (paid_fit t p.vars vs m b y.named y.scoped (y.parts Inner (closed b (whole vs)) refl)) h
pays_parts R t k c p vs v l m a b x y h w = tt

gets_parts : (R : Place → Ty → Ty → Type 0) (t : Table) (k : ℕ) → Claim R t k → (p : Place) (vs : List ℕ) → Valued p vs → (l m : Linear) (a b : Ty) → HeadFit t p.vars vs (Gets l a) → HeadFit t p.vars vs (Gets m b) → AllGood R (meets a b (down InnerPart p)) → (w : Way) → Parts t k (part_layer (Gets l a) (whole vs) w) (part_layer (Gets m b) (whole vs) w)
gets_parts R t k c p vs v l m a b x y h Inner = below R t k c p (down InnerPart p) vs a b v refl refl (paid_fit t p.vars vs l a x.named x.scoped (x.parts Inner (closed a (whole vs)) refl)) (paid_fit t p.vars vs m b y.named y.scoped (y.parts Inner (closed b (whole vs)) refl)) h
gets_parts R t k c p vs v l m a b x y h w = tt

-- ---- any two heads

layers_agree : (R : Place → Ty → Ty → Type 0) (t : Table) (k : ℕ) → Claim R t k → (p : Place) (vs : List ℕ) → Valued p vs → (x y : Layer) → HeadFit t p.vars vs x → HeadFit t p.vars vs y → AllGood R (all_of (heads (map-Ty Ty Walker walker x) y p)) → LayersAgree t k x y (whole vs)
layers_agree R t k c p vs v One One f g h = record { kind = refl; figure = refl; parts = λ w. tt }
layers_agree R t k c p vs v (Plus ts) (Plus us) f g h = record { kind = refl; figure = refl; parts = plus_parts R t k c p vs v ts us f g h }
layers_agree R t k c p vs v (With ts) (With us) f g h = record { kind = refl; figure = refl; parts = with_parts R t k c p vs v ts us f g h }
layers_agree R t k c p vs v (Tensor a b) (Tensor x y) f g h = record { kind = refl; figure = refl; parts = tensor_parts R t k c p vs v a b x y f g h }
layers_agree R t k c p vs v (Lolli a b) (Lolli x y) f g h = record { kind = refl; figure = refl; parts = lolli_parts R t k c p vs v a b x y f g h }
layers_agree R t k c p vs v (Ex a) (Ex b) f g h = record { kind = refl; figure = refl; parts = ex_parts R t k c p vs v a b f g h }
layers_agree R t k c p vs v (Each a) (Each b) f g h = record { kind = refl; figure = refl; parts = all_parts R t k c p vs v a b f g h }
layers_agree R t k c p vs v (Assert f a) (Assert g b) x y h =
    let e : truth f (whole vs) ≡ truth g (whole vs) = both_follow p vs f g v h.0 h.1.0 in
    record { kind = refl; figure = ap (λ (b : Bool). pos (cond b 1 0)) e; parts = assert_parts R t k c p vs v f g a b e x y h.1.1 }
layers_agree R t k c p vs v (Assume f a) (Assume g b) x y h =
    let e : truth f (whole vs) ≡ truth g (whole vs) = both_follow p vs f g v h.0 h.1.0 in
    record { kind = refl; figure = ap (λ (b : Bool). pos (cond b 1 0)) e; parts = assume_parts R t k c p vs v f g a b e x y h.1.1 }
layers_agree R t k c p vs v (Pays l a) (Pays m b) x y h = record { kind = refl; figure = equal_true l m (whole vs) (h.0 vs v.sized v.holds); parts = pays_parts R t k c p vs v l m a b x y h.1 }
layers_agree R t k c p vs v (Gets l a) (Gets m b) x y h = record { kind = refl; figure = equal_true l m (whole vs) (h.0 vs v.sized v.holds); parts = gets_parts R t k c p vs v l m a b x y h.1 }
layers_agree R t k c p vs v x y f g h = absurd (never p vs v h.0)

-- two heads whose walk is good agree
pub heads_agree : (R : Place → Ty → Ty → Type 0) (t : Table) (k : ℕ) → Claim R t k → (p : Place) (vs : List ℕ) → Valued p vs → (a b : Ty) → HeadFit t p.vars vs (out-Ty a) → HeadFit t p.vars vs (out-Ty b) → AllGood R (all_of (heads_of a b p)) → Agree (EqualTo t k) (closed a (whole vs)) (closed b (whole vs))
heads_agree R t k c p vs v a b f g h = agree_of t k a b (whole vs) (layers_agree R t k c p vs v (out-Ty a) (out-Ty b) f g h)
