-- Where each node has one place, it has at most one judgement; and tables of judgements.
use Rattle.std.proofs.Common.{◌≡◌, ℕ, zero, suc, ◌+◌, ◌<◌, ◌≤◌, false, not, ◌||◌, List, [], ◌∷◌, ◌++◌, length, Option, Some, None, Result, Ok, Err, sym, ◌∙◌, ap, ap₂, refl, subst, subst₂, arith, inl, inr, ◌⊎◌, All}
use Rattle.std.specs.Prelude.{slice_get, slice_set, MatchOption}
use Rattle.std.proofs.lemmas.Bool.{cases_lt}
use Rattle.std.proofs.lemmas.List.{length-set, length-map}
use Rattle.std.proofs.lemmas.List.Elements.{All-head, All-tail}
use Rattle.std.proofs.lemmas.Option.{slice_get_within}
use Rattle.rast_types.specs.declared.stop.Stop.{Stop}
use Rattle.rast_terms.specs.Nodes.{kids}
use Rattle.rast_terms.specs.declared.node.Node.{Node}
use Rattle.rast_terms.specs.declared.node.Node.TheVariants as node
use Rattle.rast_rules.specs.declared.premise.Premise.{Premise}
use Rattle.rast_rules.specs.declared.premise.Premise.TheVariants.{Truth, Shape, Same, Passed}
use Rattle.rast_rules.specs.Rules.{Program, Decl, Judgement, IsJudgement, at_root, at_child, IsAccepted, IsMade, IsTruePremise, root, limited, children, child_at, head_at, premises, stops}
use Rattle.rast_rules.specs.Start.{IsStart}
use Rattle.rast_rules.specs.declared.root.RuleErr.{RuleErr}
use Rattle.rast_rules.specs.declared.root.RuleErr.TheVariants.{Limit}
use Rattle.rast_rules.specs.Trail.{any_stops}
use Rattle.rast_rules.specs.Plan.{IsForest, Judged, HasJudgement, AreJudged, AreAll, AreChildren, HaveBodies, HaveKids, HaveBelow}

pub some_same : {X : Type 0} (x y : X) → Some x ≡ Some y → x ≡ y
some_same {X} x y e = cc

ok_same : {X E : Type 0} (x y : X) (a b : Result X E) → a ≡ Ok x → b ≡ Ok y → a ≡ b → x ≡ y
ok_same {X} {E} x y a b p q e = cc

made_same : (c d : Judgement) (a b : Option (Result Judgement Stop)) → a ≡ Some (Ok c) → b ≡ Some (Ok d) → a ≡ b → c ≡ d
made_same c d a b p q e = cc

-- ---- one judgement

same_body : (g : Program) → IsForest g → (k l : ℕ) (d e : Decl) (i j : Judgement) → slice_get g.decls k ≡ Some d → limited (root k d) ≡ Ok i → slice_get g.decls l ≡ Some e → limited (root l e) ≡ Ok j → d.body ≡ e.body → i ≡ j
same_body g f k l d e i j s h t m same =
    let number : k ≡ l = f.bodies k l e.body (record { decl = d; there = s; is = same }) (record { decl = e; there = t; is = refl }) in
    let decl : d ≡ e = some_same d e (sym s ∙ ap (slice_get g.decls) number ∙ t) in
    ok_same i j (limited (root k d)) (limited (root l e)) h m (ap₂ (λ n c. limited (root n c)) number decl)

same_kid : (g : Program) → IsForest g → (n p x y m q : ℕ) (nd pd : Node) (i j c d : Judgement) → slice_get g.nodes n ≡ Some nd → slice_get (kids nd) x ≡ Some m → slice_get (children g i nd) x ≡ Some (Ok c) →
    slice_get g.nodes p ≡ Some pd → slice_get (kids pd) y ≡ Some q → slice_get (children g j pd) y ≡ Some (Ok d) → m ≡ q → (n ≡ p → i ≡ j) → c ≡ d
same_kid g f n p x y m q nd pd i j c d s k h t l o same whole =
    let place = f.kids n p x y q (record { node = nd; there = s; is = k ∙ ap Some same }) (record { node = pd; there = t; is = l }) in
    let judged : i ≡ j = whole place.0 in
    let node : nd ≡ pd = some_same nd pd (sym s ∙ ap (slice_get g.nodes) place.0 ∙ t) in
    made_same c d (slice_get (children g i nd) x) (slice_get (children g j pd) y) h o (ap₂ (λ a b. slice_get (children g a b) x) judged node ∙ ap (slice_get (children g j pd)) place.1)

body_no_kid : (g : Program) → IsForest g → (k n x m : ℕ) (d : Decl) (nd : Node) → slice_get g.decls k ≡ Some d → slice_get g.nodes n ≡ Some nd → slice_get (kids nd) x ≡ Some m → d.body ≡ m → ⊥
body_no_kid g f k n x m d nd s t l same = f.apart k n x m (record { decl = d; there = s; is = same }) (record { node = nd; there = t; is = l })

pub single : (g : Program) → IsForest g → (m q : ℕ) (i j : Judgement) → m ≡ q → IsJudgement g m i → IsJudgement g q j → i ≡ j
single g f m q i j same (at_root k d a s h) (at_root l e b t o) = same_body g f k l d e a b s h t o same
single g f m q i j same (at_root k d a s h) (at_child p b pd y r e w t l o) = absurd (body_no_kid g f k p y r d pd s t l same)
single g f m q i j same (at_child p b pd y r e w t l o) (at_root k d a s h) = absurd (body_no_kid g f k p y r d pd s t l (sym same))
single g f m q i j same (at_child n a nd x r c v s k h) (at_child p b pd y z d w t l o) = same_kid g f n p x y r z nd pd a b c d s k h t l o same (λ e. single g f n p a b e v w)

-- ---- accepted programs

-- a true premise doesn't stop
true_goes_on : (g : Program) (j : Judgement) (p : Premise) → IsTruePremise g j p → stops p ≡ false
true_goes_on g j (Truth goal) h = refl
true_goes_on g j (Shape ok w) h = ap not h
true_goes_on g j (Same a b rs) h = refl
true_goes_on g j (Passed s) h = absurd h

none_stops : (g : Program) (j : Judgement) (ps : List (ℕ × Premise)) → All (λ p. IsTruePremise g j p.1) ps → any_stops ps ≡ false
none_stops g j [] h = refl
none_stops g j (p ∷ ps) h = ap₂ (λ a b. a || b) (true_goes_on g j p.1 (All-head (λ q. IsTruePremise g j q.1) p ps h)) (none_stops g j ps (All-tail (λ q. IsTruePremise g j q.1) p ps h))

pub goes_on : (g : Program) → IsAccepted g → (n : ℕ) (j : Judgement) (nd : Node) → IsJudgement g n j → slice_get g.nodes n ≡ Some nd → any_stops (premises g j nd) ≡ false
goes_on g a n j nd h s =
    let r = a.nodes n j h in
    let same : r.0 ≡ nd = some_same r.0 nd (sym r.1 ∙ s) in
    ap (λ m. any_stops (premises g j m)) (sym same) ∙ none_stops g j (premises g j r.0) r.2.premises

pub within_nodes : (g : Program) → IsAccepted g → (n : ℕ) (j : Judgement) → IsJudgement g n j → n < length g.nodes
within_nodes g a n j h = let r = a.nodes n j h in slice_get_within g.nodes n r.0 r.1

made_at : (cs : List (Result Judgement Stop)) (i : ℕ) (c : Result Judgement Stop) → All IsMade cs → slice_get cs i ≡ Some c → IsMade c
made_at [] i c h e = absurd (cc)
made_at (d ∷ cs) zero c h e = subst IsMade (some_same d c e) (All-head IsMade d cs h)
made_at (d ∷ cs) (suc i) c h e = made_at cs i c (All-tail IsMade d cs h) e

-- a child's judgement can be made
pub child_made : (g : Program) → IsAccepted g → (n : ℕ) (j : Judgement) (nd : Node) (i : ℕ) (s : Stop) → IsJudgement g n j → slice_get g.nodes n ≡ Some nd → slice_get (children g j nd) i ≡ Some (Err s) → ⊥
child_made g a n j nd i s h t e =
    let r = a.nodes n j h in
    let same : r.0 ≡ nd = some_same r.0 nd (sym r.1 ∙ t) in
    made_at (children g j r.0) i (Err s) r.2.children (ap (λ m. slice_get (children g j m) i) same ∙ e)

-- as many children as there are child nodes
pub as_many : (g : Program) (j : Judgement) (nd : Node) → length (children g j nd) ≡ length (kids nd)
as_many g j nd = length-map (child_at g j nd (head_at g j)) limited ∙ below nd
  where
    below : (nd : Node) → length (child_at g j nd (head_at g j)) ≡ length (kids nd)
    below (node.Label x l n) = refl
    below (node.Case x bs) = length-map bs _ ∙ sym (length-map bs _)
    below (node.Send x w rs n) = refl
    below (node.Recv x y n) = refl
    below (node.Index x e n) = refl
    below (node.Bind x v n) = refl
    below (node.Assert x n) = refl
    below (node.Assume x n) = refl
    below (node.Pay x n) = refl
    below (node.Get x n) = refl
    below (node.Close x) = refl
    below (node.Wait x n) = refl
    below (node.Forward x y rs) = refl
    below (node.Spawn v d es ys rs n) = refl
    below (node.Call x d es ys rs) = refl
    below node.Impossible = refl
    below (node.Work r n) = refl
    below (node.Delay t n) = refl

-- ---- tables of judgements

module _ {X : Type 0} where
  pub set_here : (xs : List X) (i : ℕ) (x : X) → i < length xs → slice_get (slice_set xs i x) i ≡ Some x
  set_here [] i x h = absurd (omega arith)
  set_here (y ∷ xs) zero x h = refl
  set_here (y ∷ xs) (suc i) x h = set_here xs i x (omega arith)

  pub set_there : (xs : List X) (i j : ℕ) (x : X) → (i ≡ j → ⊥) → slice_get (slice_set xs i x) j ≡ slice_get xs j
  set_there [] i j x h = refl
  set_there (y ∷ xs) zero zero x h = absurd (h refl)
  set_there (y ∷ xs) zero (suc j) x h = refl
  set_there (y ∷ xs) (suc i) zero x h = refl
  set_there (y ∷ xs) (suc i) (suc j) x h = set_there xs i j x (λ e. h (ap suc e))

same_or_other : (i j : ℕ) → (i ≡ j) ⊎ (i ≡ j → ⊥)
same_or_other i j = elim (cases_lt i j) [
  | inl below ↦ inr (λ e. omega (arith, below, e))
  | inr above ↦ elim (cases_lt j i) [ inl less ↦ inr (λ e. omega (arith, less, e)) | inr least ↦ inl (omega (arith, above, least)) ]
]

module _ (g : Program) (js new : Judged) (m : ℕ) (c : Judgement) (sound : AreJudged g js) (judged : IsJudgement g m c) (inside : m < length g.nodes) (put : new ≡ slice_set js m (Some c)) where
  below_size : m < length js
  below_size = omega (arith, inside, sound.size)

  here : slice_get new m ≡ Some (Some c)
  here = ap (λ t. slice_get t m) put ∙ set_here js m (Some c) below_size

  there : (n : ℕ) → (m ≡ n → ⊥) → slice_get new n ≡ slice_get js n
  there n h = ap (λ t. slice_get t n) put ∙ set_there js m n (Some c) h

  pub put_sound : AreJudged g new
  put_sound = record {
    size = ap length put ∙ length-set js m (Some c) ∙ sound.size;
    sound = λ n j e. elim (same_or_other m n) [
      | inl same ↦ subst₂ (IsJudgement g) same (some_same c j (some_same (Some c) (Some j) (sym here ∙ ap (slice_get new) same ∙ e))) judged
      | inr other ↦ sound.sound n j (sym (there n other) ∙ e)
    ];
  }

  pub put_has : HasJudgement new m
  put_has = record { judgement = c; is = here }

  pub put_keeps : (n : ℕ) → HasJudgement js n → HasJudgement new n
  put_keeps n h = elim (same_or_other m n) [
    | inl same ↦ subst (HasJudgement new) same put_has
    | inr other ↦ record { judgement = h.judgement; is = there n other ∙ h.is }
  ]

-- ---- what the table has

-- a node with a judgement is reached, where all bodies and all children of the nodes before it are
pub reached : (g : Program) → IsForest g → (js : Judged) (n m : ℕ) (j : Judgement) → HaveBodies g (length g.decls) js → HaveBelow g n js → m ≤ n → IsJudgement g m j → HasJudgement js m
reached g f js n m j bodies below h (at_root k d a s e) = bodies k d (slice_get_within g.decls k d s) s
reached g f js n m j bodies below h (at_child p b pd y r c w t l o) =
    let before' : p < r = f.forward p y r (record { node = pd; there = t; is = l }) in
    below p b pd (omega (arith, before', h)) w t y r (omega arith) l

-- ---- loops

-- one declaration more
pub bodies_turn : (g : Program) (js new : Judged) (k : ℕ) → HaveBodies g k js → ((m : ℕ) → HasJudgement js m → HasJudgement new m) → ((d : Decl) → slice_get g.decls k ≡ Some d → HasJudgement new d.body) → HaveBodies g (k + 1) new
bodies_turn g js new k inv keeps here l d h s = elim (cases_lt l k) [
  | inl less ↦ keeps d.body (inv l d less s)
  | inr least ↦ let same : l ≡ k = omega (arith, h, least) in here d (ap (slice_get g.decls) (sym same) ∙ s)
]

-- one node more
pub below_turn : (g : Program) → IsForest g → (js new : Judged) (n : ℕ) → HaveBodies g (length g.decls) js → HaveBelow g n js → ((m : ℕ) → HasJudgement js m → HasJudgement new m) →
    ((nd : Node) → HasJudgement js n → slice_get g.nodes n ≡ Some nd → HaveKids g new nd 0) → HaveBelow g (n + 1) new
below_turn g f js new n bodies below keeps here p j nd h judged s = elim (cases_lt p n) [
  | inl less ↦ λ l m i k. keeps m (below p j nd less judged s l m i k)
  | inr least ↦
      let same : p ≡ n = omega (arith, h, least) in
      here nd (subst (HasJudgement js) same (reached g f js n p j bodies below (omega (arith, same)) judged)) (ap (slice_get g.nodes) (sym same) ∙ s)
]

pub all_reached : (g : Program) → IsAccepted g → IsForest g → (js : Judged) (n : ℕ) → length g.nodes ≤ n → HaveBodies g (length g.decls) js → HaveBelow g n js → AreAll g js
all_reached g a f js n past bodies below m j h = let inside = within_nodes g a m j h in reached g f js n m j bodies below (omega (arith, inside, past)) h

-- a table without judgements
pub none_push : (js : Judged) → ((m : ℕ) (j : Judgement) → slice_get js m ≡ Some (Some j) → ⊥) → (m : ℕ) (j : Judgement) → slice_get (js ++ None ∷ []) m ≡ Some (Some j) → ⊥
none_push [] h zero j e = cc
none_push [] h (suc m) j e = cc
none_push (x ∷ js) h zero j e = h zero j e
none_push (x ∷ js) h (suc m) j e = none_push js (λ k i f. h (suc k) i f) m j e

pub none_sound : (g : Program) (js : Judged) → length js ≡ length g.nodes → ((m : ℕ) (j : Judgement) → slice_get js m ≡ Some (Some j) → ⊥) → AreJudged g js
none_sound g js size none = record { size = size; sound = λ m j e. absurd (none m j e) }

-- ---- the last of a list

get_front : {X : Type 0} (xs ys : List X) (m : ℕ) (x : X) → slice_get xs m ≡ Some x → slice_get (xs ++ ys) m ≡ Some x
get_front {X} [] ys m x e = absurd (cc)
get_front {X} (y ∷ xs) ys zero x e = e
get_front {X} (y ∷ xs) ys (suc m) x e = get_front xs ys m x e

pub get_before : {X : Type 0} (all xs : List X) (y : X) (m : ℕ) (x : X) → all ≡ xs ++ y ∷ [] → slice_get xs m ≡ Some x → slice_get all m ≡ Some x
get_before {X} all xs y m x e f = ap (λ zs. slice_get zs m) e ∙ get_front xs (y ∷ []) m x f

last_of : {X : Type 0} (xs : List X) (x : X) → slice_get (xs ++ x ∷ []) (length xs) ≡ Some x
last_of {X} [] x = refl
last_of {X} (y ∷ xs) x = last_of xs x

pub get_last : {X : Type 0} (all xs : List X) (x : X) → all ≡ xs ++ x ∷ [] → slice_get all (length xs) ≡ Some x
get_last {X} all xs x e = ap (λ zs. slice_get zs (length xs)) e ∙ last_of xs x

-- one child more
pub kids_turn : (ks : List ℕ) (js new : Judged) (n c : ℕ) → ((i m : ℕ) → n + 1 ≤ i → slice_get ks i ≡ Some m → HasJudgement js m) → ((m : ℕ) → HasJudgement js m → HasJudgement new m) → slice_get ks n ≡ Some c → HasJudgement new c →
    (i m : ℕ) → n ≤ i → slice_get ks i ≡ Some m → HasJudgement new m
kids_turn ks js new n c inv keeps here has i m h e = elim (cases_lt n i) [
  | inl less ↦ keeps m (inv i m (omega (arith, less)) e)
  | inr least ↦ let same : i ≡ n = omega (arith, h, least) in subst (HasJudgement new) (some_same c m (sym here ∙ ap (slice_get ks) (sym same) ∙ e)) has
]

-- ---- a declaration's body

pub start_judged : (g : Program) (k : ℕ) (d : Decl) (r : Result Judgement RuleErr) (j : Judgement) → slice_get g.decls k ≡ Some d → IsStart (limited (root k d)) r → r ≡ Ok j → IsJudgement g d.body j
start_judged g k d r j there h is = at_root k d j there (subst (IsStart (limited (root k d))) is h)

pub start_made : (g : Program) → IsAccepted g → (k : ℕ) (d : Decl) (r : Result Judgement RuleErr) (s : Stop) → slice_get g.decls k ≡ Some d → IsStart (limited (root k d)) r → r ≡ Err (Limit s) → ⊥
start_made g a k d r s there h is = subst IsMade (subst (IsStart (limited (root k d))) is h) (a.roots k d there)

-- the children of a node, as they were made
pub kid_judged : (g : Program) (n : ℕ) (j : Judgement) (nd : Node) (cs : List (Result Judgement Stop)) (i m : ℕ) (c : Judgement) → IsJudgement g n j → slice_get g.nodes n ≡ Some nd → cs ≡ children g j nd → slice_get (kids nd) i ≡ Some m → slice_get cs i ≡ Some (Ok c) → IsJudgement g m c
kid_judged g n j nd cs i m c h s e k d = at_child n j nd i m c h s k (ap (λ zs. slice_get zs i) (sym e) ∙ d)

pub kid_made : (g : Program) → IsAccepted g → (n : ℕ) (j : Judgement) (nd : Node) (cs : List (Result Judgement Stop)) (i : ℕ) (s : Stop) → IsJudgement g n j → slice_get g.nodes n ≡ Some nd → cs ≡ children g j nd → slice_get cs i ≡ Some (Err s) → ⊥
kid_made g a n j nd cs i s h t e d = child_made g a n j nd i s h t (ap (λ zs. slice_get zs i) (sym e) ∙ d)

pub none_begin : (js : Judged) → js ≡ [] → (m : ℕ) (j : Judgement) → slice_get js m ≡ Some (Some j) → ⊥
none_begin js e m j f = let g : slice_get {X = Option Judgement} [] m ≡ Some (Some j) = ap (λ ks. slice_get ks m) (sym e) ∙ f in empty m g
  where
    empty : (m : ℕ) → slice_get {X = Option Judgement} [] m ≡ Some (Some j) → ⊥
    empty m g = cc

-- ---- answers that may be none

module _ (g : Program) (js : Judged) (n : ℕ) (nd : Node) where
  pub children_some : (o : Option (List (Result Judgement Stop))) (cs : List (Result Judgement Stop)) → MatchOption o (HasJudgement js n → ⊥) (λ cs. AreChildren g js n nd cs) → o ≡ Some cs → AreChildren g js n nd cs
  children_some o cs h e = subst (λ (p : Option (List (Result Judgement Stop))). MatchOption p (HasJudgement js n → ⊥) (λ cs. AreChildren g js n nd cs)) e h

  pub children_none : (o : Option (List (Result Judgement Stop))) → MatchOption o (HasJudgement js n → ⊥) (λ cs. AreChildren g js n nd cs) → o ≡ None → HasJudgement js n → ⊥
  children_none o h e = subst (λ (p : Option (List (Result Judgement Stop))). MatchOption p (HasJudgement js n → ⊥) (λ cs. AreChildren g js n nd cs)) e h

pub popped : (o : Option (Result Judgement Stop)) (old new : List (Result Judgement Stop)) (x : Result Judgement Stop) → MatchOption o ((old ≡ []) × (new ≡ [])) (λ last. old ≡ new ++ last ∷ []) → o ≡ Some x → old ≡ new ++ x ∷ []
popped o old new x h e = subst (λ (p : Option (Result Judgement Stop)). MatchOption p ((old ≡ []) × (new ≡ [])) (λ last. old ≡ new ++ last ∷ [])) e h

pub all_popped : (o : Option (Result Judgement Stop)) (old new : List (Result Judgement Stop)) → MatchOption o ((old ≡ []) × (new ≡ [])) (λ last. old ≡ new ++ last ∷ []) → o ≡ None → (old ≡ []) × (new ≡ [])
all_popped o old new h e = subst (λ (p : Option (Result Judgement Stop)). MatchOption p ((old ≡ []) × (new ≡ [])) (λ last. old ≡ new ++ last ∷ [])) e h
