-- A visit of a node brings what is asked of it, and its children wait in its place.
use Rattle.std.proofs.Common.{arith, ◌≡◌, ℕ, zero, suc, ◌+◌, ◌-◌, ◌<◌, ◌≤◌, List, [], ◌∷◌, ◌++◌, map, flat_map, zip, length, slice_get, reverse, Bool, true, false, not, Some, None, Result, Ok, refl, sym, ap, ap₂, ◌∙◌, subst, All, append_assoc, append-nil}
use Rattle.std.specs.List.{sum_by, AllByRecursion}
use Rattle.std.proofs.lemmas.List.{reverse-append}
use Rattle.std.proofs.lemmas.List.Sums.{sum_by-append, sum_by-cons}
use Rattle.rast_rules.specs.Rules.{Program, children, stops, IsTruePremise}
use Rattle.rast_rules.specs.Trail.{any_stops}
use Rattle.rast_rules.specs.declared.judgement.Judgement.{Judgement}
use Rattle.rast_rules.specs.declared.premise.Premise.{Premise}
use Rattle.rast_rules.specs.declared.premise.Premise.TheVariants.{Truth, Shape, Same, Passed}
use Rattle.rast_terms.specs.Nodes.{kids}
use Rattle.rast_terms.specs.declared.node.Node.{Node}
use Rattle.rast_types.specs.declared.stop.Stop.{Stop}
use Rattle.rast_check.specs.Questions.{Question, IsTrueQuestion, IsForward, asked_at, premise_questions, node_and_below, node_questions}
use Rattle.rast_check.specs.Refusals.{Clears, IsRefusal}
use Rattle.rast_check.specs.Walk.{waits, waiting_questions, left, visits, visits_below, waiting_visits, visits_left, IsPlaced, Brings}
use Rattle.rast_check.specs.declared.answer.CheckErr.{CheckErr}
use Rattle.rast_check.specs.declared.walk.Waiting.{Waiting}
use Rattle.rast_check.proofs.Every.{every_append, zip_every}
use Rattle.rast_equal.proofs.Every.{all_get}
use Rattle.std.proofs.lemmas.List.Elements.{All-from_recursion, recursion_from_All}
use Rattle.rast_check.proofs.Leads.{error_of, error_here, refusal_is}

-- ---- lists

zip_none : {X Y : Type 0} (xs : List X) → zip {X = Y} xs [] ≡ []
zip_none {X} {Y} [] = refl
zip_none {X} {Y} (x ∷ xs) = refl

zip_first : {X Y : Type 0} (xs : List X) (a x : X) (y : Y) → a ≡ x → zip (a ∷ xs) (y ∷ []) ≡ (x, y) ∷ []
zip_first {X} {Y} xs a x y e = ap₂ (λ (z : X) (zs : List (X × Y)). (z, y) ∷ zs) e (zip_none xs)

zip_last : {X Y : Type 0} (xs : List X) (ys : List Y) (x : X) (y : Y) → slice_get xs (length ys) ≡ Some x → zip xs (ys ++ y ∷ []) ≡ zip xs ys ++ (x, y) ∷ []
zip_last {X} {Y} [] ys x y h = absurd (let k : None ≡ Some x = h in cc)
zip_last {X} {Y} (a ∷ xs) [] x y h = zip_first xs a x y (let k : Some a ≡ Some x = h in cc)
zip_last {X} {Y} (a ∷ xs) (b ∷ ys) x y h = ap (λ zs. (a, b) ∷ zs) (zip_last xs ys x y h)

map_push : {X Y : Type 0} (f : X → Y) (xs : List X) (x : X) → map f (xs ++ x ∷ []) ≡ map f xs ++ f x ∷ []
map_push {X} {Y} f [] x = refl
map_push {X} {Y} f (y ∷ xs) x = ap (λ ys. f y ∷ ys) (map_push f xs x)

-- the last of those that are pushed is pushed first
pub pushed : (d : ℕ) (before : List Waiting) (ks : List ℕ) (rs : List (Result Judgement Stop)) (k : ℕ) (r : Result Judgement Stop) → slice_get ks (length rs) ≡ Some k →
    before ++ reverse (map (waits d) (zip ks (rs ++ r ∷ []))) ≡ (before ++ waits d (k, r) ∷ []) ++ reverse (map (waits d) (zip ks rs))
pushed d before ks rs k r h =
    ap (λ (ws : List Waiting). before ++ reverse ws) (ap (map (waits d)) (zip_last ks rs k r h) ∙ map_push (waits d) (zip ks rs) (k, r))
    ∙ ap (λ (ws : List Waiting). before ++ ws) (reverse-append (map (waits d) (zip ks rs)) (waits d (k, r) ∷ []))
    ∙ sym (append_assoc before (waits d (k, r) ∷ []) (reverse (map (waits d) (zip ks rs))))

-- none is left
pub drained : (d : ℕ) (before : List Waiting) (ks : List ℕ) (rs : List (Result Judgement Stop)) → rs ≡ [] → before ++ reverse (map (waits d) (zip ks rs)) ≡ before
drained d before ks rs e =
    ap (λ (xs : List (Result Judgement Stop)). before ++ reverse (map (waits d) (zip ks xs))) e
    ∙ ap (λ (es : List (ℕ × Result Judgement Stop)). before ++ reverse (map (waits d) es)) (zip_none ks)
    ∙ append-nil before

-- ---- what is asked of all that wait

pub left_append : (g : Program) (xs ys : List Waiting) → left g (xs ++ ys) ≡ left g ys ++ left g xs
left_append g [] ys = sym (append-nil (left g ys))
left_append g (x ∷ xs) ys = ap (λ (qs : List Question). qs ++ waiting_questions g x) (left_append g xs ys) ∙ append_assoc (left g ys) (left g xs) (waiting_questions g x)

abbrev below_questions : Program → ℕ → List (ℕ × Result Judgement Stop) → List Question
below_questions g d es = flat_map (node_questions g (length g.nodes - d)) es

left_children : (g : Program) (d : ℕ) (es : List (ℕ × Result Judgement Stop)) → left g (reverse (map (waits d) es)) ≡ below_questions g d es
left_children g d [] = refl
left_children g d (e ∷ es) =
    ap (left g) (reverse-append (waits d e ∷ []) (map (waits d) es))
    ∙ left_append g (reverse (map (waits d) es)) (waits d e ∷ [])
    ∙ ap (λ (qs : List Question). waiting_questions g (waits d e) ++ qs) (left_children g d es)

pub left_pushed : (g : Program) (d : ℕ) (before : List Waiting) (es : List (ℕ × Result Judgement Stop)) →
    left g (before ++ reverse (map (waits d) es)) ≡ below_questions g d es ++ left g before
left_pushed g d before es = left_append g before (reverse (map (waits d) es)) ∙ ap (λ (qs : List Question). qs ++ left g before) (left_children g d es)

pub left_last : (g : Program) (before : List Waiting) (x : Waiting) → left g (before ++ x ∷ []) ≡ waiting_questions g x ++ left g before
left_last g before x = left_append g before (x ∷ [])

-- ---- a node

one_less : (a d : ℕ) → d < a → a - d ≡ suc (a - (d + 1))
one_less a d h = omega arith

pub node_asks : (g : Program) (n d : ℕ) (j : Judgement) (nd : Node) → d < length g.nodes → slice_get g.nodes n ≡ Some nd →
    waiting_questions g (waits d (n, Ok j)) ≡ premise_questions g n j nd ++ below_questions g (d + 1) (zip (kids nd) (children g j nd))
node_asks g n d j nd h e =
    ap (λ (f : ℕ). node_questions g f (n, Ok j)) (one_less (length g.nodes) d h)
    ∙ ap (node_and_below g (node_questions g (length g.nodes - (d + 1))) n j) e

node_visits : (g : Program) (n d : ℕ) (j : Judgement) (nd : Node) → d < length g.nodes → slice_get g.nodes n ≡ Some nd →
    waiting_visits g (waits d (n, Ok j)) ≡ 1 + sum_by (visits g (length g.nodes - (d + 1))) (zip (kids nd) (children g j nd))
node_visits g n d j nd h e =
    ap (λ (f : ℕ). visits g f (n, Ok j)) (one_less (length g.nodes) d h)
    ∙ ap (visits_below (visits g (length g.nodes - (d + 1))) g j) e

visits_children : (g : Program) (d : ℕ) (es : List (ℕ × Result Judgement Stop)) → visits_left g (reverse (map (waits d) es)) ≡ sum_by (visits g (length g.nodes - d)) es
visits_children g d [] = refl
visits_children g d (e ∷ es) =
    ap (visits_left g) (reverse-append (waits d e ∷ []) (map (waits d) es))
    ∙ join _ _ _ _ _ _ (sum_by-append (waiting_visits g) (reverse (map (waits d) es)) (waits d e ∷ [])) (visits_children g d es)
    (sum_by-cons (waiting_visits g) (waits d e) []) (sum_by-cons (visits g (length g.nodes - d)) e es)
  where
    join : (x r o w t v : ℕ) → x ≡ r + o → r ≡ t → o ≡ w + 0 → v ≡ w + t → x ≡ v
    join x r o w t v a b c d = omega (arith, a, b, c, d)

fewer_visits : (g : Program) (n d : ℕ) (j : Judgement) (nd : Node) (before : List Waiting) → d < length g.nodes → slice_get g.nodes n ≡ Some nd →
    visits_left g (before ++ reverse (map (waits (d + 1)) (zip (kids nd) (children g j nd)))) < visits_left g (before ++ waits d (n, Ok j) ∷ [])
fewer_visits g n d j nd before h e =
    let es = zip (kids nd) (children g j nd) in
    less _ _ _ _ _ _ _ (sum_by-append (waiting_visits g) before (reverse (map (waits (d + 1)) es))) (visits_children g (d + 1) es)
    (sum_by-append (waiting_visits g) before (waits d (n, Ok j) ∷ [])) (sum_by-cons (waiting_visits g) (waits d (n, Ok j)) []) (node_visits g n d j nd h e)
  where
    less : (x a r t y o w : ℕ) → x ≡ a + r → r ≡ t → y ≡ a + o → o ≡ w + 0 → w ≡ 1 + t → x < y
    less x a r t y o w h i k l m = omega (arith, h, i, k, l, m)

-- ---- nodes in their places

reverse_every : {X : Type 0} (P : X → Type 0) (xs : List X) → AllByRecursion P xs → AllByRecursion P (reverse xs)
reverse_every {X} P [] h = tt
reverse_every {X} P (x ∷ xs) h = subst (AllByRecursion P) (sym (reverse-append (x ∷ []) xs)) (every_append P (reverse xs) (x ∷ []) (reverse_every P xs h.1) (h.0, tt))

map_every : {X Y : Type 0} (P : Y → Type 0) (f : X → Y) (xs : List X) → AllByRecursion (λ x. P (f x)) xs → AllByRecursion P (map f xs)
map_every {X} {Y} P f [] h = tt
map_every {X} {Y} P f (x ∷ xs) h = (h.0, map_every P f xs h.1)

kid_placed : (g : Program) (n d k : ℕ) (r : Result Judgement Stop) → d ≤ n → (n < k) × (k < length g.nodes) → IsPlaced g (waits (d + 1) (k, r))
kid_placed g n d k r h b = record { deep = (let l = b.0 in omega arith); there = b.1 }

pub kids_placed : (g : Program) (n d : ℕ) (j : Judgement) (nd : Node) (before : List Waiting) → IsForward g → slice_get g.nodes n ≡ Some nd → d ≤ n → All (IsPlaced g) before →
    All (IsPlaced g) (before ++ reverse (map (waits (d + 1)) (zip (kids nd) (children g j nd))))
kids_placed g n d j nd before f e h p =
    All-from_recursion (IsPlaced g) (before ++ reverse (map (waits (d + 1)) (zip (kids nd) (children g j nd))))
    (every_append (IsPlaced g) before (reverse (map (waits (d + 1)) (zip (kids nd) (children g j nd)))) (recursion_from_All (IsPlaced g) before p)
    (reverse_every (IsPlaced g) (map (waits (d + 1)) (zip (kids nd) (children g j nd)))
    (map_every (IsPlaced g) (waits (d + 1)) (zip (kids nd) (children g j nd))
    (zip_every (λ x. IsPlaced g (waits (d + 1) x)) (kids nd) (children g j nd)
    (λ i k r a b. kid_placed g n d k r h (all_get (λ m. (n < m) × (m < length g.nodes)) (kids nd) i k (f.kids n nd e) a))))))

-- ---- premises that are true don't stop

true_goes : (g : Program) (j : Judgement) (p : Premise) → IsTruePremise g j p → stops p ≡ false
true_goes g j (Truth goal) h = refl
true_goes g j (Shape ok w) h = ap not h
true_goes g j (Same a b rs) h = refl
true_goes g j (Passed s) h = absurd h

every_goes : (g : Program) (n : ℕ) (j : Judgement) (ps : List (ℕ × Premise)) → AllByRecursion (IsTrueQuestion g) (asked_at n j ps) → any_stops ps ≡ false
every_goes g n j [] h = refl
every_goes g n j (p ∷ ps) h = ap₂ or_true (true_goes g j p.1 h.0) (every_goes g n j ps h.1)
  where
    or_true : Bool → Bool → Bool
    or_true true b = true
    or_true false b = b

pub true_premises_go : (g : Program) (n : ℕ) (j : Judgement) (ps : List (ℕ × Premise)) → Clears g (asked_at n j ps) → any_stops ps ≡ false
true_premises_go g n j ps c = every_goes g n j ps (recursion_from_All (IsTrueQuestion g) (asked_at n j ps) c.1)

-- ---- the visit of a node

pub node_brings : (g : Program) (n d : ℕ) (j : Judgement) (nd : Node) (before after : List Waiting) → IsForward g → IsPlaced g (waits d (n, Ok j)) → All (IsPlaced g) before → slice_get g.nodes n ≡ Some nd →
    Clears g (premise_questions g n j nd) → after ≡ before ++ reverse (map (waits (d + 1)) (zip (kids nd) (children g j nd))) → Brings g (before ++ waits d (n, Ok j) ∷ []) after
node_brings g n d j nd before after f p others e c same =
    let es = zip (kids nd) (children g j nd) in
    let deep = p.deep in
    let there = p.there in
    let low : d < length g.nodes = omega arith in
    subst (λ (ws : List Waiting). Brings g (before ++ waits d (n, Ok j) ∷ []) ws) (sym same) (record {
      own = premise_questions g n j nd;
      met = left_last g before (waits d (n, Ok j))
          ∙ ap (λ (qs : List Question). qs ++ left g before) (node_asks g n d j nd low e)
          ∙ append_assoc (premise_questions g n j nd) (below_questions g (d + 1) es) (left g before)
          ∙ ap (λ (qs : List Question). premise_questions g n j nd ++ qs) (sym (left_pushed g (d + 1) before es));
      fewer = fewer_visits g n d j nd before low e;
      clear = c;
      placed = kids_placed g n d j nd before f e deep others;
    })

pub node_refused : (g : Program) (n d : ℕ) (j : Judgement) (nd : Node) (e : CheckErr) → IsPlaced g (waits d (n, Ok j)) → slice_get g.nodes n ≡ Some nd →
    IsRefusal (error_of g (premise_questions g n j nd)) e → IsRefusal (error_of g (waiting_questions g (waits d (n, Ok j)))) e
node_refused g n d j nd e p at h =
    let deep = p.deep in
    let there = p.there in
    refusal_is _ _ e (sym (ap (error_of g) (node_asks g n d j nd (omega arith) at))) (error_here g (premise_questions g n j nd) (below_questions g (d + 1) (zip (kids nd) (children g j nd))) e h)

-- a node is there
pub node_there : (g : Program) (n : ℕ) → n < length g.nodes → (nd : Node) × (slice_get g.nodes n ≡ Some nd)
node_there g n h = at g.nodes n h
  where
    at : {X : Type 0} (xs : List X) (n : ℕ) → n < length xs → (x : X) × (slice_get xs n ≡ Some x)
    at {X} [] n h = absurd (omega arith)
    at {X} (x ∷ xs) zero h = (x, refl)
    at {X} (x ∷ xs) (suc n) h = at xs n (let k : suc n < suc (length xs) = h in omega arith)
