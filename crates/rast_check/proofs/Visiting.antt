-- The calls of a walk over the nodes.
use Rattle.std.proofs.Common.{arith, ◌≡◌, ◌<◌, ◌≤◌, ℕ, suc, ◌+◌, ◌-◌, List, [], ◌∷◌, ◌++◌, map, zip, length, slice_get, reverse, false, Some, Result, Ok, Err, sym, ap, ◌∙◌, subst, All, length-append}
use Rattle.std.specs.Result.{IsErrAnd}
use Rattle.rast_rules.specs.Rules.{Program, premises, children}
use Rattle.rast_rules.specs.Trail.{any_stops}
use Rattle.rast_rules.specs.declared.judgement.Judgement.{Judgement}
use Rattle.rast_rules.specs.declared.premise.Premise.{Premise}
use Rattle.rast_terms.specs.Nodes.{kids}
use Rattle.rast_terms.specs.declared.node.Node.{Node}
use Rattle.rast_types.specs.declared.stop.Stop.{Stop}
use Rattle.rast_check.specs.Questions.{Question, IsForward, Limit, asked_at, premise_questions, node_questions, judged_and_below}
use Rattle.rast_check.specs.Refusals.{Asked, Clears, IsRefusal}
use Rattle.rast_check.specs.Walk.{waits, waiting_questions, left, IsPlaced, Brings, Visits}
use Rattle.rast_check.specs.declared.answer.CheckErr.{CheckErr}
use Rattle.rast_check.specs.declared.walk.Waiting.{Waiting}
use Rattle.rast_check.proofs.Bodies.{one_each}
use Rattle.std.proofs.lemmas.List.Elements.{All-from_recursion, recursion_from_All}
use Rattle.rast_equal.proofs.Every.{every_left}
use Rattle.rast_check.proofs.Leads.{Leads, error_of, asked_stop, leads_step}
use Rattle.rast_check.proofs.Walking.{left_last, node_brings, node_refused, node_there, pushed, true_premises_go}

-- ---- children that are pushed

pub record IsPushed (d : ℕ) (stack goal : List Waiting) (ks : List ℕ) (rs : List (Result Judgement Stop)) : Type 0 where
  pub few : length rs ≤ length ks
  pub left : stack ++ reverse (map (waits d) (zip ks rs)) ≡ goal

one_longer : {X : Type 0} (xs ys : List X) (y : X) → xs ≡ ys ++ y ∷ [] → length xs ≡ length ys + 1
one_longer {X} xs ys y e = let a = length-append ys (y ∷ []) in let b = ap (λ (zs : List X). length zs) e in omega (arith, a, b)

-- there is a child where one is taken
pub kid_there : (ks : List ℕ) (rs fewer : List (Result Judgement Stop)) (r : Result Judgement Stop) → length rs ≤ length ks → rs ≡ fewer ++ r ∷ [] → length fewer < length ks
kid_there ks rs fewer r h e = let a = one_longer rs fewer r e in omega (arith, a, h)

pub push_step : (d : ℕ) (stack more goal : List Waiting) (ks : List ℕ) (rs fewer : List (Result Judgement Stop)) (k : ℕ) (r : Result Judgement Stop) →
    length rs ≤ length ks → stack ++ reverse (map (waits d) (zip ks rs)) ≡ goal → slice_get ks (length fewer) ≡ Some k → rs ≡ fewer ++ r ∷ [] → more ≡ stack ++ waits d (k, r) ∷ [] → IsPushed d more goal ks fewer
push_step d stack more goal ks rs fewer k r few is e f m =
    record {
      few = (let a = kid_there ks rs fewer r few f in omega (arith, a));
      left = ap (λ (ws : List Waiting). ws ++ reverse (map (waits d) (zip ks fewer))) m
          ∙ sym (pushed d stack ks fewer k r e)
          ∙ ap (λ (ys : List (Result Judgement Stop)). stack ++ reverse (map (waits d) (zip ks ys))) (sym f)
          ∙ is;
    }

-- ---- a node under its judgement

pub visits_from : {X : Type 0} (g : Program) (x : Waiting) (before after : List Waiting) (e : CheckErr) (r : Result X CheckErr) → IsErrAnd r (λ f. f ≡ e) → IsRefusal (error_of g (waiting_questions g x)) e → Visits g x before after r
visits_from {X} g x before after e (Ok done) is h = absurd is
visits_from {X} g x before after e (Err f) is h = subst (IsRefusal (error_of g (waiting_questions g x))) (sym is) h

-- what the calls at a node say
pub record IsFound (g : Program) (n d : ℕ) (j : Judgement) (ps : List (ℕ × Premise)) : Type 0 where
  pub node : Node
  pub at : slice_get g.nodes n ≡ Some node
  pub premises : ps ≡ premises g j node

pub found : (g : Program) (n d : ℕ) (j : Judgement) (qs ps : List (ℕ × Premise)) → IsPlaced g (waits d (n, Ok j)) → ((nd : Node) → slice_get g.nodes n ≡ Some nd → qs ≡ premises g j nd) → ps ≡ qs → IsFound g n d j ps
found g n d j qs ps p f h =
    let t = node_there g n p.there in
    record { node = t.0; at = t.1; premises = h ∙ f t.0 t.1 }

pub found_refused : {X : Type 0} (g : Program) (n d : ℕ) (j : Judgement) (ps : List (ℕ × Premise)) (before after : List Waiting) (e : CheckErr) (r : Result X CheckErr) → IsPlaced g (waits d (n, Ok j)) → IsFound g n d j ps →
    IsErrAnd r (λ f. f ≡ e) → IsRefusal (error_of g (asked_at n j ps)) e → Visits g (waits d (n, Ok j)) before after r
found_refused {X} g n d j ps before after e r p f is h =
    visits_from g (waits d (n, Ok j)) before after e r is
    (node_refused g n d j f.node e p f.at (subst (λ (qs : List (ℕ × Premise)). IsRefusal (error_of g (asked_at n j qs)) e) f.premises h))

found_clear : (g : Program) (n d : ℕ) (j : Judgement) (ps : List (ℕ × Premise)) (f : IsFound g n d j ps) → Clears g (asked_at n j ps) → Clears g (premise_questions g n j f.node)
found_clear g n d j ps f c = subst (λ (qs : List (ℕ × Premise)). Clears g (asked_at n j qs)) f.premises c

some_inside : {X : Type 0} (a b : X) → Some a ≡ Some b → a ≡ b
some_inside {X} a b e = cc

pub found_goes : (g : Program) (n d : ℕ) (j : Judgement) (ps : List (ℕ × Premise)) → IsFound g n d j ps → Clears g (asked_at n j ps) → (nd : Node) → slice_get g.nodes n ≡ Some nd → any_stops (premises g j nd) ≡ false
found_goes g n d j ps f c nd h =
    subst (λ (x : Node). any_stops (premises g j x) ≡ false) (some_inside f.node nd (sym f.at ∙ h))
    (true_premises_go g n j (premises g j f.node) (found_clear g n d j ps f c))

pub sized : (g : Program) (n : ℕ) (j : Judgement) (rs : List (Result Judgement Stop)) → ((nd : Node) → slice_get g.nodes n ≡ Some nd → rs ≡ children g j nd) → (nd : Node) → slice_get g.nodes n ≡ Some nd → length (kids nd) ≡ length rs
sized g n j rs b nd e = sym (one_each g j nd) ∙ sym (ap (λ (xs : List (Result Judgement Stop)). length xs) (b nd e))

pub found_brings : (g : Program) (n d : ℕ) (j : Judgement) (ps : List (ℕ × Premise)) (rs : List (Result Judgement Stop)) (before after : List Waiting) → IsForward g → IsPlaced g (waits d (n, Ok j)) → All (IsPlaced g) before →
    IsFound g n d j ps → Clears g (asked_at n j ps) → ((nd : Node) → slice_get g.nodes n ≡ Some nd → rs ≡ children g j nd) →
    ((nd : Node) → slice_get g.nodes n ≡ Some nd → after ≡ before ++ reverse (map (waits (d + 1)) (zip (kids nd) rs))) → Brings g (before ++ waits d (n, Ok j) ∷ []) after
found_brings g n d j ps rs before after w p others f c b is =
    node_brings g n d j f.node before after w p others f.at (found_clear g n d j ps f c)
    (is f.node f.at ∙ ap (λ (ys : List (Result Judgement Stop)). before ++ reverse (map (waits (d + 1)) (zip (kids f.node) ys))) (b f.node f.at))

-- ---- a node whose judgement passes a limit

pub limit_refused : (g : Program) (x : Waiting) (l : Stop) → IsPlaced g x → x.judgement ≡ Err l → error_of g (waiting_questions g x) ≡ Some (Limit x.node l)
limit_refused g x l p e =
    let deep = p.deep in
    let there = p.there in
    let more : length g.nodes - x.depth ≡ suc (length g.nodes - (x.depth + 1)) = omega arith in
    ap (λ (f : ℕ). error_of g (node_questions g f (x.node, x.judgement))) more
    ∙ ap (λ (r : Result Judgement Stop). error_of g (judged_and_below g (node_questions g (length g.nodes - (x.depth + 1))) x.node r)) e

-- ---- all that wait

pub others_placed : (g : Program) (all rest : List Waiting) (x : Waiting) → All (IsPlaced g) all → all ≡ rest ++ x ∷ [] → All (IsPlaced g) rest
others_placed g all rest x h e = All-from_recursion (IsPlaced g) rest (every_left (IsPlaced g) rest (x ∷ []) (recursion_from_All (IsPlaced g) (rest ++ x ∷ []) (subst (All (IsPlaced g)) e h)))

pub walk_leads : (g : Program) (all : List Question) (before rest after : List Waiting) (x : Waiting) → Leads g all (left g before) → before ≡ rest ++ x ∷ [] → Brings g (rest ++ x ∷ []) after → Leads g all (left g after)
walk_leads g all before rest after x l e b = leads_step g all (left g before) b.own (left g after) l (ap (left g) e ∙ b.met) b.clear

pub walk_stops : {X : Type 0} (g : Program) (all : List Question) (before rest : List Waiting) (x : Waiting) (e : CheckErr) (r : Result X CheckErr) → Leads g all (left g before) → before ≡ rest ++ x ∷ [] → IsErrAnd r (λ f. f ≡ e) →
    IsRefusal (error_of g (waiting_questions g x)) e → Asked g all r
walk_stops {X} g all before rest x e r l d is h = asked_stop g all (left g before) (waiting_questions g x) (left g rest) e r l (ap (left g) d ∙ left_last g rest x) is h
