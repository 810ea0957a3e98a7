-- What is asked of the nodes is true exactly where each node is right by its judgement.
use Rattle.std.proofs.Common.{arith, ◌≡◌, ℕ, zero, suc, ◌+◌, ◌<◌, ◌≤◌, List, [], ◌∷◌, flat_map, zip, length, slice_get, Option, Some, None, Result, Ok, Err, refl, sym, ◌∙◌, subst}
use Rattle.std.proofs.lemmas.List.{length-map}
use Rattle.rast_types.specs.declared.stop.Stop.{Stop}
use Rattle.rast_terms.specs.declared.node.Node.{Node}
use Rattle.rast_terms.specs.declared.node.Node.TheVariants as node
use Rattle.rast_terms.specs.Nodes.{kids}
use Rattle.rast_rules.specs.Rules.{Program, Decl, premises, children, child_at, head_at, limited, root, IsJudgement, at_root, at_child, IsTruePremise, IsMade, IsRight, IsAccepted}
use Rattle.rast_rules.specs.declared.judgement.Judgement.{Judgement}
use Rattle.rast_types.specs.declared.ty.Ty.{Ty}
use Rattle.rast_check.specs.Questions.{Question, OfPremise, IsTrueQuestion, from_number, premise_questions, node_and_below, node_questions, body_questions, IsForward}
use Rattle.rast_check.proofs.Every.{every_append, every_map, every_mapped, every_flat, every_flattened, zip_every, zip_at, zip_second}
use Rattle.std.proofs.lemmas.List.Elements.{All-from_recursion, recursion_from_All}
use Rattle.std.specs.List.{AllByRecursion}
use Rattle.rast_equal.proofs.Every.{all_get, every_get, every_left, every_right}

-- ---- a node has a child's judgement for each child

made_of : (g : Program) (j : Judgement) (nd : Node) (h : ℕ → Ty) → length (child_at g j nd h) ≡ length (kids nd)
made_of g j (node.Label x l n) h = refl
made_of g j (node.Case x bs) h = length-map bs _ ∙ sym (length-map bs _)
made_of g j (node.Send x w rs n) h = refl
made_of g j (node.Recv x y n) h = refl
made_of g j (node.Index x e n) h = refl
made_of g j (node.Bind x v n) h = refl
made_of g j (node.Assert x n) h = refl
made_of g j (node.Assume x n) h = refl
made_of g j (node.Pay x n) h = refl
made_of g j (node.Get x n) h = refl
made_of g j (node.Close x) h = refl
made_of g j (node.Wait x n) h = refl
made_of g j (node.Forward x y rs) h = refl
made_of g j (node.Spawn v d es ys rs n) h = refl
made_of g j (node.Call x d es ys rs) h = refl
made_of g j node.Impossible h = refl
made_of g j (node.Work r n) h = refl
made_of g j (node.Delay t n) h = refl

pub one_each : (g : Program) (j : Judgement) (nd : Node) → length (children g j nd) ≡ length (kids nd)
one_each g j nd = length-map (child_at g j nd (head_at g j)) limited ∙ made_of g j nd (head_at g j)

-- ---- true questions: each node with a judgement is right

abbrev pub True : Program → List Question → Type 0
True g qs = AllByRecursion (IsTrueQuestion g) qs

-- the questions below a node are true, to a depth that no branch passes
pub record Covered (g : Program) (n : ℕ) (j : Judgement) : Type 0 where
  pub fuel : ℕ
  pub within : n < length g.nodes
  pub enough : length g.nodes ≤ fuel + n
  pub asked : True g (node_questions g fuel (n, Ok j))

-- a covered node, with what is asked of it and below
record Opened (g : Program) (n : ℕ) (j : Judgement) (nd : Node) : Type 0 where
  fuel : ℕ
  enough : length g.nodes ≤ fuel + n + 1
  own : True g (premise_questions g n j nd)
  below : AllByRecursion (λ e. True g (node_questions g fuel e)) (zip (kids nd) (children g j nd))

open_at : (g : Program) (n : ℕ) (j : Judgement) (nd : Node) → slice_get g.nodes n ≡ Some nd → (f : ℕ) → n < length g.nodes → length g.nodes ≤ f + n → True g (node_questions g f (n, Ok j)) → Opened g n j nd
open_at g n j nd e zero w k h = absurd (omega arith)
open_at g n j nd e (suc f) w k h =
    let s : True g (node_and_below g (node_questions g f) n j (Some nd)) = subst (λ (o : Option Node). True g (node_and_below g (node_questions g f) n j o)) e h in
    record {
      fuel = f;
      enough = omega arith;
      own = every_left (IsTrueQuestion g) (premise_questions g n j nd) (flat_map (node_questions g f) (zip (kids nd) (children g j nd))) s;
      below = every_flattened (IsTrueQuestion g) (node_questions g f) (zip (kids nd) (children g j nd)) (every_right (IsTrueQuestion g) (premise_questions g n j nd) (flat_map (node_questions g f) (zip (kids nd) (children g j nd))) s);
    }

opened : (g : Program) (n : ℕ) (j : Judgement) (nd : Node) → slice_get g.nodes n ≡ Some nd → Covered g n j → Opened g n j nd
opened g n j nd e c = open_at g n j nd e c.fuel c.within c.enough c.asked

same_pair : {A : Type 0} (k m : ℕ) (y x : A) → k ≡ m → Some y ≡ Some x → let a : ℕ × A = (k, y) in let b : ℕ × A = (m, x) in Some a ≡ Some b
same_pair {A} k m y x z e = cc

numbered_at : {A : Type 0} (xs : List A) (k i : ℕ) (x : A) → slice_get xs i ≡ Some x → let z : ℕ × A = (k + i, x) in slice_get (from_number k xs) i ≡ Some z
numbered_at {A} [] k i x e = absurd (let c : None ≡ Some x = e in cc)
numbered_at {A} (y ∷ xs) k zero x e = zeroth k y x e
  where
    zeroth : {A : Type 0} (k : ℕ) (y x : A) → Some y ≡ Some x → let a : ℕ × A = (k, y) in let b : ℕ × A = (k + 0, x) in Some a ≡ Some b
    zeroth {A} k y x e = let z : k ≡ k + 0 = omega arith in same_pair k (k + 0) y x z e
numbered_at {A} (y ∷ xs) k (suc i) x e =
    subst (λ (m : ℕ). let z : ℕ × A = (m, x) in slice_get (from_number (k + 1) xs) i ≡ Some z) (omega arith) (numbered_at xs (k + 1) i x e)

body_asked : (g : Program) → True g (body_questions g) → (k : ℕ) (d : Decl) → slice_get g.decls k ≡ Some d → True g (node_questions g (length g.nodes) (d.body, limited (root k d)))
body_asked g h k d e =
    let all = every_flattened (IsTrueQuestion g) (λ (x : ℕ × Decl). node_questions g (length g.nodes) (x.1.body, limited (root x.0 x.1))) (from_number 0 g.decls) h in
    let found : ℕ × Decl = (k, d) in
    let at : slice_get (from_number 0 g.decls) k ≡ Some found = subst (λ (m : ℕ). let z : ℕ × Decl = (m, d) in slice_get (from_number 0 g.decls) k ≡ Some z) (omega arith) (numbered_at g.decls 0 k d e) in
    every_get (λ (x : ℕ × Decl). True g (node_questions g (length g.nodes) (x.1.body, limited (root x.0 x.1)))) (from_number 0 g.decls) k (k, d) all at

pub body_within : (g : Program) → IsForward g → (k : ℕ) (d : Decl) → slice_get g.decls k ≡ Some d → d.body < length g.nodes
body_within g w k d e = all_get (λ (x : Decl). x.body < length g.nodes) g.decls k d w.bodies e

kid_within : (g : Program) → IsForward g → (n : ℕ) (nd : Node) (i m : ℕ) → slice_get g.nodes n ≡ Some nd → slice_get (kids nd) i ≡ Some m → (n < m) × (m < length g.nodes)
kid_within g w n nd i m e k = all_get (λ x. (n < x) × (x < length g.nodes)) (kids nd) i m (w.kids n nd e) k

pub covered : (g : Program) → IsForward g → True g (body_questions g) → (n : ℕ) (j : Judgement) → IsJudgement g n j → Covered g n j
covered g w h n j (at_root k d i e l) =
    record {
      fuel = length g.nodes;
      within = body_within g w k d e;
      enough = omega arith;
      asked = subst (λ (r : Result Judgement Stop). True g (node_questions g (length g.nodes) (d.body, r))) l (body_asked g h k d e);
    }
covered g w h m c (at_child n j nd i kid child p e k s) =
    let o = opened g n j nd e (covered g w h n j p) in
    let b = kid_within g w n nd i kid e k in
    let small : suc n ≤ kid = b.0 in
    let many : length g.nodes ≤ o.fuel + n + 1 = o.enough in
    record {
      fuel = o.fuel;
      within = b.1;
      enough = omega arith;
      asked = every_get (λ x. True g (node_questions g o.fuel x)) (zip (kids nd) (children g j nd)) i (kid, Ok child) o.below (zip_at (kids nd) (children g j nd) i kid (Ok child) k s);
    }

-- a judgement that is asked for is within the limits
asked_made : (g : Program) (f m : ℕ) (r : Result Judgement Stop) → m < length g.nodes → length g.nodes ≤ f + m → True g (node_questions g f (m, r)) → IsMade r
asked_made g zero m r w k h = absurd (omega arith)
asked_made g (suc f) m (Ok j) w k h = tt
asked_made g (suc f) m (Err s) w k h = absurd h.0

pub made_roots : (g : Program) → IsForward g → True g (body_questions g) → (k : ℕ) (d : Decl) → slice_get g.decls k ≡ Some d → IsMade (limited (root k d))
made_roots g w h k d e = asked_made g (length g.nodes) d.body (limited (root k d)) (body_within g w k d e) (omega arith) (body_asked g h k d e)

right_node : (g : Program) → IsForward g → (n : ℕ) (j : Judgement) (nd : Node) → slice_get g.nodes n ≡ Some nd → Opened g n j nd → IsRight g j nd
right_node g w n j nd e o =
    record {
      premises = All-from_recursion (λ p. IsTruePremise g j p.1) (premises g j nd) (every_mapped (IsTrueQuestion g) (λ p. OfPremise n p.0 j p.1) (premises g j nd) o.own);
      children = All-from_recursion IsMade (children g j nd)
          (zip_second (λ x. True g (node_questions g o.fuel x)) (λ m. (n < m) × (m < length g.nodes)) IsMade (kids nd) (children g j nd) (one_each g j nd)
          (λ m r q t. asked_made g o.fuel m r q.1 (reach (length g.nodes) o.fuel n m o.enough q.0) t)
          (recursion_from_All (λ m. (n < m) × (m < length g.nodes)) (kids nd) (w.kids n nd e)) o.below);
    }
  where
    reach : (l f n m : ℕ) → l ≤ f + n + 1 → n < m → l ≤ f + m
    reach l f n m a b = omega arith

pub right_nodes : (g : Program) → IsForward g → True g (body_questions g) → (n : ℕ) (j : Judgement) → IsJudgement g n j → (nd : Node) × (slice_get g.nodes n ≡ Some nd) × IsRight g j nd
right_nodes g w h n j p =
    let c = covered g w h n j p in
    let o = there g.nodes n c.within in
    (o.0, o.1, right_node g w n j o.0 o.1 (opened g n j o.0 o.1 c))
  where
    there : {X : Type 0} (xs : List X) (n : ℕ) → n < length xs → (x : X) × (slice_get xs n ≡ Some x)
    there {X} [] n h = absurd (omega arith)
    there {X} (x ∷ xs) zero h = (x, refl)
    there {X} (x ∷ xs) (suc n) h = there xs n (let k : suc n < suc (length xs) = h in omega arith)

-- ---- the other way round

-- a judgement of this node
abbrev Judged : Program → ℕ → Result Judgement Stop → Type 0
Judged g n (Ok j) = IsJudgement g n j
Judged g n (Err s) = ⊥

judged_child : (g : Program) (n : ℕ) (j : Judgement) (nd : Node) (i m : ℕ) → IsJudgement g n j → slice_get g.nodes n ≡ Some nd → slice_get (kids nd) i ≡ Some m → (r : Result Judgement Stop) → slice_get (children g j nd) i ≡ Some r → IsMade r → Judged g m r
judged_child g n j nd i m p e k (Ok c) s t = at_child n j nd i m c p e k s
judged_child g n j nd i m p e k (Err l) s t = absurd t

asked_true : (g : Program) → IsAccepted g → (f n : ℕ) (r : Result Judgement Stop) → Judged g n r → True g (node_questions g f (n, r))
asked_true g a zero n r p = tt
asked_true g a (suc f) n (Err s) p = absurd p
asked_true g a (suc f) n (Ok j) p =
    let o = a.nodes n j p in
    subst (λ (x : Option Node). True g (node_and_below g (node_questions g f) n j x)) (sym o.1)
    (every_append (IsTrueQuestion g) (premise_questions g n j o.0) (flat_map (node_questions g f) (zip (kids o.0) (children g j o.0)))
    (every_map (IsTrueQuestion g) (λ q. OfPremise n q.0 j q.1) (premises g j o.0) (recursion_from_All (λ q. IsTruePremise g j q.1) (premises g j o.0) o.2.premises))
    (every_flat (IsTrueQuestion g) (node_questions g f) (zip (kids o.0) (children g j o.0))
    (zip_every (λ x. True g (node_questions g f x)) (kids o.0) (children g j o.0)
    (λ i m r k s. asked_true g a f m r (judged_child g n j o.0 i m p o.1 k r s (all_get IsMade (children g j o.0) i r o.2.children s))))))

root_judged : (g : Program) (k : ℕ) (d : Decl) → slice_get g.decls k ≡ Some d → (r : Result Judgement Stop) → limited (root k d) ≡ r → IsMade r → Judged g d.body r
root_judged g k d e (Ok j) l t = at_root k d j e l
root_judged g k d e (Err s) l t = absurd t

pub asked_bodies : (g : Program) → IsAccepted g → True g (body_questions g)
asked_bodies g a = every_flat (IsTrueQuestion g) (λ (x : ℕ × Decl). node_questions g (length g.nodes) (x.1.body, limited (root x.0 x.1))) (from_number 0 g.decls) (each g a 0 g.decls (λ i d e. subst (λ (m : ℕ). slice_get g.decls m ≡ Some d) (omega arith) e))
  where
    each : (g : Program) → IsAccepted g → (k : ℕ) (ds : List Decl) → ((i : ℕ) (d : Decl) → slice_get ds i ≡ Some d → slice_get g.decls (k + i) ≡ Some d) → AllByRecursion (λ (x : ℕ × Decl). True g (node_questions g (length g.nodes) (x.1.body, limited (root x.0 x.1)))) (from_number k ds)
    each g a k [] f = tt
    each g a k (d ∷ ds) f =
        let e : slice_get g.decls k ≡ Some d = subst (λ (m : ℕ). slice_get g.decls m ≡ Some d) (omega arith) (f 0 d refl) in (
          asked_true g a (length g.nodes) d.body (limited (root k d)) (root_judged g k d e (limited (root k d)) refl (a.roots k d e)),
          each g a (k + 1) ds (λ i x m. subst (λ (n : ℕ). slice_get g.decls n ≡ Some x) (omega arith) (f (suc i) x m)),
        )
