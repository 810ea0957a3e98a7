-- What is true at a node of an accepted program that has a judgement, and its children's judgements.
use Rattle.std.proofs.Common.{◌≡◌, ℕ, zero, suc, ◌+◌, ◌≤◌, Bool, true, false, not, ◌||◌, List, [], ◌∷◌, ◌++◌, map, length, take, drop, Some, None, slice_get, refl, sym, ap, ◌∙◌, subst, if◌then◌else◌, ltb-false}
use Rattle.std.specs.Prelude.{nat_lt, Result, Ok, Err}
use Rattle.std.specs.List.{list_any}
use Rattle.std.specs.List.{AllByRecursion}
use Rattle.std.proofs.lemmas.List.Elements.{recursion_from_All}
use Rattle.rast_index.specs.Truth.{Follows}
use Rattle.rast_types.specs.declared.stop.Stop.{Stop}
use Rattle.rast_types.specs.declared.stop.Stop.TheVariants as stop
use Rattle.rast_types.specs.declared.equation.Ref.{Ref}
use Rattle.rast_types.specs.declared.ty.Ty.{Ty}
use Rattle.rast_types.specs.Symbolic.{is_deep, binders}
use Rattle.rast_equal.specs.Walk.{IsSame}
use Rattle.rast_terms.specs.Nodes.{kids, refs_of}
use Rattle.rast_terms.specs.declared.node.Node.{Node}
use Rattle.rast_terms.specs.declared.program.Program.{Program}
use Rattle.rast_terms.specs.declared.program.Decl.{Decl}
use Rattle.rast_rules.specs.declared.judgement.Judgement.{Judgement}
use Rattle.rast_rules.specs.declared.premise.Premise.{Premise}
use Rattle.rast_rules.specs.declared.premise.Premise.TheVariants.{Truth, Shape, Same, Passed}
use Rattle.rast_rules.specs.Rules.{Asked, Is, Shaped, Alike, Stopped, Askings, asked, deal, share, until_stop, stops, premise_of, premises, IsTruePremise, IsMade, IsJudgement, at_root, at_child, IsAccepted, children, child_at, head_at, limited, root, all_types, is_small_judgement}
use Rattle.rast_equal.proofs.Every.{either_false}

-- ---- what is asked is true

abbrev pub IsTrueAsked : Program → Judgement → Asked → Type 0
IsTrueAsked g j (Is goal) = Follows j.ctx.vars j.ctx.premises goal
IsTrueAsked g j (Shaped ok w) = ok ≡ true
IsTrueAsked g j (Alike a b None) = (refs : List Ref) × IsSame g.equations j.ctx.vars j.ctx.premises a b refs
IsTrueAsked g j (Alike a b (Some s)) = ⊥
IsTrueAsked g j (Stopped s) = ⊥

abbrev pub AllAsked : Program → Judgement → Askings → Type 0
AllAsked g j [] = Unit {0}
AllAsked g j (a ∷ as') = IsTrueAsked g j a.1 × AllAsked g j as'

pub asked_left : (g : Program) (j : Judgement) (xs ys : Askings) → AllAsked g j (xs ++ ys) → AllAsked g j xs
asked_left g j [] ys h = tt
asked_left g j (x ∷ xs) ys h = (h.0, asked_left g j xs ys h.1)

pub asked_right : (g : Program) (j : Judgement) (xs ys : Askings) → AllAsked g j (xs ++ ys) → AllAsked g j ys
asked_right g j [] ys h = h
asked_right g j (x ∷ xs) ys h = asked_right g j xs ys h.1

true_asked : (g : Program) (j : Judgement) (a : Asked) (rs : List Ref) → IsTruePremise g j (premise_of a rs) → IsTrueAsked g j a
true_asked g j (Is goal) rs h = h
true_asked g j (Shaped ok w) rs h = h
true_asked g j (Alike a b None) rs h = (rs, h)
true_asked g j (Alike a b (Some s)) rs h = h
true_asked g j (Stopped s) rs h = h

not_stopping : (g : Program) (j : Judgement) (p : Premise) → IsTruePremise g j p → stops p ≡ false
not_stopping g j (Truth goal) h = refl
not_stopping g j (Shape ok w) h = ap not h
not_stopping g j (Same a b rs) h = refl
not_stopping g j (Passed s) h = absurd h

-- where the premises up to the first that stops are true, none stops
dealt_true : (g : Program) (j : Judgement) (n : ℕ) (rs : List Ref) (as' : Askings) → AllByRecursion (λ p. IsTruePremise g j p.1) (until_stop (deal n rs as')) → AllAsked g j as'
dealt_true g j n rs [] h = tt
dealt_true g j n rs (a ∷ as') h = pick (stops p) refl h (λ r. dealt_true g j n (drop (share n rs a.1 as') rs) as' r)
  where
    p : Premise
    p = premise_of a.1 (take (share n rs a.1 as') rs)

    ps : List (ℕ × Premise)
    ps = deal n (drop (share n rs a.1 as') rs) as'

    pick : (b : Bool) → stops (premise_of a.1 (take (share n rs a.1 as') rs)) ≡ b → AllByRecursion (λ q. IsTruePremise g j q.1) (if b then (a.0, premise_of a.1 (take (share n rs a.1 as') rs)) ∷ [] else (a.0, premise_of a.1 (take (share n rs a.1 as') rs)) ∷ until_stop (deal n (drop (share n rs a.1 as') rs) as')) → (AllByRecursion (λ q. IsTruePremise g j q.1) (until_stop (deal n (drop (share n rs a.1 as') rs) as')) → AllAsked g j as') → IsTrueAsked g j a.1 × AllAsked g j as'
    pick true e k r = absurd (let z : true ≡ false = sym e ∙ not_stopping g j (premise_of a.1 (take (share n rs a.1 as') rs)) k.0 in cc)
    pick false e k r = (true_asked g j a.1 (take (share n rs a.1 as') rs) k.0, r k.1)

-- ---- judgements within the limits

pub record Limited (j : Judgement) : Type 0 where
  pub vars : j.ctx.vars ≤ 16
  pub shallow : list_any (λ a. is_deep j.ctx.vars a.1) (all_types j) ≡ false
  pub few : length j.uses ≤ 15

limit_facts : (j k : Judgement) (deep many small : Bool) → (if deep then Err stop.Variables else (if many then Err stop.Channels else (if small then Ok j else Err stop.Coefficient))) ≡ Ok k → (deep ≡ false) × (many ≡ false) × (k ≡ j)
limit_facts j k true many small h = cc
limit_facts j k false true small h = cc
limit_facts j k false false true h = (refl, refl, (cc))
limit_facts j k false false false h = cc

pub limited_is : (j k : Judgement) → limited j ≡ Ok k → (k ≡ j) × Limited j
limited_is j k h =
    let f = limit_facts j k (nat_lt 16 j.ctx.vars || list_any (λ a. is_deep j.ctx.vars a.1) (all_types j)) (nat_lt 15 (length j.uses)) (is_small_judgement j) h in
    let d = either_false (nat_lt 16 j.ctx.vars) (list_any (λ a. is_deep j.ctx.vars a.1) (all_types j)) f.0 in
    (f.2, record { vars = ltb-false 16 j.ctx.vars d.0; shallow = d.1; few = ltb-false 15 (length j.uses) f.1 })

made_ok : (j : Judgement) (r : Result Judgement Stop) → limited j ≡ r → IsMade r → limited j ≡ Ok j
made_ok j (Ok k) e m = e ∙ ap Ok (limited_is j k e).0
made_ok j (Err s) e m = absurd m

pub made_is : (j : Judgement) → IsMade (limited j) → limited j ≡ Ok j
made_is j m = made_ok j (limited j) refl m

-- the judgement of each node is within the limits
at_limited : (j : Judgement) (js : List Judgement) (x : ℕ) → slice_get (map limited js) x ≡ Some (Ok j) → Limited j
at_limited j [] zero e = cc
at_limited j [] (suc x) e = cc
at_limited j (k ∷ js) zero e =
    let l : limited k ≡ Ok j = (let z : Some (limited k) ≡ Some (Ok j) = e in cc) in
    let r = limited_is k j l in subst Limited (sym r.0) r.1
at_limited j (k ∷ js) (suc x) e = at_limited j js x e

root_limited : (k : ℕ) (d : Decl) (j : Judgement) → limited (root k d) ≡ Ok j → Limited j
root_limited k d j l = let r = limited_is (root k d) j l in subst Limited (sym r.0) r.1

pub judged_limited : (g : Program) (n : ℕ) (j : Judgement) → IsJudgement g n j → Limited j
judged_limited g n j (at_root k d c s l) = root_limited k d c l
judged_limited g n j (at_child m i nd x y c p q r s) = at_limited c (child_at g i nd (head_at g i)) x s

-- ---- a node and its children

pub record Judged (g : Program) (n : ℕ) (j : Judgement) : Type 0 where
  pub node : Node
  pub is : slice_get g.nodes n ≡ Some node
  pub asked_true : AllAsked g j (asked g j node)
  pub made : AllByRecursion IsMade (children g j node)
  pub limits : Limited j

pub judged : (g : Program) → IsAccepted g → (n : ℕ) (j : Judgement) → IsJudgement g n j → Judged g n j
judged g a n j h =
    let r = a.nodes n j h in
    record {
      node = r.0;
      is = r.1;
      asked_true = dealt_true g j j.ctx.vars (refs_of r.0) (asked g j r.0) (recursion_from_All (λ p. IsTruePremise g j p.1) (premises g j r.0) r.2.premises);
      made = recursion_from_All IsMade (children g j r.0) r.2.children;
      limits = judged_limited g n j h;
    }

-- the child at a place
child_get : (js : List Judgement) (x : ℕ) (c : Judgement) → AllByRecursion IsMade (map limited js) → slice_get js x ≡ Some c → slice_get (map limited js) x ≡ Some (Ok c)
child_get [] zero c m e = cc
child_get [] (suc x) c m e = cc
child_get (k ∷ js) zero c m e = let s : k ≡ c = cc in ap Some (made_is k m.0 ∙ ap Ok s)
child_get (k ∷ js) (suc x) c m e = child_get js x c m.1 e

pub child_judged : (g : Program) (n : ℕ) (j : Judgement) (nd : Node) (x m : ℕ) (c : Judgement) → IsJudgement g n j → slice_get g.nodes n ≡ Some nd → AllByRecursion IsMade (children g j nd) → slice_get (kids nd) x ≡ Some m → slice_get (child_at g j nd (head_at g j)) x ≡ Some c → IsJudgement g m c
child_judged g n j nd x m c h e d k s = at_child n j nd x m c h e k (child_get (child_at g j nd (head_at g j)) x c d s)

-- a type in a judgement is shallow
any_false : {A : Type 0} (f : A → Bool) (xs ys : List A) (x : A) → list_any f (xs ++ x ∷ ys) ≡ false → f x ≡ false
any_false {A} f [] ys x h = (either_false (f x) (list_any f ys) h).0
any_false {A} f (z ∷ xs) ys x h = any_false f xs ys x (either_false (f z) (list_any f (xs ++ x ∷ ys)) h).1

pub gives_shallow : (j : Judgement) → Limited j → j.ctx.vars + binders j.gives.1 ≤ 16
gives_shallow j l = ltb-false 16 (j.ctx.vars + binders j.gives.1) (any_false (λ a. is_deep j.ctx.vars a.1) (map (λ u. (false, u.1)) j.uses) [] (true, j.gives.1) l.shallow)

abbrev pub AllShallow : ℕ → List (ℕ × Ty) → Type 0
AllShallow n [] = Unit {0}
AllShallow n (u ∷ us) = (n + binders u.1 ≤ 16) × AllShallow n us

entries_shallow : (n : ℕ) (us : List (ℕ × Ty)) (rest : List (Bool × Ty)) → list_any (λ a. is_deep n a.1) (map (λ u. (false, u.1)) us ++ rest) ≡ false → AllShallow n us
entries_shallow n [] rest h = tt
entries_shallow n (u ∷ us) rest h = let r = either_false (is_deep n u.1) (list_any (λ a. is_deep n a.1) (map (λ u. (false, u.1)) us ++ rest)) h in (ltb-false 16 (n + binders u.1) r.0, entries_shallow n us rest r.1)

pub uses_shallow : (j : Judgement) → Limited j → AllShallow j.ctx.vars j.uses
uses_shallow j l = entries_shallow j.ctx.vars j.uses ((true, j.gives.1) ∷ []) l.shallow
