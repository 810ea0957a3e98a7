-- The take of a label.
use Rattle.std.proofs.Common.{◌≡◌, ℕ, ℤ, suc, pos, ◌+◌, max, Bool, true, false, ◌==◌, List, [], ◌∷◌, map, Option, Some, is_some, slice_get, refl, sym, ap, ◌∙◌, subst, arith, if◌then◌else◌, eqb-true}
use Rattle.std.specs.List.{list_all}
use Rattle.rast_index.specs.Keys.{find_key}
use Rattle.rast_index.specs.Linear.{value, whole}
use Rattle.rast_index.specs.Truth.{truth}
use Rattle.rast_types.specs.declared.ty.Kind.{Kind}
use Rattle.rast_types.specs.declared.ty.Kind.TheVariants as kind
use Rattle.rast_types.specs.declared.ty.Ty.{Ty}
use Rattle.rast_types.specs.Closed.{closed, Way, Label as ByLabel, figure_of, View}
use Rattle.rast_terms.specs.Nodes.{Touch}
use Rattle.rast_terms.specs.declared.node.Node.{Node}
use Rattle.rast_terms.specs.declared.node.Node.TheVariants as node
use Rattle.rast_terms.specs.declared.program.Program.{Program}
use Rattle.rast_rules.specs.declared.judgement.Judgement.{Judgement}
use Rattle.rast_rules.specs.Rules.{defs, is_provided, with_type, or_one, choices_of, head_at, label_asked, has_branch, IsJudgement}
use Rattle.rast_items.specs.Deeds.{Code, takes, at_node, with_message, at_branch, took, after_take}
use Rattle.rast_laws.specs.Typed.{FitsKind}
use Rattle.rast_order.proofs.Words.{Link, Proc, Msg, Body, Label}
use Rattle.rast_equal.proofs.Equals.{some_of}
use Rattle.rast_laws.proofs.Fine.{Stands, ProcFine, GoesAt, Goes}
use Rattle.rast_laws.proofs.Lawful.{DeedFine}
use Rattle.rast_laws.proofs.Judged.{AllAsked, asked_right}
use Rattle.rast_laws.proofs.Placed.{one_of}
use Rattle.rast_laws.proofs.Meeting.{Meets}
use Rattle.rast_laws.proofs.Sending.{toward_in}
use Rattle.rast_laws.proofs.Standing.{Standing, meeting, child_of, stands_on, seen_as}
use Rattle.rast_laws.proofs.Taking.{Arrives, arrives, taken_seen, takes_fine, leaves_at, link_values, link_fresh, type_ctx, type_potential, type_fresh}
use Rattle.rast_laws.proofs.Heads.{part_label}
use Rattle.rast_laws.proofs.Bodies.{BringsLabel, plus_fits, with_fits}

-- ---- after a message without potential, where the channel's type alone changes

pub stands_taken : (g : Program) (d : Link → Option View) (p : Proc) (j : Judgement) (x n : ℕ) (msg : Msg) (w : Way) (a : Ty) → Stands g d p j → msg.potential ≡ 0 → max p.moment msg.moment ≡ p.moment → (r : Arrives g d p j x msg.next w) → r.part ≡ closed a (whole p.values) → Stands g d (at_node (with_message p x msg) n) (with_type j x a)
stands_taken g d p j x n msg w a s q e r k =
    stands_on g d p (at_node (with_message p x msg) n) j (with_type j x a) s (link_values p x msg.next) (ap (λ c. c.vars) (type_ctx j x a))
    (subst (λ c. list_all (λ f. truth f (whole p.values)) c.premises ≡ true) (sym (type_ctx j x a)) s.premises)
    (ap (λ l. value l (whole p.values)) (type_potential j x a) ∙ (s.potential ∙ ap pos (let z : p.potential ≡ p.potential + msg.potential = omega (arith, q) in z)))
    (link_fresh p x msg.next ∙ (s.fresh ∙ sym (type_fresh j x a)))
    (seen_as g d (with_message p x msg) (at_node (with_message p x msg) n) (with_type j x a) refl refl refl refl (taken_seen g d p j x msg w a s e r k))

-- ---- branches

abbrev IsBranch : {A : Type 0} → List (ℕ × ℕ) → ℕ → ℕ → (ℕ → A) → Type 0
IsBranch {A} bs l n f = (i : ℕ) × (slice_get (map (λ b. b.1) bs) i ≡ Some n) × (slice_get (map (λ b. f b.0) bs) i ≡ Some (f l))

branch_first : {A : Type 0} (b : ℕ × ℕ) (bs : List (ℕ × ℕ)) (l n : ℕ) (f : ℕ → A) (x : Bool) → (b.0 == l) ≡ x → (find_key l bs ≡ Some n → IsBranch bs l n f) → (if x then Some b.1 else find_key l bs) ≡ Some n → IsBranch (b ∷ bs) l n f
branch_first {A} b bs l n f true k ih h = (0, h, ap (λ m. Some (f m)) (eqb-true b.0 l k))
branch_first {A} b bs l n f false k ih h = let r = ih h in (suc r.0, r.1, r.2)

-- the branch of a label, as a child
branch_at : {A : Type 0} (bs : List (ℕ × ℕ)) (l n : ℕ) (f : ℕ → A) → find_key l bs ≡ Some n → IsBranch bs l n f
branch_at {A} [] l n f e = cc
branch_at {A} (b ∷ bs) l n f e = branch_first b bs l n f (b.0 == l) refl (branch_at bs l n f) e

asked_first : (g : Program) (j : Judgement) (bs : List (ℕ × ℕ)) (l : ℕ) (t : ℕ × Ty) (ts : List (ℕ × Ty)) (a : Ty) (x : Bool) → (t.0 == l) ≡ x → is_some (find_key t.0 bs) ≡ true → (find_key l ts ≡ Some a → is_some (find_key l bs) ≡ true) → (if x then Some t.1 else find_key l ts) ≡ Some a → is_some (find_key l bs) ≡ true
asked_first g j bs l t ts a true k h ih e = subst (λ (m : ℕ). is_some (find_key m bs) ≡ true) (eqb-true t.0 l k) h
asked_first g j bs l t ts a false k h ih e = ih e

-- each label of the type has a branch
branch_asked : (g : Program) (j : Judgement) (bs : List (ℕ × ℕ)) (l : ℕ) (ts : List (ℕ × Ty)) (a : Ty) → AllAsked g j (map (λ t. has_branch bs t.0) ts) → find_key l ts ≡ Some a → is_some (find_key l bs) ≡ true
branch_asked g j bs l [] a h e = cc
branch_asked g j bs l (t ∷ ts) a h e = asked_first g j bs l t ts a (t.0 == l) refl h.0 (branch_asked g j bs l ts a h.1) e

-- ---- the node

abbrev case_touch : ℕ → Touch
case_touch x = record { x = x; provided = Some kind.With; used = Some kind.Plus }

label_comes : (z : ℤ) (j : Judgement) (x : ℕ) (want : Kind) (b : Body) (q : ℕ) → (if is_provided j x then Some kind.With else Some kind.Plus) ≡ Some want → FitsKind (Some want) z b q → BringsLabel b q
label_comes z j x want b q e = one_of (λ k. FitsKind (Some k) z b q → BringsLabel b q) (is_provided j x) kind.With kind.Plus want e (with_fits z b q) (plus_fits z b q)

case_takes : (c : Code) (d : Link → Option View) (p : Proc) (j : Judgement) (x : ℕ) (bs : List (ℕ × ℕ)) (s : Standing c.program d p j (node.Case x bs)) (o : Option Kind) (m : Meets c.program d p j (node.Case x bs) x o) (msg : Msg) (l : ℕ) → msg.body ≡ Label l → msg.potential ≡ 0 → max p.moment msg.moment ≡ p.moment → GoesAt (defs c.program) d m.at.seen.due p.moment msg.next (ByLabel l) → (q : Proc) × (after_take c p msg ≡ Some q) × ProcFine c.program d q
case_takes c d p j x bs s o m msg l b q e h =
    let g : Program = c.program in
    let nd : Node = node.Case x bs in
    let r : Arrives g d p j x msg.next (ByLabel l) = arrives g d p j nd x o m msg.next (ByLabel l) h in
    let y = part_label (head_at g j x) (whole p.values) l r.part r.is in
    let a : Ty = or_one (find_key l (choices_of (head_at g j x))) in
    let same : a ≡ y.0 = ap or_one y.1 in
    let has = some_of (find_key l bs) (branch_asked g j bs l (choices_of (head_at g j x)) y.0 (asked_right g j (map (λ t. label_asked (choices_of (head_at g j x)) t.0) bs) (map (λ t. has_branch bs t.0) (choices_of (head_at g j x))) m.asks.rest) y.1) in
    let n : ℕ = has.0 in
    let at = branch_at bs l n (λ k. with_type j x (or_one (find_key k (choices_of (head_at g j x))))) has.1 in
    let i : IsJudgement g n (with_type j x a) = child_of g d p j nd at.0 n (with_type j x a) s at.1 at.2 in (
      at_node (with_message p x msg) n,
      leaves_at c p (at_node (with_message p x msg) n) msg nd (case_touch x) s.is refl (ap (took nd (with_message p x msg)) b ∙ ap (at_branch (with_message p x msg)) has.1),
      (with_type j x a, i, stands_taken g d p j x n msg (ByLabel l) a s.stands q e r (y.2 ∙ ap (λ z. closed z (whole p.values)) (sym same))),
    )

pub case_fine : (c : Code) (d : Link → Option View) (p : Proc) (j : Judgement) (x : ℕ) (bs : List (ℕ × ℕ)) → Standing c.program d p j (node.Case x bs) → DeedFine c d p (takes p x)
case_fine c d p j x bs s =
    let g : Program = c.program in
    let nd : Node = node.Case x bs in
    let o : Option Kind = (if is_provided j x then Some kind.With else Some kind.Plus) in
    let m : Meets g d p j nd x o = meeting g d p j nd (case_touch x) refl s in
    takes_fine c d p j nd x o m (toward_in j x kind.With kind.Plus m.asks.want s.stands.provided m.asks.want_is refl refl) (λ msg e b.
    let f = label_comes (figure_of (closed (head_at g j x) (whole p.values))) j x m.asks.want msg.body msg.potential m.asks.want_is b.body in
    case_takes c d p j x bs s o m msg f.0 f.1 f.2 b.same (subst (λ y. Goes (defs g) d m.at.seen.due p.moment m.at.link msg.next y) f.1 b.goes))
