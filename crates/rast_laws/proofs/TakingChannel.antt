-- The take of a channel, and of the end.
use Rattle.std.proofs.Common.{◌≡◌, ℕ, ℤ, zero, suc, pos, ◌+◌, max, Bool, true, false, [], ◌∷◌, ◌++◌, length, Option, Some, None, refl, sym, ap, ◌∙◌, subst, subst₂, arith, if◌then◌else◌, length-append, lt-ltb}
use Rattle.std.specs.List.{list_all}
use Rattle.rast_index.specs.Linear.{value, whole}
use Rattle.rast_index.specs.Truth.{truth}
use Rattle.rast_types.specs.declared.ty.Kind.{Kind}
use Rattle.rast_types.specs.declared.ty.Kind.TheVariants as kind
use Rattle.rast_types.specs.declared.ty.Ty.{Ty}
use Rattle.rast_types.specs.Closed.{Closed, closed, Table, First, Second, figure_of, View, head}
use Rattle.rast_terms.specs.Nodes.{Touch}
use Rattle.rast_terms.specs.declared.node.Node.{Node}
use Rattle.rast_terms.specs.declared.node.Node.TheVariants as node
use Rattle.rast_terms.specs.declared.program.Program.{Program}
use Rattle.rast_rules.specs.declared.judgement.Judgement.{Judgement}
use Rattle.rast_rules.specs.Rules.{defs, is_provided, with_type, with_channel, without, first_of_pair, second_of_pair, head_at, IsJudgement}
use Rattle.rast_items.specs.Deeds.{Code, takes, at_node, with_message, with_channel as more_channel, less_channel, has_room, took, after_take}
use Rattle.rast_laws.specs.Typed.{FitsKind, side_of}
use Rattle.rast_order.proofs.Words.{Link, Proc, Msg, Client, Body, Chan, End}
use Rattle.rast_equal.proofs.Equals.{part_across, heads_sym}
use Rattle.rast_laws.proofs.Channels.{SeenAt, AreSeen, seen_equal, seen_more}
use Rattle.rast_laws.proofs.Fine.{ProcFine, GoesAt, CarriesAt, Goes}
use Rattle.rast_laws.proofs.Lawful.{DeedFine}
use Rattle.rast_laws.proofs.Judged.{Limited}
use Rattle.rast_laws.proofs.Placed.{one_of}
use Rattle.rast_laws.proofs.Meeting.{Meets, provided_is}
use Rattle.rast_laws.proofs.Sending.{Seen, toward_in}
use Rattle.rast_laws.proofs.Standing.{Standing, meeting, child_of, child_limits, stands_on, seen_as}
use Rattle.rast_laws.proofs.Taking.{Arrives, arrives, taken_seen, takes_fine, leaves_at, link_values, link_fresh, type_ctx, type_potential, type_fresh}
use Rattle.rast_laws.proofs.Heads.{part_first, part_second}
use Rattle.rast_laws.proofs.Bodies.{BringsChan, tensor_fits, lolli_fits, one_fits}
use Rattle.rast_laws.proofs.Without.{seen_without, drop_set, seen_length}

-- ---- a channel that comes

abbrev recv_touch : ℕ → Touch
recv_touch x = record { x = x; provided = Some kind.Lolli; used = Some kind.Tensor }

chan_comes : (z : ℤ) (j : Judgement) (x : ℕ) (want : Kind) (b : Body) (q : ℕ) → (if is_provided j x then Some kind.Lolli else Some kind.Tensor) ≡ Some want → FitsKind (Some want) z b q → BringsChan b q
chan_comes z j x want b q e = one_of (λ k. FitsKind (Some k) z b q → BringsChan b q) (is_provided j x) kind.Lolli kind.Tensor want e (lolli_fits z b q) (tensor_fits z b q)

-- the channel that comes is at the first part of the head that the node sees
carried_in : (g : Program) (d : Link → Option View) (p : Proc) (j : Judgement) (nd : Node) (x : ℕ) (o : Option Kind) (m : Meets g d p j nd x o) (l : Link) → CarriesAt (defs g) d m.at.seen.due p.moment l → SeenAt (defs g) d p.moment Client l (closed (first_of_pair (head_at g j x)) (whole p.values))
carried_in g d p j nd x o m l h =
    let t : Table = defs g in
    let own : Closed = closed (head_at g j x) (whole p.values) in
    let a = part_across t (head t m.at.seen.due) own First h.part (heads_sym t own (head t m.at.seen.due) m.heads) h.is in
    subst (SeenAt t d p.moment Client l) (part_first (head_at g j x) (whole p.values) a.0 a.1) (seen_equal t d p.moment Client l h.part a.0 a.2 h.seen)

-- one more channel, for a process and a judgement
seen_channel : (g : Program) (d : Link → Option View) (p : Proc) (j : Judgement) (l : Link) (a : Ty) → p.fresh ≡ j.fresh → Seen (defs g) d p j → SeenAt (defs g) d p.moment Client l (closed a (whole p.values)) → Seen (defs g) d (more_channel p l) (with_channel j a)
seen_channel g d p j l a f s h = record {
  provided = s.provided;
  gives = s.gives;
  uses = subst (λ y. AreSeen (defs g) d p.moment (whole p.values) (p.uses ++ (y, l) ∷ []) (j.uses ++ (j.fresh, a) ∷ [])) (sym f) (seen_more (defs g) d p.moment (whole p.values) j.fresh l a p.uses j.uses s.uses h);
}

-- there is room for it, since there is in the child's judgement
room_for : (g : Program) (d : Link → Option View) (p : Proc) (j : Judgement) (a : Ty) → Seen (defs g) d p j → Limited (with_channel j a) → has_room p.uses ≡ true
room_for g d p j a s l =
    let n : length p.uses ≡ length j.uses = seen_length (defs g) d p.moment (whole p.values) p.uses j.uses s.uses in
    lt-ltb (length p.uses) 15 (omega (arith, n, l.few, length-append j.uses ((j.fresh, a) ∷ [])))

recv_takes : (c : Code) (d : Link → Option View) (p : Proc) (j : Judgement) (x y n : ℕ) (s : Standing c.program d p j (node.Recv x y n)) (o : Option Kind) (m : Meets c.program d p j (node.Recv x y n) x o) (msg : Msg) (l : Link) → msg.body ≡ Chan l → msg.potential ≡ 0 → max p.moment msg.moment ≡ p.moment → GoesAt (defs c.program) d m.at.seen.due p.moment msg.next Second → CarriesAt (defs c.program) d m.at.seen.due p.moment l → (q : Proc) × (after_take c p msg ≡ Some q) × ProcFine c.program d q
recv_takes c d p j x y n s o m msg l b q e h k =
    let g : Program = c.program in
    let nd : Node = node.Recv x y n in
    let a : Ty = second_of_pair (head_at g j x) in
    let f : Ty = first_of_pair (head_at g j x) in
    let r : Arrives g d p j x msg.next Second = arrives g d p j nd x o m msg.next Second h in
    let pm : Proc = with_message p x msg in
    let jm : Judgement = with_type j x a in
    let jc : Judgement = with_channel jm f in
    let next : Proc = at_node (more_channel pm l) n in
    let i : IsJudgement g n jc = child_of g d p j nd 0 n jc s refl refl in
    let se : Seen (defs g) d pm jm = taken_seen g d p j x msg Second a s.stands e r (part_second (head_at g j x) (whole p.values) r.part r.is) in
    let fresh : pm.fresh ≡ jm.fresh = link_fresh p x msg.next ∙ (s.stands.fresh ∙ sym (type_fresh j x a)) in
    let comes : SeenAt (defs g) d pm.moment Client l (closed f (whole pm.values)) = subst₂ (λ mo vs. SeenAt (defs g) d mo Client l (closed f (whole vs))) (sym e) (sym (link_values p x msg.next)) (carried_in g d p j nd x o m l k) in
    let room : has_room pm.uses ≡ true = room_for g d pm jm f se (child_limits g n jc i) in (
      next,
      leaves_at c p next msg nd (recv_touch x) s.is refl (ap (took nd pm) b ∙ ap (λ (z : Bool). if z then Some next else None) room),
      (
        jc,
        i,
        stands_on g d p next j jc s.stands (link_values p x msg.next) (ap (λ c. c.vars) (type_ctx j x a))
            (subst (λ c. list_all (λ f. truth f (whole p.values)) c.premises ≡ true) (sym (type_ctx j x a)) s.stands.premises)
            (ap (λ l. value l (whole p.values)) (type_potential j x a) ∙ (s.stands.potential ∙ ap pos (let z : p.potential ≡ p.potential + msg.potential = omega (arith, q) in z)))
            (ap (λ (k : ℕ). k + 1) fresh)
            (seen_as g d (more_channel pm l) next jc refl refl refl refl (seen_channel g d pm jm l f fresh se comes)),
      ),
    )

pub recv_fine : (c : Code) (d : Link → Option View) (p : Proc) (j : Judgement) (x y n : ℕ) → Standing c.program d p j (node.Recv x y n) → DeedFine c d p (takes p x)
recv_fine c d p j x y n s =
    let g : Program = c.program in
    let nd : Node = node.Recv x y n in
    let o : Option Kind = (if is_provided j x then Some kind.Lolli else Some kind.Tensor) in
    let m : Meets g d p j nd x o = meeting g d p j nd (recv_touch x) refl s in
    takes_fine c d p j nd x o m (toward_in j x kind.Lolli kind.Tensor m.asks.want s.stands.provided m.asks.want_is refl refl) (λ msg e b.
    let f = chan_comes (figure_of (closed (head_at g j x) (whole p.values))) j x m.asks.want msg.body msg.potential m.asks.want_is b.body in
    let h = subst (λ y. Goes (defs g) d m.at.seen.due p.moment m.at.link msg.next y) f.1 b.goes in
    recv_takes c d p j x y n s o m msg f.0 f.1 f.2 b.same h.0 h.1)

-- ---- the end

abbrev wait_touch : ℕ → Touch
wait_touch x = record { x = x; provided = None; used = Some kind.One }

-- only a used channel is waited for
wanted_one : (b : Bool) (want : Kind) → (if b then None else Some kind.One) ≡ Some want → (b ≡ false) × (want ≡ kind.One)
wanted_one true want e = cc
wanted_one false want e = (refl, (cc))

wait_takes : (c : Code) (d : Link → Option View) (p : Proc) (j : Judgement) (x n : ℕ) (s : Standing c.program d p j (node.Wait (suc x) n)) (msg : Msg) → msg.body ≡ End → msg.potential ≡ 0 → max p.moment msg.moment ≡ p.moment → (q : Proc) × (after_take c p msg ≡ Some q) × ProcFine c.program d q
wait_takes c d p j x n s msg b q e =
    let g : Program = c.program in
    let nd : Node = node.Wait (suc x) n in
    let pm : Proc = with_message p (suc x) msg in
    let jc : Judgement = without j (suc x ∷ []) in
    let next : Proc = at_node (less_channel pm (suc x)) n in
    let i : IsJudgement g n jc = child_of g d p j nd 0 n jc s refl refl in
    let se : Seen (defs g) d (less_channel p (suc x)) jc = record { provided = s.stands.provided; gives = s.stands.gives; uses = seen_without (defs g) d p.moment (whole p.values) 1 j.fresh (suc x) p.uses j.uses s.shape.keys s.stands.uses } in (
      next,
      leaves_at c p next msg nd (wait_touch (suc x)) s.is refl (ap (took nd pm) b),
      (
        jc,
        i,
        stands_on g d p next j jc s.stands refl refl s.stands.premises
            (s.stands.potential ∙ ap pos (let z : p.potential ≡ p.potential + msg.potential = omega (arith, q) in z))
            s.stands.fresh
            (seen_as g d (less_channel p (suc x)) next jc e refl refl (drop_set (suc x) msg.next p.uses) se),
      ),
    )

wait_at : (c : Code) (d : Link → Option View) (p : Proc) (j : Judgement) (x n : ℕ) (m : Meets c.program d p j (node.Wait x n) x (if is_provided j x then None else Some kind.One)) → Standing c.program d p j (node.Wait x n) → DeedFine c d p (takes p x)
wait_at c d p j zero n m s = absurd (let w = wanted_one (is_provided j 0) m.asks.want m.asks.want_is in let z : true ≡ false = sym (provided_is j s.stands.provided) ∙ w.0 in cc)
wait_at c d p j (suc x) n m s =
    let g : Program = c.program in
    let w = wanted_one (is_provided j (suc x)) m.asks.want m.asks.want_is in
    takes_fine c d p j (node.Wait (suc x) n) (suc x) (if is_provided j (suc x) then None else Some kind.One) m (ap side_of w.1) (λ msg e b.
    let f = one_fits (figure_of (closed (head_at g j (suc x)) (whole p.values))) msg.body msg.potential (subst (λ k. FitsKind (Some k) (figure_of (closed (head_at g j (suc x)) (whole p.values))) msg.body msg.potential) w.1 b.body) in
    wait_takes c d p j x n s msg f.0 f.1 b.same)

pub wait_fine : (c : Code) (d : Link → Option View) (p : Proc) (j : Judgement) (x n : ℕ) → Standing c.program d p j (node.Wait x n) → DeedFine c d p (takes p x)
wait_fine c d p j x n s = wait_at c d p j x n (meeting c.program d p j (node.Wait x n) (wait_touch x) refl s) s
