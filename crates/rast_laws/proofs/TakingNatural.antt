-- The take of a natural.
use Rattle.std.proofs.Common.{◌≡◌, ℕ, ℤ, zero, suc, pos, ◌+◌, ◌≤◌, max, Bool, true, false, List, [], ◌∷◌, ◌++◌, length, Option, Some, None, refl, sym, ap, ◌∙◌, subst, subst₂, arith, if◌then◌else◌, length-append, lt-ltb}
use Rattle.std.specs.Prelude.{nat_lt}
use Rattle.std.specs.List.{list_all}
use Rattle.rast_index.specs.Keys.{set_key}
use Rattle.rast_index.specs.Linear.{Linear, value, whole}
use Rattle.rast_index.specs.Truth.{truth}
use Rattle.rast_types.specs.declared.ty.Kind.{Kind}
use Rattle.rast_types.specs.declared.ty.Kind.TheVariants as kind
use Rattle.rast_types.specs.declared.ty.Ty.{Ty}
use Rattle.rast_types.specs.Closed.{Closed, closed, At, figure_of, View}
use Rattle.rast_terms.specs.Nodes.{Touch}
use Rattle.rast_terms.specs.declared.node.Node.{Node}
use Rattle.rast_terms.specs.declared.node.Node.TheVariants as node
use Rattle.rast_terms.specs.declared.program.Program.{Program}
use Rattle.rast_rules.specs.declared.judgement.Judgement.{Judgement}
use Rattle.rast_rules.specs.Rules.{defs, is_provided, with_type, with_variable, inner_of, head_at, IsJudgement}
use Rattle.rast_items.specs.Deeds.{Code, takes, at_node, with_message, with_link, took, after_take, inward}
use Rattle.rast_laws.specs.Typed.{FitsKind}
use Rattle.rast_order.proofs.Words.{Link, Proc, Msg, Side, Provider, Body, Nat}
use Rattle.rast_equal.proofs.Substitution.{whole-append, whole-length}
use Rattle.rast_equal.proofs.Within.{Within, value_within}
use Rattle.rast_laws.proofs.Channels.{SeenAt}
use Rattle.rast_laws.proofs.Fine.{Stands, ProcFine, GoesAt, Goes}
use Rattle.rast_laws.proofs.Lawful.{DeedFine}
use Rattle.rast_laws.proofs.Judged.{Limited, uses_shallow, gives_shallow}
use Rattle.rast_laws.proofs.Placed.{one_of}
use Rattle.rast_equal.proofs.Steady.{true_still}
use Rattle.rast_laws.proofs.Bounded.{Bounded}
use Rattle.rast_laws.proofs.Meeting.{Meets, provided_is, provided_suc}
use Rattle.rast_laws.proofs.Sending.{Seen, toward_in}
use Rattle.rast_laws.proofs.Standing.{Standing, meeting, child_of, child_limits, seen_as}
use Rattle.rast_laws.proofs.Taking.{Arrives, arrives, takes_fine, leaves_at, link_values, link_fresh, link_moment, type_ctx, type_potential, type_fresh}
use Rattle.rast_laws.proofs.Heads.{part_at}
use Rattle.rast_laws.proofs.Bodies.{BringsNat, ex_fits, all_fits}
use Rattle.rast_laws.proofs.Widening.{widened_seen, widened_all, widened_but}

abbrev bind_touch : ℕ → Touch
bind_touch x = record { x = x; provided = Some kind.All; used = Some kind.Ex }

nat_comes : (z : ℤ) (j : Judgement) (x : ℕ) (want : Kind) (b : Body) (q : ℕ) → (if is_provided j x then Some kind.All else Some kind.Ex) ≡ Some want → FitsKind (Some want) z b q → BringsNat b q
nat_comes z j x want b q e = one_of (λ k. FitsKind (Some k) z b q → BringsNat b q) (is_provided j x) kind.All kind.Ex want e (all_fits z b q) (ex_fits z b q)

-- ---- the channels

-- a process whose channel is at another link, with one more value
abbrev bound : Proc → ℕ → Link → ℕ → Proc
bound p x l i = record (with_link p x l) { values = p.values ++ i ∷ [] }

moved_moment : (t : Program) (d : Link → Option View) (s : Side) (l k : Link) (m n : ℕ) (c : Closed) → n ≡ m → SeenAt (defs t) d m s l c → SeenAt (defs t) d n s l c
moved_moment t d s l k m n c e h = subst (λ y. SeenAt (defs t) d y s l c) (sym e) h

bound_seen : (g : Program) (d : Link → Option View) (p : Proc) (j : Judgement) (x : ℕ) (l : Link) (i : ℕ) (a : Ty) → Stands g d p j → Limited (with_type (with_variable j) x a) → SeenAt (defs g) d p.moment (inward x) l (closed a (whole (p.values ++ i ∷ []))) → Seen (defs g) d (bound p x l i) (with_type (with_variable j) x a)
bound_seen g d p j zero l i a s lim h =
    let jv : Judgement = with_variable j in
    let z : is_provided jv 0 ≡ true = provided_is jv s.provided in
    let lm : Limited (record jv { gives = (0, a) }) = subst (λ (b : Bool). Limited (if b then record jv { gives = (0, a) } else record jv { uses = set_key 0 a jv.uses })) z lim in
    subst (λ (b : Bool). Seen (defs g) d (bound p 0 l i) (if b then record jv { gives = (0, a) } else record jv { uses = set_key 0 a jv.uses })) (sym z) (record {
      provided = refl;
      gives = h;
      uses = widened_all (defs g) d p.moment j.ctx.vars p.values i p.uses j.uses s.vars (uses_shallow (record jv { gives = (0, a) }) lm) s.uses;
    })
bound_seen g d p j (suc x) l i a s lim h =
    let jv : Judgement = with_variable j in
    let z : is_provided jv (suc x) ≡ false = provided_suc jv x s.provided in
    let js : Judgement = record jv { uses = set_key (suc x) a jv.uses } in
    let lm : Limited js = subst (λ (b : Bool). Limited (if b then record jv { gives = (suc x, a) } else record jv { uses = set_key (suc x) a jv.uses })) z lim in
    subst (λ (b : Bool). Seen (defs g) d (bound p (suc x) l i) (if b then record jv { gives = (suc x, a) } else record jv { uses = set_key (suc x) a jv.uses })) (sym z) (record {
      provided = s.provided;
      gives = widened_seen (defs g) d p.moment Provider p.own j.ctx.vars j.gives.1 p.values i s.vars (gives_shallow js lm) s.gives;
      uses = widened_but (defs g) d p.moment j.ctx.vars p.values i (suc x) l a p.uses j.uses s.vars h (uses_shallow js lm) s.uses;
    })

-- ---- what is known of values

value_still : (l : Linear) (vs : List ℕ) (n i : ℕ) → length vs ≡ n → n + 1 ≤ 16 → Within n l → value l (whole (vs ++ i ∷ [])) ≡ value l (whole vs)
value_still l vs n i e few w =
    ap (value l) (whole-append vs (i ∷ [])) ∙ value_within l (whole vs) (pos i ∷ []) (omega (arith, whole-length vs, e, few)) (subst (λ m. Within m l) (let z : n ≡ length (whole vs) = sym (whole-length vs ∙ e) in z) w)

stands_bound : (g : Program) (d : Link → Option View) (p q : Proc) (j : Judgement) (x : ℕ) (a : Ty) (i : ℕ) → Stands g d p j → Bounded j.ctx.vars j → j.ctx.vars + 1 ≤ 16 → q.values ≡ p.values ++ i ∷ [] → q.potential ≡ p.potential → q.fresh ≡ p.fresh → Seen (defs g) d q (with_type (with_variable j) x a) → Stands g d q (with_type (with_variable j) x a)
stands_bound g d p q j x a i s b few v po f se =
    let jv : Judgement = with_variable j in
    let jc : Judgement = with_type jv x a in
    record {
      vars = ap length v ∙ (length-append p.values (i ∷ []) ∙ (ap (λ (n : ℕ). n + 1) s.vars ∙ sym (ap (λ c. c.vars) (type_ctx jv x a))));
      premises = subst₂ (λ vs c. list_all (λ f. truth f (whole vs)) c.premises ≡ true) (sym v) (sym (type_ctx jv x a)) (true_still j.ctx.vars j.ctx.premises p.values (i ∷ []) b.premises (omega (arith, s.vars)) (omega (arith, s.vars, few)) s.premises);
      potential = ap (λ l. value l (whole q.values)) (type_potential jv x a) ∙ (ap (λ vs. value j.potential (whole vs)) v ∙ (value_still j.potential p.values j.ctx.vars i s.vars few b.potential ∙ (s.potential ∙ ap pos (sym po))));
      fresh = f ∙ (s.fresh ∙ sym (type_fresh jv x a));
      provided = se.provided;
      gives = se.gives;
      uses = se.uses;
    }

-- ---- the node

bind_takes : (c : Code) (d : Link → Option View) (p : Proc) (j : Judgement) (x v n : ℕ) (s : Standing c.program d p j (node.Bind x v n)) (o : Option Kind) (m : Meets c.program d p j (node.Bind x v n) x o) (msg : Msg) (i : ℕ) → msg.body ≡ Nat i → msg.potential ≡ 0 → max p.moment msg.moment ≡ p.moment → GoesAt (defs c.program) d m.at.seen.due p.moment msg.next (At i) → (q : Proc) × (after_take c p msg ≡ Some q) × ProcFine c.program d q
bind_takes c d p j x v n s o m msg i b q e h =
    let g : Program = c.program in
    let nd : Node = node.Bind x v n in
    let a : Ty = inner_of (head_at g j x) in
    let jv : Judgement = with_variable j in
    let jc : Judgement = with_type jv x a in
    let pm : Proc = with_message p x msg in
    let next : Proc = at_node (record pm { values = pm.values ++ i ∷ [] }) n in
    let r : Arrives g d p j x msg.next (At i) = arrives g d p j nd x o m msg.next (At i) h in
    let at : SeenAt (defs g) d p.moment (inward x) msg.next (closed a (whole (p.values ++ i ∷ []))) =
    subst (SeenAt (defs g) d p.moment (inward x) msg.next) (part_at (head_at g j x) (whole p.values) i r.part r.is ∙ ap (closed a) (sym (whole-append p.values (i ∷ [])))) r.seen in
    let k : IsJudgement g n jc = child_of g d p j nd 0 n jc s refl refl in
    let lim : Limited jc = child_limits g n jc k in
    let few : j.ctx.vars + 1 ≤ 16 = subst (λ c. c.vars ≤ 16) (type_ctx jv x a) lim.vars in
    let room : nat_lt (length pm.values) 16 ≡ true = lt-ltb (length pm.values) 16 (let z : length pm.values ≡ j.ctx.vars = ap length (link_values p x msg.next) ∙ s.stands.vars in omega (arith, z, few)) in
    let values : next.values ≡ p.values ++ i ∷ [] = ap (λ vs. vs ++ i ∷ []) (link_values p x msg.next) in
    let se : Seen (defs g) d next jc = seen_as g d (bound p x msg.next i) next jc (e ∙ sym (link_moment p x msg.next)) values refl refl (bound_seen g d p j x msg.next i a s.stands lim at) in (
      next,
      leaves_at c p next msg nd (bind_touch x) s.is refl (ap (took nd pm) b ∙ ap (λ (z : Bool). if z then Some next else None) room),
      (jc, k, stands_bound g d p next j x a i s.stands s.bounded few values (omega (arith, q)) (link_fresh p x msg.next) se),
    )

pub bind_fine : (c : Code) (d : Link → Option View) (p : Proc) (j : Judgement) (x v n : ℕ) → Standing c.program d p j (node.Bind x v n) → DeedFine c d p (takes p x)
bind_fine c d p j x v n s =
    let g : Program = c.program in
    let nd : Node = node.Bind x v n in
    let o : Option Kind = (if is_provided j x then Some kind.All else Some kind.Ex) in
    let m : Meets g d p j nd x o = meeting g d p j nd (bind_touch x) refl s in
    takes_fine c d p j nd x o m (toward_in j x kind.All kind.Ex m.asks.want s.stands.provided m.asks.want_is refl refl) (λ msg e b.
    let f = nat_comes (figure_of (closed (head_at g j x) (whole p.values))) j x m.asks.want msg.body msg.potential m.asks.want_is b.body in
    bind_takes c d p j x v n s o m msg f.0 f.1 f.2 b.same (subst (λ y. Goes (defs g) d m.at.seen.due p.moment m.at.link msg.next y) f.1 b.goes))
