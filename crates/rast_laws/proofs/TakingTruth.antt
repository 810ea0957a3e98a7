-- The take of the truth of a formula, and of potential.
use Rattle.std.proofs.Common.{◌≡◌, ℕ, ℤ, pos, ◌+◌, ◌+ℤ◌, ◌≤◌, max, Bool, true, ◌&&◌, List, [], ◌∷◌, ◌++◌, length, Option, Some, refl, sym, ap, ap₂, ◌∙◌, subst, arith, if◌then◌else◌}
use Rattle.std.specs.List.{list_all}
use Rattle.std.proofs.lemmas.Int.{ints}
use Rattle.std.proofs.lemmas.List.Folds.{list_all-append}
use Rattle.rast_index.specs.Linear.{Linear, value, whole, plus}
use Rattle.rast_index.specs.Truth.{truth}
use Rattle.rast_index.proofs.Values.{value_plus}
use Rattle.rast_index.specs.declared.formula.Formula.{Formula}
use Rattle.rast_types.specs.declared.ty.Kind.{Kind}
use Rattle.rast_types.specs.declared.ty.Kind.TheVariants as kind
use Rattle.rast_types.specs.declared.ty.Ty.{Ty}
use Rattle.rast_types.specs.Closed.{closed, Inner, kind_of, figure_of, View}
use Rattle.rast_terms.specs.Nodes.{Touch}
use Rattle.rast_terms.specs.declared.node.Node.{Node}
use Rattle.rast_terms.specs.declared.node.Node.TheVariants as node
use Rattle.rast_terms.specs.declared.program.Program.{Program}
use Rattle.rast_rules.specs.declared.judgement.Judgement.{Judgement}
use Rattle.rast_rules.specs.Rules.{defs, is_provided, with_type, with_premise, with_potential, inner_of, formula_of, amount_of, head_at, IsJudgement}
use Rattle.rast_items.specs.Deeds.{Code, takes, at_node, with_message, took, after_take}
use Rattle.rast_laws.specs.Typed.{FitsKind}
use Rattle.rast_order.proofs.Words.{Link, Proc, Msg, Body, Assert, Pay}
use Rattle.rast_equal.proofs.Substitution.{whole-length}
use Rattle.rast_laws.proofs.Fine.{ProcFine, GoesAt, Goes}
use Rattle.rast_laws.proofs.Lawful.{DeedFine}
use Rattle.rast_laws.proofs.Placed.{one_of}
use Rattle.rast_laws.proofs.Meeting.{Meets}
use Rattle.rast_laws.proofs.Sending.{Seen, toward_in}
use Rattle.rast_laws.proofs.Standing.{Standing, meeting, child_of, stands_on, seen_as}
use Rattle.rast_laws.proofs.Taking.{Arrives, arrives, taken_seen, takes_fine, leaves_at, link_values, link_fresh, type_ctx, type_potential, type_fresh}
use Rattle.rast_laws.proofs.Heads.{part_inner, assert_true, assume_true, pays_value, gets_value}
use Rattle.rast_laws.proofs.Bodies.{assert_fits, assume_fits, pays_fits, gets_fits}

-- ---- the truth of a formula

abbrev assume_touch : ℕ → Touch
assume_touch x = record { x = x; provided = Some kind.Assume; used = Some kind.Assert }

-- what a message at such a head says
abbrev BringsTruth : Ty → List ℤ → Body → ℕ → Type 0
BringsTruth h vs b q = (b ≡ Assert) × (q ≡ 0) × (truth (formula_of h) vs ≡ true)

truth_comes : (h : Ty) (vs : List ℤ) (j : Judgement) (x : ℕ) (want : Kind) (b : Body) (q : ℕ) → (if is_provided j x then Some kind.Assume else Some kind.Assert) ≡ Some want → kind_of h ≡ Some want → FitsKind (Some want) (figure_of (closed h vs)) b q → BringsTruth h vs b q
truth_comes h vs j x want b q e = one_of (λ k. kind_of h ≡ Some k → FitsKind (Some k) (figure_of (closed h vs)) b q → BringsTruth h vs b q) (is_provided j x) kind.Assume kind.Assert want e
    (λ k f. let r = assume_fits (figure_of (closed h vs)) b q f in (r.0, r.1, assume_true h vs k r.2))
    (λ k f. let r = assert_fits (figure_of (closed h vs)) b q f in (r.0, r.1, assert_true h vs k r.2))

true_more : (vs : List ℤ) (fs : List Formula) (f : Formula) → list_all (λ g. truth g vs) fs ≡ true → truth f vs ≡ true → list_all (λ g. truth g vs) (fs ++ f ∷ []) ≡ true
true_more vs fs f h k = list_all-append (λ g. truth g vs) fs (f ∷ []) ∙ ap₂ (λ (a b : Bool). a && (b && true)) h k

pub seen_premise : (g : Program) (d : Link → Option View) (p : Proc) (j : Judgement) (f : Formula) → Seen (defs g) d p j → Seen (defs g) d p (with_premise j f)
seen_premise g d p j f s = record { provided = s.provided; gives = s.gives; uses = s.uses }

assume_takes : (c : Code) (d : Link → Option View) (p : Proc) (j : Judgement) (x n : ℕ) (s : Standing c.program d p j (node.Assume x n)) (o : Option Kind) (m : Meets c.program d p j (node.Assume x n) x o) (msg : Msg) → BringsTruth (head_at c.program j x) (whole p.values) msg.body msg.potential → max p.moment msg.moment ≡ p.moment → GoesAt (defs c.program) d m.at.seen.due p.moment msg.next Inner → (q : Proc) × (after_take c p msg ≡ Some q) × ProcFine c.program d q
assume_takes c d p j x n s o m msg b e h =
    let g : Program = c.program in
    let nd : Node = node.Assume x n in
    let a : Ty = inner_of (head_at g j x) in
    let f : Formula = formula_of (head_at g j x) in
    let r : Arrives g d p j x msg.next Inner = arrives g d p j nd x o m msg.next Inner h in
    let pm : Proc = with_message p x msg in
    let jc : Judgement = with_premise (with_type j x a) f in
    let next : Proc = at_node pm n in
    let i : IsJudgement g n jc = child_of g d p j nd 0 n jc s refl refl in
    let se : Seen (defs g) d pm (with_type j x a) = taken_seen g d p j x msg Inner a s.stands e r (part_inner (head_at g j x) (whole p.values) r.part r.is) in (
      next,
      leaves_at c p next msg nd (assume_touch x) s.is refl (ap (took nd pm) b.0),
      (
        jc,
        i,
        stands_on g d p next j jc s.stands (link_values p x msg.next) (ap (λ c. c.vars) (type_ctx j x a))
            (true_more (whole p.values) (with_type j x a).ctx.premises f (subst (λ c. list_all (λ f. truth f (whole p.values)) c.premises ≡ true) (sym (type_ctx j x a)) s.stands.premises) b.2)
            (ap (λ l. value l (whole p.values)) (type_potential j x a) ∙ (s.stands.potential ∙ ap pos (let q = b.1 in let z : p.potential ≡ p.potential + msg.potential = omega (arith, q) in z)))
            (link_fresh p x msg.next ∙ (s.stands.fresh ∙ sym (type_fresh j x a)))
            (seen_as g d pm next jc refl refl refl refl (seen_premise g d pm (with_type j x a) f se)),
      ),
    )

pub assume_fine : (c : Code) (d : Link → Option View) (p : Proc) (j : Judgement) (x n : ℕ) → Standing c.program d p j (node.Assume x n) → DeedFine c d p (takes p x)
assume_fine c d p j x n s =
    let g : Program = c.program in
    let nd : Node = node.Assume x n in
    let o : Option Kind = (if is_provided j x then Some kind.Assume else Some kind.Assert) in
    let m : Meets g d p j nd x o = meeting g d p j nd (assume_touch x) refl s in
    takes_fine c d p j nd x o m (toward_in j x kind.Assume kind.Assert m.asks.want s.stands.provided m.asks.want_is refl refl) (λ msg e b.
    let f = truth_comes (head_at g j x) (whole p.values) j x m.asks.want msg.body msg.potential m.asks.want_is m.kind b.body in
    assume_takes c d p j x n s o m msg f b.same (subst (λ y. Goes (defs g) d m.at.seen.due p.moment m.at.link msg.next y) f.0 b.goes))

-- ---- potential

abbrev get_touch : ℕ → Touch
get_touch x = record { x = x; provided = Some kind.Gets; used = Some kind.Pays }

abbrev BringsPotential : Ty → List ℤ → Body → ℕ → Type 0
BringsPotential h vs b q = (b ≡ Pay) × (value (amount_of h) vs ≡ pos q)

potential_comes : (h : Ty) (vs : List ℤ) (j : Judgement) (x : ℕ) (want : Kind) (b : Body) (q : ℕ) → (if is_provided j x then Some kind.Gets else Some kind.Pays) ≡ Some want → kind_of h ≡ Some want → FitsKind (Some want) (figure_of (closed h vs)) b q → BringsPotential h vs b q
potential_comes h vs j x want b q e = one_of (λ k. kind_of h ≡ Some k → FitsKind (Some k) (figure_of (closed h vs)) b q → BringsPotential h vs b q) (is_provided j x) kind.Gets kind.Pays want e
    (λ k f. let r = gets_fits (figure_of (closed h vs)) b q f in (r.0, sym (gets_value h vs k) ∙ r.1))
    (λ k f. let r = pays_fits (figure_of (closed h vs)) b q f in (r.0, sym (pays_value h vs k) ∙ r.1))

-- the sum of two naturals' values
value_sum : (a b : Linear) (vs : List ℤ) (m n : ℕ) → length vs ≤ 16 → value a vs ≡ pos m → value b vs ≡ pos n → value (plus a b) vs ≡ pos (m + n)
value_sum a b vs m n few h k = value_plus a b vs few ∙ (ap₂ (λ (x y : ℤ). x +ℤ y) h k ∙ omega (arith, ints))

pub seen_potential : (g : Program) (d : Link → Option View) (p : Proc) (j : Judgement) (q : Linear) → Seen (defs g) d p j → Seen (defs g) d p (with_potential j q)
seen_potential g d p j q s = record { provided = s.provided; gives = s.gives; uses = s.uses }

get_takes : (c : Code) (d : Link → Option View) (p : Proc) (j : Judgement) (x n : ℕ) (s : Standing c.program d p j (node.Get x n)) (o : Option Kind) (m : Meets c.program d p j (node.Get x n) x o) (msg : Msg) → BringsPotential (head_at c.program j x) (whole p.values) msg.body msg.potential → max p.moment msg.moment ≡ p.moment → GoesAt (defs c.program) d m.at.seen.due p.moment msg.next Inner → (q : Proc) × (after_take c p msg ≡ Some q) × ProcFine c.program d q
get_takes c d p j x n s o m msg b e h =
    let g : Program = c.program in
    let nd : Node = node.Get x n in
    let a : Ty = inner_of (head_at g j x) in
    let amount : Linear = amount_of (head_at g j x) in
    let r : Arrives g d p j x msg.next Inner = arrives g d p j nd x o m msg.next Inner h in
    let pm : Proc = with_message p x msg in
    let jc : Judgement = with_potential (with_type j x a) (plus j.potential amount) in
    let next : Proc = at_node pm n in
    let i : IsJudgement g n jc = child_of g d p j nd 0 n jc s refl refl in
    let se : Seen (defs g) d pm (with_type j x a) = taken_seen g d p j x msg Inner a s.stands e r (part_inner (head_at g j x) (whole p.values) r.part r.is) in
    let few : length (whole p.values) ≤ 16 = omega (arith, whole-length p.values, s.stands.vars, s.limits.vars) in (
      next,
      leaves_at c p next msg nd (get_touch x) s.is refl (ap (took nd pm) b.0),
      (
        jc,
        i,
        stands_on g d p next j jc s.stands (link_values p x msg.next) (ap (λ c. c.vars) (type_ctx j x a))
            (subst (λ c. list_all (λ f. truth f (whole p.values)) c.premises ≡ true) (sym (type_ctx j x a)) s.stands.premises)
            (value_sum j.potential amount (whole p.values) p.potential msg.potential few s.stands.potential b.1)
            (link_fresh p x msg.next ∙ (s.stands.fresh ∙ sym (type_fresh j x a)))
            (seen_as g d pm next jc refl refl refl refl (seen_potential g d pm (with_type j x a) (plus j.potential amount) se)),
      ),
    )

pub get_fine : (c : Code) (d : Link → Option View) (p : Proc) (j : Judgement) (x n : ℕ) → Standing c.program d p j (node.Get x n) → DeedFine c d p (takes p x)
get_fine c d p j x n s =
    let g : Program = c.program in
    let nd : Node = node.Get x n in
    let o : Option Kind = (if is_provided j x then Some kind.Gets else Some kind.Pays) in
    let m : Meets g d p j nd x o = meeting g d p j nd (get_touch x) refl s in
    takes_fine c d p j nd x o m (toward_in j x kind.Gets kind.Pays m.asks.want s.stands.provided m.asks.want_is refl refl) (λ msg e b.
    let f = potential_comes (head_at g j x) (whole p.values) j x m.asks.want msg.body msg.potential m.asks.want_is m.kind b.body in
    get_takes c d p j x n s o m msg f b.same (subst (λ y. Goes (defs g) d m.at.seen.due p.moment m.at.link msg.next y) f.0 b.goes))
