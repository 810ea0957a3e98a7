-- The send of the truth of a formula, and of potential.
use Rattle.std.proofs.Common.{◌≡◌, ℕ, ℤ, pos, ◌-◌, ◌-ℤ◌, ◌≤◌, true, List, [], ◌∷◌, length, Option, Some, refl, sym, ap, ap₂, ◌∙◌, subst, arith, if◌then◌else◌}
use Rattle.std.specs.Prelude.{slice_index_or as get_or}
use Rattle.std.specs.List.{list_all}
use Rattle.std.proofs.lemmas.Int.{ints}
use Rattle.std.proofs.lemmas.Bool.{le-leb}
use Rattle.std.proofs.lemmas.Option.{get_or_from_slice_get}
use Rattle.rast_index.specs.Linear.{Linear, value, whole, less, nought}
use Rattle.rast_index.specs.Truth.{truth, is_at_least}
use Rattle.rast_index.proofs.Values.{value_less}
use Rattle.rast_types.specs.declared.ty.Kind.{Kind}
use Rattle.rast_types.specs.declared.ty.Kind.TheVariants as kind
use Rattle.rast_types.specs.declared.ty.Ty.{Ty}
use Rattle.rast_types.specs.Closed.{closed, Inner, part_of, kind_of, figure_of, View}
use Rattle.rast_terms.specs.Nodes.{Touch}
use Rattle.rast_terms.specs.declared.node.Node.{Node}
use Rattle.rast_terms.specs.declared.node.Node.TheVariants as node
use Rattle.rast_terms.specs.declared.program.Program.{Program}
use Rattle.rast_rules.specs.declared.judgement.Judgement.{Judgement}
use Rattle.rast_rules.specs.Rules.{defs, is_provided, with_type, with_potential, inner_of, formula_of, amount_of, head_at, IsJudgement}
use Rattle.rast_items.specs.Items.{after_link}
use Rattle.rast_items.specs.Deeds.{Code, at_values, first, with_values, puts, at_node, with_link, out}
use Rattle.rast_laws.specs.Sound.{IsReady}
use Rattle.rast_laws.specs.Typed.{FitsKind, side_of}
use Rattle.rast_order.proofs.Words.{Link, Proc, Assert, Pay}
use Rattle.rast_equal.proofs.Equals.{equal_refl}
use Rattle.rast_equal.proofs.Proper.{proper_figure}
use Rattle.rast_equal.proofs.Substitution.{whole-length}
use Rattle.rast_laws.proofs.Fine.{Stands}
use Rattle.rast_laws.proofs.Lawful.{DeedFine}
use Rattle.rast_laws.proofs.Placed.{one_of}
use Rattle.rast_equal.proofs.Truths.{at_least_true}
use Rattle.rast_laws.proofs.Meeting.{Meets, followed}
use Rattle.rast_laws.proofs.Sending.{Seen, Sends, stands_seen, sends_fine, toward_out}
use Rattle.rast_laws.proofs.Standing.{Standing, meeting, child_of, stands_on, seen_as}
use Rattle.rast_laws.proofs.Taking.{link_values, link_fresh, type_ctx, type_fresh}
use Rattle.rast_laws.proofs.TakingTruth.{seen_potential}
use Rattle.rast_laws.proofs.Naturals.{natural_fine}
use Rattle.rast_laws.proofs.PuttingLabel.{stands_sent}
use Rattle.rast_laws.proofs.Heads.{assert_part, assume_part, pays_part, gets_part, pays_value, gets_value}

-- ---- the truth of a formula

abbrev assert_touch : ℕ → Touch
assert_touch x = record { x = x; provided = Some kind.Assert; used = Some kind.Assume }

-- the message fits, and the part below the constraint is there
abbrev Asserts : Ty → List ℤ → Kind → Type 0
Asserts h vs k = FitsKind (Some k) (figure_of (closed h vs)) Assert 0 × (part_of (closed h vs) Inner ≡ Some (closed (inner_of h) vs))

asserts : (h : Ty) (vs : List ℤ) (j : Judgement) (x : ℕ) (want : Kind) → (if is_provided j x then Some kind.Assert else Some kind.Assume) ≡ Some want → kind_of h ≡ Some want → truth (formula_of h) vs ≡ true → Asserts h vs want
asserts h vs j x want e = one_of (λ k. kind_of h ≡ Some k → truth (formula_of h) vs ≡ true → Asserts h vs k) (is_provided j x) kind.Assert kind.Assume want e
    (λ k t. let r = assert_part h vs k t in ((refl, r.1), r.0))
    (λ k t. let r = assume_part h vs k t in ((refl, r.1), r.0))

pub assert_fine : (c : Code) (d : Link → Option View) (p : Proc) (j : Judgement) (x n : ℕ) → Standing c.program d p j (node.Assert x n) → DeedFine c d p (puts p x Assert 0 n)
assert_fine c d p j x n s =
    let g : Program = c.program in
    let nd : Node = node.Assert x n in
    let o : Option Kind = (if is_provided j x then Some kind.Assert else Some kind.Assume) in
    let m : Meets g d p j nd x o = meeting g d p j nd (assert_touch x) refl s in
    let h : Ty = head_at g j x in
    let a : Ty = inner_of h in
    let f = asserts h (whole p.values) j x m.asks.want m.asks.want_is m.kind (followed g d p j (formula_of h) s.stands m.asks.rest.0) in
    let sends : Sends g d p j nd x o m Assert 0 a = record {
      toward = toward_out j x kind.Assert kind.Assume m.asks.want s.stands.provided m.asks.want_is refl refl;
      fits = f.0;
      way = Inner;
      selects = refl;
      part = closed a (whole p.values);
      part_is = f.1;
      equal = equal_refl (defs g) (closed a (whole p.values));
      goes = λ next r. r;
    } in
    let i : IsJudgement g n (with_type j x a) = child_of g d p j nd 0 n (with_type j x a) s refl refl in
    sends_fine c d p p j j (with_type j x a) nd x o m Assert 0 n a sends refl refl m.at.link_is (le-leb 0 p.potential (omega arith)) (stands_seen g d p j s.stands) i (stands_sent g d p j x n (after_link m.at.link) a s.stands)

-- ---- potential

abbrev pay_touch : ℕ → Touch
pay_touch x = record { x = x; provided = Some kind.Pays; used = Some kind.Gets }

abbrev Pays : Ty → List ℤ → ℕ → Kind → Type 0
Pays h vs q k = FitsKind (Some k) (figure_of (closed h vs)) Pay q × (part_of (closed h vs) Inner ≡ Some (closed (inner_of h) vs)) × (value (amount_of h) vs ≡ pos q)

pays : (h : Ty) (vs : List ℤ) (q : ℕ) (j : Judgement) (x : ℕ) (want : Kind) → (if is_provided j x then Some kind.Pays else Some kind.Gets) ≡ Some want → kind_of h ≡ Some want → figure_of (closed h vs) ≡ pos q → Pays h vs q want
pays h vs q j x want e = one_of (λ k. kind_of h ≡ Some k → figure_of (closed h vs) ≡ pos q → Pays h vs q k) (is_provided j x) kind.Pays kind.Gets want e
    (λ k f. (f, pays_part h vs k, sym (pays_value h vs k) ∙ f))
    (λ k f. (f, gets_part h vs k, sym (gets_value h vs k) ∙ f))

-- the difference of two naturals' values
pub value_difference : (a b : Linear) (vs : List ℤ) (m n : ℕ) → length vs ≤ 16 → n ≤ m → value a vs ≡ pos m → value b vs ≡ pos n → value (less a b) vs ≡ pos (m - n)
value_difference a b vs m n few le h k = value_less a b vs few ∙ (ap₂ (λ (x y : ℤ). x -ℤ y) h k ∙ omega (arith, ints, le))

-- the potential is at least what is paid
pub enough_potential : (g : Program) (d : Link → Option View) (p : Proc) (j : Judgement) (b : Linear) (q : ℕ) → Stands g d p j → value b (whole p.values) ≡ pos q → truth (is_at_least j.potential b) (whole p.values) ≡ true → q ≤ p.potential
enough_potential g d p j b q s e t =
    let r = at_least_true j.potential b (whole p.values) q e t in
    let z : pos r.0 ≡ pos p.potential = sym r.1 ∙ s.potential in
    let y : r.0 ≡ p.potential = cc in
    omega (arith, r.2, y)

stands_paid : (g : Program) (d : Link → Option View) (p : Proc) (j : Judgement) (x n q : ℕ) (l : Link) (a : Ty) (b : Linear) → Stands g d p j → length (whole p.values) ≤ 16 → q ≤ p.potential → value b (whole p.values) ≡ pos q → Seen (defs g) d (with_link p x l) (with_type j x a) → Stands g d (at_node (record (with_link p x l) { potential = p.potential - q }) n) (with_potential (with_type j x a) (less j.potential b))
stands_paid g d p j x n q l a b s few le e se =
    let next : Proc = at_node (record (with_link p x l) { potential = p.potential - q }) n in
    let jc : Judgement = with_potential (with_type j x a) (less j.potential b) in
    stands_on g d p next j jc s (link_values p x l) (ap (λ c. c.vars) (type_ctx j x a))
    (subst (λ c. list_all (λ f. truth f (whole p.values)) c.premises ≡ true) (sym (type_ctx j x a)) s.premises)
    (value_difference j.potential b (whole p.values) p.potential q few le s.potential e)
    (link_fresh p x l ∙ (s.fresh ∙ sym (type_fresh j x a)))
    (seen_as g d (with_link p x l) next jc refl refl refl refl (seen_potential g d (with_link p x l) (with_type j x a) (less j.potential b) se))

pub few_values : (g : Program) (d : Link → Option View) (p : Proc) (j : Judgement) (nd : Node) → Standing g d p j nd → length (whole p.values) ≤ 16
few_values g d p j nd s = omega (arith, whole-length p.values, s.stands.vars, s.limits.vars)

-- the plan's amount is the head's
paid_is : (c : Code) (r : IsReady c) (d : Link → Option View) (p : Proc) (j : Judgement) (x n : ℕ) → Standing c.program d p j (node.Pay x n) → get_or c.paid p.node nought ≡ amount_of (head_at c.program j x)
paid_is c r d p j x n s = get_or_from_slice_get c.paid p.node (amount_of (head_at c.program j x)) nought (r.plan.paid p.node j (node.Pay x n) s.judged s.is)

pays_fine : (c : Code) (d : Link → Option View) (p : Proc) (j : Judgement) (x n q : ℕ) (s : Standing c.program d p j (node.Pay x n)) (o : Option Kind) (m : Meets c.program d p j (node.Pay x n) x o) → side_of m.asks.want ≡ out x → Pays (head_at c.program j x) (whole p.values) q m.asks.want → DeedFine c d p (puts p x Pay q n)
pays_fine c d p j x n q s o m side f =
    let g : Program = c.program in
    let nd : Node = node.Pay x n in
    let h : Ty = head_at g j x in
    let a : Ty = inner_of h in
    let jc : Judgement = with_potential (with_type j x a) (less j.potential (amount_of h)) in
    let le : q ≤ p.potential = enough_potential g d p j (amount_of h) q s.stands f.2 (followed g d p j (is_at_least j.potential (amount_of h)) s.stands m.asks.rest.0) in
    let sends : Sends g d p j nd x o m Pay q a = record {
      toward = side;
      fits = f.0;
      way = Inner;
      selects = refl;
      part = closed a (whole p.values);
      part_is = f.1;
      equal = equal_refl (defs g) (closed a (whole p.values));
      goes = λ next r. r;
    } in
    let i : IsJudgement g n jc = child_of g d p j nd 0 n jc s refl refl in
    sends_fine c d p p j j jc nd x o m Pay q n a sends refl refl m.at.link_is (le-leb q p.potential le) (stands_seen g d p j s.stands) i (stands_paid g d p j x n q (after_link m.at.link) a (amount_of h) s.stands (few_values g d p j nd s) le f.2)

pub pay_fine : (c : Code) → IsReady c → (d : Link → Option View) (p : Proc) (j : Judgement) (x n : ℕ) → Standing c.program d p j (node.Pay x n) → DeedFine c d p (with_values (at_values p (get_or c.paid p.node nought) ∷ []) (λ ns. puts p x Pay (first ns) n))
pay_fine c r d p j x n s =
    let g : Program = c.program in
    let nd : Node = node.Pay x n in
    let o : Option Kind = (if is_provided j x then Some kind.Pays else Some kind.Gets) in
    let m : Meets g d p j nd x o = meeting g d p j nd (pay_touch x) refl s in
    let h : Ty = head_at g j x in
    let q = proper_figure (defs g) m.at.seen.due.type m.at.seen.due_proper in
    let f = pays h (whole p.values) q.0 j x m.asks.want m.asks.want_is m.kind (m.heads.figure ∙ q.1) in
    subst (λ l. DeedFine c d p (with_values (at_values p l ∷ []) (λ ns. puts p x Pay (first ns) n))) (sym (paid_is c r d p j x n s))
    (natural_fine c d p (at_values p (amount_of h)) q.0 (λ ns. puts p x Pay (first ns) n) f.2 (pays_fine c d p j x n q.0 s o m (toward_out j x kind.Pays kind.Gets m.asks.want s.stands.provided m.asks.want_is refl refl) f))
