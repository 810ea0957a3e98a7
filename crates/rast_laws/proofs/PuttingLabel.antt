-- The send of a label.
use Rattle.std.proofs.Common.{◌≡◌, ℕ, ℤ, pos, ◌-◌, true, Option, Some, refl, sym, ap, ◌∙◌, subst, arith, if◌then◌else◌}
use Rattle.std.specs.List.{list_all}
use Rattle.std.proofs.lemmas.Bool.{le-leb}
use Rattle.rast_index.specs.Keys.{find_key}
use Rattle.rast_index.specs.Linear.{value, whole}
use Rattle.rast_index.specs.Truth.{truth}
use Rattle.rast_types.specs.declared.ty.Kind.{Kind}
use Rattle.rast_types.specs.declared.ty.Kind.TheVariants as kind
use Rattle.rast_types.specs.declared.ty.Ty.{Ty}
use Rattle.rast_types.specs.Closed.{closed, Label as ByLabel, figure_of, View}
use Rattle.rast_terms.specs.Nodes.{Touch}
use Rattle.rast_terms.specs.declared.node.Node.{Node}
use Rattle.rast_terms.specs.declared.node.Node.TheVariants as node
use Rattle.rast_terms.specs.declared.program.Program.{Program}
use Rattle.rast_rules.specs.declared.judgement.Judgement.{Judgement}
use Rattle.rast_rules.specs.Rules.{defs, is_provided, with_type, or_one, choices_of, head_at, IsJudgement}
use Rattle.rast_items.specs.Items.{after_link}
use Rattle.rast_items.specs.Deeds.{Code, puts, at_node, with_link}
use Rattle.rast_laws.specs.Typed.{FitsKind}
use Rattle.rast_order.proofs.Words.{Link, Proc, Label}
use Rattle.rast_equal.proofs.Equals.{some_of, equal_refl}
use Rattle.rast_laws.proofs.Fine.{Stands}
use Rattle.rast_laws.proofs.Lawful.{DeedFine}
use Rattle.rast_laws.proofs.Placed.{one_of}
use Rattle.rast_laws.proofs.Meeting.{Meets}
use Rattle.rast_laws.proofs.Sending.{Seen, Sends, stands_seen, sends_fine, toward_out}
use Rattle.rast_laws.proofs.Standing.{Standing, meeting, child_of, stands_on, seen_as}
use Rattle.rast_laws.proofs.Taking.{link_values, link_fresh, type_ctx, type_potential, type_fresh}
use Rattle.rast_laws.proofs.Heads.{label_part}

-- after a send without potential, where the channel's type alone changes
pub stands_sent : (g : Program) (d : Link → Option View) (p : Proc) (j : Judgement) (x n : ℕ) (l : Link) (a : Ty) → Stands g d p j → Seen (defs g) d (with_link p x l) (with_type j x a) → Stands g d (at_node (record (with_link p x l) { potential = p.potential - 0 }) n) (with_type j x a)
stands_sent g d p j x n l a s se =
    stands_on g d p (at_node (record (with_link p x l) { potential = p.potential - 0 }) n) j (with_type j x a) s (link_values p x l) (ap (λ c. c.vars) (type_ctx j x a))
    (subst (λ c. list_all (λ f. truth f (whole p.values)) c.premises ≡ true) (sym (type_ctx j x a)) s.premises)
    (ap (λ l. value l (whole p.values)) (type_potential j x a) ∙ (s.potential ∙ ap pos (let z : p.potential ≡ p.potential - 0 = omega arith in z)))
    (link_fresh p x l ∙ (s.fresh ∙ sym (type_fresh j x a)))
    (seen_as g d (with_link p x l) (at_node (record (with_link p x l) { potential = p.potential - 0 }) n) (with_type j x a) refl refl refl refl se)

abbrev label_touch : ℕ → Touch
label_touch x = record { x = x; provided = Some kind.Plus; used = Some kind.With }

label_fits : (z : ℤ) (l : ℕ) (j : Judgement) (x : ℕ) (want : Kind) → (if is_provided j x then Some kind.Plus else Some kind.With) ≡ Some want → FitsKind (Some want) z (Label l) 0
label_fits z l j x want e = one_of (λ k. FitsKind (Some k) z (Label l) 0) (is_provided j x) kind.Plus kind.With want e refl refl

pub label_fine : (c : Code) (d : Link → Option View) (p : Proc) (j : Judgement) (x l n : ℕ) → Standing c.program d p j (node.Label x l n) → DeedFine c d p (puts p x (Label l) 0 n)
label_fine c d p j x l n s =
    let g : Program = c.program in
    let nd : Node = node.Label x l n in
    let o : Option Kind = (if is_provided j x then Some kind.Plus else Some kind.With) in
    let m : Meets g d p j nd x o = meeting g d p j nd (label_touch x) refl s in
    let h : Ty = head_at g j x in
    let a : Ty = or_one (find_key l (choices_of h)) in
    let f = some_of (find_key l (choices_of h)) m.asks.rest.0 in
    let has : find_key l (choices_of h) ≡ Some a = f.1 ∙ ap Some (sym (ap or_one f.1)) in
    let sends : Sends g d p j nd x o m (Label l) 0 a = record {
      toward = toward_out j x kind.Plus kind.With m.asks.want s.stands.provided m.asks.want_is refl refl;
      fits = label_fits (figure_of (closed h (whole p.values))) l j x m.asks.want m.asks.want_is;
      way = ByLabel l;
      selects = refl;
      part = closed a (whole p.values);
      part_is = label_part h (whole p.values) l a has;
      equal = equal_refl (defs g) (closed a (whole p.values));
      goes = λ next r. r;
    } in
    let i : IsJudgement g n (with_type j x a) = child_of g d p j nd 0 n (with_type j x a) s refl refl in
    sends_fine c d p p j j (with_type j x a) nd x o m (Label l) 0 n a sends refl refl m.at.link_is (le-leb 0 p.potential (omega arith)) (stands_seen g d p j s.stands) i (stands_sent g d p j x n (after_link m.at.link) a s.stands)
