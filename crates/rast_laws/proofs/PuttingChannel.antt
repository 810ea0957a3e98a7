-- The send of a channel, and the send of the end.
use Rattle.std.proofs.Common.{◌≡◌, ℕ, zero, suc, ℤ, pos, Bool, true, false, not, ◌==◌, List, [], ◌∷◌, Option, Some, None, is_some, arith, refl, sym, ap, ◌∙◌, subst, if◌then◌else◌, eqb-true}
use Rattle.std.proofs.lemmas.Bool.{le-leb}
use Rattle.rast_index.specs.Keys.{find_key}
use Rattle.rast_index.specs.Linear.{whole, nought}
use Rattle.rast_index.specs.Truth.{is_equal}
use Rattle.rast_index.proofs.Scope.{both_true}
use Rattle.rast_index.proofs.Values.{value_fixed}
use Rattle.rast_types.specs.declared.equation.Ref.{Ref}
use Rattle.rast_types.specs.declared.ty.Kind.{Kind}
use Rattle.rast_types.specs.declared.ty.Kind.TheVariants as kind
use Rattle.rast_types.specs.declared.ty.Ty.{Ty, out-Ty}
use Rattle.rast_types.specs.declared.ty.Ty.TheOpen.{One, Plus, With, Tensor, Lolli, Named, Ex, All, Assert, Assume, Pays, Gets, Next}
use Rattle.rast_types.specs.Closed.{closed, Table, Layer, First, Second, part_of, part_layer, kind_of, kind_layer, figure_of, Equal, View, head}
use Rattle.rast_terms.specs.Nodes.{Touch}
use Rattle.rast_terms.specs.declared.node.Node.{Node}
use Rattle.rast_terms.specs.declared.node.Node.TheVariants as node
use Rattle.rast_terms.specs.declared.program.Program.{Program}
use Rattle.rast_rules.specs.declared.judgement.Judgement.{Judgement}
use Rattle.rast_rules.specs.Rules.{Is, Alike, IsJudgement, defs, is_provided, used_type, with_type, without, or_one, head_at, none_left, pair_layer, first_of_pair, second_of_pair, first_or, second_or}
use Rattle.rast_items.specs.Items.{after_link}
use Rattle.rast_items.specs.Deeds.{Code, puts_chan, closes, less_channel, link_of, inward}
use Rattle.rast_laws.specs.Typed.{FitsKind, IsToward}
use Rattle.rast_laws.specs.Sound.{IsReady}
use Rattle.rast_order.proofs.Words.{Link, Proc, Client, Chan, End}
use Rattle.rast_equal.proofs.Equals.{some_of, equal_refl, equal_sym, part_across}
use Rattle.rast_equal.proofs.Proper.{Proper, proper_part, proper_equal}
use Rattle.rast_laws.proofs.Channels.{HasLink, seen_link, seen_equal, seen_none}
use Rattle.rast_laws.proofs.Fine.{Stands, CarriesAt}
use Rattle.rast_laws.proofs.Lawful.{DeedFine}
use Rattle.rast_laws.proofs.Judged.{IsTrueAsked, asked_left, asked_right}
use Rattle.rast_laws.proofs.Meeting.{Meets, seen_now, followed}
use Rattle.rast_laws.proofs.Placed.{one_of, head_scoped}
use Rattle.rast_laws.proofs.Shapes.{pair_scoped}
use Rattle.rast_laws.proofs.Sending.{Sends, stands_seen, sends_fine, toward_out}
use Rattle.rast_laws.proofs.Standing.{Standing, meeting, child_of}
use Rattle.rast_equal.proofs.Truths.{equal_true}
use Rattle.rast_laws.proofs.Without.{seen_without}
use Rattle.rast_laws.proofs.PuttingLabel.{stands_sent}
use Rattle.rast_equal.proofs.Agreeing.{Fit}
use Rattle.rast_laws.proofs.Named.{judgement_named, named_defs, head_named, pair_named}
use Rattle.rast_laws.proofs.Pulling.{find_drop, none_are_left}
use Rattle.rast_laws.proofs.Knowing.{alike_equal, used_fit}

-- ---- the parts of a pair

abbrev is_pair : Kind → Bool
is_pair kind.Tensor = true
is_pair kind.Lolli = true
is_pair k = false

no_pair : (k l : Kind) → Some k ≡ Some l → is_pair k ≡ false → is_pair l ≡ true → ⊥
no_pair k l e f h =
    let s : k ≡ l = cc in
    let z : false ≡ true = sym f ∙ (ap is_pair s ∙ h) in cc

abbrev HasPair : Layer → List ℤ → Type 0
HasPair x vs = (part_layer x vs First ≡ Some (closed (first_or (pair_layer x)) vs)) × (part_layer x vs Second ≡ Some (closed (second_or (pair_layer x)) vs))

has_pair : (x : Layer) (vs : List ℤ) (k : Kind) → kind_layer x ≡ Some k → is_pair k ≡ true → HasPair x vs
has_pair (Tensor a b) vs k e h = (refl, refl)
has_pair (Lolli a b) vs k e h = (refl, refl)
has_pair (Named n es) vs k e h = cc
has_pair (Next l a) vs k e h = cc
has_pair One vs k e h = absurd (no_pair kind.One k e refl h)
has_pair (Plus ts) vs k e h = absurd (no_pair kind.Plus k e refl h)
has_pair (With ts) vs k e h = absurd (no_pair kind.With k e refl h)
has_pair (Ex a) vs k e h = absurd (no_pair kind.Ex k e refl h)
has_pair (All a) vs k e h = absurd (no_pair kind.All k e refl h)
has_pair (Assert f a) vs k e h = absurd (no_pair kind.Assert k e refl h)
has_pair (Assume f a) vs k e h = absurd (no_pair kind.Assume k e refl h)
has_pair (Pays p a) vs k e h = absurd (no_pair kind.Pays k e refl h)
has_pair (Gets p a) vs k e h = absurd (no_pair kind.Gets k e refl h)

-- ---- a channel

-- another channel is where it was
link_less : (p : Proc) (w x : ℕ) → (w == x) ≡ false → link_of (less_channel p w) x ≡ link_of p x
link_less p w zero e = refl
link_less p w (suc x) e = find_drop (suc x) w p.uses e

stands_less : (g : Program) (d : Link → Option View) (p : Proc) (j : Judgement) (nd : Node) (w : ℕ) → Standing g d p j nd → Stands g d (less_channel p w) (without j (w ∷ []))
stands_less g d p j nd w s =
    let st : Stands g d p j = s.stands in
    record { vars = st.vars; premises = st.premises; potential = st.potential; fresh = st.fresh; provided = st.provided; gives = st.gives; uses = seen_without (defs g) d p.moment (whole p.values) 1 j.fresh w p.uses j.uses s.shape.keys st.uses }

chan_fits : (z : ℤ) (l : Link) (j : Judgement) (x : ℕ) (want : Kind) → (if is_provided j x then Some kind.Tensor else Some kind.Lolli) ≡ Some want → FitsKind (Some want) z (Chan l) 0
chan_fits z l j x want e = one_of (λ k. FitsKind (Some k) z (Chan l) 0) (is_provided j x) kind.Tensor kind.Lolli want e refl refl

not_true : (b : Bool) → not b ≡ true → b ≡ false
not_true true h = cc
not_true false h = refl

-- the link that is sent is at the first part of what is due
carries : (c : Code) → IsReady c → (d : Link → Option View) (p : Proc) (j : Judgement) (x w : ℕ) (nd : Node) (o : Option Kind) (m : Meets c.program d p j nd x o) (a : Ty) (k : HasLink (defs c.program) d p.moment (whole p.values) p.uses w a) → Standing c.program d p j nd → used_type j w ≡ Some a → IsTrueAsked c.program j (Alike a (first_of_pair (head_at c.program j x)) None) → part_of (closed (head_at c.program j x) (whole p.values)) First ≡ Some (closed (first_of_pair (head_at c.program j x)) (whole p.values)) → CarriesAt (defs c.program) d m.at.seen.due p.moment k.link
carries c r d p j x w nd o m a k s u h q =
    let g : Program = c.program in
    let t : Table = defs g in
    let vs : List ℤ = whole p.values in
    let hd : Ty = head_at g j x in
    let f : Ty = first_of_pair hd in
    let y = part_across t (closed hd vs) (head t m.at.seen.due) First (closed f vs) m.heads q in
    let pf : Proper t (closed f vs) = proper_equal t y.0 (closed f vs) (equal_sym t (closed f vs) y.0 y.2) (proper_part t m.at.seen.due.type First y.0 m.at.seen.due_proper y.1) in
    let fit : Fit t j.ctx.vars p.values f = record { named = (pair_named t hd (head_named g j x (named_defs g r.made) (judgement_named g r.made p.node j s.judged))).0; scoped = (pair_scoped j.ctx.vars hd (head_scoped g j.ctx.vars j.fresh j x s.shape)).0; proper = pf } in
    let same : Equal t (closed a vs) (closed f vs) = alike_equal c r d p j nd a f s h (used_fit c r d p j nd w a s u k.seen.proper) fit in
    record { part = y.0; is = y.1; seen = seen_equal t d p.moment Client k.link (closed f vs) y.0 y.2 (seen_equal t d p.moment Client k.link (closed a vs) (closed f vs) same k.seen) }

pub send_fine : (c : Code) → IsReady c → (d : Link → Option View) (p : Proc) (j : Judgement) (x w : ℕ) (rs : List Ref) (n : ℕ) → Standing c.program d p j (node.Send x w rs n) → DeedFine c d p (puts_chan p x w (find_key w p.uses) n)
send_fine c r d p j x w rs n s =
    let g : Program = c.program in
    let vs : List ℤ = whole p.values in
    let nd : Node = node.Send x w rs n in
    let o : Option Kind = (if is_provided j x then Some kind.Tensor else Some kind.Lolli) in
    let touch : Touch = record { x = x; provided = Some kind.Tensor; used = Some kind.Lolli } in
    let m : Meets g d p j nd x o = meeting g d p j nd touch refl s in
    let hd : Ty = head_at g j x in
    let two = both_true (is_some (used_type j w)) (not (w == x)) m.asks.rest.0 in
    let a = some_of (used_type j w) two.0 in
    let k : HasLink (defs g) d p.moment vs p.uses w a.0 = seen_link (defs g) d p.moment vs w p.uses j.uses a.0 s.stands.uses a.1 in
    let pair : HasPair (out-Ty hd) vs = has_pair (out-Ty hd) vs m.asks.want m.kind (one_of (λ k. is_pair k ≡ true) (is_provided j x) kind.Tensor kind.Lolli m.asks.want m.asks.want_is refl refl) in
    let alike : IsTrueAsked g j (Alike a.0 (first_of_pair hd) None) = subst (λ q. IsTrueAsked g j (Alike (or_one q) (first_of_pair hd) None)) a.1 m.asks.rest.1.0 in
    let carried : CarriesAt (defs g) d m.at.seen.due p.moment k.link = carries c r d p j x w nd o m a.0 k s a.1 alike pair.0 in
    let second : Ty = second_of_pair hd in
    let q : Proc = less_channel p w in
    let jr : Judgement = without j (w ∷ []) in
    let less : Stands g d q jr = stands_less g d p j nd w s in
    let sends : Sends g d p j nd x o m (Chan k.link) 0 second = record {
      toward = toward_out j x kind.Tensor kind.Lolli m.asks.want s.stands.provided m.asks.want_is refl refl;
      fits = chan_fits (figure_of (closed hd vs)) k.link j x m.asks.want m.asks.want_is;
      way = Second;
      selects = refl;
      part = closed second vs;
      part_is = pair.1;
      equal = equal_refl (defs g) (closed second vs);
      goes = λ next h. (h, carried);
    } in
    let i : IsJudgement g n (with_type jr x second) = child_of g d p j nd 0 n (with_type jr x second) s refl refl in
    subst (λ l. DeedFine c d p (puts_chan p x w l n)) (sym k.found)
    (sends_fine c d p q j jr (with_type jr x second) nd x o m (Chan k.link) 0 n second sends refl refl (link_less p w x (not_true (w == x) two.1) ∙ m.at.link_is) (le-leb 0 p.potential (omega arith)) (stands_seen g d q jr less) i (stands_sent g d q jr x n (after_link m.at.link) second less))

-- ---- the end

one_provided : (b : Bool) (want : Kind) → (if b then Some kind.One else None) ≡ Some want → (b ≡ true) × (kind.One ≡ want)
one_provided true want e = (refl, (cc))
one_provided false want e = cc

pub close_fine : (c : Code) (d : Link → Option View) (p : Proc) (j : Judgement) (x : ℕ) → Standing c.program d p j (node.Close x) → DeedFine c d p (closes p p.uses)
close_fine c d p j x s =
    let g : Program = c.program in
    let t : Table = defs g in
    let vs : List ℤ = whole p.values in
    let st : Stands g d p j = s.stands in
    let nd : Node = node.Close x in
    let o : Option Kind = (if is_provided j x then Some kind.One else None) in
    let touch : Touch = record { x = x; provided = Some kind.One; used = None } in
    let m : Meets g d p j nd x o = meeting g d p j nd touch refl s in
    let left = none_left 4 j.uses in
    let last = (5, Is (is_equal j.potential nought)) ∷ [] in
    let none : j.uses ≡ [] = none_are_left g j 4 j.uses (asked_left g j left last m.asks.rest) in
    let empty : p.uses ≡ [] = seen_none t d p.moment vs p.uses j.uses st.uses none in
    let held : pos p.potential ≡ pos 0 = sym st.potential ∙ (equal_true j.potential nought vs (followed g d p j (is_equal j.potential nought) st (asked_right g j left last m.asks.rest).0) ∙ value_fixed (pos 0) vs) in
    let b = one_provided (is_provided j x) m.asks.want m.asks.want_is in
    let first : x ≡ 0 = eqb-true x j.gives.0 b.0 ∙ st.provided in
    let own : Some p.own ≡ Some m.at.link = sym (ap (link_of p) first) ∙ m.at.link_is in
    let same : p.own ≡ m.at.link = cc in
    let due : View = m.at.seen.due in
    let due_is : d p.own ≡ Some due = ap d same ∙ m.at.seen.is in
    let kd : kind_of (head t due).ty ≡ Some kind.One = sym m.heads.kind ∙ (m.kind ∙ ap Some (sym b.1)) in
    subst (λ us. DeedFine c d p (closes p us)) (sym empty) (
      record { due = due; is = due_is; toward = subst (λ k. IsToward k Client) (sym kd) refl },
      (
        record {
          due = due;
          is = due_is;
          proper = m.at.seen.due_proper;
          toward = subst (λ k. IsToward k Client) (sym kd) refl;
          body = subst (λ k. FitsKind k (figure_of (head t due)) End 0) (sym kd) refl;
          moment = seen_now t p.moment (inward x) (closed m.asks.type vs) due m.at.seen.ties m.ticks;
          goes = refl;
        },
        (let z : p.potential ≡ 0 = cc in z),
      ),
    )
