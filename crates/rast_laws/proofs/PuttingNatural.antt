-- The send of a natural.
use Rattle.std.proofs.Common.{◌≡◌, ℕ, ℤ, pos, ◌+◌, ◌≤◌, Bool, true, false, ◌==◌, List, [], ◌∷◌, ◌++◌, length, Option, Some, refl, sym, ap, ap₂, ◌∙◌, subst, arith, if◌then◌else◌, append-nil}
use Rattle.std.proofs.lemmas.Bool.{le-leb}
use Rattle.std.proofs.lemmas.List.{map-append}
use Rattle.rast_index.specs.Keys.{find_key, set_key}
use Rattle.rast_index.specs.Linear.{Linear, value, whole, variables, is_closed}
use Rattle.rast_types.specs.declared.ty.Kind.{Kind}
use Rattle.rast_types.specs.declared.ty.Kind.TheVariants as kind
use Rattle.rast_types.specs.declared.ty.Ty.{Ty}
use Rattle.rast_types.specs.Closed.{closed, Table, At, part_of, kind_of, figure_of, Equal, View}
use Rattle.rast_types.specs.Symbolic.{put_type, binders}
use Rattle.rast_equal.specs.Valid.{nonneg}
use Rattle.rast_terms.specs.Nodes.{Touch}
use Rattle.rast_terms.specs.declared.node.Node.{Node}
use Rattle.rast_terms.specs.declared.node.Node.TheVariants as node
use Rattle.rast_terms.specs.declared.program.Program.{Program}
use Rattle.rast_rules.specs.declared.judgement.Judgement.{Judgement}
use Rattle.rast_rules.specs.Rules.{defs, is_provided, type_of, used_type, with_type, inner_of, head_at, IsJudgement}
use Rattle.rast_items.specs.Items.{after_link}
use Rattle.rast_items.specs.Deeds.{Code, at_values, first, with_values, puts, out}
use Rattle.rast_laws.specs.Typed.{FitsKind, side_of}
use Rattle.rast_order.proofs.Words.{Link, Proc, Nat}
use Rattle.rast_equal.proofs.Equals.{equal_sym}
use Rattle.rast_equal.proofs.Within.{all_within_append, variables_within, within_closed}
use Rattle.rast_equal.proofs.Substitution.{values_of, put_equal}
use Rattle.rast_laws.proofs.Lawful.{DeedFine}
use Rattle.rast_laws.proofs.Judged.{Limited, AllShallow, uses_shallow, gives_shallow}
use Rattle.rast_laws.proofs.Placed.{one_of}
use Rattle.rast_equal.proofs.Truths.{nonneg_true}
use Rattle.rast_laws.proofs.Meeting.{Meets, followed}
use Rattle.rast_laws.proofs.Sending.{Sends, stands_seen, sends_fine, toward_out}
use Rattle.rast_laws.proofs.Standing.{Standing, meeting, child_of, child_limits}
use Rattle.rast_laws.proofs.Heads.{ex_part, all_part}
use Rattle.rast_laws.proofs.Widening.{values_variables}
use Rattle.rast_laws.proofs.Naturals.{natural_fine}
use Rattle.rast_laws.proofs.PuttingLabel.{stands_sent}

-- ---- the type that a channel gets is shallow

set_first : (n x : ℕ) (a b : Ty) (u : ℕ × Ty) (us : List (ℕ × Ty)) (y : Bool) → (if y then Some u.1 else find_key x us) ≡ Some b → AllShallow n (if y then (x, a) ∷ us else u ∷ set_key x a us) → (find_key x us ≡ Some b → AllShallow n (set_key x a us) → n + binders a ≤ 16) → n + binders a ≤ 16
set_first n x a b u us true e h ih = h.0
set_first n x a b u us false e h ih = ih e h.1

set_shallow : (n x : ℕ) (a b : Ty) (us : List (ℕ × Ty)) → find_key x us ≡ Some b → AllShallow n (set_key x a us) → n + binders a ≤ 16
set_shallow n x a b [] e h = cc
set_shallow n x a b (u ∷ us) e h = set_first n x a b u us (u.0 == x) e h (set_shallow n x a b us)

type_shallow' : (j : Judgement) (x : ℕ) (a b : Ty) (y : Bool) → (if y then Some j.gives.1 else used_type j x) ≡ Some b → Limited (if y then record j { gives = (x, a) } else record j { uses = set_key x a j.uses }) → j.ctx.vars + binders a ≤ 16
type_shallow' j x a b true e l = gives_shallow (record j { gives = (x, a) }) l
type_shallow' j x a b false e l = set_shallow j.ctx.vars x a b j.uses e (uses_shallow (record j { uses = set_key x a j.uses }) l)

pub type_shallow : (j : Judgement) (x : ℕ) (a b : Ty) → type_of j x ≡ Some b → Limited (with_type j x a) → j.ctx.vars + binders a ≤ 16
type_shallow j x a b e l = type_shallow' j x a b (is_provided j x) e l

-- ---- the part at the natural

abbrev index_touch : ℕ → Touch
index_touch x = record { x = x; provided = Some kind.Ex; used = Some kind.All }

abbrev Indexes : Ty → List ℤ → ℕ → Kind → Type 0
Indexes h vs n k = FitsKind (Some k) (figure_of (closed h vs)) (Nat n) 0 × (part_of (closed h vs) (At n) ≡ Some (closed (inner_of h) (vs ++ pos n ∷ [])))

indexes : (h : Ty) (vs : List ℤ) (n : ℕ) (j : Judgement) (x : ℕ) (want : Kind) → (if is_provided j x then Some kind.Ex else Some kind.All) ≡ Some want → kind_of h ≡ Some want → Indexes h vs n want
indexes h vs n j x want e = one_of (λ k. kind_of h ≡ Some k → Indexes h vs n k) (is_provided j x) kind.Ex kind.All want e (λ k. (refl, ex_part h vs n k)) (λ k. (refl, all_part h vs n k))

-- the body of a quantifier at a term's value
values_at : (n : ℕ) (vs : List ℕ) (e : Linear) (i : ℕ) → length vs ≡ n → n ≤ 16 → value e (whole vs) ≡ pos i → values_of (variables n ++ e ∷ []) vs ≡ whole vs ++ pos i ∷ []
values_at n vs e i l few h =
    map-append (λ x. value x (whole vs)) (variables n) (e ∷ [])
    ∙ ap₂ (λ (xs : List ℤ) (y : ℤ). xs ++ y ∷ []) (ap (values_of (variables n)) (sym (append-nil vs)) ∙ values_variables n vs [] l few) h

pub index_equal : (t : Table) (n : ℕ) (vs : List ℕ) (e : Linear) (i : ℕ) (a : Ty) → length vs ≡ n → is_closed n e ≡ true → n + binders (put_type n (variables n ++ e ∷ []) a) ≤ 16 → value e (whole vs) ≡ pos i → Equal t (closed a (whole vs ++ pos i ∷ [])) (closed (put_type n (variables n ++ e ∷ []) a) (whole vs))
index_equal t n vs e i a l c few h =
    equal_sym t (closed (put_type n (variables n ++ e ∷ []) a) (whole vs)) (closed a (whole vs ++ pos i ∷ []))
    (subst (λ xs. Equal t (closed (put_type n (variables n ++ e ∷ []) a) (whole vs)) (closed a xs)) (values_at n vs e i l (omega (arith, few)) h)
    (put_equal t n (variables n ++ e ∷ []) a vs l few (all_within_append n (variables n) (e ∷ []) (variables_within n n (omega arith)) (within_closed n e c, tt))))

-- ---- the node

index_puts : (c : Code) (d : Link → Option View) (p : Proc) (j : Judgement) (x : ℕ) (e : Linear) (n i : ℕ) (s : Standing c.program d p j (node.Index x e n)) (o : Option Kind) (m : Meets c.program d p j (node.Index x e n) x o) → side_of m.asks.want ≡ out x → Indexes (head_at c.program j x) (whole p.values) i m.asks.want → at_values p e ≡ pos i → DeedFine c d p (puts p x (Nat i) 0 n)
index_puts c d p j x e n i s o m side f v =
    let g : Program = c.program in
    let nd : Node = node.Index x e n in
    let h : Ty = head_at g j x in
    let a : Ty = put_type j.ctx.vars (variables j.ctx.vars ++ e ∷ []) (inner_of h) in
    let jc : Judgement = with_type j x a in
    let k : IsJudgement g n jc = child_of g d p j nd 0 n jc s refl refl in
    let few : j.ctx.vars + binders a ≤ 16 = type_shallow j x a m.asks.type m.asks.type_is (child_limits g n jc k) in
    let sends : Sends g d p j nd x o m (Nat i) 0 a = record {
      toward = side;
      fits = f.0;
      way = At i;
      selects = refl;
      part = closed (inner_of h) (whole p.values ++ pos i ∷ []);
      part_is = f.1;
      equal = index_equal (defs g) j.ctx.vars p.values e i (inner_of h) s.stands.vars s.node.1 few v;
      goes = λ next r. r;
    } in
    sends_fine c d p p j j jc nd x o m (Nat i) 0 n a sends refl refl m.at.link_is (le-leb 0 p.potential (omega arith)) (stands_seen g d p j s.stands) k (stands_sent g d p j x n (after_link m.at.link) a s.stands)

pub index_fine : (c : Code) (d : Link → Option View) (p : Proc) (j : Judgement) (x : ℕ) (e : Linear) (n : ℕ) → Standing c.program d p j (node.Index x e n) → DeedFine c d p (with_values (at_values p e ∷ []) (λ ns. puts p x (Nat (first ns)) 0 n))
index_fine c d p j x e n s =
    let g : Program = c.program in
    let nd : Node = node.Index x e n in
    let o : Option Kind = (if is_provided j x then Some kind.Ex else Some kind.All) in
    let m : Meets g d p j nd x o = meeting g d p j nd (index_touch x) refl s in
    let v = nonneg_true e (whole p.values) (followed g d p j (nonneg e) s.stands m.asks.rest.0) in
    natural_fine c d p (at_values p e) v.0 (λ ns. puts p x (Nat (first ns)) 0 n) v.1
    (index_puts c d p j x e n v.0 s o m (toward_out j x kind.Ex kind.All m.asks.want s.stands.provided m.asks.want_is refl refl) (indexes (head_at g j x) (whole p.values) v.0 j x m.asks.want m.asks.want_is m.kind) v.1)
