-- A process that forwards: what is due on its used link serves what is due on its own, and it waits where the head says.
use Rattle.std.proofs.Common.{◌≡◌, ℕ, zero, suc, ℤ, pos, ◌+◌, ◌≤◌, Bool, true, false, ◌==◌, List, [], ◌∷◌, ◌++◌, map, length, Option, Some, None, slice_get, refl, sym, ap, ◌∙◌, subst, arith, if◌then◌else◌, eqb-true, eq-eqb}
use Rattle.std.specs.Prelude.{slice_index_or as get_or}
use Rattle.std.proofs.lemmas.Bool.{ne_eqb}
use Rattle.rast_index.specs.Keys.{find_key, drop_key}
use Rattle.rast_index.specs.Linear.{Linear, value, whole, nought}
use Rattle.rast_index.specs.Truth.{is_equal}
use Rattle.rast_index.proofs.Values.{value_fixed}
use Rattle.rast_types.specs.declared.table.TypeDef.{TypeDef}
use Rattle.rast_types.specs.declared.equation.Ref.{Ref}
use Rattle.rast_types.specs.declared.ty.Kind.{Kind}
use Rattle.rast_types.specs.declared.ty.Ty.{Ty, out-Ty}
use Rattle.rast_types.specs.declared.ty.Ty.TheOpen.{One, Plus, With, Tensor, Lolli, Named, Ex, All, Assert, Assume, Pays, Gets, Next}
use Rattle.rast_types.specs.Closed.{Closed, closed, Table, Layer, Exposed, exposed, exposed_layer, body_or, unfold_layer, unfolded, kind_layer, kind_of, is_positive, Equal, View, view, head, Serves}
use Rattle.rast_types.specs.Symbolic.{opened, opened_layer, body_at, Timed, timed, timed_layer, exposed_type, is_next, is_next_layer, is_scoped}
use Rattle.rast_terms.specs.declared.node.Node.TheVariants as node
use Rattle.rast_terms.specs.declared.program.Program.{Program}
use Rattle.rast_rules.specs.declared.judgement.Judgement.{Judgement}
use Rattle.rast_rules.specs.Rules.{Is, Alike, defs, is_provided, used_type, type_of, or_one, head_at, none_left, without, positive_kind}
use Rattle.rast_items.specs.Deeds.{Code, Moves, Breaks, act, forwards}
use Rattle.rast_laws.specs.Sound.{IsReady}
use Rattle.rast_order.proofs.Words.{Link, Proc, Client}
use Rattle.rast_equal.proofs.Equals.{SameHeads, HasKind, some_of, HasHead}
use Rattle.rast_equal.proofs.Unfolds.{plain_unfolds}
use Rattle.rast_laws.proofs.Serving.{serves_equal, serves_trans, serves_same}
use Rattle.rast_equal.proofs.Proper.{proper_head}
use Rattle.rast_laws.proofs.Channels.{SeenAt, AreSeen}
use Rattle.rast_laws.proofs.Fine.{Stands}
use Rattle.rast_laws.proofs.Lawful.{Forwards, DeedFine}
use Rattle.rast_laws.proofs.Judged.{AllAsked, IsTrueAsked, asked_left, asked_right}
use Rattle.rast_types.proofs.Layers.{out_put}
use Rattle.rast_laws.proofs.Meeting.{followed}
use Rattle.rast_laws.proofs.Placed.{Shape}
use Rattle.rast_laws.proofs.Shapes.{Rising}
use Rattle.rast_laws.proofs.Standing.{Standing}
use Rattle.rast_equal.proofs.Substitution.{kind_put}
use Rattle.rast_equal.proofs.Truths.{equal_true}
use Rattle.rast_laws.proofs.Delayed.{NextBoth, both_layer, next_opened}
use Rattle.rast_laws.proofs.Pulling.{left_drop, all_left, none_are_left}
use Rattle.rast_laws.proofs.Knowing.{alike_equal, used_fit, gives_fit}

-- ---- the kind of a head, whatever its limits

named_kind : (t : Table) (n : ℕ) (a : Ty) (vs : List ℕ) (es : List Linear) (o : Option TypeDef) → kind_of (body_at n a o es) ≡ kind_of (body_or (closed a (whole vs)) o (map (λ e. value e (whole vs)) es)).ty
named_kind t n a vs es None = refl
named_kind t n a vs es (Some d) = ap kind_layer (out_put n es d.body) ∙ kind_put n es (out-Ty d.body)

kind_layers : (t : Table) (n : ℕ) (a : Ty) (vs : List ℕ) (x : Layer) → kind_of (opened_layer t n a x) ≡ kind_of (unfold_layer t (closed a (whole vs)) x).ty
kind_layers t n a vs (Named k es) = named_kind t n a vs es (slice_get t k)
kind_layers t n a vs One = refl
kind_layers t n a vs (Plus ts) = refl
kind_layers t n a vs (With ts) = refl
kind_layers t n a vs (Tensor b c) = refl
kind_layers t n a vs (Lolli b c) = refl
kind_layers t n a vs (Ex b) = refl
kind_layers t n a vs (All b) = refl
kind_layers t n a vs (Assert f b) = refl
kind_layers t n a vs (Assume f b) = refl
kind_layers t n a vs (Pays p b) = refl
kind_layers t n a vs (Gets p b) = refl
kind_layers t n a vs (Next l b) = refl

kind_opened : (t : Table) (n : ℕ) (a : Ty) (vs : List ℕ) → kind_of (opened t n a) ≡ kind_of (unfolded t (closed a (whole vs))).ty
kind_opened t n a vs = kind_layers t n a vs (out-Ty a)

opened_kind : (t : Table) (n : ℕ) (a : Ty) (x : Layer) (k : Kind) → kind_layer x ≡ Some k → opened_layer t n a x ≡ a
opened_kind t n a (Named j es) k e = cc
opened_kind t n a x k e = refl

timed_kind : (a : Ty) (x : Layer) → is_next_layer x ≡ false → (timed_layer a x).body ≡ a
timed_kind a (Next l b) e = cc
timed_kind a x e = refl

exposed_kind : (t : Table) (n : ℕ) (a : Ty) (vs : List ℕ) → HasHead t (closed a (whole vs)) → is_scoped n a ≡ true → length vs ≡ n → n ≤ 16 → kind_of (exposed_type t n a).body ≡ kind_of (exposed t (closed a (whole vs))).head.ty
exposed_kind t n a vs k s e few = pick (is_next (opened t n a)) refl
  where
    pick : (b : Bool) → is_next (opened t n a) ≡ b → kind_of (opened t n (timed (opened t n a)).body) ≡ kind_of (exposed t (closed a (whole vs))).head.ty
    pick true h =
        let c : Closed = unfolded t (closed a (whole vs)) in
        let r : NextBoth t vs (opened t n a) c = both_layer t n a vs (out-Ty a) refl e few s h in
        let i : timed (opened t n a) ≡ record { ticks = r.ticks; body = r.body } = ap (timed_layer (opened t n a)) r.is in
        let x : exposed t (closed a (whole vs)) ≡ record { ticks = value r.own_ticks c.at; head = unfolded t (closed r.own_body c.at) } = ap (exposed_layer t c) r.own_is in
        ap (λ (y : Timed). kind_of (opened t n y.body)) i ∙ (kind_opened t n r.body vs ∙ (r.same_kind ∙ sym (ap (λ (y : Exposed). kind_of y.head.ty) x)))
    pick false h =
        let x : exposed t (closed a (whole vs)) ≡ record { ticks = pos 0; head = unfolded t (closed a (whole vs)) } = plain_unfolds t (closed a (whole vs)) (sym (next_opened t n a vs) ∙ h) in
        let own : HasKind (unfolded t (closed a (whole vs))) = subst (λ w. HasKind w.head) x k in
        let u : Ty = opened t n a in
        let ku : kind_of u ≡ Some own.0 = kind_opened t n a vs ∙ own.1 in
        ap (λ (y : Ty). kind_of (opened t n y)) (timed_kind u (out-Ty u) h) ∙ (ap kind_of (opened_kind t n u (out-Ty u) own.0 ku) ∙ (kind_opened t n a vs ∙ sym (ap (λ (y : Exposed). kind_of y.head.ty) x)))

-- ---- one used channel

single : (y : ℕ) (us : List (ℕ × Ty)) (a : Ty) → find_key y us ≡ Some a → drop_key y us ≡ [] → us ≡ (y, a) ∷ []
single y [] a e h = cc
single y (u ∷ us) a e h = pick (u.0 == y) refl e h
  where
    pick : (b : Bool) → (u.0 == y) ≡ b → (if b then Some u.1 else find_key y us) ≡ Some a → (if b then us else u ∷ drop_key y us) ≡ [] → u ∷ us ≡ (y, a) ∷ []
    pick false q e h = cc
    pick true q e h =
        let k : u.0 ≡ y = eqb-true u.0 y q in
        let s : u.1 ≡ a = cc in
        let f : u ≡ (y, a) = ap (λ (n : ℕ). (n, u.1)) k ∙ ap (λ (x : Ty). (y, x)) s in
        ap (λ xs. u ∷ xs) h ∙ ap (λ (v : ℕ × Ty). v ∷ []) f

record OneLink (t : Table) (d : Link → Option View) (m : ℕ) (vs : List ℤ) (y : ℕ) (a : Ty) (us : List (ℕ × Link)) : Type 0 where
  link : Link
  is : us ≡ (y, link) ∷ []
  seen : SeenAt t d m Client link (closed a vs)

one_link : (t : Table) (d : Link → Option View) (m : ℕ) (vs : List ℤ) (y : ℕ) (a : Ty) (us : List (ℕ × Link)) → AreSeen t d m vs us ((y, a) ∷ []) → OneLink t d m vs y a us
one_link t d m vs y a [] h = absurd h
one_link t d m vs y a (u ∷ []) h = record { link = u.1; is = ap (λ (n : ℕ). (n, u.1) ∷ []) h.0; seen = h.1 }
one_link t d m vs y a (u ∷ v ∷ us) h = absurd h.2

-- the entry of a list
pub entry_is : {A : Type 0} (xs : List A) (i : ℕ) (x z : A) → slice_get xs i ≡ Some x → get_or xs i z ≡ x
entry_is {A} [] zero x z e = cc
entry_is {A} [] (suc i) x z e = cc
entry_is {A} (y ∷ xs) zero x z e = cc
entry_is {A} (y ∷ xs) (suc i) x z e = entry_is xs i x z e

-- a used channel isn't the provided one
key_above : (lo hi y : ℕ) (us : List (ℕ × Ty)) (a : Ty) → Rising lo hi us → find_key y us ≡ Some a → lo ≤ y
key_above lo hi y [] a r e = cc
key_above lo hi y (u ∷ us) a r e = pick (u.0 == y) refl e (key_above (u.0 + 1) hi y us a r.2)
  where
    pick : (b : Bool) → (u.0 == y) ≡ b → (if b then Some u.1 else find_key y us) ≡ Some a → (find_key y us ≡ Some a → u.0 + 1 ≤ y) → lo ≤ y
    pick true q e ih = omega (arith, r.0, eqb-true u.0 y q)
    pick false q e ih = omega (arith, r.0, ih e)

used_is : (v f : ℕ) (j : Judgement) (y : ℕ) (a : Ty) → Shape v f j → used_type j y ≡ Some a → type_of j y ≡ Some a
used_is v f j y a h e =
    let up : 1 ≤ y = key_above 1 f y j.uses a h.keys e in
    let n : is_provided j y ≡ false = ne_eqb y j.gives.0 (λ q. absurd (omega (arith, up, q, h.provided))) in
    ap (λ (b : Bool). if b then Some j.gives.1 else used_type j y) n ∙ e

-- ---- the process

moves : (c : Code) (d : Link → Option View) (p : Proc) (y : ℕ) (l : Link) (positive : Bool) (us : List (ℕ × Link)) → us ≡ (y, l) ∷ [] → Forwards c.program d p l (if positive then l else p.own) → DeedFine c d p (forwards p y positive us)
moves c d p y l positive us e h =
    subst (λ xs. DeedFine c d p (forwards p y positive xs)) (sym e)
    (subst (λ (b : Bool). DeedFine c d p (if b then Moves l (if positive then l else p.own) else Breaks)) (sym (eq-eqb y y refl)) h)

pub forward_fine : (c : Code) → IsReady c → (d : Link → Option View) (amount : Linear) (k : ℕ) (p : Proc) (j : Judgement) (x y : ℕ) (rs : List Ref) → Standing c.program d p j (node.Forward x y rs) → DeedFine c d p (act c.program amount (get_or c.positive p.node false) k p (node.Forward x y rs))
forward_fine c r d amount k p j x y rs s =
    let g : Program = c.program in
    let t : Table = defs g in
    let vs : List ℤ = whole p.values in
    let m : ℕ = p.moment in
    let st : Stands g d p j = s.stands in
    let left : List (ℕ × Ty) = (without j (y ∷ [])).uses in
    let more = (3, Is (is_equal j.potential nought)) ∷ (4, Alike (or_one (used_type j y)) j.gives.1 None) ∷ [] in
    let asked : AllAsked g j (none_left 2 left ++ more) = s.asked_true.1.1 in
    let tail : AllAsked g j more = asked_right g j (none_left 2 left) more asked in
    let none : left ≡ [] = none_are_left g j 2 left (asked_left g j (none_left 2 left) more asked) in
    let a = some_of (used_type j y) s.asked_true.1.0 in
    let only : j.uses ≡ (y, a.0) ∷ [] = single y j.uses a.0 a.1 (sym (all_left (drop_key y j.uses)) ∙ (left_drop y 1 j.fresh [] j.uses s.shape.keys ∙ none)) in
    let o : OneLink t d m vs y a.0 p.uses = one_link t d m vs y a.0 p.uses (subst (AreSeen t d m vs p.uses) only st.uses) in
    let same : Equal t (closed a.0 vs) (closed j.gives.1 vs) = alike_equal c r d p j (node.Forward x y rs) a.0 j.gives.1 s (subst (λ q. IsTrueAsked g j (Alike (or_one q) j.gives.1 None)) a.1 tail.1.0) (used_fit c r d p j (node.Forward x y rs) y a.0 s a.1 o.seen.proper) (gives_fit c r d p j (node.Forward x y rs) s) in
    let ha : HasHead t (closed a.0 vs) = proper_head t (closed a.0 vs) o.seen.proper in
    let yours : View = o.seen.due in
    let serves : Serves t yours st.gives.due = serves_trans t yours (view m (closed a.0 vs)) st.gives.due o.seen.ties (serves_trans t (view m (closed a.0 vs)) (view m (closed j.gives.1 vs)) st.gives.due (serves_equal t m (closed a.0 vs) (closed j.gives.1 vs) same ha) st.gives.ties) in
    let empty : pos p.potential ≡ pos 0 = sym st.potential ∙ (equal_true j.potential nought vs (followed g d p j (is_equal j.potential nought) st tail.0) ∙ value_fixed (pos 0) vs) in
    let kind = proper_head t yours.type o.seen.due_proper in
    let heads : SameHeads t (head t yours) (exposed t (closed a.0 vs)).head = serves_same t yours (view m (closed a.0 vs)) o.seen.due_proper o.seen.proper o.seen.ties in
    let is : kind_of (head_at g j y) ≡ Some kind.0 = ap (λ q. kind_of (exposed_type t j.ctx.vars (or_one q)).body) (used_is j.ctx.vars j.fresh j y a.0 s.shape a.1) ∙ (exposed_kind t j.ctx.vars a.0 p.values ha (used_fit c r d p j (node.Forward x y rs) y a.0 s a.1 o.seen.proper).scoped st.vars s.limits.vars ∙ (sym heads.kind ∙ kind.1)) in
    let side : get_or c.positive p.node false ≡ is_positive kind.0 = entry_is c.positive p.node (positive_kind (kind_of (head_at g j y))) false (r.plan.positive p.node j (node.Forward x y rs) s.judged s.is) ∙ ap positive_kind is in
    moves c d p y o.link (get_or c.positive p.node false) p.uses o.is (record {
      mine = st.gives.due;
      yours = yours;
      mine_is = st.gives.is;
      yours_is = o.seen.is;
      mine_proper = st.gives.due_proper;
      yours_proper = o.seen.due_proper;
      serves = serves;
      potential = (let z : p.potential ≡ 0 = cc in z);
      kind = kind.0;
      kind_is = kind.1;
      waits = ap (λ (b : Bool). if b then o.link else p.own) side;
    })
