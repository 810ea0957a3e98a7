-- What is known of a node where none of its premises stops.
use Rattle.std.proofs.Common.{◌≡◌, ℕ, suc, ◌+◌, ◌<◌, min, length, get_or, add-one, arith, Bool, true, false, not, ◌||◌, ◌&&◌, if◌then◌else◌, List, [], ◌∷◌, ◌++◌, map, take, drop, Option, Some, None, Result, Ok, Err, sym, ◌∙◌, ap, ap₂, refl}
use Rattle.std.specs.Prelude.{filter, slice_get}
use Rattle.std.specs.List.{list_any, list_all}
use Rattle.std.proofs.Math.Seq.{take-suc}
use Rattle.std.proofs.lemmas.List.{append-nil, length-take}
use Rattle.std.proofs.lemmas.List.Folds.{list_any-append}
use Rattle.rast_index.specs.Keys.{set_key, numbered}
use Rattle.rast_index.specs.Linear.{Linear, is_small, replaced}
use Rattle.rast_index.specs.Truth.{all_small, is_at_least}
use Rattle.rast_index.specs.declared.formula.Formula.{Formula}
use Rattle.rast_index.specs.declared.formula.Rel.TheVariants as rel
use Rattle.rast_index.proofs.Trees.{all_small-Rel}
use Rattle.rast_index.proofs.Scope.{both_true}
use Rattle.rast_types.specs.declared.equation.Ref.{Ref}
use Rattle.rast_types.specs.declared.stop.Stop.{Stop}
use Rattle.rast_types.specs.declared.stop.Stop.TheVariants as stop
use Rattle.rast_types.specs.declared.ty.Kind.{Kind}
use Rattle.rast_types.specs.declared.ty.Ty.{Ty}
use Rattle.rast_types.specs.Symbolic.{Timed, made_exposed, made_type, before_delay, is_passed_over}
use Rattle.rast_terms.specs.Nodes.{Touch, touches, refs_of}
use Rattle.rast_terms.specs.declared.node.Node.{Node}
use Rattle.rast_terms.specs.declared.node.Node.TheVariants as node
use Rattle.rast_equal.specs.Valid.{nonneg}
use Rattle.rast_rules.specs.Rules.{Program, Decl, Judgement, Asked, Askings, Is, Shaped, Alike, Stopped, premise_of, deal, share, stops, premises, asked, node_asked, touch_asked, at_channel, at_head, made_truth, spawn_asked, are_used, delay_asked, all_types, defs, is_provided, type_of, or_one, child_at, with_type, without, root}
use Rattle.rast_rules.specs.declared.draft.Draft.{Draft}
use Rattle.rast_rules.specs.Draft.{made_uses, drafted}
use Rattle.rast_rules.specs.Making.{made_term}
use Rattle.rast_rules.specs.Late.{has_ticks}
use Rattle.rast_rules.specs.Trail.{any_stops}
use Rattle.rast_rules.proofs.Trails.{any_until}
use Rattle.rast_rules.proofs.Deals.{or_false}

-- whether the premise that is asked for stops
asked_stops : (ℕ × Asked) → Bool
asked_stops a = stops (premise_of a.1 [])

stops_refs : (a : Asked) (rs : List Ref) → stops (premise_of a rs) ≡ stops (premise_of a [])
stops_refs (Is goal) rs = refl
stops_refs (Shaped ok w) rs = refl
stops_refs (Alike a b None) rs = refl
stops_refs (Alike a b (Some s)) rs = refl
stops_refs (Stopped s) rs = refl

any_deal : (n : ℕ) (rs : List Ref) (as' : Askings) → any_stops (deal n rs as') ≡ list_any asked_stops as'
unfolding asked_stops
any_deal n rs [] = refl
any_deal n rs (a ∷ as') = ap₂ (λ b c. b || c) (stops_refs a.1 (take (share n rs a.1 as') rs)) (any_deal n (drop (share n rs a.1 as') rs) as')

any_asked : (g : Program) (j : Judgement) (n : Node) → any_stops (premises g j n) ≡ false → list_any asked_stops (asked g j n) ≡ false
any_asked g j n h = sym (any_until (deal j.ctx.vars (refs_of n) (asked g j n)) ∙ any_deal j.ctx.vars (refs_of n) (asked g j n)) ∙ h

true_is_false : (b : Bool) → b ≡ true → b ≡ false → ⊥
true_is_false b e f = cc

module _ (g : Program) (j : Judgement) (n : Node) where
  head_stops : (want : Kind) (m : Result Timed Stop) (s : Stop) → list_any asked_stops (at_head j n want m) ≡ false → m ≡ Err s → ⊥
  unfolding asked_stops
  head_stops want (Ok e) s h f = cc
  head_stops want (Err t) s h f = cc

  channel_stops : (x : ℕ) (want : Option Kind) (o : Option Ty) (s : Stop) → list_any asked_stops (at_channel g j n x want o) ≡ false → made_exposed (defs g) j.ctx.vars (or_one o) ≡ Err s → ⊥
  unfolding asked_stops
  channel_stops x (Some want) (Some a) s h f = head_stops want (made_exposed (defs g) j.ctx.vars a) s h f
  channel_stops x (Some want) None s h f = cc
  channel_stops x None (Some a) s h f = cc
  channel_stops x None None s h f = cc

  -- the head of the channel that a node touches can be made
  pub touch_exposes : (t : Touch) (s : Stop) → touches n ≡ Some t → any_stops (premises g j n) ≡ false → made_exposed (defs g) j.ctx.vars (or_one (type_of j t.x)) ≡ Err s → ⊥
  touch_exposes t s is h f =
      let e : list_any asked_stops (touch_asked g j n t) ≡ false = ap (λ (o : Option Touch). list_any asked_stops (node_asked g j n o)) (sym is) ∙ any_asked g j n h in
      channel_stops t.x (if is_provided j t.x then t.provided else t.used) (type_of j t.x) s e f

-- ---- spawns

truth_small : (k : ℕ) (f : Formula) → asked_stops (made_truth k f) ≡ false → all_small f ≡ true
unfolding asked_stops
truth_small k f e = by_case (all_small f) e
  where
    by_case : (b : Bool) → stops (premise_of (if◌then◌else◌ {A = ℕ × Asked} b (k, Is f) (k, Stopped stop.Coefficient)).1 []) ≡ false → b ≡ true
    by_case true h = refl
    by_case false h = cc

parts_small : (a b : Linear) → all_small (is_at_least a b) ≡ true → (is_small a ≡ true) × (is_small b ≡ true)
parts_small a b e = both_true (is_small a) (is_small b) (sym (all_small-Rel a b rel.Ge) ∙ e)

-- a callee's potential at the arguments can be made
pub spawn_small : (g : Program) (j : Judgement) (n : Node) (v k next : ℕ) (es : List Linear) (ys : List ℕ) (rs : List Ref) (d : Decl) → n ≡ node.Spawn v k es ys rs next → slice_get g.decls k ≡ Some d → any_stops (premises g j n) ≡ false →
    is_small (replaced es d.potential) ≡ true
unfolding asked_stops
spawn_small g j n v k next es ys rs d is found h =
    let e : list_any asked_stops (spawn_asked j es ys (Some d)) ≡ false = ap₂ (λ (m : Node) (o : Option Decl). list_any asked_stops (spawn_asked j es ys o)) is (sym found) ∙ ap (λ (m : Node). list_any asked_stops (asked g j m)) (sym is) ∙ any_asked g j n h in
    let more = or_false _ _ (sym (list_any-append asked_stops (map (λ x. (1, Is (nonneg x))) es) _) ∙ e) in
    let last = or_false _ _ (sym (list_any-append asked_stops (are_used j 2 [] ys) _) ∙ more.1) in
    let here = or_false (asked_stops (made_truth 3 (is_at_least j.potential (replaced es d.potential)))) _ last.1 in
    (parts_small j.potential (replaced es d.potential) (truth_small 3 _ here.0)).1

-- ---- delays

ticks_small : (g : Program) (j : Judgement) (t : Linear) (as' : List (Bool × Ty)) → list_any asked_stops (map (λ a. delay_asked g j t a.1) (filter (λ a. not (is_passed_over (defs g) j.ctx.vars a)) as')) ≡ false →
    list_all (λ a. has_ticks (defs g) j.ctx.vars a.1) as' ≡ true
unfolding asked_stops
ticks_small g j t [] h = refl
ticks_small g j t (a ∷ as') h =
    let e = or_false (asked_stops (delay_asked g j t a.1)) _ h in
    ap₂ (λ b c. b && c) (parts_small (before_delay (defs g) j.ctx.vars a.1).ticks t (truth_small 2 _ e.0)).0 (ticks_small g j t as' e.1)

split_types : (g : Program) (j : Judgement) (a : Ty) (us : List (ℕ × Ty)) → list_all (λ (b : Bool × Ty). has_ticks (defs g) j.ctx.vars b.1) (map (λ (u : ℕ × Ty). (false, u.1)) us ++ (true, a) ∷ []) ≡ true →
    (list_all (λ (u : ℕ × Ty). has_ticks (defs g) j.ctx.vars u.1) us ≡ true) × (has_ticks (defs g) j.ctx.vars a ≡ true)
split_types g j a [] h = (refl, (both_true (has_ticks (defs g) j.ctx.vars a) true h).0)
split_types g j a (u ∷ us) h =
    let e = both_true (has_ticks (defs g) j.ctx.vars u.1) _ h in
    let r = split_types g j a us e.1 in
    (ap₂ (λ b c. b && c) e.0 r.0, r.1)

-- the ticks before each type can be made
pub delay_small : (g : Program) (j : Judgement) (n : Node) (t : Linear) (next : ℕ) → n ≡ node.Delay t next → any_stops (premises g j n) ≡ false →
    (list_all (λ (u : ℕ × Ty). has_ticks (defs g) j.ctx.vars u.1) j.uses ≡ true) × (has_ticks (defs g) j.ctx.vars j.gives.1 ≡ true)
delay_small g j n t next is h =
    let e : list_any asked_stops (asked g j (node.Delay t next)) ≡ false = ap (λ (m : Node). list_any asked_stops (asked g j m)) (sym is) ∙ any_asked g j n h in
    split_types g j j.gives.1 j.uses (ticks_small g j t (all_types j) (or_false _ _ e).1)

-- ---- children

touched_x : Option Touch → ℕ → ℕ
touched_x None d = d
touched_x (Some t) d = t.x

-- only the head of the touched channel counts
pub child_touched : (g : Program) (j : Judgement) (n : Node) (t : Touch) (h : ℕ → Ty) → touches n ≡ Some t → child_at g j n h ≡ child_at g j n (λ x. h t.x)
unfolding touched_x
child_touched g j (node.Label x l m) t h e = ap (λ z. child_at g j (node.Label x l m) (λ y. h z)) (ap (λ o. touched_x o 0) e)
child_touched g j (node.Case x bs) t h e = ap (λ z. child_at g j (node.Case x bs) (λ y. h z)) (ap (λ o. touched_x o 0) e)
child_touched g j (node.Send x w rs m) t h e = ap (λ z. child_at g j (node.Send x w rs m) (λ y. h z)) (ap (λ o. touched_x o 0) e)
child_touched g j (node.Recv x v m) t h e = ap (λ z. child_at g j (node.Recv x v m) (λ y. h z)) (ap (λ o. touched_x o 0) e)
child_touched g j (node.Index x l m) t h e = ap (λ z. child_at g j (node.Index x l m) (λ y. h z)) (ap (λ o. touched_x o 0) e)
child_touched g j (node.Bind x v m) t h e = ap (λ z. child_at g j (node.Bind x v m) (λ y. h z)) (ap (λ o. touched_x o 0) e)
child_touched g j (node.Assert x m) t h e = ap (λ z. child_at g j (node.Assert x m) (λ y. h z)) (ap (λ o. touched_x o 0) e)
child_touched g j (node.Assume x m) t h e = ap (λ z. child_at g j (node.Assume x m) (λ y. h z)) (ap (λ o. touched_x o 0) e)
child_touched g j (node.Pay x m) t h e = ap (λ z. child_at g j (node.Pay x m) (λ y. h z)) (ap (λ o. touched_x o 0) e)
child_touched g j (node.Get x m) t h e = ap (λ z. child_at g j (node.Get x m) (λ y. h z)) (ap (λ o. touched_x o 0) e)
child_touched g j (node.Close x) t h e = refl
child_touched g j (node.Wait x m) t h e = refl
child_touched g j (node.Forward x y rs) t h e = refl
child_touched g j (node.Spawn v d es ys rs m) t h e = refl
child_touched g j (node.Call x d es ys rs) t h e = refl
child_touched g j node.Impossible t h e = refl
child_touched g j (node.Work r m) t h e = refl
child_touched g j (node.Delay r m) t h e = refl

pub child_untouched : (g : Program) (j : Judgement) (n : Node) (h k : ℕ → Ty) → touches n ≡ None → child_at g j n h ≡ child_at g j n k
child_untouched g j (node.Label x l m) h k e = absurd (cc)
child_untouched g j (node.Case x bs) h k e = absurd (cc)
child_untouched g j (node.Send x w rs m) h k e = absurd (cc)
child_untouched g j (node.Recv x v m) h k e = absurd (cc)
child_untouched g j (node.Index x l m) h k e = absurd (cc)
child_untouched g j (node.Bind x v m) h k e = absurd (cc)
child_untouched g j (node.Assert x m) h k e = absurd (cc)
child_untouched g j (node.Assume x m) h k e = absurd (cc)
child_untouched g j (node.Pay x m) h k e = absurd (cc)
child_untouched g j (node.Get x m) h k e = absurd (cc)
child_untouched g j (node.Close x) h k e = refl
child_untouched g j (node.Wait x m) h k e = refl
child_untouched g j (node.Forward x y rs) h k e = refl
child_untouched g j (node.Spawn v d es ys rs m) h k e = refl
child_untouched g j (node.Call x d es ys rs) h k e = refl
child_untouched g j node.Impossible h k e = refl
child_untouched g j (node.Work r m) h k e = refl
child_untouched g j (node.Delay r m) h k e = refl

-- ---- a judgement with another type at one channel

pub record IsKept (j k : Judgement) : Type 0 where
  pub decl : k.decl ≡ j.decl
  pub vars : k.ctx.vars ≡ j.ctx.vars
  pub premises : k.ctx.premises ≡ j.ctx.premises ++ []
  pub fresh : k.fresh ≡ j.fresh

pub kept_same : (j : Judgement) → IsKept j j
kept_same j = record { decl = refl; vars = refl; premises = sym (append-nil j.ctx.premises); fresh = refl }

pub kept_without : (j : Judgement) (ys : List ℕ) → IsKept j (without j ys)
kept_without j ys = record { decl = refl; vars = refl; premises = sym (append-nil j.ctx.premises); fresh = refl }

pub kept_type : (j k : Judgement) (x : ℕ) (a : Ty) → IsKept j k → IsKept j (with_type k x a)
kept_type j k x a h = by_case (is_provided k x)
  where
    by_case : (b : Bool) → IsKept j (if b then record k { gives = (x, a) } else record k { uses = set_key x a k.uses })
    by_case true = record { decl = h.decl; vars = h.vars; premises = h.premises; fresh = h.fresh }
    by_case false = record { decl = h.decl; vars = h.vars; premises = h.premises; fresh = h.fresh }

-- ---- a declaration's body

length_numbered : (k : ℕ) (as' : List Ty) → length (numbered k as') ≡ length as'
length_numbered k [] = refl
length_numbered k (a ∷ as') = ap suc (length_numbered (k + 1) as')

numbered_push : (k : ℕ) (as' : List Ty) (a : Ty) → numbered k (as' ++ a ∷ []) ≡ numbered k as' ++ (k + length as', a) ∷ []
numbered_push k [] a = ap (λ i. (i, a) ∷ []) (let e : k ≡ k + 0 = omega arith in e)
numbered_push k (b ∷ as') a = ap (λ us. (k, b) ∷ us) (numbered_push (k + 1) as' a ∙ ap (λ i. numbered (k + 1) as' ++ (i, a) ∷ []) (let e : k + 1 + length as' ≡ k + suc (length as') = omega arith in e))

pub numbered_turn : (as' : List Ty) (i : ℕ) (a : Ty) → i < length as' → a ≡ get_or as' i a → numbered 1 (take (i + 1) as') ≡ numbered 1 (take i as') ++ (i + 1, a) ∷ []
numbered_turn as' i a below is =
    ap (numbered 1) (ap (λ k. take k as') (add-one i) ∙ take-suc as' i a below ∙ ap (λ b. take i as' ++ b ∷ []) (sym is))
    ∙ numbered_push 1 (take i as') a ∙ ap (λ k. numbered 1 (take i as') ++ (k, a) ∷ []) (let e : 1 + length (take i as') ≡ i + 1 = omega (arith, length-take i as') in e)

pub root_is : (k : ℕ) (d : Decl) (us : Result (List (ℕ × Ty)) Stop) (g : Result Ty Stop) (q : Result Linear Stop) (c f : ℕ) →
    us ≡ made_uses d.params (numbered 1 d.uses) → g ≡ made_type d.params d.gives → q ≡ made_term d.potential → c ≡ min 16 (length d.uses) → f ≡ length d.uses + 1 →
    record { vars = d.params; uses = us; count = c; potential = q; provided = 0; gives = g; fresh = f } ≡ drafted (root k d)
root_is k d us g q c f e1 e2 e3 e4 e5 =
    let base : Draft = drafted (root k d) in
    let many : c ≡ min 16 (length (numbered 1 d.uses)) = e4 ∙ ap (min 16) (sym (length_numbered 1 d.uses)) in
    ap₂ (λ (vs : Result (List (ℕ × Ty)) Stop) (m : ℕ). record base { uses = vs; count = m; potential = q; gives = g; fresh = f }) e1 many
    ∙ ap₂ (λ (p : Result Linear Stop) (a : Result Ty Stop). record base { potential = p; gives = a; fresh = f }) e3 e2
    ∙ ap (λ i. record base { fresh = i }) e5
