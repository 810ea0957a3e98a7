-- A process that delays: each of its channels is seen as before, at a later moment.
use Rattle.std.proofs.Common.{◌≡◌, ℕ, ℤ, pos, ◌+ℤ◌, ◌+◌, ◌≤◌, Bool, true, false, not, List, [], ◌∷◌, ◌++◌, map, length, Option, refl, sym, ap, ◌∙◌, subst, arith, if◌then◌else◌, ltb-false}
use Rattle.std.specs.Prelude.{filter}
use Rattle.std.specs.List.{list_any}
use Rattle.std.proofs.lemmas.Int.{ints}
use Rattle.rast_index.specs.Linear.{Linear, value, whole, less, is_nought}
use Rattle.rast_index.specs.Truth.{truth, Follows, is_at_least, all_small}
use Rattle.rast_index.specs.declared.formula.Formula.{Formula}
use Rattle.rast_types.specs.declared.stop.Stop.TheVariants as stop
use Rattle.rast_types.specs.declared.ty.Ty.{Ty}
use Rattle.rast_types.specs.declared.ty.Ty.TheVariants as ty
use Rattle.rast_types.specs.Closed.{Closed, closed, Table, exposed, View, view, Serves}
use Rattle.rast_types.specs.Symbolic.{binders, is_deep, is_scoped, Timed, timed_type, before_delay, after_delay, is_passed_over}
use Rattle.rast_equal.specs.Valid.{nonneg}
use Rattle.rast_terms.specs.declared.node.Node.TheVariants as node
use Rattle.rast_rules.specs.declared.judgement.Judgement.{Judgement}
use Rattle.rast_terms.specs.declared.program.Program.{Program}
use Rattle.rast_rules.specs.Rules.{IsJudgement, Asked, Is, Stopped, defs, delay_asked, delayed}
use Rattle.rast_items.specs.Deeds.{Code, act, at_values, delays, first}
use Rattle.rast_order.proofs.Words.{Link, Proc, Side, Client, Provider}
use Rattle.rast_equal.proofs.Equals.{heads_sym, HasHead}
use Rattle.rast_laws.proofs.Serving.{serves_trans, serves_again}
use Rattle.rast_equal.proofs.Proper.{Proper, proper_head, proper_heads}
use Rattle.rast_laws.proofs.Channels.{Ties, SeenAt, AreSeen}
use Rattle.rast_laws.proofs.Fine.{Stands}
use Rattle.rast_laws.proofs.Lawful.{DeedFine}
use Rattle.rast_laws.proofs.Judged.{AllAsked, IsTrueAsked, Limited, judged_limited}
use Rattle.rast_equal.proofs.Every.{either_false}
use Rattle.rast_laws.proofs.Shapes.{AllScoped}
use Rattle.rast_equal.proofs.Substitution.{binders_out, binders_layer}
use Rattle.rast_laws.proofs.Meeting.{followed}
use Rattle.rast_equal.proofs.Truths.{nonneg_true}
use Rattle.rast_laws.proofs.Standing.{Standing, child_of}
use Rattle.rast_laws.proofs.Naturals.{natural_fine}
use Rattle.rast_laws.proofs.Delayed.{Earlier, delayed_earlier}

-- ---- views

moment_ticks : (m q : ℕ) (x y : ℤ) → pos q +ℤ y ≡ x → pos (m + q) +ℤ y ≡ pos m +ℤ x
moment_ticks m q x y e = omega (arith, ints, e)

ties_later : (t : Table) (s : Side) (m q : ℕ) (x y : Closed) (due : View) → Serves t (view m x) (view (m + q) y) → Serves t (view (m + q) y) (view m x) → Ties t s (view m x) due → Ties t s (view (m + q) y) due
ties_later t Provider m q x y due f b h = serves_trans t (view (m + q) y) (view m x) due b h
ties_later t Client m q x y due f b h = serves_trans t due (view m x) (view (m + q) y) h f

-- a link is seen at the same head so many ticks earlier, where the moment is so much later
pub seen_later : (t : Table) (d : Link → Option View) (m q : ℕ) (s : Side) (l : Link) (x y : Closed) → Earlier t x y q → SeenAt t d m s l x → SeenAt t d (m + q) s l y
seen_later t d m q s l x y e h =
    let p : Proper t y = proper_heads t x y e.heads h.proper in
    let k : HasHead t x = proper_head t x h.proper in
    let j : HasHead t y = proper_head t y p in
    let a : pos (m + q) +ℤ (exposed t y).ticks ≡ pos m +ℤ (exposed t x).ticks = moment_ticks m q (exposed t x).ticks (exposed t y).ticks e.ticks in
    record {
      due = h.due;
      is = h.is;
      due_proper = h.due_proper;
      ties = ties_later t s m q x y h.due (serves_again t m (m + q) x y (sym a) k j e.heads) (serves_again t (m + q) m y x a j k (heads_sym t (exposed t x).head (exposed t y).head e.heads)) h.ties;
      proper = p;
    }

-- ---- the types of a judgement

pub made_follows : (g : Program) (j : Judgement) (k : ℕ) (f : Formula) (b : Bool) → (let x : ℕ × Asked = (if b then (k, Is f) else (k, Stopped stop.Coefficient)) in IsTrueAsked g j x.1) → Follows j.ctx.vars j.ctx.premises f
made_follows g j k f true h = h
made_follows g j k f false h = absurd h

binders_after : (e : Timed) (b : Bool) → binders (if b then e.body else ty.Next e.ticks e.body) ≡ binders e.body
binders_after e true = refl
binders_after e false = binders_out (ty.Next e.ticks e.body) ∙ ap (λ x. binders_layer x) (ty.outs-Next e.ticks e.body)

-- a type that may be delayed by so much: its ticks are at least that, and the type after the delay is within the limits
record Delayable (t : Table) (n : ℕ) (by : Linear) (vs : List ℕ) (a : Ty) : Type 0 where
  scoped : is_scoped n a ≡ true
  shallow : n + binders (before_delay t n a).body ≤ 16
  allowed : truth (is_at_least (before_delay t n a).ticks by) (whole vs) ≡ true

abbrev AllDelayable : Table → ℕ → Linear → List ℕ → List (ℕ × Ty) → Type 0
AllDelayable t n by vs [] = Unit {0}
AllDelayable t n by vs (u ∷ us) = Delayable t n by vs u.1 × AllDelayable t n by vs us

delayable : (g : Program) (j : Judgement) (by : Linear) (provided : Bool) (vs : List ℕ) (a : Ty) → is_scoped j.ctx.vars a ≡ true → IsTrueAsked g j (delay_asked g j by a).1 → is_deep j.ctx.vars (after_delay (defs g) j.ctx.vars by provided a) ≡ false → ((f : Formula) → Follows j.ctx.vars j.ctx.premises f → truth f (whole vs) ≡ true) → Delayable (defs g) j.ctx.vars by vs a
delayable g j by provided vs a s h deep holds =
    let t : Table = defs g in
    let n : ℕ = j.ctx.vars in
    let e : Timed = before_delay t n a in
    let after : Timed = record { ticks = less e.ticks by; body = e.body } in
    let few : n + binders (timed_type after) ≤ 16 = ltb-false 16 (n + binders (timed_type after)) deep in
    record {
      scoped = s;
      shallow = subst (λ (m : ℕ). n + m ≤ 16) (binders_after after (is_nought after.ticks)) few;
      allowed = holds (is_at_least e.ticks by) (made_follows g j 2 (is_at_least e.ticks by) (all_small (is_at_least e.ticks by)) h);
    }

-- the types of all channels, the provided one last
all_delayable : (g : Program) (j : Judgement) (by : Linear) (vs : List ℕ) (us : List (ℕ × Ty)) (b : Ty) → AllScoped j.ctx.vars us → is_scoped j.ctx.vars b ≡ true → AllAsked g j (map (λ a. delay_asked g j by a.1) (filter (λ a. not (is_passed_over (defs g) j.ctx.vars a)) (map (λ (u : ℕ × Ty). (false, u.1)) us ++ (true, b) ∷ []))) →
    list_any (λ (a : Bool × Ty). is_deep j.ctx.vars a.1) (map (λ (u : ℕ × Ty). (false, u.1)) (map (λ (u : ℕ × Ty). (u.0, after_delay (defs g) j.ctx.vars by false u.1)) us) ++ (true, after_delay (defs g) j.ctx.vars by true b) ∷ []) ≡ false → ((f : Formula) → Follows j.ctx.vars j.ctx.premises f → truth f (whole vs) ≡ true) → AllDelayable (defs g) j.ctx.vars by vs us × Delayable (defs g) j.ctx.vars by vs b
all_delayable g j by vs [] b s sb h deep holds = (tt, delayable g j by true vs b sb h.0 (either_false (is_deep j.ctx.vars (after_delay (defs g) j.ctx.vars by true b)) false deep).0 holds)
all_delayable g j by vs (u ∷ us) b s sb h deep holds =
    let k = either_false (is_deep j.ctx.vars (after_delay (defs g) j.ctx.vars by false u.1)) (list_any (λ (a : Bool × Ty). is_deep j.ctx.vars a.1) (map (λ (u : ℕ × Ty). (false, u.1)) (map (λ (u : ℕ × Ty). (u.0, after_delay (defs g) j.ctx.vars by false u.1)) us) ++ (true, after_delay (defs g) j.ctx.vars by true b) ∷ [])) deep in
    let r = all_delayable g j by vs us b s.1 sb h.1 k.1 holds in
    ((delayable g j by false vs u.1 s.0 h.0 k.0 holds, r.0), r.1)

seen_delayed : (t : Table) (d : Link → Option View) (n m q : ℕ) (by : Linear) (provided : Bool) (vs : List ℕ) (s : Side) (l : Link) (a : Ty) → Delayable t n by vs a → length vs ≡ n → n ≤ 16 → value by (whole vs) ≡ pos q → SeenAt t d m s l (closed a (whole vs)) → SeenAt t d (m + q) s l (closed (after_delay t n by provided a) (whole vs))
seen_delayed t d n m q by provided vs s l a h e few v x =
    seen_later t d m q s l (closed a (whole vs)) (closed (after_delay t n by provided a) (whole vs)) (delayed_earlier t n by provided a vs q (proper_head t (closed a (whole vs)) x.proper) h.scoped e few h.shallow v h.allowed) x

are_delayed : (t : Table) (d : Link → Option View) (n m q : ℕ) (by : Linear) (vs : List ℕ) (us : List (ℕ × Link)) (as' : List (ℕ × Ty)) → AllDelayable t n by vs as' → length vs ≡ n → n ≤ 16 → value by (whole vs) ≡ pos q → AreSeen t d m (whole vs) us as' → AreSeen t d (m + q) (whole vs) us (map (λ u. (u.0, after_delay t n by false u.1)) as')
are_delayed t d n m q by vs [] [] h e few v x = tt
are_delayed t d n m q by vs [] (a ∷ as') h e few v x = absurd x
are_delayed t d n m q by vs (u ∷ us) [] h e few v x = absurd x
are_delayed t d n m q by vs (u ∷ us) (a ∷ as') h e few v x = (x.0, seen_delayed t d n m q by false vs Client u.1 a.1 h.0 e few v x.1, are_delayed t d n m q by vs us as' h.1 e few v x.2)

-- ---- the process

pub delay_fine : (c : Code) (d : Link → Option View) (amount : Linear) (positive : Bool) (k : ℕ) (p : Proc) (j : Judgement) (by : Linear) (n : ℕ) → Standing c.program d p j (node.Delay by n) → DeedFine c d p (act c.program amount positive k p (node.Delay by n))
delay_fine c d amount positive k p j by n s =
    let g : Program = c.program in
    let st : Stands g d p j = s.stands in
    let v = nonneg_true by (whole p.values) (followed g d p j (nonneg by) st s.asked_true.0) in
    let child : IsJudgement g n (delayed g j by) = child_of g d p j (node.Delay by n) 0 n (delayed g j by) s refl refl in
    let few : Limited (delayed g j by) = judged_limited g n (delayed g j by) child in
    let all = all_delayable g j by p.values j.uses j.gives.1 s.shape.uses s.shape.gives s.asked_true.1 few.shallow (λ f h. followed g d p j f st h) in
    natural_fine c d p (at_values p by) v.0 (λ ns. delays p n (first ns)) v.1 (
      delayed g j by,
      child,
      record {
        vars = st.vars;
        premises = st.premises;
        potential = st.potential;
        fresh = st.fresh;
        provided = st.provided;
        gives = seen_delayed (defs g) d j.ctx.vars p.moment v.0 by true p.values Provider p.own j.gives.1 all.1 st.vars s.limits.vars v.1 st.gives;
        uses = are_delayed (defs g) d j.ctx.vars p.moment v.0 by p.values p.uses j.uses all.0 st.vars s.limits.vars v.1 st.uses;
      },
    )
