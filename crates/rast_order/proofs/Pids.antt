-- Each process of a run has a number of its own.
use Rattle.std.proofs.Common.{◌≡◌, ℕ, Bool, true, false, cond, ◌≤◌, ◌+◌, ◌==◌, List, [], ◌∷◌, ◌++◌, ◌⊎◌, Option, Some, None, inl, inr, arith, refl, sym, ap, subst, length, eqb-true}
use Rattle.rast_items.specs.Items.{same_pid, pid_at, total}
use Rattle.rast_items.specs.Deeds.{Code}
use Rattle.rast_items.specs.Step.{rest_items, put_beside, moved}
use Rattle.rast_items.specs.Run.{State, numbered_as, ArePidsApart, state_after, pid_of, IsRunFrom, IsRun, born}
use Rattle.rast_order.proofs.Words.{Pid, Item, P, M, Proc, Msg, Side, Client, Provider, Event, Send, Take, Move, Spawn, Call, Work, Delay}
use Rattle.rast_order.proofs.Counts.{total-append}
use Rattle.rast_order.proofs.Deeds.{PutSound, MakeSound, DeedSound, deed_sound}
use Rattle.rast_order.proofs.Received.{took_over}
use Rattle.rast_order.proofs.View.{StepView, puts, takes_client, takes_provider, moves_client, moves_provider, makes, stays, step_view}
use Rattle.rast_order.proofs.Steps.{many_after, born_many, alone_links}
use Rattle.rast_order.proofs.Runs.{start_is}

-- how many processes of a list have this number
abbrev pub named : Pid → List Item → ℕ
named k items = total (numbered_as k) items

abbrev pub is_of : Pid → Pid → ℕ
is_of k j = cond (same_pid j k) 1 0

pub named-append : (k : Pid) (xs ys : List Item) → named k (xs ++ ys) ≡ named k xs + named k ys
named-append k xs ys = total-append (numbered_as k) xs ys

-- a process that an event makes has the number of the next one
abbrev pub made_by : ℕ → Event → Pid → ℕ
made_by many (Spawn pid child decl moment) k = is_of k (pid_at many)
made_by many e k = 0

abbrev NamesAfter : ℕ → List Item → List Item → Event → Type 0
NamesAfter many old new e = (k : Pid) → named k new ≤ named k old + made_by many e k

lift : (many : ℕ) (items new was now : List Item) (e f : Event) → items ≡ was → new ≡ now → e ≡ f → NamesAfter many was now f → NamesAfter many items new e
lift many items new was now e f w n v h = subst (λ x. NamesAfter many items new x) (sym v) (subst (λ x. NamesAfter many items x f) (sym n) (subst (λ x. NamesAfter many x now f) (sym w) h))

put_names : (many : ℕ) (before after : List Item) (p : Proc) (m : Msg) (s : Side) (rest : Option Proc) (e : Event) → PutSound p m s rest → NamesAfter many (before ++ (P p ∷ after)) (before ++ (put_beside s m (rest_items rest) ++ after)) e
put_names many before after p m Client None e d k = omega (arith, named-append k before (M m ∷ after), named-append k before (P p ∷ after))
put_names many before after p m Client (Some q) e d k = omega (arith, ap (is_of k) d.pid, named-append k before (M m ∷ P q ∷ after), named-append k before (P p ∷ after))
put_names many before after p m Provider None e d k = absurd d
put_names many before after p m Provider (Some q) e d k = omega (arith, ap (is_of k) d.pid, named-append k before (P q ∷ M m ∷ after), named-append k before (P p ∷ after))

alone_names : (many : ℕ) (before after : List Item) (p rest : Proc) (e : Event) → rest.pid ≡ p.pid → NamesAfter many (before ++ (P p ∷ after)) (before ++ (P rest ∷ after)) e
alone_names many before after p rest e i k = omega (arith, ap (is_of k) i, named-append k before (P p ∷ after), named-append k before (P rest ∷ after))

step_names : (c : Code) (many : ℕ) (pid : Pid) (items new : List Item) (e : Event) → StepView c many pid items new e → NamesAfter many items new e
step_names c many pid items new e (puts v) =
    let d : PutSound v.p v.m v.m.toward v.rest = subst (DeedSound many v.p) v.does (deed_sound c many v.p) in
    lift many items new _ _ e _ v.was v.now refl (put_names many v.before v.after v.p v.m v.m.toward v.rest e d)
step_names c many pid items new e (takes_client v) =
    let i = (took_over c v.p v.q v.m v.leaves).pid in
    lift many items new _ _ e _ v.was v.now refl (λ k. omega (arith, ap (is_of k) i, named-append k v.before (P v.p ∷ (v.between ++ (M v.m ∷ v.after))), named-append k v.between (M v.m ∷ v.after), named-append k v.before (P v.q ∷ (v.between ++ v.after)), named-append k v.between v.after))
step_names c many pid items new e (takes_provider v) =
    let i = (took_over c v.p v.q v.m v.leaves).pid in
    lift many items new _ _ e _ v.was v.now refl (λ k. omega (arith, ap (is_of k) i, named-append k v.before (M v.m ∷ (v.between ++ (P v.p ∷ v.after))), named-append k v.between (P v.p ∷ v.after), named-append k v.before (P v.q ∷ (v.between ++ v.after)), named-append k v.between v.after))
step_names c many pid items new e (moves_client v) =
    let n : Msg = moved v.m v.p.own in
    lift many items new _ _ e _ v.was v.now refl (λ k. omega (arith, named-append k v.before (P v.p ∷ (v.between ++ (M v.m ∷ v.after))), named-append k v.between (M v.m ∷ v.after), named-append k v.before (v.between ++ (M n ∷ v.after)), named-append k v.between (M n ∷ v.after)))
step_names c many pid items new e (moves_provider v) =
    let n : Msg = moved v.m v.other in
    lift many items new _ _ e _ v.was v.now refl (λ k. omega (arith, named-append k v.before (M v.m ∷ (v.between ++ (P v.p ∷ v.after))), named-append k v.between (P v.p ∷ v.after), named-append k v.before (M n ∷ (v.between ++ v.after)), named-append k v.between v.after))
step_names c many pid items new e (makes v) =
    let d : MakeSound many v.p v.child v.rest = subst (DeedSound many v.p) v.does (deed_sound c many v.p) in
    lift many items new _ _ e _ v.was v.now v.event (λ k. omega (arith, ap (is_of k) d.pid, ap (is_of k) d.child_pid, named-append k v.before (P v.p ∷ v.after), named-append k v.before (P v.rest ∷ P v.child ∷ v.after)))
step_names c many pid items new e (stays v) =
    lift many items new _ _ e _ v.was v.now refl (alone_names many v.before v.after v.p v.rest e (alone_links c many v.p v.rest v.way v.does).pid)

-- ---- whole runs

is_of_cases : (k : Pid) (j : ℕ) → (k.0 ≡ j) ⊎ (is_of k (pid_at j) ≡ 0)
is_of_cases k j = pick (j == k.0) refl
  where
    pick : (b : Bool) → (j == k.0) ≡ b → (k.0 ≡ j) ⊎ (is_of k (pid_at j) ≡ 0)
    pick true e = inl (sym (eqb-true j k.0 e))
    pick false e = inr (grind arith)

is_of_one : (k : Pid) (j : Pid) → is_of k j ≤ 1
is_of_one k j = grind arith

made_le : (many : ℕ) (e : Event) (k : Pid) → (made_by many e k ≡ 0) ⊎ ((k.0 ≡ many) × (made_by many e k ≤ 1) × (many_after many e ≡ many + 1))
made_le many (Spawn pid child decl moment) k = pick (is_of_cases k many)
  where
    pick : (k.0 ≡ many) ⊎ (is_of k (pid_at many) ≡ 0) → (is_of k (pid_at many) ≡ 0) ⊎ ((k.0 ≡ many) × (is_of k (pid_at many) ≤ 1) × (many + 1 ≡ many + 1))
    pick (inl e) = inr (e, is_of_one k (pid_at many), refl)
    pick (inr z) = inl z
made_le many (Send pid link body moment potential) k = inl refl
made_le many (Take pid link body moment) k = inl refl
made_le many (Move pid from to body moment) k = inl refl
made_le many (Call pid decl moment) k = inl refl
made_le many (Work pid amount moment) k = inl refl
made_le many (Delay pid ticks moment) k = inl refl

many_grows : (many : ℕ) (e : Event) → many ≤ many_after many e
many_grows many (Send pid link body moment potential) = omega arith
many_grows many (Take pid link body moment) = omega arith
many_grows many (Move pid from to body moment) = omega arith
many_grows many (Spawn pid child decl moment) = omega arith
many_grows many (Call pid decl moment) = omega arith
many_grows many (Work pid amount moment) = omega arith
many_grows many (Delay pid ticks moment) = omega arith

names_apart : (st : State) (e : Event) (items : List Item) → ArePidsApart st → NamesAfter (length st.births) st.items items e → ArePidsApart (state_after st e items)
names_apart st e items a h = record {
  once = λ k. once k (made_le (length st.births) e k);
  made = λ k b. made k b (made_le (length st.births) e k);
}
  where
    once : (k : Pid) → (made_by (length st.births) e k ≡ 0) ⊎ ((k.0 ≡ length st.births) × (made_by (length st.births) e k ≤ 1) × (many_after (length st.births) e ≡ length st.births + 1)) → named k items ≤ 1
    once k (inl z) = omega (arith, a.once k, h k, z)
    once k (inr z) = omega (arith, a.made k (omega (arith, z.0)), h k, z.1)

    made : (k : Pid) → length (st.births ++ born e items) ≤ k.0 → (made_by (length st.births) e k ≡ 0) ⊎ ((k.0 ≡ length st.births) × (made_by (length st.births) e k ≤ 1) × (many_after (length st.births) e ≡ length st.births + 1)) → named k items ≡ 0
    made k b (inl z) = omega (arith, a.made k (omega (arith, b, born_many st e items, many_grows (length st.births) e)), h k, z)
    made k b (inr z) = absurd (omega (arith, b, born_many st e items, z.0, z.2))

pub step_pids : (c : Code) (st : State) (e : Event) (items : List Item) → ArePidsApart st → StepView c (length st.births) (pid_of e) st.items items e → ArePidsApart (state_after st e items)
step_pids c st e items a v = names_apart st e items a (step_names c (length st.births) (pid_of e) st.items items e v)

run_from_pids : (c : Code) (es : List Event) (begin st : State) → ArePidsApart begin → IsRunFrom c begin es st → ArePidsApart st
run_from_pids c [] begin st a r = subst ArePidsApart (sym r) a
run_from_pids c (e ∷ es) begin st a r =
    run_from_pids c es (state_after begin e r.0) st (step_pids c begin e r.0 a (step_view c (length begin.births) (pid_of e) begin.items r.0 e r.1)) r.2

alone_apart : (p : Proc) → p.pid ≡ pid_at 0 → (st : State) → st.items ≡ P p ∷ [] → length st.births ≡ 1 → ArePidsApart st
alone_apart p i st t n = record {
  once = λ k. omega (arith, ap (named k) t, is_of_one k p.pid);
  made = λ k h. omega (arith, ap (named k) t, later k h (is_of_cases k 0), ap (is_of k) i);
}
  where
    later : (k : Pid) → length st.births ≤ k.0 → (k.0 ≡ 0) ⊎ (is_of k (pid_at 0) ≡ 0) → is_of k (pid_at 0) ≡ 0
    later k h (inl e) = absurd (omega (arith, h, n, e))
    later k h (inr z) = z

-- no two processes have the same number, and the next child's number is free
pub run_keeps_pids : (c : Code) (es : List Event) (st : State) → IsRun c es st → ArePidsApart st
run_keeps_pids c es st r =
    let i = start_is c.program r.0 r.1 in
    run_from_pids c es r.0 st (alone_apart _ refl r.0 (ap (λ x. x.items) i.is) (ap (λ x. length x.births) i.is)) r.2
