-- Bounds of a configuration, and where its processes stand.
use Rattle.std.proofs.Common.{◌≡◌, ℕ, zero, suc, Bool, true, false, cond, ◌+◌, ◌-◌, ◌^◌, ◌<◌, ◌≤◌, List, [], ◌∷◌, ◌++◌, Option, Some, None, refl, sym, ap, ap₂, ◌∙◌, subst, arith, length, take, drop, inl, inr}
use Rattle.std.specs.Prelude.{slice_get, All, option_to_list, ◌⊎◌}
use Rattle.std.proofs.lemmas.List.{length-map}
use Rattle.std.proofs.lemmas.List.Elements.{All-cons, All-nil}
use Rattle.std.proofs.lemmas.Bool.{eqb-true, eq-eqb, ne_eqb, cases_eq}
use Rattle.rast_terms.specs.declared.program.Program.{Program}
use Rattle.rast_core.specs.Words.{Link, Pid, Msg, Item, P, M, Proc, Event, Send, Take, Move, Spawn, Call, Work, Delay}
use Rattle.rast_items.specs.Items.{same_pid, pid_at, link_at, total, held}
use Rattle.rast_items.specs.Deeds.{Code, deed}
use Rattle.rast_items.specs.Step.{Cut, cut, cut_more, is_proc, Next, Ready, Waits, Halted, Ended, Stuck, does, at_cut, step}
use Rattle.rast_items.specs.Run.{numbered_as, born, work_by}
use Rattle.rast_items.specs.Slack.{IsOpen, HasSlack, IsItemSlack}
use Rattle.rast_core.specs.Shown.{Shown, origin, code_of, next_of}
use Rattle.rast_core.specs.Bounds.{IsBounded}
use Rattle.rast_core.specs.Promises.{Leaves}
use Rattle.rast_core.specs.declared.answer.Next.TheVariants.{Ready as NReady}
use Rattle.rast_core.specs.Edits.{IsCutAt, StandsAt, Decides, edited, IsApt, IsStepEdit}
use Rattle.rast_core.specs.declared.origin.Origin.{Origin}
use Rattle.rast_core.specs.declared.decision.Edit.{Edit}
use Rattle.rast_core.specs.declared.decision.Decision.{Decision}
use Rattle.rast_core.specs.declared.decision.Decision.TheVariants.{Does as Do}
use Rattle.rast_core.proofs.Cuts.{cut_on, cut_at, passes_at}
use Rattle.rast_core.proofs.StepBounds.{born_as, step_holds}

-- ---- processes have different numbers

pub passing_number : (pid : Pid) (x : Item) → is_proc pid x ≡ true → numbered_as pid x ≡ 1
passing_number pid (P p) h = ap (λ b. cond b 1 0) h
passing_number pid (M m) h = cc

number_within : (pid : Pid) (xs : List Item) (i : ℕ) (x : Item) → slice_get xs i ≡ Some x → is_proc pid x ≡ true → 1 ≤ total (numbered_as pid) xs
number_within pid [] zero x h t = cc
number_within pid [] (suc i) x h t = cc
number_within pid (y ∷ xs) zero x h t = let e : y ≡ x = cc in omega (arith, ap (numbered_as pid) e, passing_number pid x t)
number_within pid (y ∷ xs) (suc i) x h t = omega (arith, number_within pid xs i x h t)

first_by : (pid : Pid) (y : Item) (xs : List Item) (b : Bool) → is_proc pid y ≡ b → numbered_as pid y + total (numbered_as pid) xs ≤ 1 → 1 ≤ total (numbered_as pid) xs → b ≡ false
first_by pid y xs true e h k = absurd (omega (arith, passing_number pid y e, h, k))
first_by pid y xs false e h k = refl

pub unique_place : (pid : Pid) (xs : List Item) (i : ℕ) (x : Item) → total (numbered_as pid) xs ≤ 1 → slice_get xs i ≡ Some x → is_proc pid x ≡ true → cut (is_proc pid) (take i xs) ≡ None
unique_place pid xs zero x h g t = refl
unique_place pid [] (suc i) x h g t = refl
unique_place pid (y ∷ xs) (suc i) x h g t =
    let n = number_within pid xs i x g t in
    let f = first_by pid y xs (is_proc pid y) refl h n in
    cut_on (is_proc pid) y (take i xs) false f ∙ ap (cut_more y) (unique_place pid xs i x (omega (arith, h)) g t)

pub unique_cut : (pid : Pid) (xs : List Item) (i : ℕ) (x : Item) → total (numbered_as pid) xs ≤ 1 → slice_get xs i ≡ Some x → is_proc pid x ≡ true → IsCutAt (is_proc pid) xs i
unique_cut pid xs i x h g t = cut_at (is_proc pid) xs i x (unique_place pid xs i x h g t) g t

pub stands_cut : (pid : Pid) (xs : List Item) (i : ℕ) → total (numbered_as pid) xs ≤ 1 → StandsAt (is_proc pid) xs i → IsCutAt (is_proc pid) xs i
stands_cut pid xs i h s = unique_cut pid xs i s.item h s.get s.is

-- ---- the step of the process at a place

pub same_pids : (a b : Pid) → same_pid a b ≡ true → a ≡ b
same_pids a b h = ap (λ (n : ℕ). (let q : Pid = record { 0 = n } in q)) (eqb-true a.0 b.0 h)

some_same : {A : Type 0} (x y : A) → Some x ≡ Some y → x ≡ y
some_same x y h = cc

pub cut_item : (test : Item → Bool) (xs : List Item) (i : ℕ) (x : Item) (k : IsCutAt test xs i) → slice_get xs i ≡ Some x → cut test xs ≡ Some (record { before = take i xs; item = x; after = drop (i + 1) xs })
cut_item test xs i x k h = k.is ∙ ap (λ (y : Item). Some (let c : Cut = record { before = take i xs; item = y; after = drop (i + 1) xs } in c)) (some_same k.item x (sym k.get ∙ h))

pub step_at : (c : Code) (k : ℕ) (pid : Pid) (items : List Item) (i : ℕ) (p : Proc) → IsCutAt (is_proc pid) items i → slice_get items i ≡ Some (P p) → step c k pid items ≡ does c (take i items) p (drop (i + 1) items) (deed c k p)
step_at c k pid items i p t h = ap (at_cut c k) (cut_item (is_proc pid) items i (P p) t h)

pub item_passes : (test : Item → Bool) (xs : List Item) (i : ℕ) (x : Item) → IsCutAt test xs i → slice_get xs i ≡ Some x → test x ≡ true
item_passes test xs i x k h = ap test (sym (some_same k.item x (sym k.get ∙ h))) ∙ passes_at test xs i k

pub pid_here : (pid : Pid) (items : List Item) (i : ℕ) (p : Proc) → IsCutAt (is_proc pid) items i → slice_get items i ≡ Some (P p) → p.pid ≡ pid
pid_here pid items i p k h = same_pids p.pid pid (item_passes (is_proc pid) items i (P p) k h)

pub no_message_here : (pid : Pid) (items : List Item) (i : ℕ) (m : Msg) → IsCutAt (is_proc pid) items i → slice_get items i ≡ Some (M m) → ⊥
no_message_here pid items i m k h = let e : false ≡ true = item_passes (is_proc pid) items i (M m) k h in cc

-- ---- bounds of the beginning

begun_number : (k : Pid) (p : Proc) → p.pid ≡ pid_at 0 → 1 ≤ k.0 → total (numbered_as k) (P p ∷ []) ≡ 0
begun_number k p e h =
    let n : 0 ≡ k.0 → ⊥ = λ z. absurd (omega (arith, z, h)) in
    omega (arith, ap {B = ℕ} (λ (q : Pid). cond (same_pid q k) 1 0) e, ap {B = ℕ} (λ b. cond b 1 0) (ne_eqb 0 k.0 n))

one_at_most : (b : Bool) → cond b 1 0 ≤ 1
one_at_most true = omega arith
one_at_most false = omega arith

pub begun_bounded : (p : Proc) (room : ℕ) → room + 64 < 2 ^ 32 → p.pid ≡ pid_at 0 → p.own ≡ link_at 0 0 → p.uses ≡ [] → p.fresh ≡ 1 → p.moment ≡ 0 → p.spawned ≡ 0 → p.steps ≡ 0 → p.potential < 2 ^ 32 → IsBounded (P p ∷ []) 1 room
begun_bounded p room b i o u f m w t q =
    let h : HasSlack (room + 1) p = record {
      own = subst (IsOpen (room + 1)) (sym o) (let g : IsOpen (room + 1) (link_at 0 0) = omega (arith, b) in g);
      uses = subst (All (λ (e : ℕ × Link). IsOpen (room + 1) e.1)) (sym u) (All-nil (λ (e : ℕ × Link). IsOpen (room + 1) e.1));
      fresh = omega (arith, f, b);
      moment = omega (arith, m, b);
      spawned = omega (arith, w, b);
      steps = omega (arith, t, b);
    } in
    record {
      slack = All-cons (IsItemSlack (room + 1)) (P p) [] (h, omega (arith, ap length u)) (All-nil (IsItemSlack (room + 1)));
      potential = omega (arith, q);
      once = λ k. omega (arith, one_at_most (same_pid p.pid k));
      unmade = λ k h. begun_number k p i h;
      room = omega (arith, b);
    }

-- ---- bounds after a step

pub born_many : (e : Event) (new : List Item) (k : ℕ) (j : Pid) → born_as k j e ≤ length (born e new)
born_many (Send pid link body moment potential) new k j = omega arith
born_many (Take pid link body moment) new k j = omega arith
born_many (Move pid from to body moment) new k j = omega arith
born_many (Spawn pid child d moment) new k j = one_at_most (same_pid (pid_at k) j)
born_many (Call pid d moment) new k j = omega arith
born_many (Work pid amount moment) new k j = omega arith
born_many (Delay pid ticks moment) new k j = omega arith

pub born_few : (e : Event) (new : List Item) → length (born e new) ≤ 1
born_few (Send pid link body moment potential) new = omega arith
born_few (Take pid link body moment) new = omega arith
born_few (Move pid from to body moment) new = omega arith
born_few (Spawn pid child d moment) new = omega arith
born_few (Call pid d moment) new = omega arith
born_few (Work pid amount moment) new = omega arith
born_few (Delay pid ticks moment) new = omega arith

-- an event makes no other process than the next
born_here : (e : Event) (k : ℕ) (j : Pid) → (k ≡ j.0 → ⊥) → born_as k j e ≡ 0
born_here (Send pid link body moment potential) k j h = refl
born_here (Take pid link body moment) k j h = refl
born_here (Move pid from to body moment) k j h = refl
born_here (Spawn pid child d moment) k j h = ap (λ b. cond b 1 0) (ne_eqb k j.0 h)
born_here (Call pid d moment) k j h = refl
born_here (Work pid amount moment) k j h = refl
born_here (Delay pid ticks moment) k j h = refl

born_none : (e : Event) (new : List Item) (k : ℕ) (j : Pid) → length (born e new) ≡ 0 → born_as k j e ≡ 0
born_none e new k j h = let n = born_many e new k j in omega (arith, n, h)

once_by : (items new : List Item) (made : ℕ) (j : Pid) (e : Event) → ((k : Pid) → total (numbered_as k) items ≤ 1) → ((k : Pid) → made ≤ k.0 → total (numbered_as k) items ≡ 0) → total (numbered_as j) new ≤ total (numbered_as j) items + born_as made j e → (made ≡ j.0) ⊎ (made ≡ j.0 → ⊥) → total (numbered_as j) new ≤ 1
once_by items new made j e once unmade n (inl h) = omega (arith, unmade j (omega (arith, h)), n, born_many e new made j, born_few e new)
once_by items new made j e once unmade n (inr h) = omega (arith, once j, n, born_here e made j h)

unmade_by : (items new : List Item) (made : ℕ) (j : Pid) (e : Event) (b : ℕ) → length (born e new) ≡ b → ((k : Pid) → made ≤ k.0 → total (numbered_as k) items ≡ 0) → total (numbered_as j) new ≤ total (numbered_as j) items + born_as made j e → made + b ≤ j.0 → total (numbered_as j) new ≡ 0
unmade_by items new made j e zero q unmade n h = omega (arith, unmade j (omega (arith, h)), n, born_none e new made j q)
unmade_by items new made j e (suc b) q unmade n h = omega (arith, unmade j (omega (arith, h)), n, born_here e made j (λ k. omega (arith, k, h)))

pub bounded_after : (c : Code) (pid : Pid) (items new : List Item) (e : Event) (made spare : ℕ) → 1 ≤ spare → IsBounded items made spare → step c made pid items ≡ Ready e new → IsBounded new (made + length (born e new)) (spare - 1)
bounded_after c pid items new e made spare h b r =
    let t = step_holds c spare made pid items new e (omega (arith, b.room)) b.slack r in
    let s : spare ≡ spare - 1 + 1 = omega (arith, h) in
    record {
      slack = subst (λ (n : ℕ). All (IsItemSlack n) new) s t.each;
      potential = omega (arith, t.potential, b.potential);
      once = λ j. once_by items new made j e b.once b.unmade (t.numbers j) (cases_eq made j.0);
      unmade = λ j l. unmade_by items new made j e (length (born e new)) refl b.unmade (t.numbers j) l;
      room = omega (arith, b.room, born_few e new, h);
    }

pub decides_bounded : (c : Code) (pid : Pid) (items : List Item) (i made spare : ℕ) (event : Event) (edit : Edit) (child : Option Origin) (n : Next) → step c made pid items ≡ n → Decides n items i (Do event edit child) → 1 ≤ spare → IsBounded items made spare →
    IsBounded (edited edit items i) (made + length (option_to_list child)) (spare - 1)
decides_bounded c pid items i made spare event edit child (Ready e new) t d h b =
    let l : length (option_to_list child) ≡ length (born e new) = ap length d.3 ∙ length-map (born e new) origin in
    subst (λ (m : ℕ). IsBounded (edited edit items i) (made + m) (spare - 1)) (sym l) (subst (λ (xs : List Item). IsBounded xs (made + length (born e new)) (spare - 1)) (sym d.1) (bounded_after c pid items new e made spare h b t))
decides_bounded c pid items i made spare event edit child (Waits l) t d h b = absurd d
decides_bounded c pid items i made spare event edit child (Halted v) t d h b = absurd d
decides_bounded c pid items i made spare event edit child Ended t d h b = absurd d
decides_bounded c pid items i made spare event edit child Stuck t d h b = absurd d

pub leaves_by : (old new : Shown) (i : ℕ) (event : Event) (edit : Edit) (child : Option Origin) (n : Next) → Decides n old.items i (Do event edit child) → new.items ≡ edited edit old.items i → new.origins ≡ old.origins ++ option_to_list child → new.plan ≡ old.plan → new.spare + 1 ≡ old.spare →
    Leaves n old (NReady event) new
leaves_by old new i event edit child (Ready e items) d a b p s = (ap NReady d.0, a ∙ d.1, b ∙ ap (λ (os : List Origin). old.origins ++ os) d.3, p, s)
leaves_by old new i event edit child (Waits l) d a b p s = absurd d
leaves_by old new i event edit child (Halted v) d a b p s = absurd d
leaves_by old new i event edit child Ended d a b p s = absurd d
leaves_by old new i event edit child Stuck d a b p s = absurd d

pub decides_same : (g : Program) (v : Shown) (a b : Pid) (i : ℕ) (r : Decision) → a ≡ b → Decides (next_of g v a) v.items i r → Decides (next_of g v b) v.items i r
decides_same g v a b i r e d = subst (λ (q : Pid). Decides (next_of g v q) v.items i r) e d

pub apt_by : (n : Next) (items : List Item) (i : ℕ) (event : Event) (edit : Edit) (child : Option Origin) → Decides n items i (Do event edit child) → IsApt edit items
apt_by (Ready e new) items i event edit child d = d.2
apt_by (Waits l) items i event edit child d = absurd d
apt_by (Halted v) items i event edit child d = absurd d
apt_by Ended items i event edit child d = absurd d
apt_by Stuck items i event edit child d = absurd d

-- what an edit of a step leaves
pub edit_bounded : (v : Shown) (i : ℕ) (edit : Edit) (child : Option Origin) → IsStepEdit v i edit child → 1 ≤ v.spare → IsBounded v.items (length v.origins) v.spare → IsBounded (edited edit v.items i) (length v.origins + length (option_to_list child)) (v.spare - 1)
edit_bounded v i edit child k h b = decides_bounded k.code k.pid v.items i (length v.origins) v.spare k.event edit child (step k.code (length v.origins) k.pid v.items) refl k.decides h b

pub edit_apt : (v : Shown) (i : ℕ) (edit : Edit) (child : Option Origin) → IsStepEdit v i edit child → IsApt edit v.items
edit_apt v i edit child k = apt_by (step k.code (length v.origins) k.pid v.items) v.items i k.event edit child k.decides

pub self_passes : (p : Proc) → is_proc p.pid (P p) ≡ true
self_passes p = eq-eqb p.pid.0 p.pid.0 refl

-- the step of the process at a place
pub step_here : (g : Program) (v : Shown) (xs : List Item) (i k : ℕ) (p : Proc) → xs ≡ v.items → k ≡ length v.origins → IsCutAt (is_proc p.pid) xs i → slice_get xs i ≡ Some (P p) → next_of g v p.pid ≡ does (code_of g v) (take i xs) p (drop (i + 1) xs) (deed (code_of g v) k p)
step_here g v xs i k p e n t h = ap₂ (λ (m : ℕ) (ys : List Item). step (code_of g v) m p.pid ys) (sym n) (sym e) ∙ step_at (code_of g v) k p.pid xs i p t h

-- what is decided for the process at a place is decided for its step
pub decided_here : (g : Program) (v : Shown) (xs : List Item) (i k : ℕ) (p : Proc) (r : Decision) → xs ≡ v.items → k ≡ length v.origins → IsCutAt (is_proc p.pid) xs i → slice_get xs i ≡ Some (P p) →
    Decides (does (code_of g v) (take i xs) p (drop (i + 1) xs) (deed (code_of g v) k p)) xs i r → Decides (next_of g v p.pid) v.items i r
decided_here g v xs i k p r e n t h d =
    let s : next_of g v p.pid ≡ does (code_of g v) (take i xs) p (drop (i + 1) xs) (deed (code_of g v) k p) = step_here g v xs i k p e n t h in
    subst (λ (ys : List Item). Decides (next_of g v p.pid) ys i r) e (subst (λ (x : Next). Decides x xs i r) (sym s) d)

spent_by : (c : Code) (pid : Pid) (items : List Item) (i made spare : ℕ) (event : Event) (edit : Edit) (child : Option Origin) (n : Next) → step c made pid items ≡ n → Decides n items i (Do event edit child) → IsBounded items made spare →
    work_by event + held (edited edit items i) ≤ held items
spent_by c pid items i made spare event edit child (Ready e new) t d b =
    let h = step_holds c spare made pid items new e (omega (arith, b.room)) b.slack t in
    omega (arith, h.potential, ap work_by d.0, ap held d.1)
spent_by c pid items i made spare event edit child (Waits l) t d b = absurd d
spent_by c pid items i made spare event edit child (Halted v) t d b = absurd d
spent_by c pid items i made spare event edit child Ended t d b = absurd d
spent_by c pid items i made spare event edit child Stuck t d b = absurd d

pub edit_spent : (v : Shown) (i : ℕ) (edit : Edit) (child : Option Origin) (k : IsStepEdit v i edit child) → IsBounded v.items (length v.origins) v.spare → work_by k.event + held (edited edit v.items i) ≤ held v.items
edit_spent v i edit child k b = spent_by k.code k.pid v.items i (length v.origins) v.spare k.event edit child (step k.code (length v.origins) k.pid v.items) refl k.decides b
