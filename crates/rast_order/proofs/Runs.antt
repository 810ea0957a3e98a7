-- The order law over whole runs.
use mathlib.Core.Path.{fun_ext}
use Rattle.std.proofs.Common.{◌≡◌, ℕ, ℤ, pos, negsuc, ◌≤◌, ◌<◌, ◌+◌, List, [], ◌∷◌, ◌++◌, ◌⊎◌, Option, Some, None, map, slice_get, inl, inr, arith, refl, sym, ap, ◌∙◌, subst, append_assoc, append-nil, length}
use Rattle.std.proofs.lemmas.List.{map-append}
use Rattle.rast_index.specs.Linear.{value}
use Rattle.rast_terms.specs.declared.program.Program.{Program}
use Rattle.rast_terms.specs.declared.program.Decl.{Decl}
use Rattle.rast_items.specs.Items.{hit, times, provided, IsConfig, link_at, pid_at}
use Rattle.rast_items.specs.Deeds.{Code, process_at}
use Rattle.rast_items.specs.Step.{Ready}
use Rattle.rast_items.specs.Run.{State, Sent, AreApart, sent_by, taken_by, sent_at, taken_at, sent, taken, pid_of, state_after, step_of, IsRunFrom, IsRun, start, start_decl, start_main, start_of, IsPrefix, IsOrdered}
use Rattle.rast_order.specs.Apart.{StaysApart}
use Rattle.rast_order.proofs.Words.{Link, Pid, Item, P, Proc, Event}
use Rattle.rast_order.proofs.Counts.{hit_cases}
use Rattle.rast_order.proofs.View.{StepView, step_view}
use Rattle.rast_order.proofs.Queue.{entries, Begins}
use Rattle.rast_order.proofs.Sound.{Sound}
use Rattle.rast_order.proofs.Steps.{After, then_sent, then_taken, took_by, free_apart, step_sound, born_many, view_pid, took_entries}

-- ---- one more step

pub run_from_more : (c : Code) (es : List Event) (begin st : State) (e : Event) (items : List Item) → IsRunFrom c begin es st → step_of c st (pid_of e) ≡ Ready e items → IsRunFrom c begin (es ++ e ∷ []) (state_after st e items)
run_from_more c [] begin st e items r h =
    (items, subst (λ x. step_of c x (pid_of e) ≡ Ready e items) r h, ap (λ x. state_after x e items) r)
run_from_more c (x ∷ es) begin st e items r h = (r.0, r.1, run_from_more c es (state_after begin x r.0) st e items r.2 h)

-- a step that is ready is an event of its own process
pub step_pid : (c : Code) (st : State) (pid : Pid) (e : Event) (items : List Item) → step_of c st pid ≡ Ready e items → pid_of e ≡ pid
step_pid c st pid e items h = view_pid c (length st.births) pid st.items items e (step_view c (length st.births) pid st.items items e h)

-- a run and one more step are a run
pub run_more : (c : Code) (es : List Event) (st : State) (pid : Pid) (e : Event) (items : List Item) → IsRun c es st → step_of c st pid ≡ Ready e items → IsRun c (es ++ e ∷ []) (state_after st e items)
run_more c es st pid e items r h =
    (r.0, r.1, run_from_more c es r.0 st e items r.2 (ap (step_of c st) (step_pid c st pid e items h) ∙ h))

-- ---- what is known after a run

abbrev StaysApartFrom : Code → State → List Event → Type 0
StaysApartFrom c begin es = (front back : List Event) (st : State) → front ++ back ≡ es → IsRunFrom c begin front st → AreApart st.items

pub record RunSound (root : Link) (snt tkn : Pid → List Sent) (es : List Event) (st : State) : Type 0 where
  -- what was taken, with the moments at which it was sent
  pub tkn' : Pid → List Sent
  pub entries_are : (s : Pid) → entries (tkn' s) ≡ entries (tkn s) ++ taken s es
  pub sound : Sound root (length st.births) (λ s. snt s ++ sent_at s es) tkn' st.items

run_none : (root : Link) (snt tkn : Pid → List Sent) (begin st : State) → st ≡ begin → Sound root (length begin.births) snt tkn begin.items → RunSound root snt tkn [] st
run_none root snt tkn begin st r s = record {
  tkn' = tkn;
  entries_are = λ x. sym (append-nil (entries (tkn x)));
  sound = subst (λ x. Sound root (length st.births) x tkn st.items) (fun_ext (λ x. sym (append-nil (snt x)))) (subst (λ x. Sound root (length x.births) snt tkn x.items) (sym r) s);
}

run_one : (root : Link) (snt tkn more : Pid → List Sent) (e : Event) (es : List Event) (st : State) → ((s : Pid) → entries (more s) ≡ entries (taken_by s e)) → RunSound root (then_sent snt e) (then_taken tkn more) es st → RunSound root snt tkn (e ∷ es) st
run_one root snt tkn more e es st k r = record {
  tkn' = r.tkn';
  entries_are = λ s.
      let a : entries (tkn s ++ more s) ≡ entries (tkn s) ++ entries (taken_by s e) = map-append (λ x. x.entry) (tkn s) (more s) ∙ ap (λ y. entries (tkn s) ++ y) (k s) in
      let b : entries (taken_by s e ++ taken_at s es) ≡ entries (taken_by s e) ++ taken s es = map-append (λ x. x.entry) (taken_by s e) (taken_at s es) in
      r.entries_are s ∙ (ap (λ y. y ++ taken s es) a ∙ (append_assoc (entries (tkn s)) (entries (taken_by s e)) (taken s es) ∙ ap (λ y. entries (tkn s) ++ y) (sym b)));
  sound = subst (λ x. Sound root (length st.births) x r.tkn' st.items) (fun_ext (λ s. append_assoc (snt s) (sent_by s e) (sent_at s es))) r.sound;
}

run_sound : (c : Code) (root : Link) (es : List Event) (begin st : State) (snt tkn : Pid → List Sent) → Sound root (length begin.births) snt tkn begin.items → StaysApartFrom c begin es → IsRunFrom c begin es st → RunSound root snt tkn es st
run_sound c root [] begin st snt tkn s a r = run_none root snt tkn begin st r s
run_sound c root (e ∷ es) begin st snt tkn s a r =
    let many : ℕ = length begin.births in
    let mid : State = state_after begin e r.0 in
    let v : StepView c many (pid_of e) begin.items r.0 e = step_view c many (pid_of e) begin.items r.0 e r.1 in
    let rest : StaysApartFrom c mid es = λ front back st' q k. a (e ∷ front) back st' (ap (λ x. e ∷ x) q) (r.0, r.1, k) in
    let k : After root many snt tkn (took_by v) r.0 e = step_sound c root many (pid_of e) snt tkn begin.items r.0 e v (a [] (e ∷ es) begin refl refl) (free_apart c many (pid_of e) begin.items r.0 e v (rest [] es mid refl refl)) s in
    let k' : Sound root (length mid.births) (then_sent snt e) (then_taken tkn (took_by v)) mid.items = subst (λ n. Sound root n (then_sent snt e) (then_taken tkn (took_by v)) r.0) (sym (born_many begin e r.0)) k in
    run_one root snt tkn (took_by v) e es st (took_entries c many (pid_of e) begin.items r.0 e v) (run_sound c root es mid st (then_sent snt e) (then_taken tkn (took_by v)) k' rest r.2)

-- ---- the beginning

pub record IsStart (g : Program) (begin : State) : Type 0 where
  pub number : ℕ
  pub decl : Decl
  pub potential : ℕ
  pub main : g.main ≡ Some number
  pub decl_is : slice_get g.decls number ≡ Some decl
  pub potential_is : value decl.potential [] ≡ pos potential
  pub is : begin ≡ record { items = P (process_at 0 decl [] [] 0 potential) ∷ []; births = record { parent = pid_at 0; ordinal = 0; decl = number; values = []; moment = 0 } ∷ [] }

start_at : (g : Program) (k : ℕ) (d : Decl) (z : ℤ) (begin : State) → g.main ≡ Some k → slice_get g.decls k ≡ Some d → value d.potential [] ≡ z → start k d z ≡ Some begin → IsStart g begin
start_at g k d (pos q) begin m s v e = record { number = k; decl = d; potential = q; main = m; decl_is = s; potential_is = v; is = (let h : record { items = P (process_at 0 d [] [] 0 q) ∷ []; births = record { parent = pid_at 0; ordinal = 0; decl = k; values = []; moment = 0 } ∷ [] } ≡ begin = cc in sym h) }
start_at g k d (negsuc q) begin m s v e = cc

start_decl_at : (g : Program) (k : ℕ) (o : Option Decl) (begin : State) → g.main ≡ Some k → slice_get g.decls k ≡ o → start_decl k o ≡ Some begin → IsStart g begin
start_decl_at g k None begin m s e = cc
start_decl_at g k (Some d) begin m s e = start_at g k d (value d.potential []) begin m s refl e

start_main_at : (g : Program) (o : Option ℕ) (begin : State) → g.main ≡ o → start_main g o ≡ Some begin → IsStart g begin
start_main_at g None begin m e = cc
start_main_at g (Some k) begin m e = start_decl_at g k (slice_get g.decls k) begin m refl e

pub start_is : (g : Program) (begin : State) → start_of g ≡ Some begin → IsStart g begin
start_is g begin e = start_main_at g g.main begin refl e

alone_sound : (p : Proc) → p.own ≡ link_at 0 0 → p.uses ≡ [] → Sound (link_at 0 0) 1 (λ s. []) (λ s. []) (P p ∷ [])
alone_sound p o u = record {
  config = record {
    once = λ l. omega (arith, one l (hit_cases l p.own));
    matched = λ l. omega (arith, ap (λ x. provided l (P (record p { own = x }) ∷ [])) o, used_none l);
    earlier = ((λ l. omega (arith, used_none l)), tt);
  };
  queue = record {
    prefixes = λ s. ([], refl);
    numbered = λ s. tt;
    waiting = tt;
    present = λ l t h. absurd (omega arith);
    reach = λ l h. (omega arith, low l h (hit_cases l p.own));
    chained = tt;
    ends = tt;
  };
  below = λ l h. own l h (hit_cases l p.own);
  unsent = λ s h. refl;
}
  where
    used_none : (l : Link) → times l (map (λ v. v.1) p.uses) ≡ 0
    used_none l = ap (λ y. times l (map (λ v. v.1) y)) u

    one : (l : Link) → ((p.own ≡ l) ⊎ (hit l p.own ≡ 0)) → hit l p.own ≤ 1
    one l x = grind arith

    low : (l : Link) → 1 ≤ hit l p.own + 0 → ((p.own ≡ l) ⊎ (hit l p.own ≡ 0)) → l.index ≤ 0
    low l h (inl e) = omega (arith, ap (λ x. x.index) e, ap (λ x. x.index) o)
    low l h (inr z) = absurd (omega (arith, h, z))

    own : (l : Link) → 1 ≤ hit l p.own + 0 → ((p.own ≡ l) ⊎ (hit l p.own ≡ 0)) → l.session.0 < 1
    own l h (inl e) = omega (arith, ap (λ x. x.session.0) e, ap (λ x. x.session.0) o)
    own l h (inr z) = absurd (omega (arith, h, z))

pub start_sound : (g : Program) (begin : State) → start_of g ≡ Some begin → Sound (link_at 0 0) (length begin.births) (λ s. []) (λ s. []) begin.items
start_sound g begin e =
    let i = start_is g begin e in
    subst (λ (x : State). Sound (link_at 0 0) (length x.births) (λ s. []) (λ s. []) x.items) (sym i.is) (alone_sound (process_at 0 i.decl [] [] 0 i.potential) refl refl)

-- ---- the law

-- what is known after a run in which no two messages ever have the same link
pub run_is_sound : (c : Code) (es : List Event) (st : State) → StaysApart c es → IsRun c es st → RunSound (link_at 0 0) (λ s. []) (λ s. []) es st
run_is_sound c es st a r =
    run_sound c (link_at 0 0) es r.0 st (λ s. []) (λ s. []) (start_sound c.program r.0 r.1) (λ front back st' q k. a front back st' q (r.0, r.1, k)) r.2

pub prefix_entries : (xs ys : List Sent) → Begins xs ys → IsPrefix (entries xs) (entries ys)
prefix_entries xs ys b = (entries b.0, sym (map-append (λ x. x.entry) xs b.0) ∙ ap entries b.1)

-- on each session what was taken is, in order and each once, the beginning of what was sent
pub run_is_ordered : (c : Code) (es : List Event) (st : State) → StaysApart c es → IsRun c es st → IsOrdered es
run_is_ordered c es st a r =
    let k = run_is_sound c es st a r in
    record {
      prefix = λ s. subst (λ x. IsPrefix x (sent s es)) (k.entries_are s) (prefix_entries (k.tkn' s) (sent_at s es) (k.sound.queue.prefixes s));
      numbered = k.sound.queue.numbered;
    }

-- the items are linked: each link is provided once and later than it is used
pub run_keeps_links : (c : Code) (es : List Event) (st : State) → StaysApart c es → IsRun c es st → IsConfig (link_at 0 0) st.items
run_keeps_links c es st a r = (run_is_sound c es st a r).sound.config
