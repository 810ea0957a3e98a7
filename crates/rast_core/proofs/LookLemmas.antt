-- What is seen of a configuration item by item.
use Rattle.std.proofs.Common.{◌≡◌, ℕ, Bool, true, false, ◌==◌, List, [], ◌∷◌, Option, Some, None, refl, sym, ap, ◌∙◌, drop, if◌then◌else◌, subst}
use Rattle.std.specs.Prelude.{slice_get, is_some, ◌||◌, IfSome}
use Rattle.rast_terms.specs.declared.program.Program.{Program}
use Rattle.rast_core.specs.Words.{Pid, Item, P, M, Event, Proc}
use Rattle.rast_items.specs.Step.{Next as Does, Ready as DReady, Waits as DWaits, Halted as DHalted, Ended as DEnded, Stuck as DStuck, is_proc}
use Rattle.rast_core.specs.Shown.{Shown, next_of, is_ready, some_ready, first_ready, first_halted, halt_of, outcome}
use Rattle.rast_core.specs.Promises.{Tells, IsTold, IsAhead, IsTurn, IsProcess}
use Rattle.rast_core.specs.Looks.{IsNextAt, ahead_by, ahead_item, earlier, ahead_of}
use Rattle.rast_core.specs.Handles.{Lies, rest, rest_of}
use Rattle.rast_core.proofs.HandleLemmas.{lies_there}
use Rattle.rast_core.specs.Edits.{Decides, IsCutAt}
use Rattle.rast_core.specs.declared.handle.Handle.{Handle}
use Rattle.rast_core.specs.declared.answer.Next.{Next}
use Rattle.rast_core.specs.declared.answer.Next.TheVariants.{Ready, Waits, Halted}
use Rattle.rast_core.specs.declared.answer.Ahead.{Ahead}
use Rattle.rast_core.specs.declared.answer.Ahead.TheVariants as ahead
use Rattle.rast_core.specs.declared.answer.Outcome.{Outcome}
use Rattle.rast_core.specs.declared.answer.Outcome.TheVariants.{Running, Finished, OutOfBudget, IndexLimit}
use Rattle.rast_core.specs.declared.runs.Turn.TheVariants.{Over}
use Rattle.rast_core.specs.declared.decision.Decision.{Decision}
use Rattle.rast_core.specs.declared.decision.Decision.TheVariants.{Does as Do, Waits as Waiting, Halted as Halting}

pub tells_by : (n : Does) (items : List Item) (i : ℕ) (d : Decision) (r : Next) → Decides n items i d → IsTold d r → Tells n r
tells_by (DReady e new) items i (Do event edit child) r d t = t ∙ ap Ready d.0
tells_by (DReady e new) items i (Waiting l) r d t = absurd d
tells_by (DReady e new) items i (Halting v) r d t = absurd d
tells_by (DWaits l) items i (Do event edit child) r d t = absurd d
tells_by (DWaits l) items i (Waiting k) r d t = t ∙ ap Waits d
tells_by (DWaits l) items i (Halting v) r d t = absurd d
tells_by (DHalted v) items i (Do event edit child) r d t = absurd d
tells_by (DHalted v) items i (Waiting k) r d t = absurd d
tells_by (DHalted v) items i (Halting w) r d t = t ∙ ap Halted d
tells_by DEnded items i d r k t = absurd k
tells_by DStuck items i d r k t = absurd k

-- ---- one process

ready_tells : (n : Does) (pid : Pid) (e : Event) → Tells n (Ready e) → ahead.Event pid ≡ ahead_by pid n
ready_tells (DReady f items) pid e t = refl
ready_tells (DWaits l) pid e t = cc
ready_tells (DHalted v) pid e t = cc
ready_tells DEnded pid e t = cc
ready_tells DStuck pid e t = absurd t

same_value : (w v : ℕ) → Halted v ≡ Halted w → v ≡ w
same_value w v h = cc

halted_tells : (n : Does) (pid : Pid) (v : ℕ) → Tells n (Halted v) → ahead.Limit pid v ≡ ahead_by pid n
halted_tells (DReady f items) pid v t = cc
halted_tells (DWaits l) pid v t = cc
halted_tells (DHalted w) pid v t = ap (λ (k : ℕ). ahead.Limit pid k) (same_value w v t)
halted_tells DEnded pid v t = cc
halted_tells DStuck pid v t = absurd t

calm_tells : (n : Does) (pid : Pid) (r : Next) → Tells n r → ((e : Event) → r ≡ Ready e → ⊥) → ((v : ℕ) → r ≡ Halted v → ⊥) → ahead.Nothing ≡ ahead_by pid n
calm_tells (DReady f items) pid r t q w = absurd (q f t)
calm_tells (DWaits l) pid r t q w = refl
calm_tells (DHalted v) pid r t q w = absurd (w v t)
calm_tells DEnded pid r t q w = refl
calm_tells DStuck pid r t q w = absurd t

-- ---- one item

module _ (g : Program) (v : Shown) where
  pub ready_at : (x : Option Item) (pid : Pid) (e : Event) → IsNextAt g v x (Some (pid, Ready e)) → ahead.Event pid ≡ ahead_item g v x
  ready_at None pid e h = absurd h
  ready_at (Some (M m)) pid e h = absurd h
  ready_at (Some (P p)) pid e h = ap (λ (q : Pid). ahead.Event q) h.0 ∙ ready_tells (next_of g v p.pid) p.pid e h.1

  pub halted_at : (x : Option Item) (pid : Pid) (w : ℕ) → IsNextAt g v x (Some (pid, Halted w)) → ahead.Limit pid w ≡ ahead_item g v x
  halted_at None pid w h = absurd h
  halted_at (Some (M m)) pid w h = absurd h
  halted_at (Some (P p)) pid w h = ap (λ (q : Pid). ahead.Limit q w) h.0 ∙ halted_tells (next_of g v p.pid) p.pid w h.1

  pub calm_at : (x : Option Item) (pid : Pid) (r : Next) → IsNextAt g v x (Some (pid, r)) → ((e : Event) → r ≡ Ready e → ⊥) → ((w : ℕ) → r ≡ Halted w → ⊥) → ahead.Nothing ≡ ahead_item g v x
  calm_at None pid r h q w = absurd h
  calm_at (Some (M m)) pid r h q w = absurd h
  calm_at (Some (P p)) pid r h q w = calm_tells (next_of g v p.pid) p.pid r h.1 q w

  pub message_at : (x : Option Item) → IsNextAt g v x None → ahead.Nothing ≡ ahead_item g v x
  message_at None h = absurd h
  message_at (Some (M m)) h = refl
  message_at (Some (P p)) h = absurd h

-- ---- items one after another

earlier_more : (a b c : Ahead) → earlier (earlier a b) c ≡ earlier a (earlier b c)
earlier_more (ahead.Event p) b c = refl
earlier_more (ahead.Limit p w) (ahead.Event q) c = refl
earlier_more (ahead.Limit p w) (ahead.Limit q u) (ahead.Event r) = refl
earlier_more (ahead.Limit p w) (ahead.Limit q u) (ahead.Limit r x) = refl
earlier_more (ahead.Limit p w) (ahead.Limit q u) ahead.Nothing = refl
earlier_more (ahead.Limit p w) ahead.Nothing c = refl
earlier_more ahead.Nothing b c = refl

pub earlier_end : (a : Ahead) → earlier a ahead.Nothing ≡ a
earlier_end (ahead.Event p) = refl
earlier_end (ahead.Limit p w) = refl
earlier_end ahead.Nothing = refl

module _ (g : Program) (v : Shown) where
  on_by : (a b : Ahead) (xs : List Item) (i : Item) (is : List Item) → xs ≡ i ∷ is → b ≡ ahead_item g v (slice_get xs 0) → earlier (earlier a b) (ahead_of g v (drop 1 xs)) ≡ earlier a (ahead_of g v xs)
  on_by a b xs i is e h =
      let k : b ≡ ahead_item g v (Some i) = h ∙ ap (λ (ys : List Item). ahead_item g v (slice_get ys 0)) e in
      let d : drop 1 xs ≡ is = ap (drop 1) e in
      ap (λ (ys : List Item). earlier (earlier a b) (ahead_of g v ys)) d
      ∙ (earlier_more a b (ahead_of g v is)
      ∙ (ap (λ (x : Ahead). earlier a (earlier x (ahead_of g v is))) k ∙ ap (λ (ys : List Item). earlier a (ahead_of g v ys)) (sym e)))

  -- one item further
  pub ahead_on : (a b : Ahead) (h : Handle) (next : Option Handle) → Lies v h → b ≡ ahead_item g v (slice_get (rest v h) 0) → rest_of v next ≡ drop 1 (rest v h) →
      earlier (earlier a b) (ahead_of g v (rest_of v next)) ≡ earlier a (ahead_of g v (rest v h))
  ahead_on a b h next l e n = ap (λ (ys : List Item). earlier (earlier a b) (ahead_of g v ys)) n ∙ on_by a b (rest v h) l.item l.after l.is e

  -- ---- what lies ahead of all

  -- there is a first one exactly where there is some
  pub ready_some : (xs : List Item) → is_some (first_ready g v xs) ≡ some_ready g v xs
  ready_some [] = refl
  ready_some (P p ∷ xs) = by (is_ready (next_of g v p.pid)) (ready_some xs)
    where
      by : (b : Bool) → is_some (first_ready g v xs) ≡ some_ready g v xs → is_some (if b then Some p.pid else first_ready g v xs) ≡ (b || some_ready g v xs)
      by true h = refl
      by false h = h
  ready_some (M m ∷ xs) = ready_some xs

  abbrev event_of : Ahead → Option Pid
  event_of (ahead.Event pid) = Some pid
  event_of a = None

  abbrev limit_or : Ahead → Outcome → Outcome
  limit_or (ahead.Limit pid w) o = IndexLimit pid w
  limit_or a o = o

  event_limit : (pid : Pid) (w : ℕ) (a : Ahead) → event_of (earlier (ahead.Limit pid w) a) ≡ event_of a
  event_limit pid w (ahead.Event q) = refl
  event_limit pid w (ahead.Limit q u) = refl
  event_limit pid w ahead.Nothing = refl

  first_by : (pid : Pid) (n : Does) (first : Option Pid) (a : Ahead) → first ≡ event_of a → (if is_ready n then Some pid else first) ≡ event_of (earlier (ahead_by pid n) a)
  first_by pid (DReady e items) first a h = refl
  first_by pid (DWaits l) first a h = h
  first_by pid (DHalted w) first a h = h ∙ sym (event_limit pid w a)
  first_by pid DEnded first a h = h
  first_by pid DStuck first a h = h

  first_ahead : (xs : List Item) → first_ready g v xs ≡ event_of (ahead_of g v xs)
  first_ahead [] = refl
  first_ahead (P p ∷ xs) = first_by p.pid (next_of g v p.pid) (first_ready g v xs) (ahead_of g v xs) (first_ahead xs)
  first_ahead (M m ∷ xs) = first_ahead xs

  limit_first : (pid : Pid) (w : ℕ) (a : Ahead) (o : Outcome) → event_of (earlier (ahead.Limit pid w) a) ≡ None → IndexLimit pid w ≡ limit_or (earlier (ahead.Limit pid w) a) o
  limit_first pid w (ahead.Event q) o h = cc
  limit_first pid w (ahead.Limit q u) o h = refl
  limit_first pid w ahead.Nothing o h = refl

  halted_by : (pid : Pid) (n : Does) (rest o : Outcome) (a : Ahead) → event_of (earlier (ahead_by pid n) a) ≡ None → (event_of a ≡ None → rest ≡ limit_or a o) → halt_of pid n rest ≡ limit_or (earlier (ahead_by pid n) a) o
  halted_by pid (DReady e items) rest o a h k = cc
  halted_by pid (DWaits l) rest o a h k = k h
  halted_by pid (DHalted w) rest o a h k = limit_first pid w a o h
  halted_by pid DEnded rest o a h k = k h
  halted_by pid DStuck rest o a h k = k h

  halted_ahead : (xs : List Item) (o : Outcome) → event_of (ahead_of g v xs) ≡ None → first_halted g v xs o ≡ limit_or (ahead_of g v xs) o
  halted_ahead [] o h = refl
  halted_ahead (P p ∷ xs) o h = halted_by p.pid (next_of g v p.pid) (first_halted g v xs o) o (ahead_of g v xs) h (halted_ahead xs o)
  halted_ahead (M m ∷ xs) o h = halted_ahead xs o h

  event_later : (pid found : Pid) (w : ℕ) (a : Ahead) → earlier (ahead.Limit pid w) a ≡ ahead.Event found → a ≡ ahead.Event found
  event_later pid found w (ahead.Event q) h = h
  event_later pid found w (ahead.Limit q u) h = cc
  event_later pid found w ahead.Nothing h = cc

  event_by : (pid found : Pid) (n : Does) (a : Ahead) → next_of g v pid ≡ n → earlier (ahead_by pid n) a ≡ ahead.Event found → (a ≡ ahead.Event found → is_ready (next_of g v found) ≡ true) → is_ready (next_of g v found) ≡ true
  event_by pid found (DReady e items) a is h k =
      let s : pid ≡ found = cc in
      ap (λ (q : Pid). is_ready (next_of g v q)) (sym s) ∙ ap is_ready is
  event_by pid found (DWaits l) a is h k = k h
  event_by pid found (DHalted w) a is h k = k (event_later pid found w a h)
  event_by pid found DEnded a is h k = k h
  event_by pid found DStuck a is h k = k h

  event_ahead : (found : Pid) (xs : List Item) → ahead_of g v xs ≡ ahead.Event found → is_ready (next_of g v found) ≡ true
  event_ahead found [] h = cc
  event_ahead found (P p ∷ xs) h = event_by p.pid found (next_of g v p.pid) (ahead_of g v xs) refl h (event_ahead found xs)
  event_ahead found (M m ∷ xs) h = event_ahead found xs h

  pub is_ahead : (a : Ahead) → a ≡ ahead_of g v v.items → IsAhead g v a
  is_ahead (ahead.Event pid) e = (first_ahead v.items ∙ ap event_of (sym e), event_ahead pid v.items (sym e))
  is_ahead (ahead.Limit pid w) e =
      let none : event_of (ahead_of g v v.items) ≡ None = ap event_of (sym e) in
      (first_ahead v.items ∙ none, halted_ahead v.items Finished none ∙ ap (λ (a : Ahead). limit_or a Finished) (sym e))
  is_ahead ahead.Nothing e =
      let none : event_of (ahead_of g v v.items) ≡ None = ap event_of (sym e) in
      (first_ahead v.items ∙ none, halted_ahead v.items Finished none ∙ ap (λ (a : Ahead). limit_or a Finished) (sym e))

  -- the first event is that of all
  pub event_found : (a b now : Ahead) (at : Option Handle) (h : Handle) (pid : Pid) → at ≡ Some h → IfSome at (λ k. Lies v k) → b ≡ ahead_item g v (slice_get (rest v h) 0) → now ≡ earlier a b → now ≡ ahead.Event pid →
      earlier a (ahead_of g v (rest_of v at)) ≡ ahead_of g v v.items → now ≡ ahead_of g v v.items
  event_found a b now at h pid e lies k n f inv =
      let l : Lies v h = lies_there v at h e lies in
      let more = ahead_of g v (drop 1 (rest v h)) in
      let on : earlier now more ≡ ahead_of g v v.items = ap (λ (x : Ahead). earlier x more) n ∙ (on_by a b (rest v h) l.item l.after l.is k ∙ (ap (λ (o : Option Handle). earlier a (ahead_of g v (rest_of v o))) (sym e) ∙ inv)) in
      f ∙ (ap (λ (x : Ahead). earlier x more) (sym f) ∙ on)

  -- behind the last item
  pub ahead_end : (a : Ahead) (at : Option Handle) → ((h : Handle) → at ≡ Some h → ⊥) → earlier a (ahead_of g v (rest_of v at)) ≡ ahead_of g v v.items → a ≡ ahead_of g v v.items
  ahead_end a None n e = sym (earlier_end a) ∙ e
  ahead_end a (Some h) n e = absurd (n h refl)

  -- ---- the outcome

  abbrev outcome_by : Bool → Bool → Outcome
  outcome_by some same = if some then (if same then OutOfBudget else Running) else first_halted g v v.items Finished

  some_ahead : (found : Option Pid) → first_ready g v v.items ≡ found → some_ready g v v.items ≡ is_some found
  some_ahead found h = sym (ready_some v.items) ∙ ap is_some h

  pub outcome_event : (pid : Pid) (events budget : ℕ) (same : Bool) → IsAhead g v (ahead.Event pid) → (events == budget) ≡ same → (if same then OutOfBudget else Running) ≡ outcome g v events budget
  outcome_event pid events budget same h e = ap (outcome_by true) (sym e) ∙ sym (ap (λ (b : Bool). outcome_by b (events == budget)) (some_ahead (Some pid) h.0))

  pub outcome_limit : (pid : Pid) (w events budget : ℕ) → IsAhead g v (ahead.Limit pid w) → IndexLimit pid w ≡ outcome g v events budget
  outcome_limit pid w events budget h = sym (ap (λ (b : Bool). outcome_by b (events == budget)) (some_ahead None h.0) ∙ h.1)

  pub outcome_nothing : (events budget : ℕ) → IsAhead g v ahead.Nothing → Finished ≡ outcome g v events budget
  outcome_nothing events budget h = sym (ap (λ (b : Bool). outcome_by b (events == budget)) (some_ahead None h.0) ∙ h.1)

  -- ---- a turn with which a run is over

  pub over_limit : (old : Shown) (pid : Pid) (w : ℕ) → v ≡ old → IsAhead g v (ahead.Limit pid w) → IsTurn g old (Over (IndexLimit pid w)) v
  over_limit old pid w e h = subst (λ (s : Shown). IsTurn g s (Over (IndexLimit pid w)) v) e (refl, some_ahead None h.0, sym h.1)

  pub over_nothing : (old : Shown) → v ≡ old → IsAhead g v ahead.Nothing → IsTurn g old (Over Finished) v
  over_nothing old e h = subst (λ (s : Shown). IsTurn g s (Over Finished) v) e (refl, some_ahead None h.0, sym h.1)

-- ---- a process by its number

some_item : (x y : Item) → Some x ≡ Some y → x ≡ y
some_item x y h = cc

pub process_here : (v : Shown) (pid : Pid) (i : ℕ) (p : Proc) → IsCutAt (is_proc pid) v.items i → slice_get v.items i ≡ Some (P p) → IsProcess v pid p
process_here v pid i p c h = record { place = _; found = c.is; is = some_item c.item (P p) (sym c.get ∙ h) }
