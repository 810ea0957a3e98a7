-- Which events are a run, and which states are its end, row by row.
use Rattle.std.proofs.Common.{◌≡◌, arith, ℕ, zero, suc, ◌+◌, ◌*◌, ◌^◌, ◌==◌, Bool, true, false, List, [], ◌∷◌, Some, refl, sym, ap, ◌∙◌, subst}
use Rattle.std.specs.Prelude.{All, ◌≤◌, ◌<◌, get_or}
use Rattle.rast_items.specs.Items.{held, total}
use Rattle.rast_items.specs.Links.{pid_at, link_at}
use Rattle.rast_items.specs.Deeds.{Code}
use Rattle.rast_items.specs.Step.{Next, Ready}
use Rattle.rast_items.specs.Run.{State, IsRun, IsRunFrom, start_of, step_of, state_after, pid_of, moment_of, work_by, numbered_as, ArePidsApart}
use Rattle.rast_items.specs.Ends.{IsPoised, IsIdle, AreIdle, IsFinished}
use Rattle.rast_items.specs.declared.link.Link.{Link}
use Rattle.rast_items.specs.declared.link.Side.TheVariants.{Client, Provider}
use Rattle.rast_items.specs.declared.message.Body.TheVariants.{End}
use Rattle.rast_items.specs.declared.item.Item.{Item}
use Rattle.rast_items.specs.declared.item.Item.TheVariants.{Proc as P, Msg as M}
use Rattle.rast_items.specs.declared.event.Event.{Event}
use Rattle.rast_items.specs.declared.event.Event.TheVariants.{Send}
use Rattle.rast_examples.specs.Configurations.{worker}
use Rattle.rast_examples.specs.Runs.{closing, busy, serving, waiting, large, lost, at, left, with_main, begun, closed, closes, works, delays}

-- ---- what a run says of its first events

apart : false ≡ true → ⊥
apart e = cc

some_is : (a b : State) → Some a ≡ Some b → a ≡ b
some_is a b e = cc

from_start : (c : Code) (es : List Event) (end' begin : State) → start_of c.program ≡ Some begin → IsRun c es end' → IsRunFrom c begin es end'
from_start c es end' begin e h = subst (λ x. IsRunFrom c x es end') (sym (some_is begin h.0 (sym e ∙ h.1))) h.2

abbrev items_of : Next → List Item
items_of (Ready e items) = items
items_of n = []

next : (c : Code) (st : State) (e : Event) (items : List Item) (es : List Event) (end' : State) → step_of c st (pid_of e) ≡ Ready e items → IsRunFrom c st (e ∷ es) end' → IsRunFrom c (state_after st e items) es end'
next c st e items es end' s h = subst (λ x. IsRunFrom c (state_after st e x) es end') (ap items_of (sym h.1 ∙ s)) h.2

-- an event as a number
abbrev mark : Next → ℕ
mark (Ready e items) = 1 + moment_of e * 10 + work_by e * 100
mark n = 0

abbrev is_ready : Next → Bool
is_ready (Ready e items) = true
is_ready n = false

abbrev is_sent : Event → Bool
is_sent (Send pid link body moment potential) = true
is_sent e = false

abbrev is_send : Next → Bool
is_send (Ready e items) = is_sent e
is_send n = false

abbrev message_at : Item → ℕ
message_at (P p) = 0
message_at (M m) = 1

abbrev messages : List Item → ℕ
messages [] = 0
messages (i ∷ is) = message_at i

far0 : (n : ℕ) → (0 == suc n) ≡ false
far0 n = grind arith

serving_idle : (k : ℕ) → IsIdle (step_of serving (begun 0) (pid_at k))
serving_idle zero = tt
serving_idle (suc k) = rw (far0 k) tt

waiting_idle : (k : ℕ) → IsIdle (step_of waiting (with_main (at 0 0 0 0 ((1, link_at 1 0) ∷ []) ∷ [])) (pid_at k))
waiting_idle zero = tt
waiting_idle (suc k) = rw (far0 k) tt

first_poised : (c : Code) (i : Item) → All (IsPoised c 1) (i ∷ []) → IsPoised c 1 i
first_poised c i h = h 0 i (omega arith)

single_at : (c : Code) (i : Item) → IsPoised c 1 i → (k : ℕ) (d : Item) → k < 1 → IsPoised c 1 (get_or (i ∷ []) k d)
single_at c i p zero d b = p
single_at c i p (suc k) d b = absurd (omega (arith, b))

single : (c : Code) (i : Item) → IsPoised c 1 i → All (IsPoised c 1) (i ∷ [])
single c i p = single_at c i p

-- ---- rows

pub no_event_is_a_run : IsRun closing [] (begun 0)
no_event_is_a_run = (begun 0, refl, refl)

pub close_is_a_run : IsRun closing (closes 0 ∷ []) (closed 0)
close_is_a_run = (begun 0, refl, ((closed 0).items, refl, refl))

pub work_delay_and_close_is_a_run : IsRun busy (works 2 ∷ delays 3 3 ∷ closes 3 ∷ []) (closed 3)
work_delay_and_close_is_a_run = (begun 2, refl, (at 1 0 0 1 [] ∷ [], refl, (at 2 3 0 2 [] ∷ [], refl, ((closed 3).items, refl, refl))))

pub other_potential_is_not_a_run : IsRun busy [] (begun 1) → ⊥
other_potential_is_not_a_run h = let e : begun 1 ≡ begun 2 = from_start busy [] (begun 1) (begun 2) refl h in apart (ap (λ (s : State). held s.items == 2) e)

pub close_that_leaves_main_is_not_a_run : IsRun closing (closes 0 ∷ []) (begun 0) → ⊥
close_that_leaves_main_is_not_a_run h = let e = next closing (begun 0) (closes 0) (closed 0).items [] (begun 0) refl (from_start closing (closes 0 ∷ []) (begun 0) (begun 0) refl h) in apart (ap (λ (s : State). messages s.items == 1) e)

pub close_at_other_moment_is_not_a_run : IsRun closing (closes 1 ∷ []) (closed 1) → ⊥
close_at_other_moment_is_not_a_run h = let e = (from_start closing (closes 1 ∷ []) (closed 1) (begun 0) refl h).1 in apart (ap (λ n. mark n == mark (Ready (closes 1) [])) e)

pub close_by_other_process_is_not_a_run : IsRun closing (Send (pid_at 1) (link_at 0 0) End 0 0 ∷ []) (closed 0) → ⊥
close_by_other_process_is_not_a_run h = let e = (from_start closing (Send (pid_at 1) (link_at 0 0) End 0 0 ∷ []) (closed 0) (begun 0) refl h).1 in apart (ap (λ n. mark n == 1) e)

pub close_twice_is_not_a_run : IsRun closing (closes 0 ∷ closes 0 ∷ []) (closed 0) → ⊥
close_twice_is_not_a_run h = let e = (next closing (begun 0) (closes 0) (closed 0).items (closes 0 ∷ []) (closed 0) refl (from_start closing (closes 0 ∷ closes 0 ∷ []) (closed 0) (begun 0) refl h)).1 in apart (ap (λ n. mark n == 1) e)

pub other_work_is_not_a_run : IsRun busy (works 1 ∷ delays 3 3 ∷ closes 3 ∷ []) (closed 3) → ⊥
other_work_is_not_a_run h = let e = (from_start busy (works 1 ∷ delays 3 3 ∷ closes 3 ∷ []) (closed 3) (begun 2) refl h).1 in apart (ap (λ n. mark n == mark (Ready (works 1) [])) e)

pub work_left_out_is_not_a_run : IsRun busy (delays 3 3 ∷ closes 3 ∷ []) (closed 3) → ⊥
work_left_out_is_not_a_run h = let e = (from_start busy (delays 3 3 ∷ closes 3 ∷ []) (closed 3) (begun 2) refl h).1 in apart (ap (λ n. mark n == mark (Ready (delays 3 3) [])) e)

pub delay_left_out_is_not_a_run : IsRun busy (works 2 ∷ closes 3 ∷ []) (closed 3) → ⊥
delay_left_out_is_not_a_run h = let e = (next busy (begun 2) (works 2) (at 1 0 0 1 [] ∷ []) (closes 3 ∷ []) (closed 3) refl (from_start busy (works 2 ∷ closes 3 ∷ []) (closed 3) (begun 2) refl h)).1 in apart (ap (λ n. is_send n) e)

pub delay_before_its_ticks_is_not_a_run : IsRun busy (works 2 ∷ delays 3 2 ∷ closes 2 ∷ []) (closed 2) → ⊥
delay_before_its_ticks_is_not_a_run h = let e = (next busy (begun 2) (works 2) (at 1 0 0 1 [] ∷ []) (delays 3 2 ∷ closes 2 ∷ []) (closed 2) refl (from_start busy (works 2 ∷ delays 3 2 ∷ closes 2 ∷ []) (closed 2) (begun 2) refl h)).1 in apart (ap (λ n. mark n == mark (Ready (delays 3 2) [])) e)

pub large_work_is_not_a_run : IsRun large (works (2 ^ 64) ∷ []) (with_main (at 1 0 0 1 [] ∷ [])) → ⊥
large_work_is_not_a_run h = let e = (from_start large (works (2 ^ 64) ∷ []) (with_main (at 1 0 0 1 [] ∷ [])) (begun 0) refl h).1 in apart (ap (λ n. is_ready n) e)

pub message_to_client_is_poised : IsPoised closing 1 (left 0 End Client)
message_to_client_is_poised = refl

pub process_that_serves_is_poised : IsPoised serving 1 (at 0 0 0 0 [])
process_that_serves_is_poised = (refl, refl)

pub message_to_provider_is_not_poised : IsPoised closing 1 (left 0 End Provider) → ⊥
message_to_provider_is_not_poised h = absurd (cc)

pub process_that_closes_is_not_poised : IsPoised closing 1 (at 0 0 0 0 []) → ⊥
process_that_closes_is_not_poised h = h

pub process_that_waits_is_not_poised : IsPoised waiting 1 (at 0 0 0 0 ((1, link_at 1 0) ∷ [])) → ⊥
process_that_waits_is_not_poised h = apart (ap (λ (l : Link). l.session.0 == 0) h.0)

pub closed_is_idle : AreIdle closing (closed 0)
closed_is_idle = λ pid. tt

pub serving_is_idle : AreIdle serving (begun 0)
serving_is_idle = λ pid. serving_idle pid.0

pub waiting_is_idle : AreIdle waiting (with_main (at 0 0 0 0 ((1, link_at 1 0) ∷ []) ∷ []))
waiting_is_idle = λ pid. waiting_idle pid.0

pub before_its_close_is_not_idle : AreIdle closing (begun 0) → ⊥
before_its_close_is_not_idle h = h (pid_at 0)

pub halted_is_not_idle : AreIdle large (begun 0) → ⊥
halted_is_not_idle h = h (pid_at 0)

pub without_a_rule_is_not_idle : AreIdle lost (begun 0) → ⊥
without_a_rule_is_not_idle h = h (pid_at 0)

pub closed_is_finished : IsFinished closing (closed 0)
closed_is_finished = record { idle = closed_is_idle; poised = single closing (left 0 End Client) refl }

pub serving_is_finished : IsFinished serving (begun 0)
serving_is_finished = record { idle = serving_is_idle; poised = single serving (at 0 0 0 0 []) (refl, refl) }

pub before_its_close_is_not_finished : IsFinished closing (begun 0) → ⊥
before_its_close_is_not_finished h = h.idle (pid_at 0)

pub halted_is_not_finished : IsFinished large (begun 0) → ⊥
halted_is_not_finished h = h.idle (pid_at 0)

pub waiting_is_not_finished : IsFinished waiting (with_main (at 0 0 0 0 ((1, link_at 1 0) ∷ []) ∷ [])) → ⊥
waiting_is_not_finished h = process_that_waits_is_not_poised (first_poised waiting (at 0 0 0 0 ((1, link_at 1 0) ∷ [])) h.poised)

pub message_left_to_provider_is_not_finished : IsFinished closing (with_main (left 0 End Provider ∷ [])) → ⊥
message_left_to_provider_is_not_finished h = message_to_provider_is_not_poised (first_poised closing (left 0 End Provider) h.poised)

-- ---- numbers of processes

main_once : (k : ℕ) → total (numbered_as (pid_at k)) (begun 0).items ≤ 1
main_once zero = omega arith
main_once (suc k) = rw (far0 k) (omega arith)

main_made : (k : ℕ) → 1 ≤ k → total (numbered_as (pid_at k)) (begun 0).items ≡ 0
main_made zero b = absurd (omega (arith, b))
main_made (suc k) b = rw (far0 k)

pub main_alone_is_apart : ArePidsApart (begun 0)
main_alone_is_apart = record { once = λ k. main_once k.0; made = λ k b. main_made k.0 b }

pub message_alone_is_apart : ArePidsApart (closed 0)
message_alone_is_apart = record { once = λ k. omega arith; made = λ k b. refl }

pub one_number_twice_is_not_apart : ArePidsApart (with_main (at 0 0 0 0 [] ∷ at 0 0 0 0 [] ∷ [])) → ⊥
one_number_twice_is_not_apart h = absurd (omega (arith, h.once (pid_at 0)))

pub number_never_made_is_not_apart : ArePidsApart (with_main (at 0 0 0 0 [] ∷ worker (link_at 1 0) ∷ [])) → ⊥
number_never_made_is_not_apart h = absurd (omega (arith, h.made (pid_at 1) (omega arith)))
