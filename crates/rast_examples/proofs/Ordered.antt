-- Which events are in order, row by row.
use Rattle.std.proofs.Common.{◌≡◌, arith, ℕ, zero, suc, ◌*◌, ◌+◌, ◌==◌, true, false, List, [], ◌∷◌, refl, ap}
use Rattle.rast_items.specs.Links.{pid_at, link_at}
use Rattle.rast_items.specs.declared.message.Body.TheVariants.{Label}
use Rattle.rast_items.specs.declared.message.Body.{Body}
use Rattle.rast_items.specs.declared.link.Link.{Link}
use Rattle.rast_items.specs.declared.event.Event.{Event}
use Rattle.rast_items.specs.Run.{Entry, IsOrdered, IsPrefix, AreNumbered, sent, taken}
use Rattle.rast_examples.specs.Sessions.{sends, takes, moves}

abbrev Holds : List Event → ℕ → Type 0
Holds es s = IsPrefix (taken (pid_at s) es) (sent (pid_at s) es) × AreNumbered (pid_at s) 0 (sent (pid_at s) es)

ordered : (es : List Event) → ((s : ℕ) → Holds es s) → IsOrdered es
ordered es h = record { prefix = λ s. (h s.0).0; numbered = λ s. (h s.0).1 }

far0 : (n : ℕ) → (0 == suc n) ≡ false
far0 n = grind arith

far1 : (n : ℕ) → (1 == suc (suc n)) ≡ false
far1 n = grind arith

-- ---- right

in_order_holds : (s : ℕ) → Holds (sends 0 7 ∷ takes 0 7 ∷ sends 1 8 ∷ takes 1 8 ∷ []) s
in_order_holds zero = (([], refl), tt)
in_order_holds (suc zero) = (([], refl), (refl, (refl, tt)))
in_order_holds (suc (suc s)) = rw (far1 s) (([], refl), tt)

pub taken_in_order_is_ordered : IsOrdered (sends 0 7 ∷ takes 0 7 ∷ sends 1 8 ∷ takes 1 8 ∷ [])
taken_in_order_is_ordered = ordered (sends 0 7 ∷ takes 0 7 ∷ sends 1 8 ∷ takes 1 8 ∷ []) in_order_holds

abbrev waiting : Entry
waiting = record { link = link_at 1 1; body = Label 8 }

waiting_holds : (s : ℕ) → Holds (sends 0 7 ∷ sends 1 8 ∷ takes 0 7 ∷ []) s
waiting_holds zero = (([], refl), tt)
waiting_holds (suc zero) = ((waiting ∷ [], refl), (refl, (refl, tt)))
waiting_holds (suc (suc s)) = rw (far1 s) (([], refl), tt)

pub waiting_message_is_ordered : IsOrdered (sends 0 7 ∷ sends 1 8 ∷ takes 0 7 ∷ [])
waiting_message_is_ordered = ordered (sends 0 7 ∷ sends 1 8 ∷ takes 0 7 ∷ []) waiting_holds

abbrev moved : Entry
moved = record { link = link_at 0 0; body = Label 7 }

moved_holds : (s : ℕ) → Holds (sends 0 7 ∷ moves 0 7 ∷ []) s
moved_holds zero = ((moved ∷ [], refl), (refl, tt))
moved_holds (suc zero) = (([], refl), (refl, tt))
moved_holds (suc (suc s)) = rw (far0 (suc s), far1 s) (([], refl), tt)

pub moved_message_is_ordered : IsOrdered (sends 0 7 ∷ moves 0 7 ∷ [])
moved_message_is_ordered = ordered (sends 0 7 ∷ moves 0 7 ∷ []) moved_holds

-- ---- wrong: what was taken

apart : false ≡ true → ⊥
apart e = cc

abbrev label_of : Body → ℕ
label_of (Label l) = l
label_of b = 0

-- the first entry as a number, and the one after it
abbrev first : List Entry → ℕ
first [] = 100
first (x ∷ xs) = x.link.index * 10 + label_of x.body

abbrev second : List Entry → ℕ
second [] = 100
second (x ∷ xs) = first xs

pub second_taken_first_is_not_ordered : IsOrdered (sends 0 7 ∷ sends 1 8 ∷ takes 1 8 ∷ takes 0 7 ∷ []) → ⊥
second_taken_first_is_not_ordered h = apart (ap (λ xs. first xs == 7) (h.prefix (pid_at 1)).1)

pub message_left_out_is_not_ordered : IsOrdered (sends 0 7 ∷ sends 1 8 ∷ takes 1 8 ∷ []) → ⊥
message_left_out_is_not_ordered h = apart (ap (λ xs. first xs == 7) (h.prefix (pid_at 1)).1)

pub message_never_sent_is_not_ordered : IsOrdered (sends 0 7 ∷ takes 0 7 ∷ takes 1 8 ∷ []) → ⊥
message_never_sent_is_not_ordered h = apart (ap (λ xs. second xs == 100) (h.prefix (pid_at 1)).1)

pub other_label_is_not_ordered : IsOrdered (sends 0 7 ∷ takes 0 8 ∷ []) → ⊥
other_label_is_not_ordered h = apart (ap (λ xs. first xs == 7) (h.prefix (pid_at 1)).1)

pub taken_twice_is_not_ordered : IsOrdered (sends 0 7 ∷ takes 0 7 ∷ takes 0 7 ∷ []) → ⊥
taken_twice_is_not_ordered h = apart (ap (λ xs. second xs == 100) (h.prefix (pid_at 1)).1)

pub taken_from_next_link_is_not_ordered : IsOrdered (sends 0 7 ∷ takes 1 7 ∷ []) → ⊥
taken_from_next_link_is_not_ordered h = apart (ap (λ xs. first xs == 7) (h.prefix (pid_at 1)).1)

pub moved_with_other_label_is_not_ordered : IsOrdered (sends 0 7 ∷ moves 0 8 ∷ []) → ⊥
moved_with_other_label_is_not_ordered h = apart (ap (λ xs. first xs == 7) (h.prefix (pid_at 1)).1)

-- ---- wrong: the links of what was sent

pub begun_at_link_one_is_not_ordered : IsOrdered (sends 1 7 ∷ []) → ⊥
begun_at_link_one_is_not_ordered h = apart (ap (λ (l : Link). l.index == 0) (h.numbered (pid_at 1)).0)

pub link_left_out_is_not_ordered : IsOrdered (sends 0 7 ∷ sends 2 8 ∷ []) → ⊥
link_left_out_is_not_ordered h = apart (ap (λ (l : Link). l.index == 1) (h.numbered (pid_at 1)).1.0)

pub link_used_twice_is_not_ordered : IsOrdered (sends 0 7 ∷ sends 0 8 ∷ []) → ⊥
link_used_twice_is_not_ordered h = apart (ap (λ (l : Link). l.index == 1) (h.numbered (pid_at 1)).1.0)

pub moved_to_next_link_is_not_ordered : IsOrdered (sends 0 7 ∷ moves 1 7 ∷ []) → ⊥
moved_to_next_link_is_not_ordered h = apart (ap (λ (l : Link). l.index == 0) (h.numbered (pid_at 0)).0)
