-- Which items are well linked, row by row.
use Rattle.std.proofs.Common.{◌≡◌, ℕ, zero, suc, ◌+◌, ◌==◌, ◌&&◌, ◌≤◌, Bool, true, false, List, [], ◌∷◌, refl, ap, arith}
use Rattle.std.specs.Prelude.{nat_le}
use Rattle.rast_items.specs.Links.{link_at}
use Rattle.rast_items.specs.Items.{IsConfig, UsedEarlier, provided, used, times, uses, hit}
use Rattle.rast_items.specs.declared.link.Link.{Link}
use Rattle.rast_items.specs.declared.link.Side.TheVariants.{Client, Provider}
use Rattle.rast_items.specs.declared.message.Body.TheVariants.{End}
use Rattle.rast_items.specs.declared.item.Item.{Item}
use Rattle.rast_examples.specs.Configurations.{root, process, main, worker, message, label, channel}

-- ---- how a link stands in a list of items

at_most : (a b : ℕ) → nat_le a b ≡ true → a ≤ b
at_most a b e = grind arith

same : (a b : ℕ) → (a == b) ≡ true → a ≡ b
same a b e = grind arith

first_of : (a b : Bool) → (a && b) ≡ true → a ≡ true
first_of true b e = refl
first_of false b e = absurd (cc)

second_of : (a b : Bool) → (a && b) ≡ true → b ≡ true
second_of true b e = e
second_of false b e = absurd (cc)

abbrev is_earlier : List Item → Link → Bool
is_earlier [] l = true
is_earlier (i ∷ is) l = nat_le (times l (uses i)) (provided l is) && is_earlier is l

abbrev is_linked : List Item → Link → Bool
is_linked items l = nat_le (provided l items) 1 && ((used l items + hit l root == provided l items) && is_earlier items l)

earlier_of : (items : List Item) → ((l : Link) → is_earlier items l ≡ true) → UsedEarlier items
earlier_of [] h = tt
earlier_of (i ∷ is) h = (λ l. at_most (times l (uses i)) (provided l is) (first_of (nat_le (times l (uses i)) (provided l is)) (is_earlier is l) (h l)), earlier_of is (λ l. second_of (nat_le (times l (uses i)) (provided l is)) (is_earlier is l) (h l)))

linked : (items : List Item) → ((s i : ℕ) → is_linked items (link_at s i) ≡ true) → IsConfig root items
linked items h = record {
  once = λ l. at_most (provided l items) 1 (first_of (nat_le (provided l items) 1) ((used l items + hit l root == provided l items) && is_earlier items l) (h l.session.0 l.index));
  matched = λ l. same (used l items + hit l root) (provided l items) (first_of (used l items + hit l root == provided l items) (is_earlier items l) (rest l));
  earlier = earlier_of items (λ l. second_of (used l items + hit l root == provided l items) (is_earlier items l) (rest l));
}
  where
    rest : (l : Link) → ((used l items + hit l root == provided l items) && is_earlier items l) ≡ true
    rest l = second_of (nat_le (provided l items) 1) ((used l items + hit l root == provided l items) && is_earlier items l) (h l.session.0 l.index)

apart : false ≡ true → ⊥
apart e = cc

far0 : (n : ℕ) → (0 == suc n) ≡ false
far0 n = grind arith

far1 : (n : ℕ) → (1 == suc (suc n)) ≡ false
far1 n = grind arith

-- ---- right

main_alone_at : (s i : ℕ) → is_linked (main [] ∷ []) (link_at s i) ≡ true
main_alone_at zero zero = refl
main_alone_at zero (suc zero) = refl
main_alone_at zero (suc (suc i)) = simp (far0 (suc i))
main_alone_at (suc zero) zero = refl
main_alone_at (suc zero) (suc zero) = refl
main_alone_at (suc zero) (suc (suc i)) = refl
main_alone_at (suc (suc s)) i = simp (far0 (suc s))

pub main_alone_is_linked : IsConfig root (main [] ∷ [])
main_alone_is_linked = linked (main [] ∷ []) main_alone_at

client_before_provider_at : (s i : ℕ) → is_linked (main (link_at 1 0 ∷ []) ∷ worker (link_at 1 0) ∷ []) (link_at s i) ≡ true
client_before_provider_at zero zero = refl
client_before_provider_at zero (suc zero) = refl
client_before_provider_at zero (suc (suc i)) = simp (far0 (suc i))
client_before_provider_at (suc zero) zero = refl
client_before_provider_at (suc zero) (suc zero) = refl
client_before_provider_at (suc zero) (suc (suc i)) = simp (far0 (suc i))
client_before_provider_at (suc (suc s)) i = simp (far0 (suc s), far1 s)

pub client_before_provider_is_linked : IsConfig root (main (link_at 1 0 ∷ []) ∷ worker (link_at 1 0) ∷ [])
client_before_provider_is_linked = linked (main (link_at 1 0 ∷ []) ∷ worker (link_at 1 0) ∷ []) client_before_provider_at

message_to_client_at : (s i : ℕ) → is_linked (main (link_at 1 0 ∷ []) ∷ message (link_at 1 1) label Client ∷ worker (link_at 1 1) ∷ []) (link_at s i) ≡ true
message_to_client_at zero zero = refl
message_to_client_at zero (suc zero) = refl
message_to_client_at zero (suc (suc i)) = simp (far0 (suc i))
message_to_client_at (suc zero) zero = refl
message_to_client_at (suc zero) (suc zero) = refl
message_to_client_at (suc zero) (suc (suc i)) = simp (far0 (suc i), far1 i)
message_to_client_at (suc (suc s)) i = simp (far0 (suc s), far1 s)

pub message_to_client_is_linked : IsConfig root (main (link_at 1 0 ∷ []) ∷ message (link_at 1 1) label Client ∷ worker (link_at 1 1) ∷ [])
message_to_client_is_linked = linked (main (link_at 1 0 ∷ []) ∷ message (link_at 1 1) label Client ∷ worker (link_at 1 1) ∷ []) message_to_client_at

message_to_provider_at : (s i : ℕ) → is_linked (main (link_at 1 1 ∷ []) ∷ message (link_at 1 1) label Provider ∷ worker (link_at 1 0) ∷ []) (link_at s i) ≡ true
message_to_provider_at zero zero = refl
message_to_provider_at zero (suc zero) = refl
message_to_provider_at zero (suc (suc i)) = simp (far0 (suc i))
message_to_provider_at (suc zero) zero = refl
message_to_provider_at (suc zero) (suc zero) = refl
message_to_provider_at (suc zero) (suc (suc i)) = simp (far0 (suc i), far1 i)
message_to_provider_at (suc (suc s)) i = simp (far0 (suc s), far1 s)

pub message_to_provider_is_linked : IsConfig root (main (link_at 1 1 ∷ []) ∷ message (link_at 1 1) label Provider ∷ worker (link_at 1 0) ∷ [])
message_to_provider_is_linked = linked (main (link_at 1 1 ∷ []) ∷ message (link_at 1 1) label Provider ∷ worker (link_at 1 0) ∷ []) message_to_provider_at

end_to_client_at : (s i : ℕ) → is_linked (main (link_at 1 0 ∷ []) ∷ message (link_at 1 0) End Client ∷ []) (link_at s i) ≡ true
end_to_client_at zero zero = refl
end_to_client_at zero (suc zero) = refl
end_to_client_at zero (suc (suc i)) = simp (far0 (suc i))
end_to_client_at (suc zero) zero = refl
end_to_client_at (suc zero) (suc zero) = refl
end_to_client_at (suc zero) (suc (suc i)) = simp (far0 (suc i))
end_to_client_at (suc (suc s)) i = simp (far0 (suc s), far1 s)

pub end_to_client_is_linked : IsConfig root (main (link_at 1 0 ∷ []) ∷ message (link_at 1 0) End Client ∷ [])
end_to_client_is_linked = linked (main (link_at 1 0 ∷ []) ∷ message (link_at 1 0) End Client ∷ []) end_to_client_at

carried_channel_at : (s i : ℕ) → is_linked (main (link_at 1 0 ∷ []) ∷ message (link_at 1 1) channel Client ∷ worker (link_at 1 1) ∷ process 2 (link_at 0 1) [] ∷ []) (link_at s i) ≡ true
carried_channel_at zero zero = refl
carried_channel_at zero (suc zero) = refl
carried_channel_at zero (suc (suc i)) = simp (far0 (suc i), far1 i)
carried_channel_at (suc zero) zero = refl
carried_channel_at (suc zero) (suc zero) = refl
carried_channel_at (suc zero) (suc (suc i)) = simp (far0 (suc i), far1 i)
carried_channel_at (suc (suc s)) i = simp (far0 (suc s), far1 s)

pub carried_channel_is_linked : IsConfig root (main (link_at 1 0 ∷ []) ∷ message (link_at 1 1) channel Client ∷ worker (link_at 1 1) ∷ process 2 (link_at 0 1) [] ∷ [])
carried_channel_is_linked = linked (main (link_at 1 0 ∷ []) ∷ message (link_at 1 1) channel Client ∷ worker (link_at 1 1) ∷ process 2 (link_at 0 1) [] ∷ []) carried_channel_at

-- ---- wrong

pub no_main_is_not_linked : IsConfig root [] → ⊥
no_main_is_not_linked h = apart (ap (λ k. k == provided (link_at 0 0) []) (h.matched (link_at 0 0)))

pub main_elsewhere_is_not_linked : IsConfig root (worker (link_at 1 0) ∷ []) → ⊥
main_elsewhere_is_not_linked h = apart (ap (λ k. k == provided (link_at 0 0) (worker (link_at 1 0) ∷ [])) (h.matched (link_at 0 0)))

pub no_provider_is_not_linked : IsConfig root (main (link_at 1 0 ∷ []) ∷ []) → ⊥
no_provider_is_not_linked h = apart (ap (λ k. k == provided (link_at 1 0) (main (link_at 1 0 ∷ []) ∷ [])) (h.matched (link_at 1 0)))

pub other_provider_is_not_linked : IsConfig root (main (link_at 1 0 ∷ []) ∷ worker (link_at 1 1) ∷ []) → ⊥
other_provider_is_not_linked h = apart (ap (λ k. k == provided (link_at 1 0) (main (link_at 1 0 ∷ []) ∷ worker (link_at 1 1) ∷ [])) (h.matched (link_at 1 0)))

pub no_client_is_not_linked : IsConfig root (main [] ∷ worker (link_at 1 0) ∷ []) → ⊥
no_client_is_not_linked h = apart (ap (λ k. k == provided (link_at 1 0) (main [] ∷ worker (link_at 1 0) ∷ [])) (h.matched (link_at 1 0)))

pub two_providers_are_not_linked : IsConfig root (main (link_at 1 0 ∷ []) ∷ worker (link_at 1 0) ∷ process 2 (link_at 1 0) [] ∷ []) → ⊥
two_providers_are_not_linked h = absurd (omega (arith, h.once (link_at 1 0)))

pub two_clients_are_not_linked : IsConfig root (main (link_at 1 0 ∷ link_at 1 0 ∷ []) ∷ worker (link_at 1 0) ∷ []) → ⊥
two_clients_are_not_linked h = apart (ap (λ k. k == provided (link_at 1 0) (main (link_at 1 0 ∷ link_at 1 0 ∷ []) ∷ worker (link_at 1 0) ∷ [])) (h.matched (link_at 1 0)))

pub provider_before_client_is_not_linked : IsConfig root (worker (link_at 1 0) ∷ main (link_at 1 0 ∷ []) ∷ []) → ⊥
provider_before_client_is_not_linked h = absurd (omega (arith, h.earlier.1.0 (link_at 1 0)))

pub own_link_used_is_not_linked : IsConfig root (main (root ∷ []) ∷ []) → ⊥
own_link_used_is_not_linked h = apart (ap (λ k. k == provided (link_at 0 0) (main (root ∷ []) ∷ [])) (h.matched (link_at 0 0)))

pub message_to_other_side_is_not_linked : IsConfig root (main (link_at 1 0 ∷ []) ∷ message (link_at 1 1) label Provider ∷ worker (link_at 1 1) ∷ []) → ⊥
message_to_other_side_is_not_linked h = absurd (omega (arith, h.once (link_at 1 1)))

pub message_with_other_next_is_not_linked : IsConfig root (main (link_at 1 0 ∷ []) ∷ message (link_at 1 2) label Client ∷ worker (link_at 1 1) ∷ []) → ⊥
message_with_other_next_is_not_linked h = apart (ap (λ k. k == provided (link_at 1 1) (main (link_at 1 0 ∷ []) ∷ message (link_at 1 2) label Client ∷ worker (link_at 1 1) ∷ [])) (h.matched (link_at 1 1)))

pub message_before_client_is_not_linked : IsConfig root (message (link_at 1 1) label Client ∷ main (link_at 1 0 ∷ []) ∷ worker (link_at 1 1) ∷ []) → ⊥
message_before_client_is_not_linked h = absurd (omega (arith, h.earlier.1.0 (link_at 1 0)))

pub label_without_next_is_not_linked : IsConfig root (main (link_at 1 0 ∷ []) ∷ message (link_at 1 0) label Client ∷ []) → ⊥
label_without_next_is_not_linked h = apart (ap (λ k. k == provided (link_at 1 0) (main (link_at 1 0 ∷ []) ∷ message (link_at 1 0) label Client ∷ [])) (h.matched (link_at 1 0)))

pub provider_after_end_is_not_linked : IsConfig root (main (link_at 1 0 ∷ []) ∷ message (link_at 1 0) End Client ∷ worker (link_at 1 1) ∷ []) → ⊥
provider_after_end_is_not_linked h = apart (ap (λ k. k == provided (link_at 1 1) (main (link_at 1 0 ∷ []) ∷ message (link_at 1 0) End Client ∷ worker (link_at 1 1) ∷ [])) (h.matched (link_at 1 1)))

pub carried_without_provider_is_not_linked : IsConfig root (main (link_at 1 0 ∷ []) ∷ message (link_at 1 1) channel Client ∷ worker (link_at 1 1) ∷ []) → ⊥
carried_without_provider_is_not_linked h = apart (ap (λ k. k == provided (link_at 0 1) (main (link_at 1 0 ∷ []) ∷ message (link_at 1 1) channel Client ∷ worker (link_at 1 1) ∷ [])) (h.matched (link_at 0 1)))

pub carried_and_kept_is_not_linked : IsConfig root (main (link_at 1 0 ∷ link_at 0 1 ∷ []) ∷ message (link_at 1 1) channel Client ∷ worker (link_at 1 1) ∷ process 2 (link_at 0 1) [] ∷ []) → ⊥
carried_and_kept_is_not_linked h = apart (ap (λ k. k == provided (link_at 0 1) (main (link_at 1 0 ∷ link_at 0 1 ∷ []) ∷ message (link_at 1 1) channel Client ∷ worker (link_at 1 1) ∷ process 2 (link_at 0 1) [] ∷ [])) (h.matched (link_at 0 1)))
