-- Counts of links over lists of items.
use Rattle.std.proofs.Common.{◌≡◌, ℕ, Bool, true, false, ◌≤◌, ◌+◌, ◌==◌, ◌&&◌, List, [], ◌∷◌, ◌++◌, ◌⊎◌, inl, inr, arith, refl, sym, ap, ap₂, subst, eqb-true}
use Rattle.rast_order.proofs.Words.{Link, Pid, Item}
use Rattle.rast_items.specs.Items.{uses, provides, same_link, same_pid, pid_at, hit, times, total, provided, used, UsedEarlier}
use Rattle.rast_items.specs.Run.{messages_on}

-- ---- sums over lists

pub total-append : (w : Item → ℕ) (xs ys : List Item) → total w (xs ++ ys) ≡ total w xs + total w ys
total-append w [] ys = omega arith
total-append w (x ∷ xs) ys = omega (arith, total-append w xs ys)

pub times-append : (xs ys : List Link) (l : Link) → times l (xs ++ ys) ≡ times l xs + times l ys
times-append [] ys l = omega arith
times-append (x ∷ xs) ys l = omega (arith, times-append xs ys l)

pub provided-append : (xs ys : List Item) (l : Link) → provided l (xs ++ ys) ≡ provided l xs + provided l ys
provided-append xs ys l = total-append (λ i. hit l (provides i)) xs ys

pub used-append : (xs ys : List Item) (l : Link) → used l (xs ++ ys) ≡ used l xs + used l ys
used-append xs ys l = total-append (λ i. times l (uses i)) xs ys

-- how many messages have this link
abbrev pub on : Link → List Item → ℕ
on l items = total (messages_on l) items

pub on-append : (xs ys : List Item) (l : Link) → on l (xs ++ ys) ≡ on l xs + on l ys
on-append xs ys l = total-append (messages_on l) xs ys

-- ---- the same link

pub and_left : (a b : Bool) → a && b ≡ true → (a ≡ true) × (b ≡ true)
and_left true b h = (refl, h)
and_left false b h = cc

pub pid_is : (a b : Pid) → a.0 ≡ b.0 → a ≡ b
pid_is a b e = ap pid_at e

pub same_pid_is : (a b : Pid) → same_pid a b ≡ true → a ≡ b
same_pid_is a b h = pid_is a b (eqb-true a.0 b.0 h)

pub link_is : (a b : Link) → a.session ≡ b.session → a.index ≡ b.index → a ≡ b
link_is a b s i = ap₂ (λ (x : Pid) (y : ℕ). let l : Link = record { session = x; index = y } in l) s i

pub same_link_is : (a b : Link) → same_link a b ≡ true → a ≡ b
same_link_is a b h =
    let k = and_left (same_pid a.session b.session) (a.index == b.index) h in
    link_is a b (same_pid_is a.session b.session k.0) (eqb-true a.index b.index k.1)

pub hit_self : (l : Link) → hit l l ≡ 1
hit_self l = grind arith

pub hit_of : (l k : Link) → k ≡ l → hit l k ≡ 1
hit_of l k e = subst (λ x. hit l x ≡ 1) (sym e) (hit_self l)

pub hit_cases : (l k : Link) → (k ≡ l) ⊎ (hit l k ≡ 0)
hit_cases l k = pick (same_link k l) refl
  where
    pick : (b : Bool) → same_link k l ≡ b → (k ≡ l) ⊎ (hit l k ≡ 0)
    pick true e = inl (same_link_is k l e)
    pick false e = inr (grind arith)

-- ---- each used link is provided later

-- what an item and all after it use is provided after it
abbrev pub Covered : List Item → Type 0
Covered [] = Unit {0}
Covered (i ∷ is) = ((l : Link) → times l (uses i) + used l is ≤ provided l is) × Covered is

pub used_le : (items : List Item) → Covered items → (l : Link) → used l items ≤ provided l items
used_le [] c l = omega arith
used_le (i ∷ is) c l = omega (arith, c.0 l)

pub covered : (items : List Item) → ((l : Link) → used l items ≤ 1) → UsedEarlier items → Covered items
covered [] h e = tt
covered (i ∷ is) h e =
    let rest : Covered is = covered is (λ l. omega (arith, h l)) e.1 in
    (λ l. omega (arith, h l, e.0 l, used_le is rest l), rest)

pub earlier : (items : List Item) → Covered items → UsedEarlier items
earlier [] c = tt
earlier (i ∷ is) c = (λ l. omega (arith, c.0 l), earlier is c.1)

-- at this link the second list has as much to spare as the first, or nothing uses it
abbrev pub Spares : List Item → List Item → List Item → Link → Type 0
Spares before rest new l = (provided l rest + used l new ≤ provided l new + used l rest) ⊎ (used l (before ++ new) ≡ 0)

spares_tail : (i : Item) (before rest new : List Item) (l : Link) → Spares (i ∷ before) rest new l → Spares before rest new l
spares_tail i before rest new l (inl h) = inl h
spares_tail i before rest new l (inr h) = inr (omega (arith, h))

covers : (i : Item) (before rest new : List Item) (l : Link) → times l (uses i) + used l (before ++ rest) ≤ provided l (before ++ rest) → Spares (i ∷ before) rest new l → times l (uses i) + used l (before ++ new) ≤ provided l (before ++ new)
covers i before rest new l h (inl s) = omega (arith, used-append before rest l, used-append before new l, provided-append before rest l, provided-append before new l, h, s)
covers i before rest new l h (inr s) = omega (arith, s)

-- another tail in the place of one
pub swap_tail : (before rest new : List Item) → Covered (before ++ rest) → Covered new → ((l : Link) → Spares before rest new l) → Covered (before ++ new)
swap_tail [] rest new c d s = d
swap_tail (i ∷ before) rest new c d s =
    (λ l. covers i before rest new l (c.0 l) (s l), swap_tail before rest new c.1 d (λ l. spares_tail i before rest new l (s l)))

pub drop_front : (before rest : List Item) → Covered (before ++ rest) → Covered rest
drop_front [] rest c = c
drop_front (i ∷ before) rest c = drop_front before rest c.1
