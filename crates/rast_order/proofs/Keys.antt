-- Links in lists of channels.
use Rattle.std.proofs.Common.{◌≡◌, ℕ, ◌≤◌, ◌+◌, List, [], ◌∷◌, ◌++◌, Option, Some, None, map, arith, refl}
use Rattle.rast_index.specs.Keys.{find_key, set_key, drop_key, pull, put_first, numbered}
use Rattle.rast_order.proofs.Words.{Link}
use Rattle.rast_items.specs.Items.{hit, times}

-- how often a link is held
abbrev pub held_by : Link → List (ℕ × Link) → ℕ
held_by l us = times l (map (λ u. u.1) us)

drop_step : (x : ℕ) (k l : Link) (e : ℕ × Link) (es : List (ℕ × Link)) → (find_key x es ≡ Some k → held_by l (drop_key x es) + hit l k ≡ held_by l es) → find_key x (e ∷ es) ≡ Some k → held_by l (drop_key x (e ∷ es)) + hit l k ≡ held_by l (e ∷ es)
drop_step x k l e es ih h = grind arith

set_step : (x : ℕ) (k l n : Link) (e : ℕ × Link) (es : List (ℕ × Link)) → (find_key x es ≡ Some k → held_by l (set_key x n es) + hit l k ≡ held_by l es + hit l n) → find_key x (e ∷ es) ≡ Some k → held_by l (set_key x n (e ∷ es)) + hit l k ≡ held_by l (e ∷ es) + hit l n
set_step x k l n e es ih h = grind arith

pub drop_held : (x : ℕ) (k l : Link) (us : List (ℕ × Link)) → find_key x us ≡ Some k → held_by l (drop_key x us) + hit l k ≡ held_by l us
drop_held x k l [] h = cc
drop_held x k l (e ∷ es) h = drop_step x k l e es (drop_held x k l es) h

pub set_held : (x : ℕ) (k l n : Link) (us : List (ℕ × Link)) → find_key x us ≡ Some k → held_by l (set_key x n us) + hit l k ≡ held_by l us + hit l n
set_held x k l n [] h = cc
set_held x k l n (e ∷ es) h = set_step x k l n e es (set_held x k l n es) h

set_has_step : (x : ℕ) (k l n : Link) (e : ℕ × Link) (es : List (ℕ × Link)) → (find_key x es ≡ Some k → hit l n ≤ held_by l (set_key x n es)) → find_key x (e ∷ es) ≡ Some k → hit l n ≤ held_by l (set_key x n (e ∷ es))
set_has_step x k l n e es ih h = grind arith

pub set_has : (x : ℕ) (k l n : Link) (us : List (ℕ × Link)) → find_key x us ≡ Some k → hit l n ≤ held_by l (set_key x n us)
set_has x k l n [] h = cc
set_has x k l n (e ∷ es) h = set_has_step x k l n e es (set_has x k l n es) h

pub held-append : (l : Link) (us vs : List (ℕ × Link)) → held_by l (us ++ vs) ≡ held_by l us + held_by l vs
held-append l [] vs = omega arith
held-append l (u ∷ us) vs = omega (arith, held-append l us vs)

pub numbered_held : (l : Link) (k : ℕ) (ls : List Link) → held_by l (numbered k ls) ≡ times l ls
numbered_held l k [] = refl
numbered_held l k (m ∷ ls) = omega (arith, numbered_held l (k + 1) ls)

pull_rest : (l m : Link) (y : ℕ) (us : List (ℕ × Link)) (r : List Link × List (ℕ × Link)) (o : Option (List Link × List (ℕ × Link))) → find_key y us ≡ Some m → ((s : List Link × List (ℕ × Link)) → o ≡ Some s → times l s.0 + held_by l s.1 ≡ held_by l (drop_key y us)) → put_first m o ≡ Some r → times l r.0 + held_by l r.1 ≡ held_by l us
pull_rest l m y us r None e ih q = cc
pull_rest l m y us r (Some s) e ih q = grind (arith, ih s refl, drop_held y m l us e)

pull_found : (l : Link) (y : ℕ) (ys : List ℕ) (us : List (ℕ × Link)) (r : List Link × List (ℕ × Link)) (o : Option Link) → find_key y us ≡ o → ((vs : List (ℕ × Link)) (s : List Link × List (ℕ × Link)) → pull ys vs ≡ Some s → times l s.0 + held_by l s.1 ≡ held_by l vs) → elim o [ None ↦ None | Some m ↦ put_first m (pull ys (drop_key y us)) ] ≡ Some r → times l r.0 + held_by l r.1 ≡ held_by l us
pull_found l y ys us r None e ih q = cc
pull_found l y ys us r (Some m) e ih q = pull_rest l m y us r (pull ys (drop_key y us)) e (ih (drop_key y us)) q

pub pull_held : (l : Link) (ys : List ℕ) (us : List (ℕ × Link)) (r : List Link × List (ℕ × Link)) → pull ys us ≡ Some r → times l r.0 + held_by l r.1 ≡ held_by l us
pull_held l [] us r h = grind arith
pull_held l (y ∷ ys) us r h = pull_found l y ys us r (find_key y us) refl (pull_held l ys) h
