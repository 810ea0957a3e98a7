-- A process's array of links, seen as its channels.
use Rattle.std.proofs.Common.{◌≡◌, ℕ, zero, suc, ◌+◌, ◌-◌, ◌<◌, ◌≤◌, List, [], ◌∷◌, ◌++◌, arith, refl, sym, ap, ap₂, ◌∙◌, length, take, drop, set, remove, replicate, add-one}
use Rattle.std.proofs.lemmas.List.{replicate_more, drop-set-lt, length-set, length-append, length-take, length-drop}
use Rattle.std.proofs.Math.Seq.{take-set-lt}
use Rattle.rast_index.specs.Keys.{find_key, set_key, drop_key, IsPlace}
use Rattle.rast_items.specs.declared.link.Link.{Link}
use Rattle.rast_items.specs.Process.{Process, no_link, own_of, uses_of, first_is_own}
use Rattle.rast_items.specs.Again.{count_again}
use Rattle.rast_items.specs.Deeds.{link_of, with_link}
use Rattle.rast_items.proofs.EntryLemmas.{place_set, place_drop, gap_take, gap_drop, filled_more}

abbrev Entry : Type 0
Entry = ℕ × Link

pub link_of_used : (p : Process) (x : ℕ) → (x ≡ 0 → ⊥) → link_of p x ≡ find_key x p.uses
link_of_used p zero h = absurd (h refl)
link_of_used p (suc x) h = refl

pub with_link_used : (p : Process) (x : ℕ) (l : Link) → (x ≡ 0 → ⊥) → with_link p x l ≡ record p { uses = set_key x l p.uses }
with_link_used p zero l h = absurd (h refl)
with_link_used p (suc x) l h = refl

pub own_kept : (links : List Entry) (i : ℕ) (e : Entry) → own_of (set links (suc i) e) ≡ own_of links
own_kept [] i e = refl
own_kept (x ∷ xs) i e = refl

pub first_kept : (links : List Entry) (i : ℕ) (e : Entry) → 1 ≤ i → first_is_own links → first_is_own (set links i e)
first_kept [] i e h f = absurd f
first_kept (x ∷ xs) zero e h f = absurd (omega (arith, h))
first_kept (x ∷ xs) (suc i) e h f = f

pub uses_put : (c i : ℕ) (links : List Entry) (e : Entry) → i + 1 < c → uses_of c (set links (i + 1) e) ≡ set (uses_of c links) i e
uses_put zero i links e h = absurd (omega (arith, h))
uses_put (suc c) i [] e h = refl
uses_put (suc c) i (x ∷ xs) e h = ap (λ (n : ℕ). drop 1 (take (suc c) (set (x ∷ xs) n e))) (add-one i) ∙ take-set-lt c xs i e (omega (arith, h))

-- the same process with one used channel at another link
pub record Array (c : ℕ) (links : List Entry) (uses : List Entry) (own : Link) : Type 0 where
  pub uses_are : uses_of c links ≡ uses
  pub own_is : own_of links ≡ own
  pub first : first_is_own links
  pub filled : drop c links ≡ replicate (16 - c) no_link
  pub whole : length links ≡ 16

pub put_array : (c i x : ℕ) (l : Link) (links uses : List Entry) (own : Link) → c ≤ 16 → i + 1 < c → IsPlace x uses i → Array c links uses own → Array c (set links (i + 1) (x, l)) (set_key x l uses) own
put_array c i x l links uses own h k p a = record {
  uses_are = uses_put c i links (x, l) k ∙ (ap (λ (us : List Entry). set us i (x, l)) a.uses_are ∙ sym (place_set x l uses i no_link p));
  own_is = ap (λ (n : ℕ). own_of (set links n (x, l))) (add-one i) ∙ (own_kept links i (x, l) ∙ a.own_is);
  first = first_kept links (i + 1) (x, l) (omega arith) a.first;
  filled = drop-set-lt c links (i + 1) (x, l) k ∙ a.filled;
  whole = length-set links (i + 1) (x, l) ∙ a.whole;
}

pub push_array : (c x : ℕ) (l : Link) (links uses : List Entry) (own : Link) → 1 ≤ c → c < 16 → Array c links uses own → (first_is_own (set links c (x, l))) × (drop (c + 1) (set links c (x, l)) ≡ replicate (16 - (c + 1)) no_link)
push_array c x l links uses own g h a = (first_kept links c (x, l) g a.first, filled_more no_link (x, l) 16 c links h a.whole a.filled)

-- an entry is taken out
taken_uses : (c i : ℕ) (links : List Entry) → i + 1 < c → c ≤ length links → uses_of (c - 1) (remove links (i + 1) ++ no_link ∷ []) ≡ remove (uses_of c links) i
taken_uses zero i links h k = absurd (omega (arith, h))
taken_uses (suc c) i [] h k = absurd (omega (arith, k))
taken_uses (suc zero) i (x ∷ xs) h k = absurd (omega (arith, h))
taken_uses (suc (suc c)) i (x ∷ xs) h k =
    let s : suc (suc c) - 1 ≡ suc c = omega arith in
    ap₂ (λ (n m : ℕ). uses_of n (remove (x ∷ xs) m ++ no_link ∷ [])) s (add-one i) ∙ gap_take xs i c no_link (omega (arith, h)) (omega (arith, k))

taken_rest : (c i : ℕ) (links : List Entry) → i + 1 < c → c ≤ length links → drop (c - 1) (remove links (i + 1) ++ no_link ∷ []) ≡ drop c links ++ no_link ∷ []
taken_rest zero i links h k = absurd (omega (arith, h))
taken_rest (suc c) i links h k =
    let s : suc c - 1 ≡ c = omega arith in
    ap (λ (n : ℕ). drop n (remove links (i + 1) ++ no_link ∷ [])) s ∙ gap_drop links (i + 1) c no_link (omega (arith, h)) (omega (arith, k))

own_left : (i : ℕ) (links : List Entry) (d : Entry) → 1 ≤ i → 1 ≤ length links → own_of (remove links i ++ d ∷ []) ≡ own_of links
own_left zero links d h k = absurd (omega (arith, h))
own_left (suc i) [] d h k = absurd (omega (arith, k))
own_left (suc i) (x ∷ xs) d h k = refl

first_left : (i : ℕ) (links : List Entry) (d : Entry) → 1 ≤ i → first_is_own links → first_is_own (remove links i ++ d ∷ [])
first_left zero links d h f = absurd (omega (arith, h))
first_left (suc i) [] d h f = absurd f
first_left (suc i) (x ∷ xs) d h f = f

pub take_array : (c i x : ℕ) (links uses : List Entry) (own : Link) → c ≤ 16 → i + 1 < c → IsPlace x uses i → Array c links uses own → Array (c - 1) (remove links (i + 1) ++ no_link ∷ []) (drop_key x uses) own
take_array c i x links uses own h k p a =
    let n : c ≤ length links = omega (arith, a.whole, h) in
    let s : 16 - c + 1 ≡ 16 - (c - 1) = omega (arith, h, k) in
    let l : length (remove links (i + 1)) + 1 ≡ length links = omega (arith, length-append (take (i + 1) links) (drop (suc (i + 1)) links), length-take (i + 1) links, length-drop (suc (i + 1)) links, n, k) in
    record {
      uses_are = taken_uses c i links k n ∙ (ap (λ (us : List Entry). remove us i) a.uses_are ∙ sym (place_drop x uses i no_link p));
      own_is = own_left (i + 1) links no_link (omega arith) (omega (arith, n, k)) ∙ a.own_is;
      first = first_left (i + 1) links no_link (omega arith) a.first;
      filled = taken_rest c i links k n ∙ (ap (λ (xs : List Entry). xs ++ no_link ∷ []) a.filled ∙ (replicate_more (16 - c) no_link ∙ ap (λ (m : ℕ). replicate m no_link) s));
      whole = omega (arith, length-append (remove links (i + 1)) (no_link ∷ []), l, a.whole);
    }

-- a place among the used channels is one before the last of the array's that are in use
pub place_below : (c i x : ℕ) (links uses : List Entry) (own : Link) → 1 ≤ c → c ≤ 16 → Array c links uses own → IsPlace x uses i → i + 1 < c
place_below c i x links uses own g h a p = omega (arith, p.below, ap length a.uses_are, count_again c links g h a.whole)

pub view_with : (q s : Process) (own : Link) (us ws : List Entry) → q ≡ s → own ≡ s.own → us ≡ ws → record q { own = own; uses = us } ≡ record s { uses = ws }
view_with q s own us ws v o u = ap (λ (r : Process). record r { own = own; uses = us }) v ∙ ap₂ (λ (k : Link) (w : List Entry). record s { own = k; uses = w }) o u
