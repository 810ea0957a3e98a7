-- What is decided where a message is needed.
use Rattle.std.proofs.Common.{◌≡◌, ℕ, zero, suc, Bool, true, false, ◌+◌, ◌<◌, ◌≤◌, List, [], ◌∷◌, ◌++◌, Option, Some, None, refl, sym, ap, ◌∙◌, subst, arith, length, take, drop, get_or}
use Rattle.std.specs.Prelude.{slice_get}
use Rattle.std.proofs.lemmas.Option.{get_or_from_slice_get, slice_get_within}
use Rattle.std.proofs.lemmas.List.{length-take, length-drop, drop_more, drop_all}
use Rattle.rast_terms.specs.declared.program.Program.{Program}
use Rattle.rast_rules.specs.declared.judgement.Plan.{Plan}
use Rattle.rast_core.specs.Words.{Link, Pid, Side, Client, Provider, Msg, Item, P, M, Proc, Event, Take, Move}
use Rattle.rast_items.specs.Items.{held, potential_of}
use Rattle.rast_items.specs.Deeds.{taken_at}
use Rattle.rast_items.specs.Step.{Cut, cut, is_msg, Ready, Stuck, take_it, take_client, take_provider, move_provider, move_client, moved}
use Rattle.rast_core.specs.Shown.{run_code}
use Rattle.rast_core.specs.Edits.{IsCutAt, Decides, HandsOn}
use Rattle.rast_core.specs.declared.decision.Edit.TheVariants.{Merge}
use Rattle.rast_core.specs.declared.decision.Decision.{Decision}
use Rattle.rast_core.specs.declared.decision.Decision.TheVariants.{Does as Do}
use Rattle.rast_core.proofs.Cuts.{cut_is}
use Rattle.rast_core.proofs.Places.{later_gone, here_gone, earlier_gone}

-- the item at the place of a cut
pub record Met (test : Item → Bool) (xs : List Item) (j : ℕ) (x : Item) : Type 0 where
  pub is : cut test xs ≡ Some (record { before = take j xs; item = x; after = drop (j + 1) xs })
  pub get : slice_get xs j ≡ Some x
  pub within : j < length xs

pub met : (test : Item → Bool) (xs : List Item) (j : ℕ) (x : Item) → IsCutAt test xs j → x ≡ get_or xs j x → Met test xs j x
met test xs j x k h =
    let e : k.item ≡ x = sym (h ∙ get_or_from_slice_get xs j k.item x k.get) in
    record { is = k.is ∙ ap (λ (y : Item). Some (let c : Cut = record { before = take j xs; item = y; after = drop (j + 1) xs } in c)) e; get = k.get ∙ ap Some e; within = slice_get_within xs j k.item k.get }

-- the item that is read there
pub met_read : (test : Item → Bool) (xs ys : List Item) (j : ℕ) (y x : Item) → xs ≡ ys → IsCutAt test xs j → y ≡ get_or xs j y → y ≡ x → Met test ys j x
met_read test xs ys j y x v k h e = subst (λ (zs : List Item). Met test zs j x) v (subst (λ (z : Item). Met test xs j z) e (met test xs j y k h))

-- a message is met there, and no process
pub no_process : (l : Link) (s : Side) (xs : List Item) (j : ℕ) (q : Proc) → Met (is_msg l s) xs j (P q) → ⊥
no_process l s xs j q k = let e : false ≡ true = (cut_is (is_msg l s) xs _ k.is).passes in cc

pub potential_within : (xs : List Item) (i : ℕ) (x : Item) → slice_get xs i ≡ Some x → potential_of x ≤ held xs
potential_within [] zero x h = cc
potential_within [] (suc i) x h = cc
potential_within (y ∷ xs) zero x h = let e : y ≡ x = cc in omega (arith, ap potential_of e)
potential_within (y ∷ xs) (suc i) x h = omega (arith, potential_within xs i x h)

-- what is in a part of the list is in the list
held-drop : (n : ℕ) (xs : List Item) → held (drop n xs) ≤ held xs
held-drop zero xs = omega arith
held-drop (suc n) [] = omega arith
held-drop (suc n) (x ∷ xs) = omega (arith, held-drop n xs)

held-take : (n : ℕ) (xs : List Item) → held (take n xs) ≤ held xs
held-take zero xs = omega arith
held-take (suc n) [] = omega arith
held-take (suc n) (x ∷ xs) = omega (arith, held-take n xs)

pub below_potential : (items : List Item) (i j : ℕ) (m : Msg) (test : Item → Bool) → Met test (drop (i + 1) items) j (M m) → m.potential ≤ held items
below_potential items i j m test k = omega (arith, potential_within (drop (i + 1) items) j (M m) k.get, held-drop (i + 1) items)

pub above_potential : (items : List Item) (i j : ℕ) (m : Msg) (test : Item → Bool) → Met test (take i items) j (M m) → m.potential ≤ held items
above_potential items i j m test k = omega (arith, potential_within (take i items) j (M m) k.get, held-take i items)

abbrev Wanted : Program → Proc → Msg → Option Proc
Wanted g p m = taken_at (slice_get g.nodes p.node) p m

-- ---- a take of a message below

pub below_unfit : (g : Program) (plan : Plan) (items : List Item) (i j : ℕ) (p : Proc) (m : Msg) (l : Link) → Met (is_msg l Client) (drop (i + 1) items) j (M m) → Wanted g p m ≡ None →
    take_client (run_code g plan) (take i items) p l (cut (is_msg l Client) (drop (i + 1) items)) ≡ Stuck
below_unfit g plan items i j p m l k h =
    let f : Proc → List Item = λ q. take i items ++ (P q ∷ (take j (drop (i + 1) items) ++ drop (j + 1) (drop (i + 1) items))) in
    ap (take_client (run_code g plan) (take i items) p l) k.is ∙ ap (take_it f m) h

pub below_taken : (g : Program) (plan : Plan) (items : List Item) (i j : ℕ) (p q : Proc) (m : Msg) (l : Link) (e : Event) → i < length items → Met (is_msg l Client) (drop (i + 1) items) j (M m) → Wanted g p m ≡ Some q → e ≡ Take q.pid m.link m.body q.moment →
    Decides (take_client (run_code g plan) (take i items) p l (cut (is_msg l Client) (drop (i + 1) items))) items i (Do e (Merge i (P q) (i + 1 + j)) None)
below_taken g plan items i j p q m l e h k w v =
    let f : Proc → List Item = λ r. take i items ++ (P r ∷ (take j (drop (i + 1) items) ++ drop (j + 1) (drop (i + 1) items))) in
    let b : i + 1 + j < length items = omega (arith, k.within, length-drop (i + 1) items) in
    subst (λ (o : Option Cut). Decides (take_client (run_code g plan) (take i items) p l o) items i (Do e (Merge i (P q) (i + 1 + j)) None)) (sym k.is)
    (subst (λ (o : Option Proc). Decides (take_it f m o) items i (Do e (Merge i (P q) (i + 1 + j)) None)) (sym w) (v, later_gone items i j (P q) h, (h, b), refl))

-- ---- a take of a message above

pub above_unfit : (g : Program) (plan : Plan) (items : List Item) (i j : ℕ) (p : Proc) (m : Msg) (l : Link) → Met (is_msg l Provider) (take i items) j (M m) → Wanted g p m ≡ None →
    take_provider (run_code g plan) p l (cut (is_msg l Provider) (take i items)) (drop (i + 1) items) ≡ Stuck
above_unfit g plan items i j p m l k h =
    let f : Proc → List Item = λ q. take j (take i items) ++ (P q ∷ (drop (j + 1) (take i items) ++ drop (i + 1) items)) in
    ap (λ (o : Option Cut). take_provider (run_code g plan) p l o (drop (i + 1) items)) k.is ∙ ap (take_it f m) h

pub above_taken : (g : Program) (plan : Plan) (items : List Item) (i j : ℕ) (p q : Proc) (m : Msg) (l : Link) (e : Event) → i < length items → Met (is_msg l Provider) (take i items) j (M m) → Wanted g p m ≡ Some q → e ≡ Take q.pid m.link m.body q.moment →
    Decides (take_provider (run_code g plan) p l (cut (is_msg l Provider) (take i items)) (drop (i + 1) items)) items i (Do e (Merge j (P q) i) None)
above_taken g plan items i j p q m l e h k w v =
    let f : Proc → List Item = λ r. take j (take i items) ++ (P r ∷ (drop (j + 1) (take i items) ++ drop (i + 1) items)) in
    let b : j < i = omega (arith, k.within, length-take i items) in
    subst (λ (o : Option Cut). Decides (take_provider (run_code g plan) p l o (drop (i + 1) items)) items i (Do e (Merge j (P q) i) None)) (sym k.is)
    (subst (λ (o : Option Proc). Decides (take_it f m o) items i (Do e (Merge j (P q) i) None)) (sym w) (v, earlier_gone items i j (P q) h b, (omega (arith, b, h), h), refl))

-- ---- a forward

handed_below : (items : List Item) (i j : ℕ) (p : Proc) (x : Item) (other wait : Link) (d : Decision) → i < length items → j < length (drop (i + 1) items) → HandsOn x (i + 1 + j) i p.own p.pid d →
    Decides (move_client (take i items) p other wait (Some (record { before = take j (drop (i + 1) items); item = x; after = drop (j + 1) (drop (i + 1) items) })) (drop (i + 1) items)) items i d
handed_below items i j p (P q) other wait d h b s = absurd s
handed_below items i j p (M m) other wait d h b s =
    let c : i + 1 + j < length items = omega (arith, b, length-drop (i + 1) items) in
    subst (λ (y : Decision). Decides (Ready (Move p.pid m.link p.own m.body m.moment) (take i items ++ (take j (drop (i + 1) items) ++ (M (moved m p.own) ∷ drop (j + 1) (drop (i + 1) items))))) items i y) (sym s)
    (refl, here_gone items i j (M (moved m p.own)) h b, (c, h), refl)

pub below_moved : (items : List Item) (i j : ℕ) (p : Proc) (x : Item) (other wait : Link) (d : Decision) → i < length items → Met (is_msg other Client) (drop (i + 1) items) j x → HandsOn x (i + 1 + j) i p.own p.pid d →
    Decides (move_client (take i items) p other wait (cut (is_msg other Client) (drop (i + 1) items)) (drop (i + 1) items)) items i d
below_moved items i j p x other wait d h k s =
    subst (λ (o : Option Cut). Decides (move_client (take i items) p other wait o (drop (i + 1) items)) items i d) (sym k.is) (handed_below items i j p x other wait d h k.within s)

handed_above : (items : List Item) (i j : ℕ) (p : Proc) (x : Item) (other wait : Link) (d : Decision) → i < length items → j < i → HandsOn x j i other p.pid d →
    Decides (move_provider p other wait (Some (record { before = take j (take i items); item = x; after = drop (j + 1) (take i items) })) (drop (i + 1) items)) items i d
handed_above items i j p (P q) other wait d h b s = absurd s
handed_above items i j p (M m) other wait d h b s =
    subst (λ (y : Decision). Decides (Ready (Move p.pid m.link other m.body m.moment) (take j (take i items) ++ (M (moved m other) ∷ (drop (j + 1) (take i items) ++ drop (i + 1) items)))) items i y) (sym s)
    (refl, earlier_gone items i j (M (moved m other)) h b, (omega (arith, b, h), h), refl)

pub above_moved : (items : List Item) (i j : ℕ) (p : Proc) (x : Item) (other wait : Link) (d : Decision) → i < length items → Met (is_msg p.own Provider) (take i items) j x → HandsOn x j i other p.pid d →
    Decides (move_provider p other wait (cut (is_msg p.own Provider) (take i items)) (drop (i + 1) items)) items i d
above_moved items i j p x other wait d h k s =
    let b : j < i = omega (arith, k.within, length-take i items) in
    subst (λ (o : Option Cut). Decides (move_provider p other wait o (drop (i + 1) items)) items i d) (sym k.is) (handed_above items i j p x other wait d h b s)

pub none_below : (items : List Item) (i : ℕ) (p : Proc) (other wait : Link) (d : Decision) → cut (is_msg other Client) (drop (i + 1) items) ≡ None →
    Decides (move_provider p other wait (cut (is_msg p.own Provider) (take i items)) (drop (i + 1) items)) items i d →
    Decides (move_client (take i items) p other wait (cut (is_msg other Client) (drop (i + 1) items)) (drop (i + 1) items)) items i d
none_below items i p other wait d f h = subst (λ (o : Option Cut). Decides (move_client (take i items) p other wait o (drop (i + 1) items)) items i d) (sym f) h

-- the same with equal numbers
pub hands_same : (x : Item) (j i : ℕ) (k l : Link) (a b : Pid) (d : Decision) → k ≡ l → a ≡ b → HandsOn x j i k a d → HandsOn x j i l b d
hands_same x j i k l a b d e f h = subst (λ (o : Link). HandsOn x j i o b d) e (subst (λ (q : Pid). HandsOn x j i k q d) f h)

-- what is held from a place on
pub held_place : (xs : List Item) (i n : ℕ) (x : Item) → i < length xs → x ≡ get_or xs i x → n ≡ potential_of x → held (drop i xs) ≡ n + held (drop (i + 1) xs)
held_place xs i n x l h e = ap held (drop_more xs i x l) ∙ omega (arith, e, ap potential_of h)

pub held_end : (xs : List Item) (i : ℕ) → length xs ≤ i → held (drop i xs) ≡ 0
held_end xs i h = ap held (drop_all i xs h)
