-- A list is cut at the process with a number, where no other has it.
use Rattle.std.proofs.Common.{◌≡◌, ℕ, Bool, true, false, cond, ◌+◌, List, [], ◌∷◌, ◌++◌, Some, arith, refl, sym, ap, ap₂, ◌∙◌, subst, subst₂, ◌&&◌, if◌then◌else◌}
use Rattle.rast_items.specs.Items.{same_pid, same_link, same_side}
use Rattle.rast_items.specs.Step.{Cut, cut, cut_more, is_proc, is_msg}
use Rattle.rast_order.proofs.Words.{Pid, Link, Item, P, M, Proc, Msg, Side, Client, Provider}
use Rattle.rast_order.proofs.Pids.{named, is_of}

abbrev pub cut_at : List Item → Item → List Item → Cut
cut_at b i a = record { before = b; item = i; after = a }

pub cut_past : (test : Item → Bool) (j : Item) (b : List Item) (i : Item) (a : List Item) → test j ≡ false → cut test (b ++ (i ∷ a)) ≡ Some (cut_at b i a) → cut test (j ∷ (b ++ (i ∷ a))) ≡ Some (cut_at (j ∷ b) i a)
cut_past test j b i a n h = ap (λ (x : Bool). if x then Some (cut_at [] j (b ++ (i ∷ a))) else cut_more j (cut test (b ++ (i ∷ a)))) n ∙ ap (cut_more j) h

-- the first item passes
pub cut_here : (test : Item → Bool) (i : Item) (a : List Item) → test i ≡ true → cut test (i ∷ a) ≡ Some (cut_at [] i a)
cut_here test i a e = ap (λ (x : Bool). if x then Some (cut_at [] i a) else cut_more i (cut test a)) e

not_named : (k : Pid) (p : Proc) (is : List Item) → is_of k p.pid + named k is ≡ 0 → same_pid p.pid k ≡ false
not_named k p is h = pick (same_pid p.pid k) refl
  where
    pick : (b : Bool) → same_pid p.pid k ≡ b → same_pid p.pid k ≡ false
    pick true e = absurd (omega (arith, h, ap (λ (x : Bool). let n : ℕ = cond x 1 0 in n) e))
    pick false e = e

pub cut_named : (k : Pid) (b : List Item) (p : Proc) (a : List Item) → named k b ≡ 0 → p.pid ≡ k → cut (is_proc k) (b ++ (P p ∷ a)) ≡ Some (cut_at b (P p) a)
cut_named k [] p a n e = cut_here (is_proc k) (P p) a (same_self k (p.pid) e)
  where
    same_self : (k j : Pid) → j ≡ k → same_pid j k ≡ true
    same_self k j e = subst (λ x. same_pid x k ≡ true) (sym e) (grind arith)
cut_named k (P q ∷ b) p a n e = cut_past (is_proc k) (P q) b (P p) a (not_named k q b n) (cut_named k b p a (omega (arith, n)) e)
cut_named k (M m ∷ b) p a n e = cut_past (is_proc k) (M m) b (P p) a refl (cut_named k b p a (omega (arith, n)) e)

-- ---- a list with an item that passes is cut somewhere

pub record HasCut (test : Item → Bool) (items : List Item) : Type 0 where
  pub c : Cut
  pub is : cut test items ≡ Some c

more_cut : (test : Item → Bool) (x : Item) (items : List Item) (t : Bool) → test x ≡ t → HasCut test items → HasCut test (x ∷ items)
more_cut test x items true e h = record { c = cut_at [] x items; is = cut_here test x items e }
more_cut test x items false e h = record { c = record { before = x ∷ h.c.before; item = h.c.item; after = h.c.after }; is = ap (λ (b : Bool). if b then Some (cut_at [] x items) else cut_more x (cut test items)) e ∙ ap (cut_more x) h.is }

pub has_cut : (test : Item → Bool) (b a : List Item) (i : Item) → test i ≡ true → HasCut test (b ++ (i ∷ a))
has_cut test [] a i h = record { c = cut_at [] i a; is = cut_here test i a h }
has_cut test (x ∷ b) a i h = more_cut test x (b ++ (i ∷ a)) (test x) refl (has_cut test b a i h)

same_link_self : (l : Link) → same_link l l ≡ true
same_link_self l = grind arith

side_self : (s : Side) → same_side s s ≡ true
side_self Client = refl
side_self Provider = refl

pub is_msg_true : (l : Link) (s : Side) (m : Msg) → m.link ≡ l → m.toward ≡ s → is_msg l s (M m) ≡ true
is_msg_true l s m e t = subst₂ (λ x y. same_link m.link x && same_side m.toward y ≡ true) e t (ap₂ (λ (a b : Bool). a && b) (same_link_self m.link) (side_self m.toward))
