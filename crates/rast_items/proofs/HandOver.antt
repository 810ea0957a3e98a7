-- Channels that go from one process to another, one after another.
use Rattle.std.proofs.Common.{◌≡◌, ℕ, suc, Bool, true, false, ◌==◌, ◌+◌, ◌<◌, ◌≤◌, List, [], ◌∷◌, ◌++◌, Option, Some, None, length, get_or, drop, refl, sym, ap, ap₂, ◌∙◌, arith, if◌then◌else◌, append_assoc}
use Rattle.std.proofs.lemmas.List.{drop_more, drop_all, append-nil, length_push}
use Rattle.rast_index.specs.Keys.{find_key, drop_key, pull, put_first, numbered}
use Rattle.rast_items.specs.declared.link.Link.{Link}
use Rattle.rast_items.specs.Process.{Process}
use Rattle.rast_items.specs.Deeds.{with_channel}
use Rattle.rast_items.specs.Actions.{HandsOver}

abbrev Pulled : Type 0
Pulled = Option (List Link × List (ℕ × Link))

-- links that were taken before others
abbrev pub put_before : List Link → Pulled → Pulled
put_before ls None = None
put_before ls (Some r) = Some (ls ++ r.0, r.1)

before_first : (ls : List Link) (l : Link) (o : Pulled) → put_before ls (put_first l o) ≡ put_before (ls ++ l ∷ []) o
before_first ls l None = refl
before_first ls l (Some r) = ap (λ (ks : List Link). Some (ks, r.1)) (sym (append_assoc ls (l ∷ []) r.0))

before_none : (o : Pulled) → o ≡ put_before [] o
before_none None = refl
before_none (Some r) = refl

pulled_on : (y : ℕ) (ys : List ℕ) (us : List (ℕ × Link)) (f : Option Link) → find_key y us ≡ f → pull (y ∷ ys) us ≡ (elim f [ None ↦ None | Some l ↦ put_first l (pull ys (drop_key y us)) ])
pulled_on y ys us f e = ap (λ (o : Option Link). elim o as (λ z. Pulled) [ None ↦ None | Some l ↦ put_first l (pull ys (drop_key y us)) ]) e

fewer_by : (b : Bool) (a : Link) (e : ℕ × Link) (es fs : List (ℕ × Link)) (o : Option Link) → (if b then Some e.1 else o) ≡ Some a → (o ≡ Some a → length fs + 1 ≡ length es) → length (if b then es else e ∷ fs) + 1 ≡ length (e ∷ es)
fewer_by true a e es fs o h f = omega arith
fewer_by false a e es fs o h f = omega (arith, f h)

fewer : (y : ℕ) (us : List (ℕ × Link)) (l : Link) → find_key y us ≡ Some l → length (drop_key y us) + 1 ≡ length us
fewer y [] l h = cc
fewer y (u ∷ us) l h = fewer_by (u.0 == y) l u us (drop_key y us) (find_key y us) h (fewer y us l)

numbered_push : (k : ℕ) (ls : List Link) (l : Link) → numbered k (ls ++ l ∷ []) ≡ numbered k ls ++ (k + length ls, l) ∷ []
numbered_push k [] l = let e : k ≡ k + 0 = omega arith in ap (λ (n : ℕ). (n, l) ∷ []) e
numbered_push k (x ∷ ls) l = let e : k + 1 + length ls ≡ k + suc (length ls) = omega arith in ap (λ (es : List (ℕ × Link)). (k, x) ∷ es) (numbered_push (k + 1) ls l ∙ ap (λ (n : ℕ). numbered (k + 1) ls ++ (n, l) ∷ []) e)

-- the first i of the channels were given
pub record IsOnTheWay (ys : List ℕ) (i : ℕ) (from now to filled : Process) : Type 0 where
  pub links : List Link
  pub pulled : pull ys from.uses ≡ put_before links (pull (drop i ys) now.uses)
  pub rest : now ≡ record from { uses = now.uses }
  pub given : filled ≡ record to { uses = numbered 1 links; fresh = length links + 1 }
  pub few : length links + length now.uses ≤ 15

pub way_begins : (ys : List ℕ) (from to : Process) → to.uses ≡ [] → to.fresh ≡ 1 → length from.uses ≤ 15 → IsOnTheWay ys 0 from from to to
way_begins ys from to u f h = record {
  links = [];
  pulled = before_none (pull ys from.uses);
  rest = refl;
  given = ap₂ (λ (us : List (ℕ × Link)) (n : ℕ). record to { uses = us; fresh = n }) u f;
  few = omega (arith, h);
}

pub way_goes_on : (ys : List ℕ) (i y : ℕ) (from now to filled after full : Process) (l : Link) → IsOnTheWay ys i from now to filled → i < length ys → get_or ys i 0 ≡ y →
    Some l ≡ find_key y now.uses → after ≡ record now { uses = drop_key y now.uses } → full ≡ with_channel filled l → IsOnTheWay ys (i + 1) from after to full
way_goes_on ys i y from now to filled after full l w h g k a b =
    let uses : after.uses ≡ drop_key y now.uses = ap (λ (p : Process). p.uses) a in
    let d : drop i ys ≡ y ∷ drop (i + 1) ys = drop_more ys i 0 h ∙ ap (λ (n : ℕ). n ∷ drop (i + 1) ys) g in
    let n : length (w.links ++ l ∷ []) + 1 ≡ length w.links + 1 + 1 = ap (λ (m : ℕ). m + 1) (length_push w.links l) in
    let s : 1 + length w.links ≡ length w.links + 1 = omega arith in
    record {
      links = w.links ++ l ∷ [];
      pulled = w.pulled ∙ (ap (λ (zs : List ℕ). put_before w.links (pull zs now.uses)) d ∙ (ap (put_before w.links) (pulled_on y (drop (i + 1) ys) now.uses (Some l) (sym k)) ∙ (before_first w.links l (pull (drop (i + 1) ys) (drop_key y now.uses)) ∙ ap (λ (us : List (ℕ × Link)). put_before (w.links ++ l ∷ []) (pull (drop (i + 1) ys) us)) (sym uses))));
      rest = a ∙ (ap (λ (p : Process). record p { uses = drop_key y now.uses }) w.rest ∙ ap (λ (us : List (ℕ × Link)). record from { uses = us }) (sym uses));
      given = b ∙ (ap (λ (p : Process). with_channel p l) w.given ∙ ap₂ (λ (us : List (ℕ × Link)) (m : ℕ). record to { uses = us; fresh = m }) (ap (λ (m : ℕ). numbered 1 w.links ++ (m, l) ∷ []) (sym s) ∙ sym (numbered_push 1 w.links l)) (sym n));
      few = omega (arith, w.few, fewer y now.uses l (sym k), ap length uses, length_push w.links l);
    }

pub way_fails : (ys : List ℕ) (i y : ℕ) (from now to filled : Process) → IsOnTheWay ys i from now to filled → i < length ys → get_or ys i 0 ≡ y → find_key y now.uses ≡ None → pull ys from.uses ≡ None
way_fails ys i y from now to filled w h g k =
    let d : drop i ys ≡ y ∷ drop (i + 1) ys = drop_more ys i 0 h ∙ ap (λ (n : ℕ). n ∷ drop (i + 1) ys) g in
    w.pulled ∙ (ap (λ (zs : List ℕ). put_before w.links (pull zs now.uses)) d ∙ ap (put_before w.links) (pulled_on y (drop (i + 1) ys) now.uses None k))

pub way_ends : (ys : List ℕ) (i : ℕ) (from now to filled : Process) → IsOnTheWay ys i from now to filled → length ys ≤ i → HandsOver ys from now to filled
way_ends ys i from now to filled w h = record {
  links = w.links;
  pulled = w.pulled ∙ (ap (λ (zs : List ℕ). put_before w.links (pull zs now.uses)) (drop_all i ys h) ∙ ap (λ (ls : List Link). Some (ls, now.uses)) (append-nil w.links));
  rest = w.rest;
  given = w.given;
}

length-numbered : (k : ℕ) (ls : List Link) → length (numbered k ls) ≡ length ls
length-numbered k [] = refl
length-numbered k (l ∷ ls) = omega (arith, length-numbered (k + 1) ls)

pub way_room : (ys : List ℕ) (i y : ℕ) (from now to filled : Process) (l : Link) → IsOnTheWay ys i from now to filled → Some l ≡ find_key y now.uses → length filled.uses < 15
way_room ys i y from now to filled l w k =
    omega (arith, w.few, fewer y now.uses l (sym k), length-numbered 1 w.links, ap (λ (p : Process). length p.uses) w.given)
