-- What is due on links as a run goes on.
use Rattle.std.proofs.Common.{◌≡◌, ℕ, zero, suc, ◌≤◌, ◌<◌, ◌+◌, List, [], ◌∷◌, ◌++◌, length, Option, Some, slice_get, refl, sym, ap, ap₂, ◌∙◌, arith, length-append, append-nil}
use Rattle.std.proofs.lemmas.Grind.{flat_map-append}
use Rattle.rast_types.specs.Closed.{Table, View, view, closed}
use Rattle.rast_index.specs.Linear.{whole}
use Rattle.rast_terms.specs.declared.program.Program.{Program}
use Rattle.rast_terms.specs.declared.program.Decl.{Decl}
use Rattle.rast_rules.specs.Rules.{defs}
use Rattle.rast_items.specs.Items.{after_link, link_at}
use Rattle.rast_items.specs.Run.{Birth, Sent, sent_by, sent_at, taken_by, taken_at}
use Rattle.rast_laws.specs.Typed.{next_view, due_after, first_view, born_view, due}
use Rattle.rast_order.proofs.Words.{Link, Pid, Msg, Event}
use Rattle.rast_order.proofs.Queue.{mark, stamp, mark_same}

pub sent_more : (s : Pid) (es : List Event) (e : Event) → sent_at s (es ++ e ∷ []) ≡ sent_at s es ++ sent_by s e
sent_more s es e = flat_map-append (sent_by s) es (e ∷ []) ∙ ap (λ y. sent_at s es ++ y) (append-nil (sent_by s e))

pub taken_more : (s : Pid) (es : List Event) (e : Event) → taken_at s (es ++ e ∷ []) ≡ taken_at s es ++ taken_by s e
taken_more s es e = flat_map-append (taken_by s) es (e ∷ []) ∙ ap (λ y. taken_at s es ++ y) (append-nil (taken_by s e))

pub get_before : {A : Type 0} (xs ys : List A) (i : ℕ) → i < length xs → slice_get (xs ++ ys) i ≡ slice_get xs i
get_before {A} [] ys i h = absurd (omega (arith, h))
get_before {A} (x ∷ xs) ys zero h = refl
get_before {A} (x ∷ xs) ys (suc i) h = get_before xs ys i (omega (arith, h))

pub get_at_end : {A : Type 0} (xs : List A) (x : A) (i : ℕ) → i ≡ length xs → slice_get (xs ++ x ∷ []) i ≡ Some x
get_at_end {A} [] x zero h = refl
get_at_end {A} [] x (suc i) h = absurd (omega (arith, h))
get_at_end {A} (y ∷ xs) x zero h = absurd (omega (arith, h))
get_at_end {A} (y ∷ xs) x (suc i) h = get_at_end xs x i (omega (arith, h))

-- a link of a session that began, at or before its last message
pub record Settled (es : List Event) (births : List Birth) (l : Link) : Type 0 where
  pub began : l.session.0 < length births
  pub reached : l.index ≤ length (sent_at l.session es)

pub settled_more : (es : List Event) (births more : List Birth) (e : Event) (l : Link) → Settled es births l → Settled (es ++ e ∷ []) (births ++ more) l
settled_more es births more e l s = record {
  began = omega (arith, s.began, length-append births more);
  reached = omega (arith, s.reached, ap length (sent_more l.session es e), length-append (sent_at l.session es) (sent_by l.session e));
}

after_more : (t : Table) (v : Option View) (k : ℕ) (xs ys : List Sent) → k ≤ length xs → due_after t v k (xs ++ ys) ≡ due_after t v k xs
after_more t v zero xs ys h = refl
after_more t v (suc k) [] ys h = absurd (omega (arith, h))
after_more t v (suc k) (x ∷ xs) ys h = after_more t (next_view t v x.entry.body x.moment) k xs ys (omega (arith, h))

-- what is due there stays
pub due_stays : (g : Program) (es : List Event) (births more : List Birth) (e : Event) (l : Link) → Settled es births l → due g (es ++ e ∷ []) (births ++ more) l ≡ due g es births l
due_stays g es births more e l s =
    ap₂ (λ b xs. due_after (defs g) (first_view g b) l.index xs) (get_before births more l.session.0 s.began) (sent_more l.session es e)
    ∙ after_more (defs g) (first_view g (slice_get births l.session.0)) l.index (sent_at l.session es) (sent_by l.session e) s.reached

after_last : (t : Table) (v : Option View) (k : ℕ) (xs : List Sent) (x : Sent) → k ≡ length xs → due_after t v (suc k) (xs ++ x ∷ []) ≡ next_view t (due_after t v k xs) x.entry.body x.moment
after_last t v zero [] x e = refl
after_last t v zero (y ∷ xs) x e = absurd (omega (arith, e))
after_last t v (suc k) [] x e = absurd (omega (arith, e))
after_last t v (suc k) (y ∷ xs) x e = after_last t (next_view t v y.entry.body y.moment) k xs x (omega (arith, e))

-- after a message was sent at the end of a session, this is due on the link after it
pub due_sent : (g : Program) (es : List Event) (births more : List Birth) (e : Event) (m : Msg) → (sent_by m.link.session e ≡ mark m.link.session m) → m.link.session.0 < length births → m.link.index ≡ length (sent_at m.link.session es) → due g (es ++ e ∷ []) (births ++ more) (after_link m.link) ≡ next_view (defs g) (due g es births m.link) m.body m.moment
due_sent g es births more e m q b n =
    let s : Pid = m.link.session in
    let xs : List Sent = sent_at s es in
    let v : Option View = first_view g (slice_get births s.0) in
    let all : sent_at s (es ++ e ∷ []) ≡ xs ++ stamp m ∷ [] = sent_more s es e ∙ ap (λ y. xs ++ y) (q ∙ mark_same s m refl) in
    let next : m.link.index + 1 ≡ suc m.link.index = omega arith in
    ap₂ (λ o ys. due_after (defs g) (first_view g o) (m.link.index + 1) ys) (get_before births more s.0 b) all
    ∙ (ap (λ k. due_after (defs g) v k (xs ++ stamp m ∷ [])) next
    ∙ after_last (defs g) v m.link.index xs (stamp m) n)

-- what is due first on the session of a new process
pub due_born : (g : Program) (es : List Event) (births : List Birth) (b : Birth) (d : Decl) (l : Link) → l ≡ link_at (length births) 0 → slice_get g.decls b.decl ≡ Some d → due g es (births ++ b ∷ []) l ≡ Some (view b.moment (closed d.gives (whole b.values)))
due_born g es births b d l o q =
    let i : l.index ≡ 0 = ap (λ x. x.index) o in
    let s : l.session.0 ≡ length births = ap (λ x. x.session.0) o in
    ap₂ (λ v n. due_after (defs g) (first_view g v) n (sent_at l.session es)) (get_at_end births b l.session.0 s) i ∙ ap (born_view b) q
