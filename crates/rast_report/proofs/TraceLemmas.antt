-- The lines of a trace, one after another, and what is kept of what messages hold.
use Rattle.std.proofs.Common.{◌≡◌, ℕ, ◌+◌, ◌<◌, Bool, true, false, cond, List, [], ◌∷◌, ◌++◌, Some, refl, sym, ap, ap₂, ◌∙◌, length, take, drop, reverse, append_assoc, if◌then◌else◌}
use Rattle.std.specs.Prelude.{slice_get, codes, ◌&&◌, Option}
use Rattle.std.specs.Fmt.{decimal}
use Rattle.std.specs.Option.{unwrap_or}
use Rattle.std.specs.Ordering.{nat_cmp, ordering_then, is_eq}
use Rattle.std.specs.Cmp.{unsigned_tied}
use Rattle.std.specs.declared.cmp.Ordering.{Ordering}
use Rattle.std.specs.declared.cmp.Ordering.TheVariants.{Less, Equal, Greater}
use Rattle.std.specs.BTreeMap.{Updates, get}
use Rattle.std.proofs.lemmas.List.{take_more, drop_more, reverse-append}
use Rattle.std.proofs.lemmas.Option.{slice_get_within, get_or_from_slice_get}
use Rattle.rast_terms.specs.declared.program.Program.{Program}
use Rattle.rast_core.specs.Words.{Link, Event, Send, Take, Move, Spawn, Call, Work, Delay}
use Rattle.rast_items.specs.Links.{same_link}
use Rattle.rast_items.specs.Run.{pid_of, moment_of}
use Rattle.rast_terms.specs.Texts.{Text}
use Rattle.rast_report.specs.Texts.{pid_text, link_text}
use Rattle.rast_report.specs.Reports.{amount_on, spaced, at_moment, verb, message_line, object_text, event_text, trace_line, trace_from}
use Rattle.rast_report.specs.Amounts.{key, key_cmp, kept_on, AreKept, Keeps}
use Rattle.rast_report.specs.declared.amounts.Amounts.{Amounts}

-- the earlier events, the newest first, after one more
pub past_more : (es : List Event) (i : ℕ) (e : Event) → slice_get es i ≡ Some e → reverse (take (i + 1) es) ≡ e ∷ reverse (take i es)
past_more es i e h =
    let l : i < length es = slice_get_within es i e h in
    let t : take (i + 1) es ≡ take i es ++ e ∷ [] = take_more es i e l ∙ ap (λ (x : Event). take i es ++ x ∷ []) (get_or_from_slice_get es i e e h) in
    ap reverse t ∙ reverse-append (take i es) (e ∷ [])

rest_less : (es : List Event) (i : ℕ) (e : Event) → slice_get es i ≡ Some e → drop i es ≡ e ∷ drop (i + 1) es
rest_less es i e h = drop_more es i e (slice_get_within es i e h) ∙ ap (λ (x : Event). x ∷ drop (i + 1) es) (get_or_from_slice_get es i e e h)

-- what is written, and then the lines of the events that are left
abbrev pub all_lines : Program → List Event → Text → ℕ → Text
all_lines g es text i = text ++ trace_from g (i + 1) (reverse (take i es)) (drop i es)

line_put : (a b c d t1 t2 t3 t4 : Text) (t : Text) → t1 ≡ t ++ a → t2 ≡ t1 ++ b → t3 ≡ t2 ++ c → t4 ≡ t3 ++ d → t4 ≡ t ++ (a ++ ((b ++ c) ++ d))
line_put a b c d t1 t2 t3 t4 t h i j k =
    let e : t4 ≡ (((t ++ a) ++ b) ++ c) ++ d = k ∙ ap (λ (x : Text). x ++ d) (j ∙ ap (λ (x : Text). x ++ c) (i ∙ ap (λ (x : Text). x ++ b) h)) in
    e ∙ simp append_assoc

same_object : (g : Program) (f h : Link → ℕ) (e : Event) → ((l : Link) → f l ≡ h l) → object_text g f e ≡ object_text g h e
same_object g f h (Send pid link body moment q) s = refl
same_object g f h (Take pid link body moment) s = ap (message_line g link body) (s link)
same_object g f h (Move pid from to body moment) s = ap (λ (q : ℕ). link_text from ++ spaced (message_line g to body q)) (s from)
same_object g f h (Spawn pid child d moment) s = refl
same_object g f h (Call pid d moment) s = refl
same_object g f h (Work pid r moment) s = refl
same_object g f h (Delay pid t moment) s = refl

same_event : (g : Program) (f h : Link → ℕ) (e : Event) → ((l : Link) → f l ≡ h l) → event_text g f e ≡ event_text g h e
same_event g f h e s = ap (λ (t : Text). pid_text (pid_of e) ++ (verb e ++ (t ++ at_moment (moment_of e)))) (same_object g f h e s)

pub trace_goes_on : (g : Program) (es : List Event) (i : ℕ) (e : Event) (a : Amounts) (old t1 t2 t3 new all : Text) → slice_get es i ≡ Some e → AreKept a (reverse (take i es)) → t1 ≡ old ++ decimal (i + 1) → t2 ≡ t1 ++ codes " " → t3 ≡ t2 ++ event_text g (kept_on a) e → new ≡ t3 ++ codes "\n" →
    all_lines g es old i ≡ all → all_lines g es new (i + 1) ≡ all
trace_goes_on g es i e a old t1 t2 t3 new all h kept b c d f k =
    let past = reverse (take i es) in
    let d2 : t3 ≡ t2 ++ event_text g (λ l. amount_on l past) e = d ∙ ap (λ (t : Text). t2 ++ t) (same_event g (kept_on a) (λ l. amount_on l past) e kept) in
    let n : new ≡ old ++ trace_line g (i + 1) past e = line_put (decimal (i + 1)) (codes " ") (event_text g (λ l. amount_on l past) e) (codes "\n") t1 t2 t3 new old b c d2 f in
    let r : trace_from g (i + 1) past (drop i es) ≡ trace_line g (i + 1) past e ++ trace_from g (i + 1 + 1) (e ∷ past) (drop (i + 1) es) = ap (trace_from g (i + 1) past) (rest_less es i e h) in
    let p : trace_from g (i + 1 + 1) (reverse (take (i + 1) es)) (drop (i + 1) es) ≡ trace_from g (i + 1 + 1) (e ∷ past) (drop (i + 1) es) = ap (λ (xs : List Event). trace_from g (i + 1 + 1) xs (drop (i + 1) es)) (past_more es i e h) in
    ap₂ (λ (x y : Text). x ++ y) n p ∙ (append_assoc old (trace_line g (i + 1) past e) (trace_from g (i + 1 + 1) (e ∷ past) (drop (i + 1) es)) ∙ (ap (λ (x : Text). old ++ x) (sym r) ∙ k))

-- ---- amounts

then_equal : (o p : Ordering) → is_eq (ordering_then o p) ≡ (is_eq o && is_eq p)
then_equal Less p = refl
then_equal Equal p = refl
then_equal Greater p = refl

-- links are the same where their keys are
pub same_keys : (k l : Link) → is_eq (key_cmp (key k) (key l)) ≡ same_link k l
same_keys k l =
    then_equal (nat_cmp k.session.0 l.session.0) (nat_cmp k.index l.index) ∙ ap₂ (λ (x y : Bool). x && y) (unsigned_tied k.session.0 l.session.0) (unsigned_tied k.index l.index)

chosen : (b : Bool) (q : ℕ) (o : Option ℕ) → unwrap_or (cond b (Some q) o) 0 ≡ (if b then q else unwrap_or o 0)
chosen true q o = refl
chosen false q o = refl

pub kept_more : (old new : Amounts) (at : Link) (q : ℕ) → Updates key_cmp old.kept new.kept (key at) (Some q) → Keeps old new at q
kept_more old new at q u = λ l.
    ap (λ (o : Option ℕ). unwrap_or o 0) (u.0 (key l)) ∙ (chosen (is_eq (key_cmp (key at) (key l))) q (get key_cmp old.kept (key l)) ∙ ap (λ (b : Bool). if b then q else kept_on old l) (same_keys at l))

choice_same : (b : Bool) (q r s t : ℕ) → q ≡ r → s ≡ t → (if b then q else s) ≡ (if b then r else t)
choice_same true q r s t h k = h
choice_same false q r s t h k = k

-- a message of this amount was sent, or handed on, and none other
pub kept_after : (old new : Amounts) (at : Link) (q r : ℕ) (past more : List Event) → AreKept old past → Keeps old new at q → q ≡ r → ((l : Link) → amount_on l more ≡ (if same_link at l then r else amount_on l past)) → AreKept new more
kept_after old new at q r past more k s e f = λ l. s l ∙ (choice_same (same_link at l) q r (kept_on old l) (amount_on l past) e (k l) ∙ sym (f l))
