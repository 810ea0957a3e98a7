-- The labels of a type, and labels that are looked at one after the other.
use Rattle.std.proofs.Common.{◌≡◌, ◌<◌, ◌+◌, ℕ, Bool, true, false, not, ◌&&◌, ◌||◌, List, [], ◌∷◌, ◌++◌, map, take, drop, length, get_or, sym, ◌∙◌, ap, refl, arith, ⊎_elim}
use Rattle.std.specs.Prelude.{nat_lt, ◌==◌, cond}
use Rattle.std.specs.BTreeMap.{is_at}
use Rattle.std.specs.Ordering.{nat_cmp}
use Rattle.std.proofs.lemmas.Bool.{and_from, and_left, and_parts, and_right, or_cases, or_from, or_left, or_parts, or_right}
use Rattle.std.proofs.lemmas.Bool.Decides.{nat_tests}
use Rattle.std.proofs.lemmas.List.{drop_more, map-append, take-append-drop, take_more}
use Rattle.std.specs.List.{list_all, list_any}
use Rattle.rast_types.specs.declared.ty.Ty.{Ty}
use Rattle.rast_types.specs.declared.ty.Ty.TheVariants.{Plus, With, rolls-Plus, rolls-With}
use Rattle.rast_types.specs.declared.ty.Ty.TheOpen as layer
use Rattle.rast_types.specs.declared.ty.Ty.TheFolds.{fold-roll-Ty}
use Rattle.rast_equal.specs.WellMadeTypes.{are_labels, is_labelled, labelled_step}
use Rattle.rast_made.proofs.Naming.{parts_of}

-- a choice with its parts
abbrev pub is_choice : ℕ → List (ℕ × Ty) → Bool
is_choice names ts = are_labels names (map (λ e. e.0) ts) && list_all (λ e. is_labelled names e.1) ts

labels_of : (f : Ty → Bool) (ts : List (ℕ × Ty)) → map (λ (e : ℕ × Bool). e.0) (map (λ (e : ℕ × Ty). (e.0, f e.1)) ts) ≡ map (λ e. e.0) ts
labels_of f [] = refl
labels_of f (t ∷ ts) = ap (λ (ls : List ℕ). t.0 ∷ ls) (labels_of f ts)

choice_of : (names : ℕ) (ts : List (ℕ × Ty)) →
    (are_labels names (map (λ (e : ℕ × Bool). e.0) (map (λ (e : ℕ × Ty). (e.0, is_labelled names e.1)) ts)) && list_all (λ (e : ℕ × Bool). e.1) (map (λ (e : ℕ × Ty). (e.0, is_labelled names e.1)) ts)) ≡ is_choice names ts
choice_of names ts =
    ap (λ (ls : List ℕ). are_labels names ls && list_all (λ (e : ℕ × Bool). e.1) (map (λ (e : ℕ × Ty). (e.0, is_labelled names e.1)) ts)) (labels_of (is_labelled names) ts)
    ∙ ap (λ b. are_labels names (map (λ (e : ℕ × Ty). e.0) ts) && b) (parts_of (is_labelled names) ts)

labelled_plus : (names : ℕ) (ts : List (ℕ × Ty)) → is_labelled names (Plus ts) ≡ is_choice names ts
labelled_plus names ts = ap (is_labelled names) (sym (rolls-Plus ts)) ∙ fold-roll-Ty Bool (labelled_step names) (layer.Plus ts) ∙ choice_of names ts

labelled_with : (names : ℕ) (ts : List (ℕ × Ty)) → is_labelled names (With ts) ≡ is_choice names ts
labelled_with names ts = ap (is_labelled names) (sym (rolls-With ts)) ∙ fold-roll-Ty Bool (labelled_step names) (layer.With ts) ∙ choice_of names ts

pub labelled_in_plus : (names : ℕ) (a : Ty) (ts xs : List (ℕ × Ty)) (b : Bool) → a ≡ Plus ts → xs ≡ ts → b ≡ is_choice names xs → b ≡ is_labelled names a
labelled_in_plus names a ts xs b e f h = h ∙ ap (is_choice names) f ∙ sym (labelled_plus names ts) ∙ ap (is_labelled names) (sym e)

pub labelled_in_with : (names : ℕ) (a : Ty) (ts xs : List (ℕ × Ty)) (b : Bool) → a ≡ With ts → xs ≡ ts → b ≡ is_choice names xs → b ≡ is_labelled names a
labelled_in_with names a ts xs b e f h = h ∙ ap (is_choice names) f ∙ sym (labelled_with names ts) ∙ ap (is_labelled names) (sym e)

-- ---- labels one after the other

abbrev among : ℕ → List ℕ → Bool
among l ls = list_any (λ k. k == l) ls

same_flip : (k l : ℕ) (b : Bool) → (k == l) ≡ b → (l == k) ≡ b
same_flip k l b e = grind (arith, nat_tests)

among_there : (k : ℕ) (ls : List ℕ) (l : ℕ) (rs : List ℕ) → (l == k) ≡ true → among k (ls ++ l ∷ rs) ≡ true
among_there k [] l rs e = or_left (l == k) (among k rs) e
among_there k (j ∷ ls) l rs e = or_right (j == k) (among k (ls ++ l ∷ rs)) (among_there k ls l rs e)

or_false : (b : Bool) → (b || false) ≡ b
or_false true = refl
or_false false = refl

or_again : (a b c : Bool) → (a || (b || c)) ≡ ((a || b) || c)
or_again true b c = refl
or_again false b c = refl

among_more : (q : ℕ) (ls : List ℕ) (l : ℕ) → among q (ls ++ l ∷ []) ≡ (among q ls || (l == q))
among_more q [] l = or_false (l == q)
among_more q (k ∷ ls) l = ap (λ b. (k == q) || b) (among_more q ls l) ∙ or_again (k == q) (among q ls) (l == q)

unnamed_label : (names : ℕ) (ls : List ℕ) (l : ℕ) (rs : List ℕ) → nat_lt l names ≡ false → are_labels names (ls ++ l ∷ rs) ≡ false
unnamed_label names [] l rs h = and_left (nat_lt l names) _ h
unnamed_label names (k ∷ ls) l rs h = and_right (nat_lt k names) _ (and_right (not (among k (ls ++ l ∷ rs))) _ (unnamed_label names ls l rs h))

label_twice : (names : ℕ) (ls : List ℕ) (l : ℕ) (rs : List ℕ) → among l ls ≡ true → are_labels names (ls ++ l ∷ rs) ≡ false
label_twice names [] l rs h = absurd (let e : false ≡ true = h in cc)
label_twice names (k ∷ ls) l rs h = ⊎_elim
    (λ (e : (k == l) ≡ true). and_right (nat_lt k names) _ (and_left (not (among k (ls ++ l ∷ rs))) _ (ap not (among_there k ls l rs (same_flip k l true e)))))
    (λ (a : among l ls ≡ true). and_right (nat_lt k names) _ (and_right (not (among k (ls ++ l ∷ rs))) _ (label_twice names ls l rs a)))
    (or_cases (k == l) (among l ls) h)

not_true : (b : Bool) → not b ≡ true → b ≡ false
not_true true e = absurd (let c : false ≡ true = e in cc)
not_true false e = refl

label_more : (names : ℕ) (ls : List ℕ) (l : ℕ) → are_labels names ls ≡ true → nat_lt l names ≡ true → among l ls ≡ false → are_labels names (ls ++ l ∷ []) ≡ true
label_more names [] l h n a = and_from (nat_lt l names) true n refl
label_more names (k ∷ ls) l h n a =
    let first = and_parts (nat_lt k names) (not (among k ls) && are_labels names ls) h in
    let rest = and_parts (not (among k ls)) (are_labels names ls) first.1 in
    let apart = or_parts (k == l) (among l ls) a in
    let other : among k (ls ++ l ∷ []) ≡ false = among_more k ls l ∙ or_from (among k ls) (l == k) (not_true (among k ls) rest.0) (same_flip k l false apart.0) in
    and_from (nat_lt k names) _ first.0 (and_from (not (among k (ls ++ l ∷ []))) _ (ap not other) (label_more names ls l rest.1 n apart.1))

-- ---- the same of entries, of which the first ones were looked at

module _ {X : Type 0} (names : ℕ) (es : List (ℕ × X)) (i : ℕ) (e : ℕ × X) (lt : i < length es) (at : e ≡ get_or es i e) where
  abbrev before : List ℕ
  before = map (λ (e : ℕ × X). e.0) (take i es)

  cut : map (λ (e : ℕ × X). e.0) es ≡ before ++ e.0 ∷ map (λ (e : ℕ × X). e.0) (drop (i + 1) es)
  cut =
      ap (map (λ (e : ℕ × X). e.0)) (sym (take-append-drop i es) ∙ ap (λ (r : List (ℕ × X)). take i es ++ r) (drop_more es i e lt ∙ ap (λ (x : ℕ × X). x ∷ drop (i + 1) es) (sym at)))
      ∙ map-append (λ (e : ℕ × X). e.0) (take i es) (e ∷ drop (i + 1) es)

  more : map (λ (e : ℕ × X). e.0) (take (i + 1) es) ≡ before ++ e.0 ∷ []
  more = ap (map (λ (e : ℕ × X). e.0)) (take_more es i e lt ∙ ap (λ (x : ℕ × X). take i es ++ x ∷ []) (sym at)) ∙ map-append (λ (e : ℕ × X). e.0) (take i es) (e ∷ [])

  pub entry_unnamed : nat_lt e.0 names ≡ false → false ≡ are_labels names (map (λ (e : ℕ × X). e.0) es)
  entry_unnamed h = sym (ap (are_labels names) cut ∙ unnamed_label names before e.0 _ h)

  pub entry_twice : list_any (λ k. k == e.0) before ≡ true → false ≡ are_labels names (map (λ (e : ℕ × X). e.0) es)
  entry_twice h = sym (ap (are_labels names) cut ∙ label_twice names before e.0 _ h)

  pub entry_more : are_labels names before ≡ true → nat_lt e.0 names ≡ true → list_any (λ k. k == e.0) before ≡ false → are_labels names (map (λ (e : ℕ × X). e.0) (take (i + 1) es)) ≡ true
  entry_more h n a = ap (are_labels names) more ∙ label_more names before e.0 h n a

  pub entry_seen : (q : ℕ) → list_any (λ k. k == q) (map (λ (e : ℕ × X). e.0) (take (i + 1) es)) ≡ (list_any (λ k. k == q) before || (e.0 == q))
  entry_seen q = ap (among q) more ∙ among_more q before e.0

-- what a set has after an insertion
pub seen_more : (old here at same new : Bool) → new ≡ cond at true old → old ≡ here → at ≡ same → new ≡ (here || same)
seen_more old here at true new e f s = e ∙ ap (λ b. cond b true old) s ∙ sym (or_right here true refl)
seen_more old here at false new e f s = e ∙ ap (λ b. cond b true old) s ∙ f ∙ sym (or_false here)

-- what the answer of an insertion says
pub was_there : (added here : Bool) → added ≡ not here → added ≡ false → here ≡ true
was_there added true e h = refl
was_there added false e h = absurd (let c : true ≡ false = sym e ∙ h in cc)

pub was_absent : (added here : Bool) → added ≡ not here → added ≡ true → here ≡ false
was_absent added here e h = not_true here (sym e ∙ h)

pub at_same : (k q : ℕ) → is_at (nat_cmp k) q ≡ (k == q)
at_same k q = grind (arith, nat_tests)
