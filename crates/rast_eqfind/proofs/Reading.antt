-- Terms that are read off.
use Rattle.std.proofs.Common.{◌≡◌, ℕ, zero, suc, ◌+◌, ◌<◌, ◌≤◌, Bool, true, false, ◌&&◌, List, [], ◌∷◌, ◌++◌, length, get_or, drop, sym, ◌∙◌, ap, ap₂, refl, subst, arith, Option, Some, cond, append_assoc, append-nil, Result, Ok, Err, None}
use Rattle.std.specs.Prelude.{IfOk, IsErrAnd, min, zip}
use Rattle.std.specs.List.{list_all}
use Rattle.std.proofs.lemmas.Bool.{lt-ltb, le-ltb}
use Rattle.std.proofs.lemmas.List.{drop_all}
use Rattle.rast_cooper.specs.Answer.{FitsSome}
use Rattle.rast_index.proofs.Scope.{both_true}
use Rattle.rast_index.specs.Answer.{Fits, Gives}
use Rattle.rast_index.specs.Linear.{Linear, is_closed, is_small, less, tabulate, variable}
use Rattle.rast_index.specs.declared.refusal.Coefficient.{Coefficient}
use Rattle.rast_index.specs.declared.refusal.IndexErr.{IndexErr}
use Rattle.rast_index.specs.declared.refusal.IndexErr.TheVariants as refusal
use Rattle.rast_index.specs.declared.formula.Formula.{Formula}
use Rattle.rast_types.specs.Closed.{Layer}
use Rattle.rast_types.specs.Symbolic.{is_name, timed}
use Rattle.rast_types.specs.declared.ty.Ty.{Ty, out-Ty, roll-Ty, roll-out-Ty, out-roll-Ty}
use Rattle.rast_types.specs.declared.ty.Ty.TheVariants as ty
use Rattle.rast_types.specs.declared.ty.Ty.TheOpen.{One, Plus, With, Tensor, Lolli, Named, Ex, All as Each, Assert, Assume, Pays, Gets, Next}
use Rattle.rast_types.specs.declared.ty.Ty.TheFolds.{map-Ty, fold-roll-Ty}
use Rattle.rast_equal.specs.Walk.{labels, same_list}
use Rattle.rast_equal.proofs.Labels.{at_drop}
use Rattle.rast_eqfind.specs.Answer.{Reads, is_head, is_small_some}
use Rattle.rast_eqfind.specs.Read.{Reader, Seen, and_then, choices_read, differs, each_read, first_read, heads_read, is_constant, layer_read, names_read, number_read, reader_step, readers, readers_each, reading, saw}

abbrev pub Terms : Type 0
Terms = List (Linear × Linear)

-- ---- one node of a side

out_is : (x : Layer) (a : Ty) → a ≡ roll-Ty x → out-Ty a ≡ x
out_is x a e = ap out-Ty e ∙ out-roll-Ty x

reader_at : (x : Layer) → reading (roll-Ty x) ≡ reader_step (map-Ty Ty Reader reading x)
reader_at x = fold-roll-Ty Reader reader_step x

pub reading_at : (s a : Ty) (n : ℕ) → reading s a n ≡ reader_step (readers s) a n
reading_at s a n = ap (λ (t : Ty). reading t a n) (sym (roll-out-Ty s)) ∙ ap (λ (r : Reader). r a n) (reader_at (out-Ty s))

-- beyond 16 variables
pub reading_over : (s a : Ty) (n : ℕ) → 16 < n → reading s a n ≡ differs
reading_over s a n lt = reading_at s a n ∙ ap (λ b. cond b differs (layer_read (readers s) a n)) (lt-ltb 16 n lt)

reading_in : (s a : Ty) (n : ℕ) → n ≤ 16 → reading s a n ≡ layer_read (readers s) a n
reading_in s a n few = reading_at s a n ∙ ap (λ b. cond b differs (layer_read (readers s) a n)) (le-ltb 16 n few)

module _ (s a : Ty) (n : ℕ) (few : n ≤ 16) where
  pub reading_named : (k : ℕ) (xs : List Linear) → s ≡ ty.Named k xs → reading s a n ≡ names_read k xs (out-Ty a)
  reading_named k xs e = reading_in s a n few ∙ ap (λ (x : Layer). layer_read (map-Ty Ty Reader reading x) a n) (out_is (Named k xs) s (e ∙ sym (ty.rolls-Named k xs)))

  reading_next : (l : Linear) (b : Ty) → s ≡ ty.Next l b → reading s a n ≡ layer_read (map-Ty Ty Reader reading (Next l b)) a n
  reading_next l b e = reading_in s a n few ∙ ap (λ (x : Layer). layer_read (map-Ty Ty Reader reading x) a n) (out_is (Next l b) s (e ∙ sym (ty.rolls-Next l b)))

  pub reading_next_name : (l : Linear) (b : Ty) → s ≡ ty.Next l b → is_name a ≡ true → reading s a n ≡ differs
  reading_next_name l b e name = reading_next l b e ∙ ap (λ c. cond c differs (number_read l (timed a).ticks (reading b (timed a).body n))) name

  pub reading_ticks : (l : Linear) (b : Ty) → s ≡ ty.Next l b → is_name a ≡ false → reading s a n ≡ number_read l (timed a).ticks (reading b (timed a).body n)
  reading_ticks l b e name = reading_next l b e ∙ ap (λ c. cond c differs (number_read l (timed a).ticks (reading b (timed a).body n))) name

layer_heads : (x : Layer) (a : Ty) (n : ℕ) → is_head x ≡ true → layer_read (map-Ty Ty Reader reading x) a n ≡ heads_read (map-Ty Ty Reader reading x) (out-Ty (timed a).body) n
layer_heads One a n e = refl
layer_heads (Plus ts) a n e = refl
layer_heads (With ts) a n e = refl
layer_heads (Tensor b c) a n e = refl
layer_heads (Lolli b c) a n e = refl
layer_heads (Named k xs) a n e = absurd (cc)
layer_heads (Ex b) a n e = refl
layer_heads (Each b) a n e = refl
layer_heads (Assert f b) a n e = refl
layer_heads (Assume f b) a n e = refl
layer_heads (Pays l b) a n e = refl
layer_heads (Gets l b) a n e = refl
layer_heads (Next l b) a n e = absurd (cc)

pub reading_head : (s a : Ty) (n : ℕ) → n ≤ 16 → is_head (out-Ty s) ≡ true → reading s a n ≡ heads_read (readers s) (out-Ty (timed a).body) n
reading_head s a n few e = reading_in s a n few ∙ layer_heads (out-Ty s) a n e

-- ---- two nodes of one kind

module _ (s a : Ty) (n : ℕ) where
  shown : (x y : Layer) → s ≡ roll-Ty x → a ≡ roll-Ty y → heads_read (readers s) (out-Ty a) n ≡ heads_read (map-Ty Ty Reader reading x) y n
  shown x y e f = ap₂ (λ (p q : Layer). heads_read (map-Ty Ty Reader reading p) q n) (out_is x s e) (out_is y a f)

  pub heads_plus : (ts us : List (ℕ × Ty)) → s ≡ ty.Plus ts → a ≡ ty.Plus us → heads_read (readers s) (out-Ty a) n ≡ choices_read (readers_each ts) us n
  heads_plus ts us e f = shown (Plus ts) (Plus us) (e ∙ sym (ty.rolls-Plus ts)) (f ∙ sym (ty.rolls-Plus us))

  pub heads_with : (ts us : List (ℕ × Ty)) → s ≡ ty.With ts → a ≡ ty.With us → heads_read (readers s) (out-Ty a) n ≡ choices_read (readers_each ts) us n
  heads_with ts us e f = shown (With ts) (With us) (e ∙ sym (ty.rolls-With ts)) (f ∙ sym (ty.rolls-With us))

  pub heads_tensor : (b c d e : Ty) → s ≡ ty.Tensor b c → a ≡ ty.Tensor d e → heads_read (readers s) (out-Ty a) n ≡ and_then (reading b d n) (reading c e n)
  heads_tensor b c d e i j = shown (Tensor b c) (Tensor d e) (i ∙ sym (ty.rolls-Tensor b c)) (j ∙ sym (ty.rolls-Tensor d e))

  pub heads_lolli : (b c d e : Ty) → s ≡ ty.Lolli b c → a ≡ ty.Lolli d e → heads_read (readers s) (out-Ty a) n ≡ and_then (reading b d n) (reading c e n)
  heads_lolli b c d e i j = shown (Lolli b c) (Lolli d e) (i ∙ sym (ty.rolls-Lolli b c)) (j ∙ sym (ty.rolls-Lolli d e))

  pub heads_ex : (b c : Ty) → s ≡ ty.Ex b → a ≡ ty.Ex c → heads_read (readers s) (out-Ty a) n ≡ reading b c (n + 1)
  heads_ex b c i j = shown (Ex b) (Ex c) (i ∙ sym (ty.rolls-Ex b)) (j ∙ sym (ty.rolls-Ex c))

  pub heads_all : (b c : Ty) → s ≡ ty.All b → a ≡ ty.All c → heads_read (readers s) (out-Ty a) n ≡ reading b c (n + 1)
  heads_all b c i j = shown (Each b) (Each c) (i ∙ sym (ty.rolls-All b)) (j ∙ sym (ty.rolls-All c))

  pub heads_assert : (f g : Formula) (b c : Ty) → s ≡ ty.Assert f b → a ≡ ty.Assert g c → heads_read (readers s) (out-Ty a) n ≡ reading b c n
  heads_assert f g b c i j = shown (Assert f b) (Assert g c) (i ∙ sym (ty.rolls-Assert f b)) (j ∙ sym (ty.rolls-Assert g c))

  pub heads_assume : (f g : Formula) (b c : Ty) → s ≡ ty.Assume f b → a ≡ ty.Assume g c → heads_read (readers s) (out-Ty a) n ≡ reading b c n
  heads_assume f g b c i j = shown (Assume f b) (Assume g c) (i ∙ sym (ty.rolls-Assume f b)) (j ∙ sym (ty.rolls-Assume g c))

  pub heads_pays : (l m : Linear) (b c : Ty) → s ≡ ty.Pays l b → a ≡ ty.Pays m c → heads_read (readers s) (out-Ty a) n ≡ number_read l m (reading b c n)
  heads_pays l m b c i j = shown (Pays l b) (Pays m c) (i ∙ sym (ty.rolls-Pays l b)) (j ∙ sym (ty.rolls-Pays m c))

  pub heads_gets : (l m : Linear) (b c : Ty) → s ≡ ty.Gets l b → a ≡ ty.Gets m c → heads_read (readers s) (out-Ty a) n ≡ number_read l m (reading b c n)
  heads_gets l m b c i j = shown (Gets l b) (Gets m c) (i ∙ sym (ty.rolls-Gets l b)) (j ∙ sym (ty.rolls-Gets m c))

-- ---- what is read after what was there

pub reads_is : (xs ys : Terms) (r q : Seen) (on : Bool) → r ≡ q → Reads xs q ys on → Reads xs r ys on
reads_is xs ys r q on e h = subst (λ z. Reads xs z ys on) (sym e) h

pub reads_differs : (xs : Terms) → Reads xs differs xs false
reads_differs xs = (sym (append-nil xs), refl)

pub reads_nothing : (xs : Terms) → Reads xs (saw []) xs true
reads_nothing xs = (sym (append-nil xs), refl)

-- the first part differs
pub reads_first : (xs ys : Terms) (r s : Seen) (on : Bool) → on ≡ false → Reads xs r ys on → Reads xs (and_then r s) ys false
reads_first xs ys r s on off h =
    let is : and_then r s ≡ r = ap (λ b. cond b (record { terms = r.terms ++ s.terms; alike = s.alike }) r) (sym h.1 ∙ off) in
    (h.0 ∙ ap (λ (z : Seen). xs ++ z.terms) (sym is), sym (ap (λ (z : Seen). z.alike) is ∙ sym h.1 ∙ off))

-- the first part is alike, and then this is read
pub reads_then : (xs ys zs : Terms) (r s : Seen) (on next : Bool) → on ≡ true → Reads xs r ys on → Reads ys s zs next → Reads xs (and_then r s) zs next
reads_then xs ys zs r s on next went h k =
    let is : and_then r s ≡ record { terms = r.terms ++ s.terms; alike = s.alike } = ap (λ b. cond b (record { terms = r.terms ++ s.terms; alike = s.alike }) r) (sym h.1 ∙ went) in
    (k.0 ∙ ap (λ (z : Terms). z ++ s.terms) h.0 ∙ append_assoc xs r.terms s.terms ∙ ap (λ (z : Seen). xs ++ z.terms) (sym is), k.1 ∙ ap (λ (z : Seen). z.alike) (sym is))

pub reads_number : (xs ys zs : Terms) (l m : Linear) (s : Seen) (on : Bool) → ys ≡ xs ++ (l, m) ∷ [] → Reads ys s zs on → Reads xs (number_read l m s) zs on
reads_number xs ys zs l m s on e k = reads_then xs ys zs (saw ((l, m) ∷ [])) s true on refl (e, refl) k

-- ---- the parts at labels, one after the other

module _ (ts us : List (ℕ × Ty)) (n : ℕ) (old : Terms) where
  abbrev pub rest : ℕ → Seen
  rest i = each_read (readers_each (drop i ts)) (drop i us) n

  pub record Still (now : Terms) (i : ℕ) : Type 0 where
    pub terms : (old ++ (rest 0).terms) ≡ (now ++ (rest i).terms)
    pub alike : (rest 0).alike ≡ (rest i).alike

  next : (i : ℕ) (t u : ℕ × Ty) → i < length ts → i < length us → t ≡ get_or ts i t → u ≡ get_or us i u → rest i ≡ and_then (reading t.1 u.1 n) (rest (i + 1))
  next i t u lt lu is iu =
      at_drop (λ xs. each_read (readers_each xs) (drop i us) n) ts i t lt
      ∙ at_drop (λ ys. each_read (readers_each (get_or ts i t ∷ drop (i + 1) ts)) ys n) us i u lu
      ∙ ap₂ (λ (x y : ℕ × Ty). and_then (reading x.1 y.1 n) (rest (i + 1))) (sym is) (sym iu)

  pub still_first : Still old 0
  still_first = record { terms = refl; alike = refl }

  pub still_next : (now after : Terms) (i : ℕ) (t u : ℕ × Ty) (on : Bool) → i < length ts → i < length us → t ≡ get_or ts i t → u ≡ get_or us i u → on ≡ true → Still now i → Reads now (reading t.1 u.1 n) after on → Still after (i + 1)
  still_next now after i t u on lt lu is iu went h k =
      let k' = reads_then now after (after ++ (rest (i + 1)).terms) (reading t.1 u.1 n) (rest (i + 1)) on (rest (i + 1)).alike went k (refl, refl) in
      let e = next i t u lt lu is iu in
      record {
        terms = h.terms ∙ ap (λ (z : Seen). now ++ z.terms) e ∙ sym k'.0;
        alike = h.alike ∙ ap (λ (z : Seen). z.alike) e ∙ sym k'.1;
      }

  pub still_differs : (now after : Terms) (i : ℕ) (t u : ℕ × Ty) (on : Bool) → i < length ts → i < length us → t ≡ get_or ts i t → u ≡ get_or us i u → on ≡ false → Still now i → Reads now (reading t.1 u.1 n) after on → Reads old (each_read (readers_each ts) us n) after false
  still_differs now after i t u on lt lu is iu off h k =
      let k' = reads_first now after (reading t.1 u.1 n) (rest (i + 1)) on off k in
      let e = next i t u lt lu is iu in
      (k'.0 ∙ ap (λ (z : Seen). now ++ z.terms) (sym e) ∙ sym h.terms, k'.1 ∙ ap (λ (z : Seen). z.alike) (sym e) ∙ sym h.alike)

  -- the same said of the items at their place
  pub reads_at : (now after : Terms) (i : ℕ) (t u : ℕ × Ty) (on : Bool) → t ≡ get_or ts i t → u ≡ get_or us i u → Reads now (reading (get_or ts i t).1 (get_or us i u).1 n) after on → Reads now (reading t.1 u.1 n) after on
  reads_at now after i t u on is iu h = reads_is now after (reading t.1 u.1 n) (reading (get_or ts i t).1 (get_or us i u).1 n) on (ap₂ (λ (x y : ℕ × Ty). reading x.1 y.1 n) is iu) h

  ends : (xs ys : List (ℕ × Ty)) → xs ≡ [] → each_read (readers_each xs) ys n ≡ saw []
  ends xs ys e = ap (λ zs. each_read (readers_each zs) ys n) e

  ends_right : (xs ys : List (ℕ × Ty)) → ys ≡ [] → each_read (readers_each xs) ys n ≡ saw []
  ends_right [] ys e = refl
  ends_right (x ∷ xs) ys e = ap (λ zs. each_read (readers_each (x ∷ xs)) zs n) e

  all_of : (now : Terms) (i : ℕ) → rest i ≡ saw [] → Still now i → Reads old (each_read (readers_each ts) us n) now true
  all_of now i e h = (sym (h.terms ∙ ap (λ (z : Seen). now ++ z.terms) e ∙ append-nil now), sym (h.alike ∙ ap (λ (z : Seen). z.alike) e))

  ends_both : (xs ys : List (ℕ × Ty)) (i : ℕ) → min (length xs) (length ys) ≤ i → each_read (readers_each (drop i xs)) (drop i ys) n ≡ saw []
  ends_both [] ys i h = ends (drop i []) (drop i ys) (drop_all i [] (omega arith))
  ends_both (x ∷ xs) [] i h = ends_right (drop i (x ∷ xs)) (drop i []) (drop_all i [] (omega arith))
  ends_both (x ∷ xs) (y ∷ ys) zero h = absurd (omega arith)
  ends_both (x ∷ xs) (y ∷ ys) (suc i) h = ends_both xs ys i (omega arith)

  pub still_all : (now : Terms) (i : ℕ) → min (length ts) (length us) ≤ i → Still now i → Reads old (each_read (readers_each ts) us n) now true
  still_all now i past h = all_of now i (ends_both ts us i past) h

labels_each : (ts : List (ℕ × Ty)) → labels (readers_each ts) ≡ labels ts
labels_each [] = refl
labels_each (t ∷ ts) = ap (λ xs. t.0 ∷ xs) (labels_each ts)

labels_readers : (ts us : List (ℕ × Ty)) → same_list (labels (readers_each ts)) (labels us) ≡ same_list (labels ts) (labels us)
labels_readers ts us = ap (λ xs. same_list xs (labels us)) (labels_each ts)

-- the labels stand in the same order, or they don't
pub choices_alike : (ts us : List (ℕ × Ty)) (n : ℕ) → same_list (labels ts) (labels us) ≡ true → choices_read (readers_each ts) us n ≡ each_read (readers_each ts) us n
choices_alike ts us n e = ap (λ b. cond b (each_read (readers_each ts) us n) differs) (labels_readers ts us ∙ e)

pub choices_differ : (ts us : List (ℕ × Ty)) (n : ℕ) → same_list (labels ts) (labels us) ≡ false → choices_read (readers_each ts) us n ≡ differs
choices_differ ts us n e = ap (λ b. cond b (each_read (readers_each ts) us n) differs) (labels_readers ts us ∙ e)

-- ---- the first that is read for a variable

constant_of : (i : ℕ) (x : Linear × Linear) (xs : Terms) → is_constant (less x.0 (variable i)) ≡ true → first_read i (x ∷ xs) ≡ Some (less x.1 (less x.0 (variable i)))
constant_of i x xs h = ap (λ b. cond b (Some (less x.1 (less x.0 (variable i)))) (first_read i xs)) h

none_of : (i : ℕ) (x : Linear × Linear) (xs : Terms) → is_constant (less x.0 (variable i)) ≡ false → first_read i (x ∷ xs) ≡ first_read i xs
none_of i x xs h = ap (λ b. cond b (Some (less x.1 (less x.0 (variable i)))) (first_read i xs)) h

module _ (i : ℕ) (xs : Terms) where
  pub here : (j : ℕ) (x : Linear × Linear) → j < length xs → x ≡ get_or xs j x → is_constant (less x.0 (variable i)) ≡ true → first_read i (drop j xs) ≡ Some (less x.1 (less x.0 (variable i)))
  here j x lt is h = at_drop (first_read i) xs j x lt ∙ ap (λ y. first_read i (y ∷ drop (j + 1) xs)) (sym is) ∙ constant_of i x (drop (j + 1) xs) h

  pub on : (j : ℕ) (x : Linear × Linear) → j < length xs → x ≡ get_or xs j x → is_constant (less x.0 (variable i)) ≡ false → first_read i (drop j xs) ≡ first_read i (drop (j + 1) xs)
  on j x lt is h = at_drop (first_read i) xs j x lt ∙ ap (λ y. first_read i (y ∷ drop (j + 1) xs)) (sym is) ∙ none_of i x (drop (j + 1) xs) h

-- ---- arguments and variables, one after the other

pub tabulate_more : {X : Type 0} (f : ℕ → X) (i n : ℕ) → tabulate f i (n + 1) ≡ (tabulate f i n ++ f (i + n) ∷ [])
tabulate_more {X} f i zero = ap (λ k. f k ∷ []) (let e : i ≡ i + 0 = omega arith in e)
tabulate_more {X} f i (suc n) = ap (tabulate f i) (let q : suc n + 1 ≡ suc (n + 1) = omega arith in q) ∙ ap (λ xs. f i ∷ xs) (tabulate_more f (suc i) n ∙ ap (λ k. tabulate f (suc i) n ++ f k ∷ []) (let e : suc i + n ≡ i + suc n = omega arith in e))

pub all_push : (p : Linear → Bool) (xs : List Linear) (x : Linear) → list_all p xs ≡ true → p x ≡ true → list_all p (xs ++ x ∷ []) ≡ true
all_push p [] x e h = ap (λ b. b && true) h
all_push p (y ∷ xs) x e h = let g = both_true (p y) (list_all p xs) e in ap₂ (λ a b. a && b) g.0 (all_push p xs x g.1 h)

pub tabulate_stops : (p : Linear → Bool) (f : ℕ → Linear) (i j n : ℕ) → j < n → p (f (i + j)) ≡ false → list_all p (tabulate f i n) ≡ false
tabulate_stops p f i j zero lt h = absurd (omega arith)
tabulate_stops p f i zero (suc n) lt h = ap (λ b. b && list_all p (tabulate f (suc i) n)) (ap (λ k. p (f k)) (let e : i ≡ i + 0 = omega arith in e) ∙ h)
tabulate_stops p f i (suc j) (suc n) lt h = and_false (p (f i)) _ (tabulate_stops p f (suc i) j n (omega arith) (ap (λ k. p (f k)) (let e : suc i + j ≡ i + suc j = omega arith in e) ∙ h))
  where
    and_false : (a b : Bool) → b ≡ false → (a && b) ≡ false
    and_false true b e = e
    and_false false b e = refl

-- ---- a constant beside a variable

module _ (l m v : Linear) (same : m ≡ v) where
  pub constant_is : (rest : Linear) (closed : Bool) → (rest ≡ less l m) × (is_small (less l m) ≡ true) → closed ≡ is_closed 0 rest → closed ≡ true → (rest ≡ less l v) × (is_constant (less l v) ≡ true)
  constant_is rest closed h is went =
      let at : rest ≡ less l v = h.0 ∙ ap (less l) same in
      (at, ap₂ (λ a b. a && b) (ap (λ x. is_small (less l x)) (sym same) ∙ h.1) (ap (is_closed 0) (sym at) ∙ sym is ∙ went))

  pub constant_not : (rest : Linear) (closed : Bool) → (rest ≡ less l m) × (is_small (less l m) ≡ true) → closed ≡ is_closed 0 rest → closed ≡ false → is_constant (less l v) ≡ false
  constant_not rest closed h is off =
      let at : rest ≡ less l v = h.0 ∙ ap (less l) same in
      ap₂ (λ a b. a && b) (ap (λ x. is_small (less l x)) (sym same) ∙ h.1) (ap (is_closed 0) (sym at) ∙ sym is ∙ off)

  pub constant_great : is_small (less l m) ≡ false → is_constant (less l v) ≡ false
  constant_great h = ap (λ a. a && is_closed 0 (less l v)) (ap (λ x. is_small (less l x)) (sym same) ∙ h)

-- a refusal that is handed on
pub fits_not : {X : Type 0} (fits : X → Bool) (x : X) (e : Coefficient) (r : Result X Coefficient) → IsErrAnd r (λ f. f ≡ e) → fits x ≡ false → Fits fits x r
fits_not {X} fits x e (Ok y) from h = absurd from
fits_not {X} fits x e (Err f) from h = h

pub gives_not : {X : Type 0} (fits : X → Bool) (x : X) (r : Result X IndexErr) → IsErrAnd r (λ f. f ≡ refusal.Coefficient) → fits x ≡ false → Gives fits x r
gives_not {X} fits x (Ok y) from h = absurd from
gives_not {X} fits x (Err f) from h = subst (λ e. Gives fits x (Err e)) (sym from) h

module _ (i : ℕ) (xs : Terms) where
  pub found_great : (j : ℕ) (x : Linear × Linear) (rest : Linear) → j < length xs → x ≡ get_or xs j x → first_read i xs ≡ first_read i (drop j xs) → (rest ≡ less x.0 (variable i)) × (is_constant (less x.0 (variable i)) ≡ true) → is_small (less x.1 rest) ≡ false → is_small_some (first_read i xs) ≡ false
  found_great j x rest lt is inv h g = ap is_small_some (inv ∙ here i xs j x lt is h.1) ∙ ap (λ y. is_small (less x.1 y)) (sym h.0) ∙ g

  pub found_small : (j : ℕ) (x : Linear × Linear) (rest l : Linear) → j < length xs → x ≡ get_or xs j x → first_read i xs ≡ first_read i (drop j xs) → (rest ≡ less x.0 (variable i)) × (is_constant (less x.0 (variable i)) ≡ true) → (l ≡ less x.1 rest) × (is_small (less x.1 rest) ≡ true) → (Some l ≡ first_read i xs) × (is_small_some (first_read i xs) ≡ true)
  found_small j x rest l lt is inv h k =
      let at : first_read i xs ≡ Some (less x.1 rest) = inv ∙ here i xs j x lt is h.1 ∙ ap (λ y. Some (less x.1 y)) (sym h.0) in
      (ap (λ y. Some y) k.0 ∙ sym at, ap is_small_some at ∙ k.1)

  pub none_read : (j : ℕ) (x : Linear × Linear) (o : Option Linear) → j < length xs → x ≡ get_or xs j x → first_read i xs ≡ first_read i (drop j xs) → o ≡ None → FitsSome is_constant (less x.0 (variable i)) o → first_read i xs ≡ first_read i (drop (j + 1) xs)
  none_read j x o lt is inv e h = inv ∙ on i xs j x lt is (subst (FitsSome is_constant (less x.0 (variable i))) e h)

-- ---- the arguments of two names, one after the other

zip_none : (xs ys : List Linear) → ys ≡ [] → zip xs ys ≡ []
zip_none [] ys e = refl
zip_none (x ∷ xs) ys e = ap (zip (x ∷ xs)) e

zip_ends : (xs ys : List Linear) (i : ℕ) → min (length xs) (length ys) ≤ i → zip (drop i xs) (drop i ys) ≡ []
zip_ends [] ys i h = ap (λ zs. zip zs (drop i ys)) (drop_all i [] (omega arith))
zip_ends (x ∷ xs) [] i h = zip_none (drop i (x ∷ xs)) (drop i []) (drop_all i [] (omega arith))
zip_ends (x ∷ xs) (y ∷ ys) zero h = absurd (omega arith)
zip_ends (x ∷ xs) (y ∷ ys) (suc i) h = zip_ends xs ys i (omega arith)

pub zip_all : (old now : Terms) (xs ys : List Linear) (i : ℕ) → min (length xs) (length ys) ≤ i → (old ++ zip xs ys) ≡ (now ++ zip (drop i xs) (drop i ys)) → now ≡ old ++ zip xs ys
zip_all old now xs ys i past h = sym (h ∙ ap (λ zs. now ++ zs) (zip_ends xs ys i past) ∙ append-nil now)

-- ---- what a last call reads

pub if_reads : {E : Type 0} (xs ys : Terms) (r q : Seen) (res : Result Bool E) → r ≡ q → IfOk res (Reads xs q ys) → IfOk res (Reads xs r ys)
if_reads {E} xs ys r q res e h = subst (λ z. IfOk res (Reads xs z ys)) (sym e) h

pub if_then : {E : Type 0} (xs ys zs : Terms) (r s : Seen) (on : Bool) (res : Result Bool E) → on ≡ true → Reads xs r ys on → IfOk res (Reads ys s zs) → IfOk res (Reads xs (and_then r s) zs)
if_then {E} xs ys zs r s on (Ok next) went h k = reads_then xs ys zs r s on next went h k
if_then {E} xs ys zs r s on (Err e) went h k = tt

-- ---- one more argument

pub next_argument : (f : ℕ → Linear) (i : ℕ) (out new : List Linear) (x : Linear) → new ≡ out ++ x ∷ [] → out ≡ tabulate f 0 i → list_all is_small out ≡ true → (x ≡ f i) × (is_small (f i) ≡ true) → (new ≡ tabulate f 0 (i + 1)) × (list_all is_small new ≡ true)
next_argument f i out new x is done small h =
    let at : f i ≡ f (0 + i) = ap f (let e : i ≡ 0 + i = omega arith in e) in
    (is ∙ ap₂ (λ (ys : List Linear) (y : Linear). ys ++ y ∷ []) done (h.0 ∙ at) ∙ sym (tabulate_more f 0 i), ap (list_all is_small) is ∙ all_push is_small out x small (ap is_small h.0 ∙ h.1))

pub argument_stops : (f : ℕ → Linear) (i n : ℕ) → i < n → is_small (f i) ≡ false → list_all is_small (tabulate f 0 n) ≡ false
argument_stops f i n lt h = tabulate_stops is_small f 0 i n lt (ap (λ k. is_small (f k)) (let e : 0 + i ≡ i = omega arith in e) ∙ h)
