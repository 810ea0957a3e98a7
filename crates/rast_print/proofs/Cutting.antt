-- Texts that are cut into the tokens of a tree, whatever may follow them.
use Rattle.std.proofs.Common.{◌≡◌, ℕ, Bool, true, false, ◌&&◌, List, [], ◌∷◌, ◌++◌, map, ap, ap₂, sym, ◌∙◌, refl, subst, append_assoc}
use Rattle.std.specs.List.{flat_map}
use Rattle.std.proofs.lemmas.List.Folds.{list_all-append, flat_map-map}
use Rattle.rast_forms.specs.Words.{Word}
use Rattle.rast_forms.specs.Marks.{Mark, bare, starred, joined}
use Rattle.rast_forms.proofs.Marking.{bare-append, bare-starred}
use Rattle.rast_ast.specs.Names.{is_word_byte}
use Rattle.rast_lex.specs.Bytes.{starts}
use Rattle.rast_lex.specs.Pieces.{Piece, bytes_of, texts, IsPiece, ArePieces}
use Rattle.rast_lex.specs.Seen.{piece_word, piece_words}
use Rattle.rast_lex.proofs.Runs.{and_left, and_right}
use Rattle.rast_print.specs.Readable.{is_word, are_words}

-- what may follow: anything, or anything but a letter, a digit or _
abbrev pub MayFollow : Bool → List ℕ → Type 0
MayFollow true rest = Unit {0}
MayFollow false rest = starts is_word_byte rest ≡ false

-- bytes that are pieces with these tokens, before all that may follow
pub record Pieced (free : Bool) (bytes : List ℕ) (tokens : List Word) : Type 0 where
  pub pieces : List Piece
  pub texts_are : texts pieces ≡ bytes
  pub are : (rest : List ℕ) → MayFollow free rest → ArePieces pieces rest
  pub tokens_are : piece_words pieces ≡ tokens

-- the bytes are cut into these tokens, if each of these can stand in a text
pub record Cut (free : Bool) (bytes : List ℕ) (marks : List Mark) : Type 0 where
  pub cut : are_words (bare marks) ≡ true → Pieced free bytes (bare marks)

map-map : {A B C : Type 0} (f : B → C) (g : A → B) (xs : List A) → map f (map g xs) ≡ map (λ x. f (g x)) xs
map-map f g [] = refl
map-map f g (x ∷ xs) = ap (λ z. f (g x) ∷ z) (map-map f g xs)

texts_append : (ps qs : List Piece) → texts (ps ++ qs) ≡ texts ps ++ texts qs
texts_append [] qs = refl
texts_append (p ∷ ps) qs = ap (λ z. bytes_of p ++ z) (texts_append ps qs) ∙ sym (append_assoc (bytes_of p) (texts ps) (texts qs))

words_append : (ps qs : List Piece) → piece_words (ps ++ qs) ≡ piece_words ps ++ piece_words qs
words_append [] qs = refl
words_append (p ∷ ps) qs = ap (λ z. piece_word p ++ z) (words_append ps qs) ∙ sym (append_assoc (piece_word p) (piece_words ps) (piece_words qs))

are_append : (ps qs : List Piece) (rest : List ℕ) → ArePieces ps (texts qs ++ rest) → ArePieces qs rest → ArePieces (ps ++ qs) rest
are_append [] qs rest h k = k
are_append (p ∷ ps) qs rest h k = (subst (IsPiece p) (sym (ap (λ z. z ++ rest) (texts_append ps qs) ∙ append_assoc (texts ps) (texts qs) rest)) h.0, are_append ps qs rest h.1 k)

pieced_both : (b c : Bool) (x y : List ℕ) (u v : List Word) → Pieced b x u → ((r : List ℕ) → MayFollow c r → MayFollow b (y ++ r)) → Pieced c y v → Pieced c (x ++ y) (u ++ v)
pieced_both b c x y u v p f q = record {
  pieces = p.pieces ++ q.pieces;
  texts_are = texts_append p.pieces q.pieces ∙ ap₂ (λ s t. s ++ t) p.texts_are q.texts_are;
  are = λ r h. are_append p.pieces q.pieces r (p.are (texts q.pieces ++ r) (subst (λ z. MayFollow b (z ++ r)) (sym q.texts_are) (f r h))) (q.are r h);
  tokens_are = words_append p.pieces q.pieces ∙ ap₂ (λ s t. s ++ t) p.tokens_are q.tokens_are;
}

words_both : (ms ns : List Mark) → are_words (bare (ms ++ ns)) ≡ true → (are_words (bare ms) && are_words (bare ns)) ≡ true
words_both ms ns h = sym (ap are_words (bare-append ms ns) ∙ list_all-append is_word (bare ms) (bare ns)) ∙ h

-- one text, which the next may follow, and the next
pub next : {b c : Bool} {x y : List ℕ} {ms ns : List Mark} → Cut b x ms → ((r : List ℕ) → MayFollow c r → MayFollow b (y ++ r)) → Cut c y ns → Cut c (x ++ y) (ms ++ ns)
next {b = b} {c = c} {x = x} {y = y} {ms = ms} {ns = ns} p f q = record {
  cut = λ h. subst (Pieced c (x ++ y)) (sym (bare-append ms ns)) (pieced_both b c x y (bare ms) (bare ns) (p.cut (and_left (are_words (bare ms)) (are_words (bare ns)) (words_both ms ns h))) f (q.cut (and_right (are_words (bare ms)) (are_words (bare ns)) (words_both ms ns h))));
}

-- a text that anything may follow, and the next
infixr 20 ◌▷◌
pub ◌▷◌ : {c : Bool} {x y : List ℕ} {ms ns : List Mark} → Cut true x ms → Cut c y ns → Cut c (x ++ y) (ms ++ ns)
p ▷ q = next p (λ r h. tt) q

-- with one more starred nonterminal open
pub open_cut : {c : Bool} {x : List ℕ} {ms : List Mark} → Cut c x ms → Cut c x (starred ms)
open_cut {c = c} {x = x} {ms = ms} p = record {
  cut = λ h. subst (Pieced c x) (sym (bare-starred ms)) (p.cut (ap are_words (sym (bare-starred ms)) ∙ h));
}

-- a text that anything may follow, before less
pub weaker : {x : List ℕ} {ms : List Mark} → Cut true x ms → Cut false x ms
weaker {x = x} {ms = ms} p = record {
  cut = λ h. let q : Pieced true x (bare ms) = p.cut h in record { pieces = q.pieces; texts_are = q.texts_are; are = λ r m. q.are r tt; tokens_are = q.tokens_are };
}

-- the same text, and the same tokens
pub as_is : {c : Bool} {x y : List ℕ} {ms ns : List Mark} → x ≡ y → ms ≡ ns → Cut c y ns → Cut c x ms
as_is {c = c} {y = y} {ms = ms} e f p = subst (λ z. Cut c z ms) (sym e) (subst (Cut c y) (sym f) p)

-- two texts before a third one
pub regroup : {c : Bool} (x y z : List ℕ) (ms ns os : List Mark) → Cut c (x ++ (y ++ z)) (ms ++ (ns ++ os)) → Cut c ((x ++ y) ++ z) ((ms ++ ns) ++ os)
regroup x y z ms ns os p = as_is (append_assoc x y z) (append_assoc ms ns os) p

pub none_cut : (b : Bool) → Cut b [] []
none_cut b = record { cut = λ h. record { pieces = []; texts_are = refl; are = λ r k. tt; tokens_are = refl } }

-- lists of parts
module _ {A : Type 0} (b : Bool) (text : A → List ℕ) (mark : A → List Mark) where
  pub list_begins : ((a : A) (z : List ℕ) → MayFollow b (text a ++ z)) → (xs : List A) (r : List ℕ) → MayFollow b r → MayFollow b (flat_map text xs ++ r)
  list_begins begins [] r h = h
  list_begins begins (x ∷ xs) r h = subst (MayFollow b) (sym (append_assoc (text x) (flat_map text xs) r)) (begins x (flat_map text xs ++ r))

  pub list_cut : ((a : A) → Cut b (text a) (mark a)) → ((a : A) (z : List ℕ) → MayFollow b (text a ++ z)) → (xs : List A) → Cut b (flat_map text xs) (joined (map mark xs))
  list_cut one begins [] = none_cut b
  list_cut one begins (x ∷ xs) = next (one x) (λ r h. list_begins begins xs r h) (list_cut one begins xs)

-- lists of parts of a tree, by the texts and the tokens of the parts
module _ {A B X Y : Type 0} (b : Bool) (text : X → List ℕ) (to_text : B → X) (mark : Y → List Mark) (to_mark : B → Y) (part : A → B) where
  texts_of_parts : (xs : List A) → flat_map text (map to_text (map part xs)) ≡ flat_map (λ a. text (to_text (part a))) xs
  texts_of_parts xs = flat_map-map text to_text (map part xs) ∙ flat_map-map (λ x. text (to_text x)) part xs

  marks_of_parts : (xs : List A) → joined (map mark (map to_mark (map part xs))) ≡ joined (map (λ a. mark (to_mark (part a))) xs)
  marks_of_parts xs = ap joined (map-map mark to_mark (map part xs) ∙ map-map (λ x. mark (to_mark x)) part xs)

  pub parts_begin : ((a : A) (z : List ℕ) → MayFollow b (text (to_text (part a)) ++ z)) → (xs : List A) (r : List ℕ) → MayFollow b r → MayFollow b (flat_map text (map to_text (map part xs)) ++ r)
  parts_begin begins xs r h = subst (λ z. MayFollow b (z ++ r)) (sym (texts_of_parts xs)) (list_begins b (λ a. text (to_text (part a))) (λ a. mark (to_mark (part a))) begins xs r h)

  pub parts_cut : ((a : A) → Cut b (text (to_text (part a))) (mark (to_mark (part a)))) → ((a : A) (z : List ℕ) → MayFollow b (text (to_text (part a)) ++ z)) → (xs : List A) → Cut b (flat_map text (map to_text (map part xs))) (joined (map mark (map to_mark (map part xs))))
  parts_cut one begins xs = as_is (texts_of_parts xs) (marks_of_parts xs) (list_cut b (λ a. text (to_text (part a))) (λ a. mark (to_mark (part a))) one begins xs)
