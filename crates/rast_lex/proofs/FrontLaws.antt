-- What stands at the front of a text, from the run that it begins with.
use Rattle.std.proofs.Common.{◌≡◌, ℕ, ◌+◌, ◌<◌, ◌≤◌, Bool, true, false, ◌&&◌, ◌||◌, not, ◌==◌, nat_lt, List, [], ◌∷◌, ◌++◌, length, get_or, take, drop, Option, Some, None, cond, find, eqb-true, ap, ap₂, sym, ◌∙◌, refl, arith, ltb-false}
use Rattle.std.specs.List.{list_all, prefix_len}
use Rattle.std.proofs.lemmas.List.{take-append-drop}
use Rattle.std.proofs.lemmas.List.Folds.{length-prefix_len}
use Rattle.rast_ast.specs.declared.Kind.{Kind}
use Rattle.rast_ast.specs.declared.Kind.TheVariants as kind
use Rattle.rast_ast.specs.Names.{is_letter, is_digit, is_word_byte, is_name}
use Rattle.rast_lex.specs.Bytes.{starts, is_blank, is_comment_byte}
use Rattle.rast_lex.specs.Numbers.{is_number}
use Rattle.rast_lex.specs.Words.{kind_of_word}
use Rattle.rast_lex.specs.Pieces.{Blank, Word, Number, Comment, Symbol}
use Rattle.rast_lex.specs.Symbols.{begins_with, ends, stands, symbols, symbol_at}
use Rattle.rast_ast.specs.Kinds.{text_of}
use Rattle.rast_lex.specs.Fronts.{HasPiece}
use Rattle.rast_lex.specs.Tokens.{HasBadComment, HasBadNumber, HasLongName}
use Rattle.rast_lex.proofs.Runs.{and_left, and_right, run_all, run_ends, run_some, starts_take}

letter_is_word : (cs : List ℕ) → starts is_letter cs ≡ true → starts is_word_byte cs ≡ true
letter_is_word [] e = absurd (cc)
letter_is_word (c ∷ cs) e = ap (λ b. b || is_digit c || (c == 95)) e

name_is : (w : List ℕ) → list_all is_word_byte w ≡ true → starts is_letter w ≡ true → is_name w ≡ true
name_is [] all e = absurd (cc)
name_is (c ∷ cs) all e = ap (λ b. b && list_all is_word_byte cs) e ∙ and_right (is_word_byte c) (list_all is_word_byte cs) all

module _ (text : List ℕ) (n : ℕ) (is : n ≡ prefix_len is_word_byte text) (letter : starts is_letter text ≡ true) where
  is_front : is_name (take n text) ≡ true
  is_front = rw is (name_is (take (prefix_len is_word_byte text) text) (run_all is_word_byte text) (starts_take is_letter (prefix_len is_word_byte text) text (run_some is_word_byte text (letter_is_word text letter)) letter))

  ends_front : starts is_word_byte (drop n text) ≡ false
  ends_front = rw is (run_ends is_word_byte text)

  len_front : n ≡ length (take n text)
  len_front = rw is (sym (length-prefix_len is_word_byte text))

  pub long_name : 64 < n → HasLongName text
  long_name h = record {
    name = take n text;
    more = drop n text;
    text_is = sym (take-append-drop n text);
    is = is_front;
    ends = ends_front;
    long = omega (arith, h, len_front);
  }

  pub word : (k : Kind) → n ≤ 64 → k ≡ kind_of_word (take n text) → HasPiece text (Some k) n
  word k h e = record {
    piece = Word (take n text);
    rest = drop n text;
    is = (is_front, omega (arith, h, len_front), ends_front);
    text_is = sym (take-append-drop n text);
    kind_is = ap (λ z. Some z) (sym e);
    len_is = len_front;
  }

module _ (text : List ℕ) (n : ℕ) (is : n ≡ prefix_len is_digit text) where
  pub all_digits : list_all is_digit (take n text) ≡ true
  all_digits = rw is (run_all is_digit text)

  ends_digits : starts is_digit (drop n text) ≡ false
  ends_digits = rw is (run_ends is_digit text)

  len_digits : n ≡ length (take n text)
  len_digits = rw is (sym (length-prefix_len is_digit text))

  pub number : is_number (take n text) ≡ true → HasPiece text (Some kind.Number) n
  number h = record {
    piece = Number (take n text);
    rest = drop n text;
    is = (h, ends_digits);
    text_is = sym (take-append-drop n text);
    kind_is = refl;
    len_is = len_digits;
  }

  pub bad_number : starts is_digit text ≡ true → is_number (take n text) ≡ false → HasBadNumber text
  bad_number h bad = record {
    digits = take n text;
    more = drop n text;
    text_is = sym (take-append-drop n text);
    some = omega (arith, len_digits, is, run_some is_digit text h);
    all = all_digits;
    ends = ends_digits;
    bad = bad;
  }

left_false : (a b : Bool) → (a && b) ≡ false → b ≡ true → a ≡ false
left_false true b e h = sym h ∙ e
left_false false b e h = refl

above : (c : ℕ) → is_comment_byte c ≡ false → not (c == 10) ≡ true → 127 < c
above c other h = let k = left_false (nat_lt c 128) (not (c == 10)) other h in omega (arith, ltb-false c 128 k)

module _ (text : List ℕ) (n : ℕ) (is : n ≡ prefix_len is_comment_byte text) where
  all_comment : list_all is_comment_byte (take n text) ≡ true
  all_comment = rw is (run_all is_comment_byte text)

  len_comment : n ≡ length (take n text)
  len_comment = rw is (sym (length-prefix_len is_comment_byte text))

  pub comment : starts (λ c. not (c == 10)) (drop n text) ≡ false → HasPiece (37 ∷ text) None (n + 1)
  comment h = record {
    piece = Comment (take n text);
    rest = drop n text;
    is = (all_comment, h);
    text_is = ap (λ z. 37 ∷ z) (sym (take-append-drop n text));
    kind_is = refl;
    len_is = omega (arith, len_comment);
  }

  bad_at : (after : List ℕ) → after ≡ drop n text → starts is_comment_byte after ≡ false → starts (λ c. not (c == 10)) after ≡ true → HasBadComment (37 ∷ text) (n + 1)
  bad_at [] e other h = absurd (cc)
  bad_at (c ∷ cs) e other h = record {
    bytes = take n text;
    bad = c;
    more = cs;
    text_is = ap (λ z. 37 ∷ z) (sym (take-append-drop n text) ∙ ap (λ z. take n text ++ z) (sym e));
    good = all_comment;
    above = above c other h;
    place = omega (arith, len_comment);
  }

  pub bad_comment : starts (λ c. not (c == 10)) (drop n text) ≡ true → HasBadComment (37 ∷ text) (n + 1)
  bad_comment h = bad_at (drop n text) refl (rw is (run_ends is_comment_byte text)) h

-- a symbol that stands at the front

found_in : (q : Kind → Bool) (y x : Kind) (o : Option Kind) (b : Bool) → q y ≡ true → cond b (Some y) o ≡ Some x → (o ≡ Some x → q x ≡ true) → q x ≡ true
found_in q y x o true h e k = let same : y ≡ x = cc in ap q (sym same) ∙ h
found_in q y x o false h e k = k e

-- what each kind of a list passes, the one that is found passes
pub find_in : (p q : Kind → Bool) (xs : List Kind) (x : Kind) → list_all q xs ≡ true → find p xs ≡ Some x → q x ≡ true
find_in p q [] x all e = absurd (cc)
find_in p q (y ∷ ys) x all e = found_in q y x (find p ys) (p y) (and_left (q y) (list_all q ys) all) e (find_in p q ys x (and_right (q y) (list_all q ys) all))

found : (p : Kind → Bool) (y x : Kind) (o : Option Kind) (b : Bool) → p y ≡ b → cond b (Some y) o ≡ Some x → (o ≡ Some x → p x ≡ true) → p x ≡ true
found p y x o true h e k = let same : y ≡ x = cc in ap p (sym same) ∙ h
found p y x o false h e k = k e

find_passes : (p : Kind → Bool) (xs : List Kind) (x : Kind) → find p xs ≡ Some x → p x ≡ true
find_passes p [] x e = absurd (cc)
find_passes p (y ∷ ys) x e = found p y x (find p ys) (p y) refl e (find_passes p ys x)

begins_split : (p text : List ℕ) → begins_with p text ≡ true → text ≡ p ++ drop (length p) text
begins_split [] text e = refl
begins_split (c ∷ cs) [] e = absurd (cc)
begins_split (c ∷ cs) (d ∷ ds) e = ap₂ (λ x xs. x ∷ xs) (sym (eqb-true c d (and_left (c == d) (begins_with cs ds) e))) (begins_split cs ds (and_right (c == d) (begins_with cs ds) e))

pub symbol_split : (text : List ℕ) (k : Kind) → symbol_at text ≡ Some k → text ≡ text_of k ++ drop (length (text_of k)) text
symbol_split text k e = begins_split (text_of k) text (and_left (begins_with (text_of k) text) (ends k (drop (length (text_of k)) text)) (find_passes (λ j. stands j text) symbols k e))

pub symbol : (text : List ℕ) (k : Kind) (n : ℕ) → symbol_at text ≡ Some k → n ≡ length (text_of k) → HasPiece text (Some k) n
symbol text k n e h = record {
  piece = Symbol k;
  rest = drop (length (text_of k)) text;
  is = ap symbol_at (sym (symbol_split text k e)) ∙ e;
  text_is = symbol_split text k e;
  kind_is = refl;
  len_is = h;
}

pub blank : (text : List ℕ) → 1 ≤ length text → is_blank (get_or text 0 0) ≡ true → HasPiece text None 1
blank [] some h = absurd (omega (arith, some))
blank (c ∷ cs) some h = record { piece = Blank c; rest = cs; is = h; text_is = refl; kind_is = refl; len_is = refl }
