-- A text is cut in one way, or has one first fault.
use Rattle.std.proofs.Common.{◌≡◌, ℕ, ◌+◌, ◌<◌, ◌≤◌, Bool, true, false, not, ◌&&◌, ◌||◌, ◌^◌, ◌==◌, nat_le, nat_lt, cond, is_some, List, [], ◌∷◌, ◌++◌, length, take, drop, Option, Some, None, ap, ap₂, sym, ◌∙◌, refl, subst, arith, append_assoc, append-nil, ⊎_elim}
use Rattle.std.specs.List.{list_all, prefix_len}
use Rattle.std.proofs.Math.Seq.{drop-append_seam, take-append_seam}
use Rattle.rast_ast.specs.declared.Kind.{Kind}
use Rattle.rast_ast.specs.Kinds.{text_of}
use Rattle.rast_ast.specs.Names.{is_letter, is_digit, is_word_byte, is_name}
use Rattle.rast_lex.specs.declared.token.LexErr.{LexErr}
use Rattle.rast_lex.specs.declared.token.LexErr.TheVariants as error
use Rattle.rast_lex.specs.Bytes.{starts, is_blank, is_comment_byte}
use Rattle.rast_lex.specs.declared.token.Token.{Token}
use Rattle.rast_lex.specs.Numbers.{is_number, has_no_leading_zero, value_of}
use Rattle.std.proofs.lemmas.Bool.Decides.{nat_tests}
use Rattle.rast_lex.specs.Symbols.{stands, symbols, symbol_at}
use Rattle.rast_lex.specs.Pieces.{Piece, Blank, Comment, Word, Number, Symbol, bytes_of, texts, IsPiece, ArePieces}
use Rattle.rast_lex.specs.Tokens.{BeginsNone, HasBadComment, IsFault, AreTokens, IsFirstFault, tokens_of}
use Rattle.rast_lex.proofs.Runs.{and_left, and_right, run_is}
use Rattle.rast_lex.proofs.FrontLaws.{find_in}
use Rattle.rast_lex.proofs.Cuts.{piece_some}

-- the piece at the front of a text, and the text after it

abbrev Ahead : Type 0
Ahead = Option (Piece × List ℕ)

abbrev word_first : List ℕ → ℕ → Ahead
word_first text n = cond (nat_le n 64) (Some (Word (take n text), drop n text)) None

abbrev number_first : List ℕ → ℕ → Ahead
number_first text n = cond (is_number (take n text)) (Some (Number (take n text), drop n text)) None

abbrev comment_first : List ℕ → ℕ → Ahead
comment_first text n = cond (starts (λ c. not (c == 10)) (drop n text)) None (Some (Comment (take n text), drop n text))

abbrev symbol_first : List ℕ → Option Kind → Ahead
symbol_first text None = None
symbol_first text (Some k) = Some (Symbol k, drop (length (text_of k)) text)

-- by the class of the first byte
abbrev by_class : Bool → Bool → Bool → Bool → ℕ → List ℕ → Ahead
by_class true digit blank percent c cs = word_first (c ∷ cs) (prefix_len is_word_byte (c ∷ cs))
by_class false true blank percent c cs = number_first (c ∷ cs) (prefix_len is_digit (c ∷ cs))
by_class false false true percent c cs = Some (Blank c, cs)
by_class false false false true c cs = comment_first cs (prefix_len is_comment_byte cs)
by_class false false false false c cs = symbol_first (c ∷ cs) (symbol_at (c ∷ cs))

abbrev first : List ℕ → Ahead
first [] = None
first (c ∷ cs) = by_class (is_letter c) (is_digit c) (is_blank c) (c == 37) c cs

-- classes don't overlap

digit_not_letter : (c : ℕ) → is_digit c ≡ true → is_letter c ≡ false
digit_not_letter c h = grind (arith, nat_tests)

blank_not_letter : (c : ℕ) → is_blank c ≡ true → is_letter c ≡ false
blank_not_letter c h = grind (arith, nat_tests)

blank_not_digit : (c : ℕ) → is_blank c ≡ true → is_digit c ≡ false
blank_not_digit c h = grind (arith, nat_tests)

abbrev is_other : ℕ → Bool
is_other c = not (is_letter c || is_digit c || is_blank c || (c == 37))

none_of : (a b c d : Bool) → not (a || b || c || d) ≡ true → (a ≡ false) × (b ≡ false) × (c ≡ false) × (d ≡ false)
none_of false false false false e = (refl, refl, refl, refl)
none_of true b c d e = absurd (cc)
none_of false true c d e = absurd (cc)
none_of false false true d e = absurd (cc)
none_of false false false true e = absurd (cc)

or_false : (a b : Bool) → (a || b) ≡ false → (a ≡ false) × (b ≡ false)
or_false false b e = (refl, e)
or_false true b e = absurd (cc)

is_none' : (o : Option Kind) → is_some o ≡ false → o ≡ None
is_none' None e = refl
is_none' (Some k) e = absurd (cc)

module _ (x : ℕ) (xs : List ℕ) where
  class_letter : (a b c d : Bool) → a ≡ true → by_class a b c d x xs ≡ word_first (x ∷ xs) (prefix_len is_word_byte (x ∷ xs))
  class_letter a b c d e = ap (λ z. by_class z b c d x xs) e

  class_digit : (a b c d : Bool) → a ≡ false → b ≡ true → by_class a b c d x xs ≡ number_first (x ∷ xs) (prefix_len is_digit (x ∷ xs))
  class_digit a b c d e h = ap₂ (λ z w. by_class z w c d x xs) e h

  class_blank : (a b c d : Bool) → a ≡ false → b ≡ false → c ≡ true → by_class a b c d x xs ≡ Some (Blank x, xs)
  class_blank a b c d e h k = ap₂ (λ z w. by_class z w c d x xs) e h ∙ ap (λ z. by_class false false z d x xs) k

  class_other : (a b c d : Bool) → (a ≡ false) × (b ≡ false) × (c ≡ false) × (d ≡ false) → by_class a b c d x xs ≡ symbol_first (x ∷ xs) (symbol_at (x ∷ xs))
  class_other a b c d (e, h, k, l) = ap₂ (λ z w. by_class z w c d x xs) e h ∙ ap₂ (λ z w. by_class false false z w x xs) k l

-- a piece is the one at the front

name_first : (w : List ℕ) → is_name w ≡ true → starts is_letter w ≡ true
name_first [] e = absurd (cc)
name_first (c ∷ cs) e = and_left (is_letter c) (list_all is_word_byte cs) e

name_all : (w : List ℕ) → is_name w ≡ true → list_all is_word_byte w ≡ true
name_all [] e = absurd (cc)
name_all (c ∷ cs) e = ap₂ (λ a b. (a || is_digit c || (c == 95)) && b) (and_left (is_letter c) (list_all is_word_byte cs) e) (and_right (is_letter c) (list_all is_word_byte cs) e)

-- a text that begins with a name is read by the name's length
name_read : (w a : List ℕ) → is_name w ≡ true → starts is_word_byte a ≡ false → first (w ++ a) ≡ cond (nat_le (length w) 64) (Some (Word w, a)) None
name_read [] a e h = absurd (cc)
name_read (c ∷ cs) a e h = class_letter c (cs ++ a) (is_letter c) (is_digit c) (is_blank c) (c == 37) (name_first (c ∷ cs) e)
    ∙ ap (word_first ((c ∷ cs) ++ a)) (run_is is_word_byte (c ∷ cs) a (name_all (c ∷ cs) e) h)
    ∙ ap₂ (λ x y. cond (nat_le (length (c ∷ cs)) 64) (Some (Word x, y)) None) (take-append_seam (c ∷ cs) a) (drop-append_seam (c ∷ cs) a)

-- a text that begins with digits is read by what they are
digits_read : (w a : List ℕ) → 0 < length w → list_all is_digit w ≡ true → starts is_digit a ≡ false → first (w ++ a) ≡ cond (is_number w) (Some (Number w, a)) None
digits_read [] a some all h = absurd (omega (arith, some))
digits_read (c ∷ cs) a some all h = let digit = and_left (is_digit c) (list_all is_digit cs) all in
    class_digit c (cs ++ a) (is_letter c) (is_digit c) (is_blank c) (c == 37) (digit_not_letter c digit) digit
    ∙ ap (number_first ((c ∷ cs) ++ a)) (run_is is_digit (c ∷ cs) a all h)
    ∙ ap₂ (λ x y. cond (is_number x) (Some (Number x, y)) None) (take-append_seam (c ∷ cs) a) (drop-append_seam (c ∷ cs) a)

-- a text that begins with `%` is read by what follows the bytes of a comment
comment_read : (w a : List ℕ) → list_all is_comment_byte w ≡ true → starts is_comment_byte a ≡ false → first (37 ∷ (w ++ a)) ≡ cond (starts (λ c. not (c == 10)) a) None (Some (Comment w, a))
comment_read w a all h = ap (comment_first (w ++ a)) (run_is is_comment_byte w a all h)
    ∙ ap₂ (λ x y. cond (starts (λ c. not (c == 10)) y) None (Some (Comment x, y))) (take-append_seam w a) (drop-append_seam w a)

and_no : (a b : Bool) → b ≡ false → (a && b) ≡ false
and_no true b e = e
and_no false b e = refl

line_ends : (a : List ℕ) → starts (λ c. not (c == 10)) a ≡ false → starts is_comment_byte a ≡ false
line_ends [] e = refl
line_ends (c ∷ cs) e = and_no (nat_lt c 128) (not (c == 10)) e

symbol_read : (t a : List ℕ) (k : Kind) → starts is_other t ≡ true → symbol_at (t ++ a) ≡ Some k → first (t ++ a) ≡ Some (Symbol k, drop (length (text_of k)) (t ++ a))
symbol_read [] a k e h = absurd (cc)
symbol_read (c ∷ cs) a k e h = class_other c (cs ++ a) (is_letter c) (is_digit c) (is_blank c) (c == 37) (none_of (is_letter c) (is_digit c) (is_blank c) (c == 37) e) ∙ ap (symbol_first ((c ∷ cs) ++ a)) h

number_digits : (w : List ℕ) → is_number w ≡ true → list_all is_digit w ≡ true
number_digits w e = and_left (list_all is_digit w) (has_no_leading_zero w) (and_left (list_all is_digit w && has_no_leading_zero w) (nat_lt (value_of w) (2 ^ 32)) e)

short_yes : (n : ℕ) → n ≤ 64 → nat_le n 64 ≡ true
short_yes n h = grind (arith, nat_tests)

first_is : (p : Piece) (a : List ℕ) → IsPiece p a → first (bytes_of p ++ a) ≡ Some (p, a)
first_is (Blank c) a h = class_blank c a (is_letter c) (is_digit c) (is_blank c) (c == 37) (blank_not_letter c h) (blank_not_digit c h) h
first_is (Comment w) a h = comment_read w a h.0 (line_ends a h.1) ∙ ap (λ b. cond b None (Some (Comment w, a))) h.1
first_is (Word w) a h = name_read w a h.0 h.2 ∙ ap (λ b. cond b (Some (Word w, a)) None) (short_yes (length w) h.1)
first_is (Number w) a h = digits_read w a (piece_some (Number w) a h) (number_digits w h.0) h.1 ∙ ap (λ b. cond b (Some (Number w, a)) None) h.0
first_is (Symbol k) a h = symbol_read (text_of k) a k (find_in (λ j. stands j (text_of k ++ a)) (λ j. starts is_other (text_of j)) symbols k refl h) h ∙ ap (λ z. Some (Symbol k, z)) (drop-append_seam (text_of k) a)

-- at a fault there is none

bad_ends : (c : ℕ) → 127 < c → is_comment_byte c ≡ false
bad_ends c h = grind (arith, nat_tests)

bad_no_line : (c : ℕ) → 127 < c → not (c == 10) ≡ true
bad_no_line c h = grind (arith, nat_tests)

long_no : (n : ℕ) → 64 < n → nat_le n 64 ≡ false
long_no n h = grind (arith, nat_tests)

none_begins : (text : List ℕ) → BeginsNone text → first text ≡ None
none_begins [] h = refl
none_begins (c ∷ cs) h = let e = or_false (is_letter c || is_digit c || is_blank c || (c == 37)) (is_some (symbol_at (c ∷ cs))) h.none in
    class_other c cs (is_letter c) (is_digit c) (is_blank c) (c == 37) (none_of (is_letter c) (is_digit c) (is_blank c) (c == 37) (ap not e.0)) ∙ ap (symbol_first (c ∷ cs)) (is_none' (symbol_at (c ∷ cs)) e.1)

comment_none : (text : List ℕ) (n : ℕ) → HasBadComment text n → first text ≡ None
comment_none text n h = ap first h.text_is ∙ comment_read h.bytes (h.bad ∷ h.more) h.good (bad_ends h.bad h.above) ∙ ap (λ b. cond b None (Some (Comment h.bytes, h.bad ∷ h.more))) (bad_no_line h.bad h.above)

fault_none : (e : LexErr) (place : ℕ) (text : List ℕ) → IsFault e place text → first text ≡ None
fault_none (error.BadByte at) place text h = ⊎_elim (λ k. none_begins text k.1) (λ k. comment_none text k.0 k.2) h
fault_none (error.BadNumber at) place text (_, h) = ap first h.text_is ∙ digits_read h.digits h.more h.some h.all h.ends ∙ ap (λ b. cond b (Some (Number h.digits, h.more)) None) h.bad
fault_none (error.LongName at) place text (_, h) = ap first h.text_is ∙ name_read h.name h.more h.is h.ends ∙ ap (λ b. cond b (Some (Word h.name, h.more)) None) (long_no (length h.name) h.long)
fault_none error.Memory place text h = absurd h

-- and the fault is this one

abbrev fault_by : Bool → Bool → Bool → ℕ → List ℕ → LexErr
fault_by true digit percent place cs = error.LongName place
fault_by false true percent place cs = error.BadNumber place
fault_by false false true place cs = error.BadByte (place + (prefix_len is_comment_byte cs + 1))
fault_by false false false place cs = error.BadByte place

abbrev fault_at : ℕ → List ℕ → LexErr
fault_at place [] = error.Memory
fault_at place (c ∷ cs) = fault_by (is_letter c) (is_digit c) (c == 37) place cs

none_fault : (place : ℕ) (text : List ℕ) → BeginsNone text → fault_at place text ≡ error.BadByte place
none_fault place [] h = absurd (omega (arith, h.some))
none_fault place (c ∷ cs) h = let e = or_false (is_letter c || is_digit c || is_blank c || (c == 37)) (is_some (symbol_at (c ∷ cs))) h.none in
    let f = none_of (is_letter c) (is_digit c) (is_blank c) (c == 37) (ap not e.0) in
    ap₂ (λ a b. fault_by a b (c == 37) place cs) f.0 f.1 ∙ ap (λ d. fault_by false false d place cs) f.3

comment_fault : (place n : ℕ) (text : List ℕ) → HasBadComment text n → fault_at place text ≡ error.BadByte (place + n)
comment_fault place n text h = ap (fault_at place) h.text_is ∙ ap (λ m. error.BadByte (place + m)) (ap (λ m. m + 1) (run_is is_comment_byte h.bytes (h.bad ∷ h.more) h.good (bad_ends h.bad h.above)) ∙ sym h.place)

digits_fault : (place : ℕ) (w a : List ℕ) → 0 < length w → list_all is_digit w ≡ true → fault_at place (w ++ a) ≡ error.BadNumber place
digits_fault place [] a some all = absurd (omega (arith, some))
digits_fault place (c ∷ cs) a some all = let digit = and_left (is_digit c) (list_all is_digit cs) all in
    ap₂ (λ x y. fault_by x y (c == 37) place (cs ++ a)) (digit_not_letter c digit) digit

name_fault : (place : ℕ) (w a : List ℕ) → is_name w ≡ true → fault_at place (w ++ a) ≡ error.LongName place
name_fault place [] a e = absurd (cc)
name_fault place (c ∷ cs) a e = ap (λ x. fault_by x (is_digit c) (c == 37) place (cs ++ a)) (name_first (c ∷ cs) e)

fault_is : (e : LexErr) (place : ℕ) (text : List ℕ) → IsFault e place text → fault_at place text ≡ e
fault_is (error.BadByte at) place text h = ⊎_elim (λ k. none_fault place text k.1 ∙ ap (λ n. error.BadByte n) (sym k.0)) (λ k. comment_fault place k.0 text k.2 ∙ ap (λ n. error.BadByte n) (sym k.1)) h
fault_is (error.BadNumber at) place text (e, h) = ap (fault_at place) h.text_is ∙ digits_fault place h.digits h.more h.some h.all ∙ ap (λ n. error.BadNumber n) (sym e)
fault_is (error.LongName at) place text (e, h) = ap (fault_at place) h.text_is ∙ name_fault place h.name h.more h.is ∙ ap (λ n. error.LongName n) (sym e)
fault_is error.Memory place text h = absurd h

-- two ways to cut a text are one

some_pair : (x y : Piece × List ℕ) → Some x ≡ Some y → (x.0 ≡ y.0) × (x.1 ≡ y.1)
some_pair x y e = let same : x ≡ y = cc in (ap (λ z. z.0) same, ap (λ z. z.1) same)

one_piece : (p q : Piece) (a b : List ℕ) → IsPiece p a → IsPiece q b → bytes_of p ++ a ≡ bytes_of q ++ b → (p ≡ q) × (a ≡ b)
one_piece p q a b h k e = some_pair (p, a) (q, b) (sym (first_is p a h) ∙ ap first e ∙ first_is q b k)

some_none : (x : Piece × List ℕ) → Some x ≡ None → ⊥
some_none x e = cc

-- a piece stands where a text is cut, and none at its end or at a fault
piece_at : (p : Piece) (a text : List ℕ) → IsPiece p a → first text ≡ None → bytes_of p ++ a ≡ text → ⊥
piece_at p a text h none e = some_none (p, a) (sym (first_is p a h) ∙ ap first e ∙ none)

pub cut_as : (ps qs : List Piece) (a b : List ℕ) → ArePieces ps a → ArePieces qs b → first a ≡ None → first b ≡ None → texts ps ++ a ≡ texts qs ++ b → (ps ≡ qs) × (a ≡ b)
cut_as [] [] a b h k na nb e = (refl, e)
cut_as [] (q ∷ qs) a b h k na nb e = absurd (piece_at q (texts qs ++ b) a k.0 na (sym (append_assoc (bytes_of q) (texts qs) b) ∙ sym e))
cut_as (p ∷ ps) [] a b h k na nb e = absurd (piece_at p (texts ps ++ a) b h.0 nb (sym (append_assoc (bytes_of p) (texts ps) a) ∙ e))
cut_as (p ∷ ps) (q ∷ qs) a b h k na nb e =
    let same : (p ≡ q) × (texts ps ++ a ≡ texts qs ++ b) = one_piece p q (texts ps ++ a) (texts qs ++ b) h.0 k.0 (sym (append_assoc (bytes_of p) (texts ps) a) ∙ e ∙ append_assoc (bytes_of q) (texts qs) b) in
    let rest : (ps ≡ qs) × (a ≡ b) = cut_as ps qs a b h.1 k.1 na nb same.1 in
    (ap₂ (λ x xs. x ∷ xs) same.0 rest.0, rest.1)

-- no fault stands at the end
no_end : (e : LexErr) (place : ℕ) → IsFault e place [] → ⊥
no_end e place h = none_is e (fault_is e place [] h) h
  where
    none_is : (f : LexErr) → error.Memory ≡ f → IsFault f place [] → ⊥
    none_is error.Memory g k = k
    none_is (error.BadByte at) g k = cc
    none_is (error.BadNumber at) g k = cc
    none_is (error.LongName at) g k = cc

-- the tokens of a text are one list
pub one_list : (text : List ℕ) (ts us : List Token) → AreTokens text ts → AreTokens text us → ts ≡ us
one_list text ts us h k =
    let same : (h.pieces ≡ k.pieces) × ([] ≡ []) = cut_as h.pieces k.pieces [] [] h.are k.are refl refl (append-nil (texts h.pieces) ∙ sym h.cut ∙ k.cut ∙ sym (append-nil (texts k.pieces))) in
    h.tokens_are ∙ ap (tokens_of 0) same.0 ∙ sym k.tokens_are

-- a text with a first fault has no tokens
pub no_list : (text : List ℕ) (ts : List Token) (e : LexErr) → AreTokens text ts → IsFirstFault text e → ⊥
no_list text ts e h k =
    let none = fault_none e (length (texts k.pieces)) k.rest k.fault in
    let same : (h.pieces ≡ k.pieces) × ([] ≡ k.rest) = cut_as h.pieces k.pieces [] k.rest h.are k.are refl none (append-nil (texts h.pieces) ∙ sym h.cut ∙ k.cut) in
    no_end e (length (texts k.pieces)) (subst (IsFault e (length (texts k.pieces))) (sym same.1) k.fault)

-- and one first fault
pub one_fault : (text : List ℕ) (e f : LexErr) → IsFirstFault text e → IsFirstFault text f → e ≡ f
one_fault text e f h k =
    let same : (h.pieces ≡ k.pieces) × (h.rest ≡ k.rest) = cut_as h.pieces k.pieces h.rest k.rest h.are k.are (fault_none e (length (texts h.pieces)) h.rest h.fault) (fault_none f (length (texts k.pieces)) k.rest k.fault) (sym h.cut ∙ k.cut) in
    sym (fault_is e (length (texts h.pieces)) h.rest h.fault) ∙ ap₂ (λ ps r. fault_at (length (texts ps)) r) same.0 same.1 ∙ fault_is f (length (texts k.pieces)) k.rest k.fault
