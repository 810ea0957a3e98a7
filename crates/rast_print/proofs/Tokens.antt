-- The texts of single tokens, with the blanks beside them, are cut into these tokens.
use Rattle.std.proofs.Common.{◌≡◌, ℕ, zero, suc, ◌+◌, ◌<◌, ◌≤◌, ◌^◌, Bool, true, false, ◌&&◌, ◌||◌, not, ◌==◌, nat_le, nat_lt, List, [], ◌∷◌, ◌++◌, length, codes, get_or, map, ap, ap₂, sym, ◌∙◌, refl, subst, arith, append-nil, ltb-true, Some}
use Rattle.std.specs.List.{list_all}
use Rattle.std.specs.Fmt.{decimal}
use Rattle.std.specs.Str.{bytes_eq}
use Rattle.std.specs.Int.Digits.{digits_of, AllBelowBase}
use Rattle.std.proofs.lemmas.Bool.Decides.{nat_tests}
use Rattle.std.proofs.lemmas.Fmt.{decimal_is_IsNumeral, decimal-digits_of, decimal_digit, first_decimal}
use Rattle.std.proofs.lemmas.Int.Digits.{all_below_base_digits_of}
use Rattle.rast_forms.specs.Words.{Number}
use Rattle.rast_forms.specs.Marks.{Mark, bare}
use Rattle.rast_ast.proofs.KindLaws.{is_kind_same}
use Rattle.rast_ast.specs.declared.Kind.{Kind}
use Rattle.rast_ast.specs.declared.Kind.TheVariants as kind
use Rattle.rast_ast.specs.Kinds.{text_of, is_kind}
use Rattle.rast_ast.specs.Names.{is_digit, is_word_byte, is_name}
use Rattle.rast_ast.specs.Written.{sign, fixed, name, number}
use Rattle.rast_ast.specs.Linear.{beginning}
use Rattle.rast_lex.specs.Bytes.{starts, is_blank}
use Rattle.rast_lex.specs.Numbers.{is_number, has_no_leading_zero}
use Rattle.rast_lex.specs.Pieces.{Piece, Blank, Word as Letters, Number as Digits, Symbol, texts, ArePieces}
use Rattle.rast_lex.specs.Symbols.{symbol_at}
use Rattle.rast_lex.specs.Seen.{piece_words, word_as}
use Rattle.rast_lex.specs.Words.{kind_of_word}
use Rattle.rast_lex.proofs.Runs.{and_left, and_right}
use Rattle.rast_print.proofs.Cutting.{MayFollow, Pieced, Cut}

made : (free : Bool) (ps : List Piece) (ms : List Mark) → ((rest : List ℕ) → MayFollow free rest → ArePieces ps rest) → piece_words ps ≡ bare ms → Cut free (texts ps) ms
made free ps ms h e = record { cut = λ k. record { pieces = ps; texts_are = refl; are = h; tokens_are = e } }

-- ---- names

name_only : (n : List ℕ) → (is_name n && (nat_le (length n) 64 && is_kind (kind_of_word n) kind.Name)) && true ≡ true → (is_name n ≡ true) × (nat_le (length n) 64 ≡ true) × (is_kind (kind_of_word n) kind.Name ≡ true)
name_only n h =
    let a : (is_name n && (nat_le (length n) 64 && is_kind (kind_of_word n) kind.Name)) ≡ true = and_left (is_name n && (nat_le (length n) 64 && is_kind (kind_of_word n) kind.Name)) true h in
    let b : (nat_le (length n) 64 && is_kind (kind_of_word n) kind.Name) ≡ true = and_right (is_name n) (nat_le (length n) 64 && is_kind (kind_of_word n) kind.Name) a in
    (and_left (is_name n) (nat_le (length n) 64 && is_kind (kind_of_word n) kind.Name) a, and_left (nat_le (length n) 64) (is_kind (kind_of_word n) kind.Name) b, and_right (nat_le (length n) 64) (is_kind (kind_of_word n) kind.Name) b)

short : (n : ℕ) → nat_le n 64 ≡ true → n ≤ 64
short n h = grind (arith, nat_tests)

pub name_cut : (n : List ℕ) → Cut false n (name n)
name_cut n = record {
  cut = λ h. let k : (is_name n ≡ true) × (nat_le (length n) 64 ≡ true) × (is_kind (kind_of_word n) kind.Name ≡ true) = name_only n h in record {
    pieces = Letters n ∷ [];
    texts_are = append-nil n;
    are = λ r e. ((k.0, short (length n) k.1, e), tt);
    tokens_are = ap (λ z. word_as z n ∷ []) (is_kind_same (kind_of_word n) kind.Name k.2);
  };
}

-- ---- numbers

digit_is : (d : ℕ) → d < 10 → is_digit (48 + d) ≡ true
digit_is d h = grind (arith, nat_tests)

digits_are : (ds : List ℕ) → AllBelowBase 10 ds → list_all is_digit (map (λ d. 48 + d) ds) ≡ true
digits_are [] h = refl
digits_are (d ∷ ds) h = ap₂ (λ a b. a && b) (digit_is d h.0) (digits_are ds h.1)

begins_above : (ds : List ℕ) → 48 < get_or ds 0 0 → starts (λ c. not (c == 48)) ds ≡ true
begins_above [] h = absurd (omega (arith, h))
begins_above (d ∷ ds) h = grind (arith, nat_tests)

or_right : (a b : Bool) → b ≡ true → (a || b) ≡ true
or_right true b e = refl
or_right false b e = e

positive_digits : (k : ℕ) → 0 < k → k < 2 ^ 64 → (list_all is_digit (decimal k) && has_no_leading_zero (decimal k)) ≡ true
positive_digits k p h = ap₂ (λ a b. a && b)
    (ap (list_all is_digit) (decimal-digits_of k p h) ∙ digits_are (digits_of 10 k) (all_below_base_digits_of 10 k (omega arith)))
    (or_right (bytes_eq (decimal k) (48 ∷ [])) (starts (λ c. not (c == 48)) (decimal k)) (begins_above (decimal k) (first_decimal k p h)))

number_digits : (k : ℕ) → k < 2 ^ 64 → (list_all is_digit (decimal k) && has_no_leading_zero (decimal k)) ≡ true
number_digits zero h = ap (λ z. list_all is_digit z && has_no_leading_zero z) (decimal_digit 0 (omega arith))
number_digits (suc k) h = positive_digits (suc k) (omega arith) h

number_good : (k : ℕ) → nat_lt k (2 ^ 32) ≡ true → is_number (decimal k) ≡ true
number_good k h =
    let small : k < 2 ^ 64 = omega (arith, ltb-true k (2 ^ 32) h) in
    ap₂ (λ a b. a && b) (number_digits k small) (ap (λ v. nat_lt v (2 ^ 32)) ((decimal_is_IsNumeral k small).1) ∙ h)

no_digit : (c : ℕ) → is_word_byte c ≡ false → is_digit c ≡ false
no_digit c h = grind (arith, nat_tests)

no_digit_starts : (r : List ℕ) → starts is_word_byte r ≡ false → starts is_digit r ≡ false
no_digit_starts [] h = refl
no_digit_starts (c ∷ cs) h = no_digit c h

-- a number, also one that begins a term of a formula
pub number_cut : (b : Bool) (k : ℕ) → Cut false (decimal k) (beginning b k)
number_cut b k = record {
  cut = λ h. let small : nat_lt k (2 ^ 32) ≡ true = and_left (nat_lt k (2 ^ 32)) true h in record {
    pieces = Digits (decimal k) ∷ [];
    texts_are = append-nil (decimal k);
    are = λ r e. ((number_good k small, no_digit_starts r e), tt);
    tokens_are = ap (λ v. Number v ∷ []) ((decimal_is_IsNumeral k (omega (arith, ltb-true k (2 ^ 32) small))).1);
  };
}

-- ---- blanks

pub blank_cut : (c : ℕ) → is_blank c ≡ true → Cut true (c ∷ []) []
blank_cut c h = made true (Blank c ∷ []) [] (λ r e. (h, tt)) refl

-- ---- symbols and keywords

-- a symbol, whatever follows
single : (k : Kind) → ((r : List ℕ) → symbol_at (text_of k ++ ([] ++ r)) ≡ Some k) → word_as k (text_of k) ≡ sign k → Cut true (texts (Symbol k ∷ [])) (fixed k)
single k h e = made true (Symbol k ∷ []) (fixed k) (λ r m. (h r, tt)) (ap (λ w. w ∷ []) e)

-- a symbol between two spaces
between : (k : Kind) → ((r : List ℕ) → symbol_at (text_of k ++ ((32 ∷ []) ++ r)) ≡ Some k) → word_as k (text_of k) ≡ sign k → Cut true (texts (Blank 32 ∷ Symbol k ∷ Blank 32 ∷ [])) (fixed k)
between k h e = made true (Blank 32 ∷ Symbol k ∷ Blank 32 ∷ []) (fixed k) (λ r m. (refl, (h r, (refl, tt)))) (ap (λ w. w ∷ []) e)

-- a symbol before a blank
before : (k : Kind) (c : ℕ) → is_blank c ≡ true → ((r : List ℕ) → symbol_at (text_of k ++ ((c ∷ []) ++ r)) ≡ Some k) → word_as k (text_of k) ≡ sign k → Cut true (texts (Symbol k ∷ Blank c ∷ [])) (fixed k)
before k c b h e = made true (Symbol k ∷ Blank c ∷ []) (fixed k) (λ r m. (h r, (b, tt))) (ap (λ w. w ∷ []) e)

-- a symbol between a space and a line feed
last : (k : Kind) → ((r : List ℕ) → symbol_at (text_of k ++ ((10 ∷ []) ++ r)) ≡ Some k) → word_as k (text_of k) ≡ sign k → Cut true (texts (Blank 32 ∷ Symbol k ∷ Blank 10 ∷ [])) (fixed k)
last k h e = made true (Blank 32 ∷ Symbol k ∷ Blank 10 ∷ []) (fixed k) (λ r m. (refl, (h r, (refl, tt)))) (ap (λ w. w ∷ []) e)

-- a keyword, before what goes on with no letter, digit or _
keyword : (k : Kind) → is_name (text_of k) ≡ true → nat_le (length (text_of k)) 64 ≡ true → word_as (kind_of_word (text_of k)) (text_of k) ≡ sign k → Cut false (texts (Letters (text_of k) ∷ [])) (fixed k)
keyword k n l e = made false (Letters (text_of k) ∷ []) (fixed k) (λ r m. ((n, short (length (text_of k)) l, m), tt)) (ap (λ w. w ∷ []) e)

-- a keyword before a blank
word : (k : Kind) (c : ℕ) → is_blank c ≡ true → is_word_byte c ≡ false → is_name (text_of k) ≡ true → nat_le (length (text_of k)) 64 ≡ true → word_as (kind_of_word (text_of k)) (text_of k) ≡ sign k → Cut true (texts (Letters (text_of k) ∷ Blank c ∷ [])) (fixed k)
word k c b w n l e = made true (Letters (text_of k) ∷ Blank c ∷ []) (fixed k) (λ r m. ((n, short (length (text_of k)) l, w), (b, tt))) (ap (λ z. z ∷ []) e)

pub spaced_plus : Cut true (codes " + ") (fixed kind.Plus)
spaced_plus = between kind.Plus (λ r. refl) refl

pub spaced_minus : Cut true (codes " - ") (fixed kind.Minus)
spaced_minus = between kind.Minus (λ r. refl) refl

pub spaced_star : Cut true (codes " * ") (fixed kind.Star)
spaced_star = between kind.Star (λ r. refl) refl

pub spaced_lolli : Cut true (codes " -o ") (fixed kind.Lolli)
spaced_lolli = between kind.Lolli (λ r. refl) refl

pub spaced_right_arrow : Cut true (codes " => ") (fixed kind.RightArrow)
spaced_right_arrow = between kind.RightArrow (λ r. refl) refl

pub spaced_or : Cut true (codes " \\/ ") (fixed kind.Or)
spaced_or = between kind.Or (λ r. refl) refl

pub spaced_and : Cut true (codes " /\\ ") (fixed kind.And)
spaced_and = between kind.And (λ r. refl) refl

pub spaced_equal : Cut true (codes " = ") (fixed kind.Equal)
spaced_equal = between kind.Equal (λ r. refl) refl

pub spaced_not_equal : Cut true (codes " <> ") (fixed kind.NotEqual)
spaced_not_equal = between kind.NotEqual (λ r. refl) refl

pub spaced_less : Cut true (codes " < ") (fixed kind.Less)
spaced_less = between kind.Less (λ r. refl) refl

pub spaced_at_most : Cut true (codes " <= ") (fixed kind.AtMost)
spaced_at_most = between kind.AtMost (λ r. refl) refl

pub spaced_greater : Cut true (codes " > ") (fixed kind.Greater)
spaced_greater = between kind.Greater (λ r. refl) refl

pub spaced_at_least : Cut true (codes " >= ") (fixed kind.AtLeast)
spaced_at_least = between kind.AtLeast (λ r. refl) refl

pub spaced_bar : Cut true (codes " | ") (fixed kind.Bar)
spaced_bar = between kind.Bar (λ r. refl) refl

pub spaced_colon : Cut true (codes " : ") (fixed kind.Colon)
spaced_colon = between kind.Colon (λ r. refl) refl

pub spaced_left_arrow : Cut true (codes " <- ") (fixed kind.LeftArrow)
spaced_left_arrow = between kind.LeftArrow (λ r. refl) refl

pub spaced_forward : Cut true (codes " <-> ") (fixed kind.Forward)
spaced_forward = between kind.Forward (λ r. refl) refl

pub open_bracket : Cut true (codes "[") (fixed kind.OpenBracket)
open_bracket = single kind.OpenBracket (λ r. refl) refl

pub close_bracket : Cut true (codes "]") (fixed kind.CloseBracket)
close_bracket = single kind.CloseBracket (λ r. refl) refl

pub open_brace : Cut true (codes "{") (fixed kind.OpenBrace)
open_brace = single kind.OpenBrace (λ r. refl) refl

pub close_brace : Cut true (codes "}") (fixed kind.CloseBrace)
close_brace = single kind.CloseBrace (λ r. refl) refl

pub open_paren : Cut true (codes "(") (fixed kind.OpenParen)
open_paren = single kind.OpenParen (λ r. refl) refl

pub close_paren : Cut true (codes ")") (fixed kind.CloseParen)
close_paren = single kind.CloseParen (λ r. refl) refl

pub question : Cut true (codes "?") (fixed kind.Question)
question = single kind.Question (λ r. refl) refl

pub exclamation : Cut true (codes "!") (fixed kind.Exclamation)
exclamation = single kind.Exclamation (λ r. refl) refl

pub dot : Cut true (codes ".") (fixed kind.Dot)
dot = single kind.Dot (λ r. refl) refl

pub bar : Cut true (codes "|") (fixed kind.Bar)
bar = single kind.Bar (λ r. refl) refl

pub plus : Cut true (codes "+") (fixed kind.Plus)
plus = single kind.Plus (λ r. refl) refl

pub ampersand : Cut true (codes "&") (fixed kind.Ampersand)
ampersand = single kind.Ampersand (λ r. refl) refl

pub tilde_space : Cut true (codes "~ ") (fixed kind.Tilde)
tilde_space = before kind.Tilde 32 refl (λ r. refl) refl

pub greater_space : Cut true (codes "> ") (fixed kind.Greater)
greater_space = before kind.Greater 32 refl (λ r. refl) refl

pub minus_space : Cut true (codes "- ") (fixed kind.Minus)
minus_space = before kind.Minus 32 refl (λ r. refl) refl

pub comma_space : Cut true (codes ", ") (fixed kind.Comma)
comma_space = before kind.Comma 32 refl (λ r. refl) refl

pub dot_space : Cut true (codes ". ") (fixed kind.Dot)
dot_space = before kind.Dot 32 refl (λ r. refl) refl

pub bar_space : Cut true (codes "| ") (fixed kind.Bar)
bar_space = before kind.Bar 32 refl (λ r. refl) refl

pub semicolon_line : Cut true (codes " ;\n") (fixed kind.Semicolon)
semicolon_line = last kind.Semicolon (λ r. refl) refl

pub open_paren_line : Cut true (codes " (\n") (fixed kind.OpenParen)
open_paren_line = last kind.OpenParen (λ r. refl) refl

pub right_arrow_line : Cut true (codes " =>\n") (fixed kind.RightArrow)
right_arrow_line = last kind.RightArrow (λ r. refl) refl

pub equal_line : Cut true (codes " =\n") (fixed kind.Equal)
equal_line = last kind.Equal (λ r. refl) refl

pub send_space : Cut true (codes "send ") (fixed kind.Send)
send_space = word kind.Send 32 refl refl refl refl refl

pub wait_space : Cut true (codes "wait ") (fixed kind.Wait)
wait_space = word kind.Wait 32 refl refl refl refl refl

pub work_space : Cut true (codes "work ") (fixed kind.Work)
work_space = word kind.Work 32 refl refl refl refl refl

pub delay_space : Cut true (codes "delay ") (fixed kind.Delay)
delay_space = word kind.Delay 32 refl refl refl refl refl

pub assert_space : Cut true (codes "assert ") (fixed kind.Assert)
assert_space = word kind.Assert 32 refl refl refl refl refl

pub assume_space : Cut true (codes "assume ") (fixed kind.Assume)
assume_space = word kind.Assume 32 refl refl refl refl refl

pub pay_space : Cut true (codes "pay ") (fixed kind.Pay)
pay_space = word kind.Pay 32 refl refl refl refl refl

pub get_space : Cut true (codes "get ") (fixed kind.Get)
get_space = word kind.Get 32 refl refl refl refl refl

pub close_space : Cut true (codes "close ") (fixed kind.Close)
close_space = word kind.Close 32 refl refl refl refl refl

pub case_space : Cut true (codes "case ") (fixed kind.Case)
case_space = word kind.Case 32 refl refl refl refl refl

pub type_space : Cut true (codes "type ") (fixed kind.Type)
type_space = word kind.Type 32 refl refl refl refl refl

pub decl_space : Cut true (codes "decl ") (fixed kind.Decl)
decl_space = word kind.Decl 32 refl refl refl refl refl

pub proc_space : Cut true (codes "proc ") (fixed kind.Proc)
proc_space = word kind.Proc 32 refl refl refl refl refl

pub exec_space : Cut true (codes "exec ") (fixed kind.Exec)
exec_space = word kind.Exec 32 refl refl refl refl refl

pub by_space : Cut true (codes "by ") (fixed kind.By)
by_space = word kind.By 32 refl refl refl refl refl

pub recv_space : Cut true (codes "recv ") (fixed kind.Recv)
recv_space = word kind.Recv 32 refl refl refl refl refl

pub if_space : Cut true (codes "if ") (fixed kind.If)
if_space = word kind.If 32 refl refl refl refl refl

pub explicit_line : Cut true (codes "explicit\n") (fixed kind.Explicit)
explicit_line = word kind.Explicit 10 refl refl refl refl refl

pub refl_word : Cut false (codes "refl") (fixed kind.Refl)
refl_word = keyword kind.Refl refl refl refl

pub impossible_word : Cut false (codes "impossible") (fixed kind.Impossible)
impossible_word = keyword kind.Impossible refl refl refl

pub true_word : Cut false (codes "true") (fixed kind.True)
true_word = keyword kind.True refl refl refl

pub false_word : Cut false (codes "false") (fixed kind.False)
false_word = keyword kind.False refl refl refl

pub eq_word : Cut false (codes "eq") (fixed kind.Eq)
eq_word = keyword kind.Eq refl refl refl

-- the symbol before a brace
pub less_before : {c : Bool} {y : List ℕ} {ns : List Mark} → Cut c (123 ∷ y) ns → Cut c (60 ∷ (123 ∷ y)) (fixed kind.Less ++ ns)
less_before {c = c} {y = y} {ns = ns} q = record {
  cut = λ h. let p : Pieced c (123 ∷ y) (bare ns) = q.cut h in record {
    pieces = Symbol kind.Less ∷ p.pieces;
    texts_are = ap (λ z. 60 ∷ z) p.texts_are;
    are = λ r m. (subst (λ z. symbol_at (60 ∷ (z ++ r)) ≡ Some kind.Less) (sym p.texts_are) refl, p.are r m);
    tokens_are = ap (λ z. sign kind.Less ∷ z) p.tokens_are;
  };
}

-- the atom 1
pub one_number : Cut false (codes "1") (number 1)
one_number = made false (Digits (codes "1") ∷ []) (number 1) (λ r m. ((refl, no_digit_starts r m), tt)) refl
