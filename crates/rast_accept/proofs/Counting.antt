-- A text has no more items than bytes: each item has a token, and each token a byte.
use Rattle.std.proofs.Common.{◌≡◌, ◌∙◌, ℕ, suc, ◌+◌, ◌<◌, ◌≤◌, true, false, List, [], ◌∷◌, ◌++◌, map, length, Option, Some, None, arith, ap, sym, refl, length-append}
use Rattle.rast_ast.specs.Files.{file_marks, item_marks, explicit_marks}
use Rattle.rast_ast.specs.declared.file.File.{File}
use Rattle.rast_ast.specs.declared.file.Item.{Item}
use Rattle.rast_ast.specs.declared.file.Item.TheVariants as item
use Rattle.rast_ast.specs.declared.kind.Kind.{Kind}
use Rattle.rast_forms.specs.Marks.{Mark, bare, joined}
use Rattle.rast_lex.specs.declared.token.Token.{Token}
use Rattle.rast_lex.specs.Meaning.{words}
use Rattle.rast_lex.specs.Pieces.{Piece, ArePieces, bytes_of, kind_of, texts}
use Rattle.rast_lex.specs.Tokens.{token_at, tokens_of}
use Rattle.rast_lex.proofs.Cuts.{piece_some}
use Rattle.rast_load.specs.Reading.{IsFile}

-- ---- tokens and bytes

one_token : (at len : ℕ) (k : Option Kind) → length (token_at at len k) ≤ 1
one_token at len None = let z : 0 ≤ 1 = omega arith in z
one_token at len (Some k) = let z : 1 ≤ 1 = omega arith in z

tokens_few : (at : ℕ) (ps : List Piece) (rest : List ℕ) → ArePieces ps rest → length (tokens_of at ps) ≤ length (texts ps)
tokens_few at [] rest h = let z : 0 ≤ 0 = omega arith in z
tokens_few at (p ∷ ps) rest h =
    let one = one_token at (length (bytes_of p)) (kind_of p) in
    let some = piece_some p (texts ps ++ rest) h.0 in
    let more = tokens_few (at + length (bytes_of p)) ps rest h.1 in
    let tokens = length-append (token_at at (length (bytes_of p)) (kind_of p)) (tokens_of (at + length (bytes_of p)) ps) in
    let bytes = length-append (bytes_of p) (texts ps) in
    omega (arith, one, some, more, tokens, bytes)

as_many : (text : List ℕ) (ts : List Token) → length (words text ts) ≡ length ts
as_many text [] = refl
as_many text (t ∷ ts) = ap suc (as_many text ts)

-- ---- items and tokens

one_more : (n : ℕ) → 1 ≤ suc n
one_more n = omega arith

some_mark : (i : Item) → 1 ≤ length (item_marks i)
some_mark (item.Def n ps a) = one_more _
some_mark (item.Decl n ps us q c) = one_more _
some_mark (item.Proc x n ps ys p) = one_more _
some_mark (item.Eq ps f a b by) = one_more _
some_mark (item.Exec n) = one_more _

items_few : (is : List Item) → length is ≤ length (joined (map item_marks is))
items_few [] = let z : 0 ≤ 0 = omega arith in z
items_few (i ∷ is) =
    let one = some_mark i in
    let more = items_few is in
    let marks = length-append (item_marks i) (joined (map item_marks is)) in
    omega (arith, one, more, marks)

bare_many : (ms : List Mark) → length (bare ms) ≡ length ms
bare_many [] = refl
bare_many (m ∷ ms) = ap suc (bare_many ms)

pub items_within : (text : List ℕ) (file : File) → IsFile text file → length file.items ≤ length text
items_within text file is =
    let items = items_few file.items in
    let marks = length-append (explicit_marks file.explicit) (joined (map item_marks file.items)) in
    let seen = sym (as_many text is.tokens) ∙ ap length is.read.are ∙ bare_many (file_marks file) in
    let tokens = ap length is.are.tokens_are in
    let bytes = ap length is.are.cut in
    let few = tokens_few 0 is.are.pieces [] is.are.are in
    omega (arith, items, marks, seen, tokens, bytes, few)
