-- The tokens of a text as the grammar sees them.
use Rattle.std.specs.Prelude.{ℕ, List, [], ◌∷◌, ◌++◌, map, take, drop}
use Rattle.rast_forms.specs.Words.{Word, Name, Number}
use Rattle.rast_ast.specs.declared.Kind.{Kind}
use Rattle.rast_ast.specs.declared.Kind.TheVariants as kind
use Rattle.rast_ast.specs.Kinds.{text_of}
use Rattle.rast_ast.specs.Written.{sign}
use Rattle.rast_lex.specs.declared.token.Token.{Token}
use Rattle.rast_lex.specs.Numbers.{value_of}
use Rattle.rast_lex.specs.Words.{kind_of_word}
use Rattle.rast_lex.specs.Pieces.{Piece, Blank, Comment, Word as Letters, Number as Digits, Symbol}

-- the bytes of a token
abbrev pub slice_of : List ℕ → Token → List ℕ
slice_of text t = take t.len (drop t.at text)

-- a name by its bytes, a number by its value, a keyword or a symbol by its kind
abbrev pub word_as : Kind → List ℕ → Word
word_as kind.Name bytes = Name bytes
word_as kind.Number bytes = Number (value_of bytes)
word_as k bytes = sign k

abbrev pub word_of : List ℕ → Token → Word
word_of text t = word_as t.kind (slice_of text t)

abbrev pub words : List ℕ → List Token → List Word
words text tokens = map (word_of text) tokens

-- the token of a piece, as the grammar sees it
abbrev pub piece_word : Piece → List Word
piece_word (Blank c) = []
piece_word (Comment bytes) = []
piece_word (Letters bytes) = word_as (kind_of_word bytes) bytes ∷ []
piece_word (Digits digits) = Number (value_of digits) ∷ []
piece_word (Symbol k) = word_as k (text_of k) ∷ []

abbrev pub piece_words : List Piece → List Word
piece_words [] = []
piece_words (p ∷ ps) = piece_word p ++ piece_words ps
