-- What a grammar sees of the tokens of a text: names with their bytes, numbers with their values, keywords and symbols.
use Rattle.std.specs.Prelude.{ℕ, List, [], ◌∷◌, take, drop}
use Rattle.rast_forms.specs.Words.{Word, Name, Number}
use Rattle.rast_ast.specs.declared.kind.Kind.{Kind}
use Rattle.rast_ast.specs.declared.kind.Kind.TheVariants as kind
use Rattle.rast_ast.specs.Written.{sign}
use Rattle.rast_lex.specs.declared.token.Token.{Token}
use Rattle.rast_lex.specs.Numbers.{value_of}

-- the bytes of a token
abbrev pub slice_of : List ℕ → Token → List ℕ
slice_of text t = take t.len (drop t.at text)

-- what a token of this kind and with these bytes is
abbrev pub word_as : Kind → List ℕ → Word
word_as kind.Name bytes = Name bytes
word_as kind.Number bytes = Number (value_of bytes)
word_as k bytes = sign k

abbrev pub word_of : List ℕ → Token → Word
word_of text t = word_as t.kind (slice_of text t)

abbrev pub words : List ℕ → List Token → List Word
words text [] = []
words text (t ∷ ts) = word_of text t ∷ words text ts
