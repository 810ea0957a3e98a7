-- Files whose canonical text can be read: those of the grammar whose names and numbers can stand in a text. And what it is that a text is read again as a file.
use Rattle.std.specs.Prelude.{◌≡◌, ℕ, ◌^◌, Bool, true, ◌&&◌, nat_le, nat_lt, List, length}
use Rattle.std.specs.List.{list_all}
use Rattle.rast_forms.specs.Words.{Word, Name, Number, Fixed}
use Rattle.rast_ast.specs.declared.File.{File}
use Rattle.rast_ast.specs.declared.Kind.TheVariants as kind
use Rattle.rast_ast.specs.Kinds.{is_kind}
use Rattle.rast_ast.specs.Names.{is_name}
use Rattle.rast_ast.specs.Files.{file_fits, spelled, Reads}
use Rattle.rast_lex.specs.declared.Token.{Token}
use Rattle.rast_lex.specs.Words.{kind_of_word}
use Rattle.rast_lex.specs.Tokens.{AreTokens}
use Rattle.rast_lex.specs.Meaning.{words}

-- whether a token can stand in a text: a name has at most 64 bytes and is no keyword, and a number is below 2^32
abbrev pub is_word : Word → Bool
is_word (Name bytes) = is_name bytes && (nat_le (length bytes) 64 && is_kind (kind_of_word bytes) kind.Name)
is_word (Number value) = nat_lt value (2 ^ 32)
is_word (Fixed which) = true

abbrev pub are_words : List Word → Bool
are_words ws = list_all is_word ws

-- the grammar has the file, and each of its tokens can stand in a text
pub record IsReadable (f : File) : Type 0 where
  pub fits : file_fits f ≡ true
  pub words : are_words (spelled f) ≡ true

-- the text has tokens, only these, and they are this file
pub record IsReadAs (text : List ℕ) (f : File) : Type 0 where
  pub tokens : List Token
  pub are : AreTokens text tokens
  pub only : (others : List Token) → AreTokens text others → others ≡ tokens
  pub reads : Reads (words text tokens) f
