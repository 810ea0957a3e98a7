-- The file that a text is, or its first fault.
use Rattle.std.specs.Prelude.{ℕ, List}
use Rattle.rast_ast.specs.declared.file.File.{File}
use Rattle.rast_ast.specs.Files.{file_marks, file_fits}
use Rattle.rast_lex.specs.declared.token.Token.{Token}
use Rattle.rast_lex.specs.declared.token.LexErr.{LexErr}
use Rattle.rast_lex.specs.declared.token.LexErr.TheVariants as lex
use Rattle.rast_lex.specs.Meaning.{words}
use Rattle.rast_lex.specs.Tokens.{AreTokens, IsFirstFault}
use Rattle.rast_parse.specs.declared.outcome.ParseErr.{ParseErr}
use Rattle.rast_parse.specs.declared.outcome.ParseErr.TheVariants as parse
use Rattle.rast_parse.specs.Parses.{AreRead, IsFirstWrong, IsFirstDeep}
use Rattle.rast_load.specs.declared.fault.TextFault.{TextFault}
use Rattle.rast_load.specs.declared.fault.TextFault.TheVariants as fault
use Rattle.rast_load.specs.declared.text_file.TextErr.{TextErr}
use Rattle.rast_load.specs.declared.text_file.TextErr.TheVariants.{NoFile, Memory}

-- the text's tokens are those of the file, with at most 64 nonterminals open at each
pub record IsFile (text : List ℕ) (file : File) : Type 0 where
  pub tokens : List Token
  pub are : AreTokens text tokens
  pub read : AreRead file_marks file_fits 64 (words text tokens) file

-- the tokens up to this place begin a file, and with the one there they begin none
pub record IsWrongAt (text : List ℕ) (at : ℕ) : Type 0 where
  pub tokens : List Token
  pub are : AreTokens text tokens
  pub wrong : IsFirstWrong file_marks file_fits 64 text tokens at

-- at the token at this place the 65th nonterminal is open, and before it no more than 64 are
pub record IsDeepAt (text : List ℕ) (at : ℕ) : Type 0 where
  pub tokens : List Token
  pub are : AreTokens text tokens
  pub deep : IsFirstDeep file_marks file_fits 64 text tokens at

-- the first fault of a text
abbrev pub IsFault : List ℕ → TextFault → Type 0
IsFault text (fault.BadByte at) = IsFirstFault text (lex.BadByte at)
IsFault text (fault.BadNumber at) = IsFirstFault text (lex.BadNumber at)
IsFault text (fault.LongName at) = IsFirstFault text (lex.LongName at)
IsFault text (fault.Syntax at) = IsWrongAt text at
IsFault text (fault.TooDeep at) = IsDeepAt text at

-- a text that isn't read is no file, and has this first fault
abbrev pub IsRefused : List ℕ → TextErr → Type 0
IsRefused text (NoFile f) = IsFault text f × ((file : File) → IsFile text file → ⊥)
IsRefused text Memory = Unit {0}

abbrev pub of_lexing : LexErr → TextErr
of_lexing (lex.BadByte at) = NoFile (fault.BadByte at)
of_lexing (lex.BadNumber at) = NoFile (fault.BadNumber at)
of_lexing (lex.LongName at) = NoFile (fault.LongName at)
of_lexing lex.Memory = Memory

abbrev pub of_parsing : ParseErr → TextErr
of_parsing (parse.Syntax at) = NoFile (fault.Syntax at)
of_parsing (parse.TooDeep at) = NoFile (fault.TooDeep at)
of_parsing parse.Memory = Memory
