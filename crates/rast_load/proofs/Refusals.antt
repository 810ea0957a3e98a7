-- A text is one file at most, and those that the lexer or the parser refuses are none.
use Rattle.std.proofs.Common.{◌≡◌, ℕ, ◌∙◌, List, Some, None, Ok, Err, sym, ap, subst}
use Rattle.rast_ast.specs.declared.file.File.{File}
use Rattle.rast_ast.specs.Files.{file_marks, file_fits}
use Rattle.rast_lex.specs.declared.token.Token.{Token}
use Rattle.rast_lex.specs.declared.token.LexErr.{LexErr}
use Rattle.rast_lex.specs.declared.token.LexErr.TheVariants as lex
use Rattle.rast_lex.specs.Meaning.{words}
use Rattle.rast_lex.proofs.Unique.{one_list}
use Rattle.rast_lex.specs.Tokens.{AreTokens, Lexes, GivesTokens}
use Rattle.rast_parse.specs.declared.outcome.ParseErr.{ParseErr}
use Rattle.rast_parse.specs.declared.outcome.ParseErr.TheVariants as parse
use Rattle.rast_parse.specs.Parses.{Answers, AreRead, IsOnly}
use Rattle.rast_load.specs.Unbuilt.{unbuilt}
use Rattle.rast_load.specs.Forms.{IsBuilt, IsUnbuiltAt}
use Rattle.rast_load.specs.Reading.{IsFile, IsRefused, of_lexing, of_parsing}

pub refused_lexing : {V : Type 0} (items : V → List Token) (text : List ℕ) (fault : LexErr) → Lexes items text (Err fault) → ((tokens : List Token) → AreTokens text tokens → GivesTokens items tokens (Err fault))
    → IsRefused text (of_lexing fault)
refused_lexing items text (lex.BadByte at) exact only = (exact, λ file is. let none : lex.BadByte at ≡ lex.Memory = only is.tokens is.are in cc)
refused_lexing items text (lex.BadNumber at) exact only = (exact, λ file is. let none : lex.BadNumber at ≡ lex.Memory = only is.tokens is.are in cc)
refused_lexing items text (lex.LongName at) exact only = (exact, λ file is. let none : lex.LongName at ≡ lex.Memory = only is.tokens is.are in cc)
refused_lexing items text lex.Memory exact only = tt

pub refused_parsing : (text : List ℕ) (tokens : List Token) (fault : ParseErr) → AreTokens text tokens → ((others : List Token) → AreTokens text others → tokens ≡ others)
    → Answers file_marks file_fits 64 text tokens (Err fault) → IsOnly file_marks file_fits 64 (words text tokens) (Err fault) → IsRefused text (of_parsing fault)
refused_parsing text tokens (parse.Syntax at) are same exact only = (
  record { tokens = tokens; are = are; wrong = exact },
  λ file is. let none : parse.Syntax at ≡ parse.Memory = only file (subst (λ (ts : List Token). AreRead file_marks file_fits 64 (words text ts) file) (sym (same is.tokens is.are)) is.read) in cc,
)
refused_parsing text tokens (parse.TooDeep at) are same exact only = (
  record { tokens = tokens; are = are; deep = exact },
  λ file is. let none : parse.TooDeep at ≡ parse.Memory = only file (subst (λ (ts : List Token). AreRead file_marks file_fits 64 (words text ts) file) (sym (same is.tokens is.are)) is.read) in cc,
)
refused_parsing text tokens parse.Memory are same exact only = tt

pub one_file : (text : List ℕ) (tokens : List Token) (file : File) → ((others : List Token) → AreTokens text others → tokens ≡ others) → IsOnly file_marks file_fits 64 (words text tokens) (Ok file)
    → (other : File) → IsFile text other → file ≡ other
one_file text tokens file same only other is = only other (subst (λ (ts : List Token). AreRead file_marks file_fits 64 (words text ts) other) (sym (same is.tokens is.are)) is.read)

no_none : (at : ℕ) → Some at ≡ None → ⊥
no_none at h = cc

-- a text with a token that isn't built has none but built ones in no list of tokens
pub unbuilt_text : (text : List ℕ) (tokens : List Token) (at : ℕ) → AreTokens text tokens → unbuilt tokens ≡ Some at → IsUnbuiltAt text at × (IsBuilt text → ⊥)
unbuilt_text text tokens at are is = (record { tokens = tokens; are = are; place = is }, λ b. no_none at (sym is ∙ (ap unbuilt (one_list text tokens b.tokens are b.are) ∙ b.none)))
