-- Files of built forms, and why a text is none.
use Rattle.std.specs.Prelude.{◌≡◌, ℕ, List, Some, None}
use Rattle.rast_ast.specs.declared.file.File.{File}
use Rattle.rast_lex.specs.declared.token.Token.{Token}
use Rattle.rast_lex.specs.Tokens.{AreTokens}
use Rattle.rast_load.specs.declared.text_file.TextErr.{TextErr}
use Rattle.rast_load.specs.declared.text_file.TextErr.TheVariants as text_error
use Rattle.rast_load.specs.declared.form.FormErr.{FormErr}
use Rattle.rast_load.specs.declared.form.FormErr.TheVariants as error
use Rattle.rast_load.specs.Reading.{IsFile, IsFault}
use Rattle.rast_load.specs.Unbuilt.{unbuilt}

-- the text begins with `explicit`, or has no token
pub record IsBuilt (text : List ℕ) : Type 0 where
  pub tokens : List Token
  pub are : AreTokens text tokens
  pub none : unbuilt tokens ≡ None

-- this is the place of the text's first token, which isn't `explicit`
pub record IsUnbuiltAt (text : List ℕ) (at : ℕ) : Type 0 where
  pub tokens : List Token
  pub are : AreTokens text tokens
  pub place : unbuilt tokens ≡ Some at

-- the text is this file, whose forms are built
abbrev pub IsBuiltFile : List ℕ → File → Type 0
IsBuiltFile text file = IsFile text file × IsBuilt text

-- why a text isn't read: it is no file, and has this first fault; or a file that doesn't begin with `explicit`, and this is the place of its first token
abbrev pub IsUnread : List ℕ → FormErr → Type 0
IsUnread text (error.NoFile f) = IsFault text f × ((file : File) → IsFile text file → ⊥)
IsUnread text (error.NotYet at) = (file : File) × IsFile text file × IsUnbuiltAt text at × (IsBuilt text → ⊥)
IsUnread text error.Memory = Unit {0}

abbrev pub of_text : TextErr → FormErr
of_text (text_error.NoFile f) = error.NoFile f
of_text text_error.Memory = error.Memory
