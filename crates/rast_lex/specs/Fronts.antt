-- What stands at the front of a text.
use Rattle.std.specs.Prelude.{◌≡◌, ℕ, List, [], ◌++◌, length, Option}
use Rattle.rast_ast.specs.declared.Kind.{Kind}
use Rattle.rast_lex.specs.declared.front.Front.{Front}
use Rattle.rast_lex.specs.declared.front.Front.TheVariants as front
use Rattle.rast_lex.specs.Pieces.{Piece, bytes_of, kind_of, IsPiece}
use Rattle.rast_lex.specs.Tokens.{BeginsNone, HasBadComment, HasBadNumber, HasLongName}

-- the text begins with a piece of this kind, if it is a token, and length
pub record HasPiece (text : List ℕ) (kind : Option Kind) (len : ℕ) : Type 0 where
  pub piece : Piece
  pub rest : List ℕ
  pub is : IsPiece piece rest
  pub text_is : text ≡ bytes_of piece ++ rest
  pub kind_is : kind_of piece ≡ kind
  pub len_is : len ≡ length (bytes_of piece)

abbrev pub HasFront : List ℕ → Front → Type 0
HasFront text front.End = text ≡ []
HasFront text (front.Piece kind len) = HasPiece text kind len
HasFront text front.BadByte = BeginsNone text
HasFront text (front.BadComment at) = HasBadComment text at
HasFront text front.BadNumber = HasBadNumber text
HasFront text front.LongName = HasLongName text
