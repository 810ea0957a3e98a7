-- The tokens of a text lie in it, and are names and numbers where their kinds say so.
use Rattle.std.proofs.Common.{◌≡◌, ℕ, ◌+◌, ◌≤◌, nat_le, nat_lt, Bool, true, List, [], ◌∷◌, ◌++◌, length, take, drop, Option, Some, None, find, unwrap_or, ap, ap₂, sym, ◌∙◌, refl, arith, append_assoc, length-append}
use Rattle.std.specs.Prelude.{IsTrue}
use Rattle.std.specs.Str.{bytes_eq}
use Rattle.std.proofs.Math.Seq.{drop-append_seam}
use Rattle.std.proofs.lemmas.Bool.Decides.{nat_tests}
use Rattle.rast_forms.proofs.Sets.{and_both}
use Rattle.rast_ast.specs.declared.kind.Kind.{Kind}
use Rattle.rast_ast.specs.declared.kind.Kind.TheVariants as kind
use Rattle.rast_ast.specs.Kinds.{code, text_of}
use Rattle.rast_ast.specs.Names.{is_name}
use Rattle.rast_lex.specs.declared.token.Token.{Token}
use Rattle.rast_lex.specs.Words.{keywords, kind_of_word}
use Rattle.rast_lex.specs.Symbols.{symbols, stands}
use Rattle.rast_lex.specs.Pieces.{Piece, Blank, Comment, Word, Number, Symbol, bytes_of, kind_of, texts, IsPiece, ArePieces}
use Rattle.rast_lex.specs.Tokens.{token_at, tokens_of, AreTokens}
use Rattle.rast_lex.proofs.FrontLaws.{find_in}
use Rattle.rast_parse.specs.Seen.{is_good_as, is_good, are_good}

abbrev is_fixed : Kind → Bool
is_fixed k = nat_lt 1 (code k)

fixed_good : (k : Kind) (bytes : List ℕ) → is_fixed k ≡ true → is_good_as k bytes ≡ true
fixed_good kind.Name bytes e = absurd (cc)
fixed_good kind.Number bytes e = absurd (cc)
fixed_good _ bytes e = refl

word_good : (bytes : List ℕ) → is_name bytes ≡ true → is_good_as (kind_of_word bytes) bytes ≡ true
word_good bytes h = at (find (λ k. bytes_eq bytes (text_of k)) keywords) refl
  where
    at : (o : Option Kind) → find (λ k. bytes_eq bytes (text_of k)) keywords ≡ o → is_good_as (unwrap_or o kind.Name) bytes ≡ true
    at None e = h
    at (Some k) e = fixed_good k bytes (find_in (λ j. bytes_eq bytes (text_of j)) is_fixed keywords k refl e)

abbrev IsGoodPiece : Option Kind → List ℕ → Type 0
IsGoodPiece None bytes = Unit {0}
IsGoodPiece (Some k) bytes = is_good_as k bytes ≡ true

piece_good : (p : Piece) (rest : List ℕ) → IsPiece p rest → IsGoodPiece (kind_of p) (bytes_of p)
piece_good (Blank c) rest h = tt
piece_good (Comment bytes) rest h = tt
piece_good (Word bytes) rest h = word_good bytes h.0
piece_good (Number digits) rest h = h.0
piece_good (Symbol k) rest h = fixed_good k (text_of k) (find_in (λ j. stands j (text_of k ++ rest)) is_fixed symbols k refl h)

take_seam : (a b : List ℕ) → take (length a) (a ++ b) ≡ a
take_seam [] b = refl
take_seam (x ∷ a) b = ap (λ z. x ∷ z) (take_seam a b)

within : (a b : ℕ) → a ≤ b → nat_le a b ≡ true
within a b h = grind (arith, nat_tests)

module _ (done bytes rest : List ℕ) where
  slice_there : take (length bytes) (drop (length done) (done ++ (bytes ++ rest))) ≡ bytes
  slice_there = ap (take (length bytes)) (drop-append_seam done (bytes ++ rest)) ∙ take_seam bytes rest

  token_good : (k : Kind) → is_good_as k bytes ≡ true → is_good (done ++ (bytes ++ rest)) (record { kind = k; at = length done; len = length bytes }) ≡ true
  token_good k h = and_both _ _ (within _ _ (omega (arith, length-append done (bytes ++ rest), length-append bytes rest))) (ap (is_good_as k) slice_there ∙ h)

  piece_tokens : (o : Option Kind) (more : List Token) → IsGoodPiece o bytes → are_good (done ++ (bytes ++ rest)) more ≡ true →
      are_good (done ++ (bytes ++ rest)) (token_at (length done) (length bytes) o ++ more) ≡ true
  piece_tokens None more h g = g
  piece_tokens (Some k) more h g = and_both _ _ (token_good k h) g

good_from : (ps : List Piece) (done : List ℕ) → ArePieces ps [] → are_good (done ++ texts ps) (tokens_of (length done) ps) ≡ true
good_from [] done h = refl
good_from (p ∷ ps) done h = piece_tokens done (bytes_of p) (texts ps) (kind_of p) (tokens_of (length done + length (bytes_of p)) ps) (piece_good p _ h.0)
    (ap₂ are_good (sym (append_assoc done (bytes_of p) (texts ps))) (ap (λ n. tokens_of n ps) (sym (length-append done (bytes_of p)))) ∙ good_from ps (done ++ bytes_of p) h.1)

pub good_tokens : (text : List ℕ) (tokens : List Token) → AreTokens text tokens → IsTrue (are_good text tokens)
good_tokens text tokens h = ap₂ are_good h.cut h.tokens_are ∙ good_from h.pieces [] h.are
