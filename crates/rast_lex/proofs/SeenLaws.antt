-- The tokens of pieces, as the grammar sees them.
use Rattle.std.proofs.Common.{◌≡◌, ℕ, ◌+◌, List, [], ◌∷◌, ◌++◌, length, take, ap, ap₂, sym, ◌∙◌, refl, append_assoc, length-append}
use Rattle.std.proofs.Math.Seq.{drop-append_seam, take-append_seam}
use Rattle.rast_ast.specs.declared.Kind.{Kind}
use Rattle.rast_ast.specs.declared.Kind.TheVariants as kind
use Rattle.rast_ast.specs.Kinds.{text_of}
use Rattle.rast_lex.specs.Words.{kind_of_word}
use Rattle.rast_lex.specs.declared.token.Token.{Token}
use Rattle.rast_lex.specs.Pieces.{Piece, Blank, Comment, Word as Letters, Number as Digits, Symbol, bytes_of, kind_of, texts, ArePieces}
use Rattle.rast_lex.specs.Tokens.{token_at, tokens_of, AreTokens}
use Rattle.rast_lex.specs.Seen.{slice_of, word_as, word_of, words, piece_word, piece_words}

slice_is : (front bytes rest : List ℕ) (k : Kind) → slice_of (front ++ (bytes ++ rest)) (record { kind = k; at = length front; len = length bytes }) ≡ bytes
slice_is front bytes rest k = ap (take (length bytes)) (drop-append_seam front (bytes ++ rest)) ∙ take-append_seam bytes rest

word_at : (front rest : List ℕ) (p : Piece) → words (front ++ (bytes_of p ++ rest)) (token_at (length front) (length (bytes_of p)) (kind_of p)) ≡ piece_word p
word_at front rest (Blank c) = refl
word_at front rest (Comment bytes) = refl
word_at front rest (Letters bytes) = ap (λ z. word_as (kind_of_word bytes) z ∷ []) (slice_is front bytes rest (kind_of_word bytes))
word_at front rest (Digits digits) = ap (λ z. word_as kind.Number z ∷ []) (slice_is front digits rest kind.Number)
word_at front rest (Symbol k) = ap (λ z. word_as k z ∷ []) (slice_is front (text_of k) rest k)

words_append : (text : List ℕ) (ts us : List Token) → words text (ts ++ us) ≡ words text ts ++ words text us
words_append text [] us = refl
words_append text (t ∷ ts) us = ap (λ z. word_of text t ∷ z) (words_append text ts us)

words_from : (front : List ℕ) (ps : List Piece) → words (front ++ texts ps) (tokens_of (length front) ps) ≡ piece_words ps
words_from front [] = refl
words_from front (p ∷ ps) =
    words_append (front ++ (bytes_of p ++ texts ps)) (token_at (length front) (length (bytes_of p)) (kind_of p)) (tokens_of (length front + length (bytes_of p)) ps)
    ∙ ap₂ (λ a b. a ++ b) (word_at front (texts ps) p)
    (ap₂ (λ t n. words t (tokens_of n ps)) (sym (append_assoc front (bytes_of p) (texts ps))) (sym (length-append front (bytes_of p))) ∙ words_from (front ++ bytes_of p) ps)

-- pieces are a text with these tokens
pub pieces_seen : (ps : List Piece) → ArePieces ps [] → (ts : List Token) × AreTokens (texts ps) ts × (words (texts ps) ts ≡ piece_words ps)
pieces_seen ps h = (tokens_of 0 ps, record { pieces = ps; cut = refl; are = h; tokens_are = refl }, words_from [] ps)
