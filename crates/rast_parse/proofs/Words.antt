-- Kinds of tokens and what the grammar sees of them.
use Rattle.std.proofs.Common.{◌≡◌, ℕ, suc, ◌-◌, ◌≤◌, Bool, true, false, ◌||◌, ◌==◌, cond, List, [], ◌∷◌, take, drop, Some, None, length, ap, ap₂, sym, ◌∙◌, refl, arith}
use Rattle.rast_forms.specs.Words.{key_of, starts}
use Rattle.rast_forms.specs.Reading.{Syntax, Done, Bad, get_fixed}
use Rattle.rast_ast.specs.declared.kind.Kind.{Kind}
use Rattle.rast_ast.specs.declared.kind.Kind.TheVariants as kind
use Rattle.rast_ast.specs.Kinds.{code}
use Rattle.rast_lex.specs.Meaning.{word_as, words}
use Rattle.rast_lex.specs.declared.token.Token.{Token}
use Rattle.rast_parse.specs.LinearReading.{fixed_read, is}
use Rattle.std.proofs.Common.{◌<◌, lit≤, lit<}
use Rattle.std.proofs.lemmas.Bool.Decides.{nat_tests}
use denote.Enum.Bare.{sameb}
use denote.Enum.Declared.{tag_of}
use Rattle.rast_ast.specs.contracts.kind.Kind.{the_type}

-- the number of a token's kind is that of what the grammar sees
pub key_word : (k : Kind) (bytes : List ℕ) → key_of (word_as k bytes) ≡ code k
key_word kind.Name bytes = refl
key_word kind.Number bytes = refl
key_word _ bytes = refl

or_no : (b : Bool) → (b || false) ≡ b
or_no true = refl
or_no false = refl

-- whether a token is of a kind
pub starts_word : (text : List ℕ) (t : Token) (ts : List Token) (k : Kind) → starts (is k) (words text (t ∷ ts)) ≡ (code t.kind == code k)
starts_word text t ts k = rw (key_word t.kind (take t.len (drop t.at text))) (or_no (code t.kind == code k))

-- `==` on kinds compares their numbers
tag_code : (k : Kind) → tag_of the_type k ≡ code k
tag_code kind.Name = refl
tag_code _ = refl

pub same_code : (a b : Kind) → sameb the_type a b ≡ (code a == code b)
same_code a b = ap₂ (λ x y. x == y) (tag_code a) (tag_code b)

shifted : (a b : ℕ) → 2 ≤ a → 2 ≤ b → ((a - 2) == (b - 2)) ≡ (a == b)
shifted a b h k = grind (arith, nat_tests)

not_fixed : (a b : ℕ) → a < 2 → 2 ≤ b → (a == b) ≡ false
not_fixed a b h k = grind (arith, nat_tests)

-- whether a token is this keyword or symbol
pub fixed_word : (k j : Kind) (bytes : List ℕ) → 2 ≤ code j → get_fixed (code j - 2) (word_as k bytes) ≡ cond (code k == code j) (Some tt) None
fixed_word kind.Name j bytes h = rw (not_fixed 0 (code j) (lit< tt) h) refl
fixed_word kind.Number j bytes h = rw (not_fixed 1 (code j) (lit< tt) h) refl
fixed_word k j bytes h = ap (λ b. cond b (Some tt) None) (shifted (code k) (code j) (lit≤ tt) h)

pub length-words : (text : List ℕ) (ts : List Token) → length (words text ts) ≡ length ts
length-words text [] = refl
length-words text (t ∷ ts) = ap suc (length-words text ts)

-- a keyword or symbol that is there, and one that isn't
pub fixed_done : (text : List ℕ) (all : List Token) (t : Token) (ts : List Token) (k : Kind) → 2 ≤ code k → all ≡ t ∷ ts → sameb the_type t.kind k ≡ true → fixed_read k (words text all) ≡ Done tt (words text ts)
fixed_done text all t ts k h f e = rw f (rw (fixed_word t.kind k (take t.len (drop t.at text)) h, sym (same_code t.kind k) ∙ e) refl)

pub fixed_bad : (text : List ℕ) (all : List Token) (t : Token) (ts : List Token) (k : Kind) → 2 ≤ code k → all ≡ t ∷ ts → sameb the_type t.kind k ≡ false → fixed_read k (words text all) ≡ Bad Syntax (words text all)
fixed_bad text all t ts k h f e = rw f (rw (fixed_word t.kind k (take t.len (drop t.at text)) h, sym (same_code t.kind k) ∙ e) refl)

-- whether the first token is of a kind
pub starts_first : (text : List ℕ) (all : List Token) (t : Token) (ts : List Token) (k : Kind) → all ≡ t ∷ ts → sameb the_type t.kind k ≡ starts (is k) (words text all)
starts_first text all t ts k f = rw f (same_code t.kind k ∙ sym (starts_word text t ts k))
