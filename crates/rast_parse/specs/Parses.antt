-- What an answer says of the tokens of a text, by the grammar alone.
use Rattle.std.specs.Prelude.{◌≡◌, ℕ, ◌<◌, ◌≤◌, Bool, true, List, [], ◌∷◌, ◌++◌, length, Result, Ok, Err}
use Rattle.rast_forms.specs.Words.{Word}
use Rattle.rast_forms.specs.Marks.{Mark, bare, highest, count, IsShallow}
use Rattle.rast_ast.specs.declared.kind.Kind.TheVariants as kind
use Rattle.rast_ast.specs.Kinds.{code}
use Rattle.rast_lex.specs.declared.token.Token.{Token}
use Rattle.rast_lex.specs.Meaning.{word_of, words}
use Rattle.rast_parse.specs.declared.outcome.ParseErr.{ParseErr}
use Rattle.rast_parse.specs.declared.outcome.ParseErr.TheVariants as error

-- the bar, before which a number begins no term of a formula
abbrev pub before_bar : List ℕ
before_bar = code kind.Bar ∷ []

-- the place of the first of these tokens, or else the end of the text
abbrev pub place_of : List ℕ → List Token → ℕ
place_of text [] = length text
place_of text (t ∷ ts) = t.at

-- `marks` tells the tokens of a part and how many starred nonterminals are open at each, and `fits` whether the grammar has it.

-- the tokens are those of a part at which at most so many are open
pub record AreRead {X : Type 0} (marks : X → List Mark) (fits : X → Bool) (depth : ℕ) (tokens : List Word) (part : X) : Type 0 where
  pub in_grammar : fits part ≡ true
  pub are : tokens ≡ bare (marks part)
  pub shallow : highest (marks part) ≤ depth

-- the first of the tokens begin a part, in which at most so many are open at each of them
pub record Begin {X : Type 0} (marks : X → List Mark) (fits : X → Bool) (depth : ℕ) (first further : List Word) : Type 0 where
  pub part : X
  pub in_grammar : fits part ≡ true
  pub passed : List Mark
  pub more : List Mark
  pub goes_on : marks part ≡ passed ++ more
  pub are : first ≡ bare passed
  pub shallow : IsShallow before_bar depth passed further

-- the tokens up to this place begin a part, and those with the token there none; or they end there, and are none
pub record IsFirstWrong {X : Type 0} (marks : X → List Mark) (fits : X → Bool) (depth : ℕ) (text : List ℕ) (tokens : List Token) (at : ℕ) : Type 0 where
  pub before : List Token
  pub rest : List Token
  pub split : tokens ≡ before ++ rest
  pub place : at ≡ place_of text rest
  pub begin : Begin marks fits depth (words text before) (words text rest)
  pub wrong : (wrong : Token) (others : List Token) → rest ≡ wrong ∷ others → (part : X) (further : List Word) → fits part ≡ true → words text (before ++ wrong ∷ []) ++ further ≡ bare (marks part) → ⊥
  pub none : (part : X) → fits part ≡ true → words text tokens ≡ bare (marks part) → ⊥

-- the tokens up to this place and the one there begin a part in which more are open at that one than may be, and at none before it
pub record IsFirstDeep {X : Type 0} (marks : X → List Mark) (fits : X → Bool) (depth : ℕ) (text : List ℕ) (tokens : List Token) (at : ℕ) : Type 0 where
  pub before : List Token
  pub deep : Token
  pub others : List Token
  pub split : tokens ≡ before ++ deep ∷ others
  pub place : at ≡ deep.at
  pub part : X
  pub in_grammar : fits part ≡ true
  pub passed : List Mark
  pub mark : Mark
  pub more : List Mark
  pub goes_on : marks part ≡ passed ++ mark ∷ more
  pub are : words text before ≡ bare passed
  pub is : word_of text deep ≡ mark.word
  pub shallow : IsShallow before_bar depth passed (words text (deep ∷ others))
  pub open_there : depth < count before_bar mark (words text others)

-- the answer for the tokens of a text
abbrev pub Answers : {X : Type 0} → (X → List Mark) → (X → Bool) → ℕ → List ℕ → List Token → Result X ParseErr → Type 0
Answers marks fits depth text tokens (Ok part) = AreRead marks fits depth (words text tokens) part
Answers marks fits depth text tokens (Err (error.Syntax at)) = IsFirstWrong marks fits depth text tokens at
Answers marks fits depth text tokens (Err (error.TooDeep at)) = IsFirstDeep marks fits depth text tokens at
Answers marks fits depth text tokens (Err error.Memory) = Unit {0}

-- the answer is this part, or want of memory
abbrev pub GivesPart : {X : Type 0} → X → Result X ParseErr → Type 0
GivesPart part (Ok x) = x ≡ part
GivesPart part (Err e) = e ≡ error.Memory

-- the answer is the only part that the tokens are
abbrev pub IsOnly : {X : Type 0} → (X → List Mark) → (X → Bool) → ℕ → List Word → Result X ParseErr → Type 0
IsOnly {X} marks fits depth tokens result = (part : X) → AreRead marks fits depth tokens part → GivesPart part result
