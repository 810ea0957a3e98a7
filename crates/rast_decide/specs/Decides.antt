-- When each answer to the question whether a formula holds comes, with the line that is printed.
use Rattle.std.specs.Prelude.{◌≡◌, ℕ, ◌<◌, ◌≤◌, List, [], length, Ok}
use Rattle.rast_ast.specs.declared.form.Form.{Form}
use Rattle.rast_ast.specs.Formulas.{form_marks, form_fits}
use Rattle.rast_lex.specs.declared.token.Token.{Token}
use Rattle.rast_lex.specs.declared.token.LexErr.TheVariants as lex
use Rattle.rast_lex.specs.Meaning.{words}
use Rattle.rast_lex.specs.Tokens.{AreTokens, IsFirstFault}
use Rattle.rast_parse.specs.Parses.{AreRead, IsFirstWrong, IsFirstDeep}
use Rattle.rast_cooper.specs.declared.verdict.Verdict.{Verdict}
use Rattle.rast_cooper.specs.Verdicts.{most_states, verdict, Tells}
use Rattle.rast_formula.specs.declared.numbered.Numbered.{Numbered}
use Rattle.rast_formula.specs.Variables.{numbered}
use Rattle.rast_decide.specs.declared.decision.Decision.{Decision}
use Rattle.rast_decide.specs.declared.decision.Decision.TheVariants.{TooLong, BadByte, BadNumber, LongName, Syntax, TooDeep, Limit, Judged}
use Rattle.rast_decide.specs.Lines.{refusal_line, verdict_line}

-- the text is this formula, in which at most 64 nonterminals are open at a token
pub record IsForm (text : List ℕ) (form : Form) : Type 0 where
  pub tokens : List Token
  pub are : AreTokens text tokens
  pub reads : AreRead form_marks form_fits 64 (words text tokens) form

-- the text is no formula, first wrong at this place
pub record IsWrong (text : List ℕ) (at : ℕ) : Type 0 where
  pub tokens : List Token
  pub are : AreTokens text tokens
  pub wrong : IsFirstWrong form_marks form_fits 64 text tokens at

-- the text is nested too deep, first at this place
pub record IsDeep (text : List ℕ) (at : ℕ) : Type 0 where
  pub tokens : List Token
  pub are : AreTokens text tokens
  pub deep : IsFirstDeep form_marks form_fits 64 text tokens at

-- The verdict on a formula, with its line: that of the search for numbers at which the formula is false, its variables in the
-- order in which they first occur. It says of the formula's truth what a verdict says.
pub record IsJudged (form : Form) (v : Verdict) (line : List ℕ) : Type 0 where
  pub subject : Numbered
  pub stands : numbered form ≡ Ok subject
  pub exact : v ≡ verdict most_states (length subject.variables) [] subject.formula
  pub tells : Tells (length subject.variables) [] subject.formula v
  pub line_is : line ≡ verdict_line subject.variables v

-- the formula has more than sixteen variables, or a number of magnitude 2^32 or more on the way to a linear term
abbrev pub IsLimited : Form → Type 0
IsLimited form = (n : Numbered) → numbered form ≡ Ok n → ⊥

-- when an answer comes for a formula, with its line
abbrev pub DecidesForm : Form → Decision → List ℕ → Type 0
DecidesForm form (Judged v) line = IsJudged form v line
DecidesForm form Limit line = IsLimited form × (line ≡ refusal_line Limit)
DecidesForm form d line = ⊥

-- the text is a formula for which an answer comes, with its line
pub record SaysForm (text : List ℕ) (d : Decision) (line : List ℕ) : Type 0 where
  pub form : Form
  pub is : IsForm text form
  pub decides : DecidesForm form d line

-- when an answer comes for a text that isn't too long, with its line
abbrev pub DecidesText : List ℕ → Decision → List ℕ → Type 0
DecidesText text TooLong line = ⊥
DecidesText text (BadByte at) line = IsFirstFault text (lex.BadByte at) × (line ≡ refusal_line (BadByte at))
DecidesText text (BadNumber at) line = IsFirstFault text (lex.BadNumber at) × (line ≡ refusal_line (BadNumber at))
DecidesText text (LongName at) line = IsFirstFault text (lex.LongName at) × (line ≡ refusal_line (LongName at))
DecidesText text (Syntax at) line = IsWrong text at × (line ≡ refusal_line (Syntax at))
DecidesText text (TooDeep at) line = IsDeep text at × (line ≡ refusal_line (TooDeep at))
DecidesText text d line = SaysForm text d line

-- the text isn't too long, and an answer comes for it, with its line
pub record IsRead (limit : ℕ) (text : List ℕ) (d : Decision) (line : List ℕ) : Type 0 where
  pub short : length text ≤ limit
  pub decides : DecidesText text d line

-- when an answer comes for a text, with its line
abbrev pub Decides : ℕ → List ℕ → Decision → List ℕ → Type 0
Decides limit text TooLong line = (limit < length text) × (line ≡ refusal_line TooLong)
Decides limit text d line = IsRead limit text d line
