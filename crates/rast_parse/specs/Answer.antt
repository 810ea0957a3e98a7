-- What the code answers, beside what reading gives.
use Rattle.std.specs.Prelude.{◌≡◌, ℕ, ◌-◌, Bool, true, false, List, [], length, drop, Option, Some, None, Result, Ok, Err}
use Rattle.rast_forms.specs.Words.{Word}
use Rattle.rast_forms.specs.Reading.{Syntax, TooDeep, Read, Done, Bad}
use Rattle.rast_parse.specs.declared.cursor.Fault.{Fault}
use Rattle.rast_parse.specs.declared.cursor.Fault.TheVariants as fault
use Rattle.rast_parse.specs.declared.cursor.Cursor.{Cursor}
use Rattle.rast_parse.specs.Cursors.{seen}
use Rattle.rast_lex.specs.declared.token.Token.{Token}
use Rattle.rast_parse.specs.declared.outcome.ParseErr.{ParseErr}
use Rattle.rast_parse.specs.declared.outcome.ParseErr.TheVariants as error
use Rattle.rast_parse.specs.Parses.{place_of}

-- A refusal says how many tokens are left. Want of memory may always come.
abbrev pub FailsAs : {X : Type 0} → Fault → Read X → Type 0
FailsAs (fault.Syntax left) m = (r : List Word) × (m ≡ Bad Syntax r) × (left ≡ length r)
FailsAs (fault.TooDeep left) m = (r : List Word) × (m ≡ Bad TooDeep r) × (left ≡ length r)
FailsAs fault.Memory m = Unit {0}

abbrev pub Gives : {X : Type 0} → Result (X × Cursor) Fault → Read X → Type 0
Gives (Ok x) m = m ≡ Done x.0 (seen x.1)
Gives (Err e) m = FailsAs e m

-- the same of a reader of one token
abbrev pub Finds : {X : Type 0} → Option (X × Cursor) → List Word → Read X → Type 0
Finds (Some x) ts m = m ≡ Done x.0 (seen x.1)
Finds None ts m = m ≡ Bad Syntax ts

-- the same where nothing is told but that it is there
abbrev pub Passes : Result Cursor Fault → Read (Unit {0}) → Type 0
Passes (Ok x) m = m ≡ Done tt (seen x)
Passes (Err e) m = FailsAs e m

-- a refusal where no nonterminal may open: one would begin there, or the token is wrong
abbrev pub limit_fault : Bool → ℕ → Fault
limit_fault true left = fault.TooDeep left
limit_fault false left = fault.Syntax left

-- the same where no token is left
abbrev pub Ends : {X : Type 0} → Result X Fault → Read X → Type 0
Ends (Ok x) m = m ≡ Done x []
Ends (Err e) m = FailsAs e m

-- the place of a fault, by how many tokens are left
abbrev pub Places : List ℕ → List Token → Fault → ParseErr → Type 0
Places text tokens (fault.Syntax left) e = e ≡ error.Syntax (place_of text (drop (length tokens - left) tokens))
Places text tokens (fault.TooDeep left) e = e ≡ error.TooDeep (place_of text (drop (length tokens - left) tokens))
Places text tokens fault.Memory e = e ≡ error.Memory
