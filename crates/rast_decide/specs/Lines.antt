-- Exit statuses of `rast decide`, and the lines that it prints.
use Rattle.std.specs.Prelude.{ℕ, zero, suc, List, [], ◌∷◌, ◌++◌, codes}
use Rattle.std.specs.Fmt.{decimal}
use Rattle.rast_cooper.specs.declared.verdict.Verdict.{Verdict}
use Rattle.rast_cooper.specs.declared.verdict.Verdict.TheVariants.{Holds, Fails, NodeLimit, NumberLimit}
use Rattle.rast_formula.specs.declared.scope.Bound.{Bound}
use Rattle.rast_decide.specs.declared.decision.Decision.{Decision}
use Rattle.rast_decide.specs.declared.decision.Decision.TheVariants.{TooLong, BadByte, BadNumber, LongName, Syntax, TooDeep, Limit, Judged}

-- 0 where the formula holds, 1 where it fails or isn't one, 5 at a limit, 9 where the text is too long
abbrev pub status_of : Decision → ℕ
status_of TooLong = 9
status_of (BadByte at) = 1
status_of (BadNumber at) = 1
status_of (LongName at) = 1
status_of (Syntax at) = 1
status_of (TooDeep at) = 5
status_of Limit = 5
status_of (Judged Holds) = 0
status_of (Judged (Fails values)) = 1
status_of (Judged NodeLimit) = 5
status_of (Judged NumberLimit) = 5

-- the line of a text that isn't decided
abbrev pub refusal_line : Decision → List ℕ
refusal_line TooLong = codes "too long\n"
refusal_line (BadByte at) = codes "refused: bad byte at byte " ++ decimal at ++ codes "\n"
refusal_line (BadNumber at) = codes "refused: number at byte " ++ decimal at ++ codes "\n"
refusal_line (LongName at) = codes "refused: name at byte " ++ decimal at ++ codes "\n"
refusal_line (Syntax at) = codes "refused: syntax at byte " ++ decimal at ++ codes "\n"
refusal_line (TooDeep at) = codes "bound: nesting at byte " ++ decimal at ++ codes "\n"
refusal_line Limit = codes "bound: limit\n"
refusal_line (Judged v) = []

-- what stands before the value of a variable
abbrev pub lead : ℕ → List ℕ
lead zero = codes " with "
lead (suc i) = codes ", "

-- a variable's name and value
abbrev pub value_text : Bound → ℕ → List ℕ
value_text b v = b.name ++ codes " = " ++ decimal v

-- the values of variables, of which the first has this number
abbrev pub values_from : ℕ → List Bound → List ℕ → List ℕ
values_from i [] vs = []
values_from i (b ∷ bs) [] = []
values_from i (b ∷ bs) (v ∷ vs) = (lead i ++ value_text b v) ++ values_from (suc i) bs vs

-- the line of a verdict on a formula with these variables
abbrev pub verdict_line : List Bound → Verdict → List ℕ
verdict_line variables Holds = codes "holds\n"
verdict_line variables (Fails values) = codes "fails" ++ values_from 0 variables values ++ codes "\n"
verdict_line variables NodeLimit = codes "bound: search\n"
verdict_line variables NumberLimit = codes "bound: search\n"
