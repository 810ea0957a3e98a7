-- The numbers that the rows of a solution give.
use Rattle.std.specs.Prelude.{ℕ, ◌-◌, ◌/◌, unsigned_abs, List, ◌++◌, length, map, replicate}
use Rattle.rast_cooper.specs.declared.literal.Literal.{Literal}

-- the number that a row without variables gives
abbrev pub number_of : Literal → ℕ
number_of row = unsigned_abs row.term.constant / row.divisor

-- the numbers of all rows, and 0 for each of the 16 variables that has none
abbrev pub numbers : List Literal → List ℕ
numbers rows = map number_of rows ++ replicate (16 - length rows) 0
