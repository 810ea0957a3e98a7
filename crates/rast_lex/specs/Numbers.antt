-- Which digits are a number, and its value.
use Rattle.std.specs.Prelude.{ℕ, Bool, ◌&&◌, ◌||◌, ◌^◌, nat_lt, ◌==◌, not, List, [], ◌∷◌}
use Rattle.std.specs.List.{list_all}
use Rattle.std.specs.Str.{bytes_eq}
use Rattle.std.specs.Str.Parse.{digits_value}
use Rattle.rast_ast.specs.Names.{is_digit}
use Rattle.rast_lex.specs.Bytes.{starts}

-- the number that decimal digits write
abbrev pub value_of : List ℕ → ℕ
value_of digits = digits_value 10 digits

-- `0`, or digits that begin with another one
abbrev pub has_no_leading_zero : List ℕ → Bool
has_no_leading_zero digits = bytes_eq digits (48 ∷ []) || starts (λ c. not (c == 48)) digits

-- decimal digits without a leading zero, of a value below 2^32
abbrev pub is_number : List ℕ → Bool
is_number digits = list_all is_digit digits && has_no_leading_zero digits && nat_lt (value_of digits) (2 ^ 32)
