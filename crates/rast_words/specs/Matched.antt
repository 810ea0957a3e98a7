-- What the rows of a subcommand's matches say of an argument.
use Rattle.std.specs.Prelude.{ℕ, Bool, List, [], Option, Some, None, if◌then◌else◌, unwrap_or, codes}
use Rattle.std.specs.Str.{bytes_eq}
use Rattle.std.specs.Str.Parse.{digits_value, without_leading_plus}
use Rattle.clap.specs.ValueTests.{is_unsigned_in}
use Rattle.clap.specs.Words.{Row, Text, first_of, one_of}

-- the text of an argument, which is empty where it has none
abbrev pub text_at : Text → List Row → Text
text_at id rows = unwrap_or (first_of id rows) []

-- the number that a text writes, where it writes one below 2^32
abbrev pub number_in : ℕ → Option Text → ℕ
number_in fallback None = fallback
number_in fallback (Some text) = if is_unsigned_in 0 4294967295 text then digits_value 10 (without_leading_plus text) else fallback

-- the number of an option, which is `fallback` where it has none
abbrev pub number_at : ℕ → Text → List Row → ℕ
number_at fallback id rows = number_in fallback (one_of id rows)

-- the flag was set
abbrev pub is_set : Text → List Row → Bool
is_set id rows = bytes_eq (text_at id rows) (codes "true")
