-- The exit statuses and lines of texts that are no file.
use Rattle.std.specs.Prelude.{ℕ, List, ◌++◌, codes}
use Rattle.std.specs.Fmt.{decimal}
use Rattle.rast_load.specs.declared.fault.TextFault.{TextFault}
use Rattle.rast_load.specs.declared.fault.TextFault.TheVariants.{BadByte, BadNumber, LongName, Syntax, TooDeep}

-- nesting is a bound
abbrev pub fault_status : TextFault → ℕ
fault_status (BadByte at) = 1
fault_status (BadNumber at) = 1
fault_status (LongName at) = 1
fault_status (Syntax at) = 1
fault_status (TooDeep at) = 5

abbrev pub fault_line : TextFault → List ℕ
fault_line (BadByte at) = codes "refused: bad byte at byte " ++ decimal at ++ codes "\n"
fault_line (BadNumber at) = codes "refused: number at byte " ++ decimal at ++ codes "\n"
fault_line (LongName at) = codes "refused: name at byte " ++ decimal at ++ codes "\n"
fault_line (Syntax at) = codes "refused: syntax at byte " ++ decimal at ++ codes "\n"
fault_line (TooDeep at) = codes "bound: nesting at byte " ++ decimal at ++ codes "\n"
