use Rattle.std.proofs.Common.{◌≡◌, ◌++◌, drop, map}
use Rattle.rast_memo.specs.Codes.{code, row}
use Rattle.rast_memo.proofs.code.+write.Given as goal

abbrev pub invariant-write_all-loop-formula : goal.invariant-write_all-loop-formula
invariant-write_all-loop-formula l = l.out.items ++ row (map code (drop l.formula-index l.formulas)) ≡ l.fn.out.items ++ row (map code l.formulas)
