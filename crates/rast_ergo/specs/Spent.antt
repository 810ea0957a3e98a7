-- Potential that is spent.
use Rattle.std.specs.Prelude.{Bool}
use Rattle.rast_index.specs.Linear.{Linear, is_small, less}
use Rattle.rast_index.specs.Truth.{is_at_least}
use Rattle.rast_index.specs.declared.formula.Formula.{Formula}

-- the obligation that there is as much as is wanted, and the rest
abbrev pub spent : Linear → Linear → Formula × Linear
spent have want = (is_at_least have want, less have want)

-- whether each number of the rest is small
abbrev pub has_small_rest : Formula × Linear → Bool
has_small_rest s = is_small s.1
