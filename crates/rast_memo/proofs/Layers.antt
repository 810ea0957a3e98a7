-- The codes of layers of formulas.
use Rattle.std.proofs.Common.{◌≡◌, ℤ, pos, List, ◌∷◌, map, sym, ◌∙◌, ap}
use Rattle.rast_index.specs.declared.formula.Formula.{Formula, roll-Formula}
use Rattle.rast_index.specs.declared.formula.Formula.TheVariants.{And, Or, rolls-And, rolls-Or}
use Rattle.rast_index.specs.declared.formula.Formula.TheOpen as open'
use Rattle.rast_index.specs.declared.formula.Formula.TheOpen.{Formula-F}
use Rattle.rast_index.specs.declared.formula.Formula.TheFolds.{map-Formula, fold-roll-Formula}
use Rattle.rast_memo.specs.Codes.{code, code_step, row}

pub code_at : (x : Formula-F Formula) → code (roll-Formula x) ≡ code_step (map-Formula Formula (List ℤ) code x)
code_at x = fold-roll-Formula (List ℤ) code_step x

pub code-And : (fs : List Formula) → code (And fs) ≡ pos 5 ∷ row (map code fs)
code-And fs = ap code (sym (rolls-And fs)) ∙ code_at (open'.And fs)

pub code-Or : (fs : List Formula) → code (Or fs) ≡ pos 6 ∷ row (map code fs)
code-Or fs = ap code (sym (rolls-Or fs)) ∙ code_at (open'.Or fs)

pub ruleset layers = (code-And, code-Or)
