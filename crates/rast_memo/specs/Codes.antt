-- The code of an obligation: a list of whole numbers that no other obligation has.
use Rattle.std.specs.Prelude.{ℕ, ℤ, pos, List, [], ◌∷◌, ◌++◌, length, map}
use Rattle.rast_index.specs.Linear.{Linear}
use Rattle.rast_index.specs.declared.formula.Rel.{Rel}
use Rattle.rast_index.specs.declared.formula.Rel.TheVariants as rel
use Rattle.rast_index.specs.declared.formula.Formula.{Formula}
use Rattle.rast_index.specs.declared.formula.Formula.TheOpen.{Formula-F, True, False, Rel as Related, Div, Not, And, Or, Imp}
use Rattle.rast_index.specs.declared.formula.Formula.TheFolds.{fold-Formula}
use Rattle.rast_memo.specs.declared.obligation.Obligation.{Obligation}

abbrev pub relation_number : Rel → ℕ
relation_number rel.Eq = 0
relation_number rel.Ne = 1
relation_number rel.Lt = 2
relation_number rel.Le = 3
relation_number rel.Gt = 4
relation_number rel.Ge = 5

-- the constant, how many coefficients there are, and the coefficients
abbrev pub linear_code : Linear → List ℤ
linear_code l = l.constant ∷ (pos (length l.coefficients) ∷ l.coefficients)

-- codes, each behind a 1, and then a 0
abbrev pub row : List (List ℤ) → List ℤ
row [] = pos 0 ∷ []
row (c ∷ cs) = pos 1 ∷ (c ++ row cs)

-- one layer, from the codes of its parts
abbrev pub code_step : Formula-F (List ℤ) → List ℤ
code_step True = pos 0 ∷ []
code_step False = pos 1 ∷ []
code_step (Related a r b) = pos 2 ∷ (pos (relation_number r) ∷ (linear_code a ++ linear_code b))
code_step (Div d l) = pos 3 ∷ (pos d ∷ linear_code l)
code_step (Not f) = pos 4 ∷ f
code_step (And fs) = pos 5 ∷ row fs
code_step (Or fs) = pos 6 ∷ row fs
code_step (Imp f g) = pos 7 ∷ (f ++ g)

abbrev pub code : Formula → List ℤ
code = fold-Formula (List ℤ) code_step

abbrev pub obligation_code : Obligation → List ℤ
obligation_code o = pos o.vars ∷ (row (map code o.premises) ++ code o.goal)
