use Rattle.rast_index.proofs.Each.{and_ok, and_err, or_ok, or_err}
use Rattle.rast_types.proofs.put.+put_formula.Goals as goal

pub put_formula-returns-in-Ok : goal.put_formula-returns-in-Ok
put_formula-returns-in-Ok t c = and_ok _ _ _ _ c.in-And.is c.as_slice.ensures _ c.in-Ok.ensures

pub put_formula-returns-in-Err : goal.put_formula-returns-in-Err
put_formula-returns-in-Err t c = and_err _ _ _ _ c.in-And.is c.as_slice.ensures _ c.in-Err.ensures

pub put_formula-returns-in-Ok-put_formulas : goal.put_formula-returns-in-Ok-put_formulas
put_formula-returns-in-Ok-put_formulas t c = or_ok _ _ _ _ c.in-Or.is c.as_slice-in-Or.ensures _ c.in-Ok-put_formulas.ensures

pub put_formula-returns-in-Err-put_formulas : goal.put_formula-returns-in-Err-put_formulas
put_formula-returns-in-Err-put_formulas t c = or_err _ _ _ _ c.in-Or.is c.as_slice-in-Or.ensures _ c.in-Err-put_formulas.ensures
