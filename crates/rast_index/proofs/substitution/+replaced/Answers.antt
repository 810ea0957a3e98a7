use Rattle.rast_index.proofs.Each.{rel_ok, and_ok, and_err, or_ok, or_err}
use Rattle.rast_index.proofs.substitution.+replaced.Goals as goal

pub replaced-returns-in-Ok : goal.replaced-returns-in-Ok
replaced-returns-in-Ok t c = and_ok _ _ _ _ c.in-And.is c.as_slice.ensures _ c.in-Ok.ensures

pub replaced-returns-in-Err : goal.replaced-returns-in-Err
replaced-returns-in-Err t c = and_err _ _ _ _ c.in-And.is c.as_slice.ensures _ c.in-Err.ensures

pub replaced-returns-in-Ok-each_replaced : goal.replaced-returns-in-Ok-each_replaced
replaced-returns-in-Ok-each_replaced t c = or_ok _ _ _ _ c.in-Or.is c.as_slice-in-Or.ensures _ c.in-Ok-each_replaced.ensures

pub replaced-returns-in-Err-each_replaced : goal.replaced-returns-in-Err-each_replaced
replaced-returns-in-Err-each_replaced t c = or_err _ _ _ _ c.in-Or.is c.as_slice-in-Or.ensures _ c.in-Err-each_replaced.ensures

pub replaced-returns-in-Ok-Ok : goal.replaced-returns-in-Ok-Ok
replaced-returns-in-Ok-Ok t c = rel_ok _ _ _ _ _ c.in-Rel.is _ _ c.in-Ok-Ok.ensures.replaced c.in-Ok-Ok.ensures'.replaced
