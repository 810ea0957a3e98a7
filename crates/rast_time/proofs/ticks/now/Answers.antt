use Rattle.std.proofs.Common.{◌∙◌, ap, sym}
use Rattle.rast_index.specs.Linear.{nought, is_small}
use Rattle.rast_index.specs.declared.formula.Rel.TheVariants.{Eq}
use Rattle.rast_time.proofs.Delays.{said_none, unsaid, exposed_ticks}
use Rattle.rast_time.proofs.ticks.now.Goals as goal

pub returns-in-Ok : goal.returns-in-Ok
returns-in-Ok c = λ n.
    let e = exposed_ticks c.args.table.now.defs n c.args.ty.now in
    said_none _ c.again.result c.nought.result (c.again.ensures.same ∙ (c.in-Ok.ensures n).0 ∙ e) (ap is_small (sym e) ∙ (c.in-Ok.ensures n).1) c.nought.ensures

pub returns-in-Err : goal.returns-in-Err
returns-in-Err c = λ n. unsaid Eq _ nought (ap is_small (sym (exposed_ticks c.args.table.now.defs n c.args.ty.now)) ∙ c.in-Err.ensures n)
