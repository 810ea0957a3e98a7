use Rattle.rast_rules.proofs.Makings.{put_ok, put_err}
use Rattle.rast_rules.proofs.making.put_term.Goals as goal

pub returns-in-Ok : goal.returns-in-Ok
returns-in-Ok c = put_ok c.args.term.now c.again-term.result c.args.args.now c.min.result c.again-term.ensures.same c.again-term.ensures.sized c.min.ensures c.in-Ok.made c.in-Ok.ensures.replaced

pub returns-in-Err : goal.returns-in-Err
returns-in-Err c = put_err c.args.term.now c.again-term.result c.args.args.now c.min.result c.again-term.ensures.same c.again-term.ensures.sized c.min.ensures c.in-Err.ensures.replaced
