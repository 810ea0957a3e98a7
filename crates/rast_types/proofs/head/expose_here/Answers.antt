use Rattle.std.proofs.Common.{◌∙◌, ap}
use Rattle.rast_index.specs.Linear.{is_small}
use Rattle.rast_types.proofs.Heads.{headed_ok, headed_err}
use Rattle.rast_types.proofs.Layers.{timed_next, timed_none}
use Rattle.rast_types.proofs.head.expose_here.Goals as goal

pub returns-in-Ok : goal.returns-in-Ok
returns-in-Ok c = headed_ok c.args.table.now.defs c.args.vars _ _ _ c.in-Ok.head (timed_next _ _ _ c.in-Some.ensures) c.again.ensures.same (ap is_small c.again.ensures.same ∙ c.again.ensures.small) c.in-Ok.ensures

pub returns-in-Err : goal.returns-in-Err
returns-in-Err c = headed_err c.args.table.now.defs c.args.vars _ _ c.in-Err.e (timed_next _ _ _ c.in-Some.ensures) c.in-Err.ensures

pub returns-in-Ok-unfold : goal.returns-in-Ok-unfold
returns-in-Ok-unfold c = headed_ok c.args.table.now.defs c.args.vars _ _ _ c.in-Ok-unfold.head (timed_none _ c.in-None.ensures) c.nought.ensures (ap is_small c.nought.ensures) c.in-Ok-unfold.ensures

pub returns-in-Err-unfold : goal.returns-in-Err-unfold
returns-in-Err-unfold c = headed_err c.args.table.now.defs c.args.vars _ _ c.in-Err-unfold.e (timed_none _ c.in-None.ensures) c.in-Err-unfold.ensures
