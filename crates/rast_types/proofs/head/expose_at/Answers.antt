use Rattle.std.proofs.Common.{ap}
use Rattle.rast_index.specs.Linear.{is_small}
use Rattle.rast_types.proofs.Heads.{headed_ok, headed_err}
use Rattle.rast_types.proofs.Layers.{timed_put_none}
use Rattle.rast_types.proofs.head.expose_at.Goals as goal

pub returns-in-Ok-unfold_at : goal.returns-in-Ok-unfold_at
returns-in-Ok-unfold_at c = headed_ok c.args.table.now.defs c.args.vars _ _ _ c.in-Ok-unfold_at.head (timed_put_none _ _ _ c.in-None.ensures) c.nought.ensures (ap is_small c.nought.ensures) c.in-Ok-unfold_at.ensures

pub returns-in-Err-unfold_at : goal.returns-in-Err-unfold_at
returns-in-Err-unfold_at c = headed_err c.args.table.now.defs c.args.vars _ _ c.in-Err-unfold_at.e (timed_put_none _ _ _ c.in-None.ensures) c.in-Err-unfold_at.ensures
