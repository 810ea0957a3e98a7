use Rattle.std.proofs.Common.{refl}
use Rattle.rast_core.proofs.runs.do_first.Goals as goal

pub returns : goal.returns
returns c = (c.args.pid, c.in-Ready.ensures.step, c.in-Ready.ensures.potential c.in-Ready.event refl)
