use Rattle.std.proofs.Common.{◌∙◌, ap}
use Rattle.rast_rules.specs.Trail.{and_then}
use Rattle.rast_rules.proofs.Trails.{on_ok}
use Rattle.rast_rules.proofs.Untouched.{delay_deal}
use Rattle.rast_rules.proofs.others.ask_other.Goals as goal

pub returns-in-Delay : goal.returns-in-Delay
returns-in-Delay c = on_ok c.ask_delay.result (λ e. e ∙ ap (and_then c.args.trail.now) (delay_deal c.args.program.now c.args.at.now c.in-Delay.ticks c.in-Delay.next c.args.at.now.ctx.vars c.args.node.now c.in-Delay.is)) c.ask_delay.ensures
