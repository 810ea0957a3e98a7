use Rattle.std.proofs.Common.{◌≡◌, drop, map}
use Rattle.rast_rules.specs.Trail.{and_then, delay_premise}
use Rattle.rast_rules.proofs.others.ask_ticks.Given as goal

abbrev pub invariant-loop-ty : goal.invariant-loop-ty
invariant-loop-ty l =
    and_then l.trail (map (delay_premise l.table.defs l.at.ctx.vars l.ticks) (drop l.ty-index l.at.uses)) ≡ and_then l.initial.trail (map (delay_premise l.table.defs l.at.ctx.vars l.ticks) l.at.uses)
