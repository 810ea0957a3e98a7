use Rattle.std.proofs.Common.{◌<◌, ◌≤◌, ◌+◌, ◌∙◌, ap, refl, get_or, min, length, arith, not, ◌&&◌, nat_eq}
use Rattle.rast_rules.proofs.Called.{args_turn, args_end}
use Rattle.rast_rules.proofs.calls.ask_arguments.Goals as goal

pub loop-i-preserved : goal.loop-i-preserved
loop-i-preserved c = record {
  few = c.in_ok-served.ensures.few;
  asks = λ more h.
      let below : c.loop-i.i < min (length c.args.ys.now) (length c.args.uses.now) = omega (arith, c.min-count.ensures) in
      args_turn c.args.at.now c.args.at.now.ctx.vars c.args.number c.args.args.now c.args.ys.now c.args.uses.now c.loop-i.i (get_or c.args.ys.now c.loop-i.i 0) c.in_ok-served.served c.loop-i.served c.index-uses-i.result _
      c.loop-i.trail c.ask_argument.new.trail c.args.refs.now more c.args.followed c.is_last-last.result below refl c.index-uses-i.is h
      (c.is_last-last.ensures ∙ ap (λ m. not c.args.followed && nat_eq (c.loop-i.i + 1) m) c.min-count.ensures) c.in_ok-served.ensures.asks (c.loop-i.invariant.asks more h);
}

pub returns-clause-asks : goal.returns-clause-asks
returns-clause-asks c = λ more h.
    let past : min (length c.args.ys.now) (length c.args.uses.now) ≤ c.loop-i.i = omega (arith, c.min-count.ensures) in
    args_end c.args.at.now c.args.at.now.ctx.vars c.args.number c.args.args.now c.args.ys.now c.args.uses.now c.loop-i.i _ c.loop-i.trail _ more past (c.loop-i.invariant.asks more h)
