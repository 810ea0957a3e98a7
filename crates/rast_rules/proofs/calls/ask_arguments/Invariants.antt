use Rattle.std.proofs.Common.{◌≡◌, ◌≤◌, ◌++◌, length, drop, map, zip}
use Rattle.rast_rules.specs.Rules.{Askings, deal, arg_asked}
use Rattle.rast_rules.specs.Trail.{and_then, asks_sameness}
use Rattle.rast_rules.proofs.calls.ask_arguments.Given as goal

abbrev pub invariant-loop-i : goal.invariant-loop-i
invariant-loop-i l = record {
  few : l.served ≤ length l.refs;
  asks : (more : Askings) → asks_sameness more ≡ l.followed →
      and_then l.trail (deal l.at.ctx.vars (drop l.served l.refs) (map (arg_asked l.at l.number l.args) (drop l.i (zip l.ys l.uses)) ++ more))
      ≡ and_then l.initial.trail (deal l.at.ctx.vars l.refs (map (arg_asked l.at l.number l.args) (zip l.ys l.uses) ++ more));
}
