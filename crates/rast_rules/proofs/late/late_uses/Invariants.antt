use Rattle.std.proofs.Common.{◌≡◌, true, false, take, drop, map}
use Rattle.std.specs.List.{list_all}
use Rattle.rast_types.specs.Symbolic.{after_delay}
use Rattle.rast_rules.specs.Draft.{made_uses}
use Rattle.rast_rules.specs.Late.{has_ticks}
use Rattle.rast_rules.proofs.late.late_uses.Given as goal

abbrev pub invariant-loop-channel : goal.invariant-loop-channel
invariant-loop-channel l = record {
  done : l.made ≡ made_uses l.vars (map (λ u. (u.0, after_delay l.table.defs l.vars l.by false u.1)) (take l.channel-index l.uses));
  rest : list_all (λ u. has_ticks l.table.defs l.vars u.1) (drop l.channel-index l.uses) ≡ true;
}
