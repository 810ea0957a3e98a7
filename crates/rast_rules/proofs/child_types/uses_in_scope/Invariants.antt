use Rattle.std.proofs.Common.{◌≡◌, ◌++◌, ℕ, List, take}
use Rattle.rast_types.specs.declared.ty.Ty.{Ty}
use Rattle.rast_rules.specs.Draft.{made_uses, turned_uses}
use Rattle.rast_rules.specs.Trail.{left}
use Rattle.rast_rules.proofs.child_types.uses_in_scope.Given as goal

abbrev pub invariant-loop-channel : goal.invariant-loop-channel
invariant-loop-channel l = (us : List (ℕ × Ty)) → l.fn.before ≡ made_uses l.vars us → l.made ≡ made_uses l.vars (us ++ turned_uses l.vars l.by (left l.gone (take l.channel-index l.uses)))
