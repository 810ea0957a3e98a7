use Rattle.std.proofs.Common.{◌≡◌, take}
use Rattle.rast_cooper.specs.Search.{varied}
use Rattle.rast_cooper.proofs.rewrite.varied.Given as goal

abbrev pub invariant-loop-lit : goal.invariant-loop-lit
invariant-loop-lit l = l.out ≡ varied (take l.lit-index l.ls)
