use Rattle.std.proofs.Common.{◌≡◌, ◌++◌, drop}
use Rattle.rast_memo.proofs.obligation.copied.Given as goal

abbrev pub invariant-loop-premise : goal.invariant-loop-premise
invariant-loop-premise l = l.again ++ drop l.premise-index l.premises ≡ l.premises
