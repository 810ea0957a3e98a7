use Rattle.std.proofs.Common.{◌≡◌, ◌-◌, length}
use Rattle.rast_memo.specs.Numbers.{IsContinued}
use Rattle.rast_memo.proofs.memo.Memo.decide_all.Given as goal

abbrev pub invariant-loop-alloc : goal.invariant-loop-alloc
invariant-loop-alloc l = record { same : l.self.obligations.items ≡ l.fn.self.obligations.items; kept : IsContinued l.fn.self.verdicts l.self.verdicts }

abbrev pub decreases-loop-alloc : goal.decreases-loop-alloc
decreases-loop-alloc l = length l.self.obligations.items - length l.self.verdicts
