use Rattle.std.proofs.Common.{◌≡◌, ◌++◌, take}
use Rattle.std.specs.List.{flat_map}
use Rattle.rast_print.specs.ProcessText.{branch_line}
use Rattle.rast_print.proofs.process.+process.Given as goal

abbrev pub invariant-put_branches-loop-branch : goal.invariant-put_branches-loop-branch
invariant-put_branches-loop-branch l = l.out.items ≡ l.initial.out.items ++ flat_map (branch_line l.indent) (take l.branch-index l.branches)
