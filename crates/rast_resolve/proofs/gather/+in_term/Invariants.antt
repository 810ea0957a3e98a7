use Rattle.std.proofs.Common.{◌≡◌, ◌++◌, take}
use Rattle.std.specs.List.{flat_map}
use Rattle.rast_resolve.specs.Names.{names_in_branch}
use Rattle.rast_resolve.proofs.gather.+in_term.Given as goal

abbrev pub invariant-add_branches-loop-branch : goal.invariant-add_branches-loop-branch
invariant-add_branches-loop-branch l = l.out ≡ l.initial.out ++ flat_map names_in_branch (take l.branch-index l.branches)
