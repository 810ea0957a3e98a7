use Rattle.std.proofs.Common.{◌≡◌, map, take}
use Rattle.std.specs.Prelude.{sum}
use Rattle.rast_resolve.specs.Names.{size_of_branch}
use Rattle.rast_resolve.proofs.sizes.+size.Given as goal

abbrev pub invariant-branches_size-loop-branch : goal.invariant-branches_size-loop-branch
invariant-branches_size-loop-branch l = l.total ≡ sum (map size_of_branch (take l.branch-index l.branches))
