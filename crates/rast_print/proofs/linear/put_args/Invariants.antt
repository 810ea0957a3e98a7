use Rattle.std.proofs.Common.{◌≡◌, ◌++◌, take}
use Rattle.std.specs.List.{flat_map}
use Rattle.rast_print.specs.LinearText.{braced_text}
use Rattle.rast_print.proofs.linear.put_args.Given as goal

abbrev pub invariant-loop-lin : goal.invariant-loop-lin
invariant-loop-lin l = l.out.items ≡ l.initial.out.items ++ flat_map braced_text (take l.lin-index l.args)
