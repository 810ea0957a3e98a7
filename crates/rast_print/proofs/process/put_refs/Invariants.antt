use Rattle.std.proofs.Common.{◌≡◌, ◌++◌, take}
use Rattle.std.specs.List.{flat_map}
use Rattle.rast_print.specs.ProcessText.{next_ref_text}
use Rattle.rast_print.proofs.process.put_refs.Given as goal

abbrev pub invariant-loop-reference : goal.invariant-loop-reference
invariant-loop-reference l = l.out.items ≡ l.initial.out.items ++ flat_map next_ref_text (take l.reference-index l.refs)
