use Rattle.std.proofs.Common.{◌≡◌, ◌++◌, drop}
use Rattle.rast_lines.specs.Lines.{parts_text}
use Rattle.rast_lines.proofs.evidence.put_parts.Given as goal

abbrev pub invariant-loop-part : goal.invariant-loop-part
invariant-loop-part l = l.text.items ++ parts_text l.program (drop l.part-index l.path) ≡ l.fn.text.items ++ parts_text l.program l.path
