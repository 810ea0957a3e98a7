use Rattle.std.proofs.Common.{◌≡◌, drop}
use Rattle.rast_resolve.specs.Programs.{tables_of}
use Rattle.rast_resolve.proofs.program.add_items.Given as goal

abbrev pub invariant-loop-item : goal.invariant-loop-item
invariant-loop-item l = tables_of l.known l.seen l.tables (drop l.item-index l.items) ≡ tables_of l.known l.initial.seen l.initial.tables l.items
