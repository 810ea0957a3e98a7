use Rattle.std.proofs.Common.{◌≡◌, drop}
use Rattle.rast_lines.specs.Naming.{AreApart, names_after}
use Rattle.rast_lines.proofs.names.names_after.Given as goal

abbrev pub invariant-loop-node : goal.invariant-loop-node
invariant-loop-node l = record {
  value : names_after l.program l.names (drop l.node-index l.path) ≡ names_after l.program l.fn.names l.path;
  apart : AreApart l.fn.names → AreApart l.names;
}
