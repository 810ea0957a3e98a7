use Rattle.std.proofs.Common.{◌≡◌, ℕ, length, Some}
use Rattle.std.specs.Prelude.{slice_get}
use Rattle.rast_rules.specs.Rules.{Judgement}
use Rattle.rast_rules.proofs.judged.nothing.Given as goal

abbrev pub invariant-loop-node : goal.invariant-loop-node
invariant-loop-node l = record { size : length l.out ≡ l._node; none : (m : ℕ) (j : Judgement) → slice_get l.out m ≡ Some (Some j) → ⊥ }
