use Rattle.std.proofs.Common.{◌≡◌, ◌≤◌, ℕ, length, Some, Ok, Err}
use Rattle.std.specs.Prelude.{slice_get}
use Rattle.rast_terms.specs.Nodes.{kids}
use Rattle.rast_types.specs.declared.stop.Stop.{Stop}
use Rattle.rast_rules.specs.Rules.{Judgement, IsJudgement}
use Rattle.rast_rules.specs.Plan.{AreJudged, HasJudgement}
use Rattle.rast_rules.proofs.judged.add_made.Given as goal

abbrev pub invariant-loop-child : goal.invariant-loop-child
invariant-loop-child l = record {
  sound : AreJudged l.program l.judged;
  keeps : (m : ℕ) → HasJudgement l.initial.judged m → HasJudgement l.judged m;
  size : length l.made ≤ length (kids l.parent);
  right : (i m : ℕ) (j : Judgement) → slice_get (kids l.parent) i ≡ Some m → slice_get l.made i ≡ Some (Ok j) → IsJudgement l.program m j;
  all_made : (i : ℕ) (s : Stop) → slice_get l.made i ≡ Some (Err s) → ⊥;
  here : (i m : ℕ) → length l.made ≤ i → slice_get (kids l.parent) i ≡ Some m → HasJudgement l.judged m;
}

abbrev pub decreases-loop-child : goal.decreases-loop-child
decreases-loop-child l = length l.made
