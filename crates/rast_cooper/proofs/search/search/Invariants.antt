use Rattle.std.proofs.Common.{◌≡◌, true, ◌∷◌, []}
use Rattle.rast_cooper.specs.Frames.{all_states, IsPlace}
use Rattle.rast_cooper.specs.Search.{State, all_in_bounds, run, first}
use Rattle.rast_cooper.proofs.Points.{In}
use Rattle.rast_cooper.proofs.Kept.{IsGood}
use Rattle.rast_cooper.proofs.search.search.Given as goal

abbrev pub invariant-loop-place : goal.invariant-loop-place
invariant-loop-place l = record {
  states : run l.fn.most (first l.fn.vars l.fn.premises l.fn.goal ∷ []) ≡ run l.left (all_states l.rows.items l.stack l.place);
  place : IsPlace l.stack l.place;
  good : (s : State) → In s (all_states l.rows.items l.stack l.place) → IsGood l.fn.vars s;
  rows : all_in_bounds l.rows.items ≡ true;
}

abbrev pub decreases-loop-place : goal.decreases-loop-place
decreases-loop-place l = l.left
