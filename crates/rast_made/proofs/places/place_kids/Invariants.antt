use Rattle.std.proofs.Common.{◌≡◌, ℕ, drop}
use Rattle.rast_terms.specs.Nodes.{kids}
use Rattle.rast_made.specs.Made.{all_placed}
use Rattle.rast_made.proofs.places.place_kids.Given as goal

abbrev pub invariant-loop-index : goal.invariant-loop-index
invariant-loop-index l =
    all_placed (λ (m : ℕ). m) (λ m. l.scope) l.places (drop l.index (kids l.node)) ≡ all_placed (λ (m : ℕ). m) (λ m. l.scope) l.initial.places (kids l.node)
