-- Premises one behind another, and none behind one that stops.
use Rattle.std.specs.Prelude.{ℕ, Bool, if◌then◌else◌, List, [], ◌∷◌, ◌++◌, map, filter, not, ◌==◌, Option, Some, None}
use Rattle.std.specs.List.{list_any}
use Rattle.rast_index.specs.Linear.{Linear}
use Rattle.rast_index.specs.Truth.{all_small, is_at_least}
use Rattle.rast_types.specs.Closed.{Table}
use Rattle.rast_types.specs.Symbolic.{before_delay}
use Rattle.rast_index.specs.declared.formula.Formula.{Formula}
use Rattle.rast_types.specs.declared.ty.Ty.{Ty}
use Rattle.rast_types.specs.declared.stop.Stop.TheVariants as stop
use Rattle.rast_rules.specs.declared.premise.Premise.{Premise}
use Rattle.rast_rules.specs.declared.premise.Premise.TheVariants.{Truth, Passed}
use Rattle.rast_rules.specs.Rules.{Askings, is_alike, premise_of, stops, until_stop}

abbrev pub any_stops : List (ℕ × Premise) → Bool
any_stops ps = list_any (λ p. stops p.1) ps

-- more premises behind those that were found, up to and with the first that stops
abbrev pub and_then : List (ℕ × Premise) → List (ℕ × Premise) → List (ℕ × Premise)
and_then ps qs = if any_stops ps then ps else ps ++ until_stop qs

-- what is asked, where no sameness is, as premises
abbrev pub plain : Askings → List (ℕ × Premise)
plain as' = map (λ a. (a.0, premise_of a.1 [])) as'

-- whether sameness is asked
abbrev pub asks_sameness : Askings → Bool
asks_sameness as' = list_any (λ a. is_alike a.1) as'

-- a formula over terms that were made, as a premise
abbrev pub truth_premise : Formula → Premise
truth_premise f = if all_small f then Truth f else Passed stop.Coefficient

-- the channel of the first entry
abbrev pub first_channel : List (ℕ × Ty) → Option ℕ
first_channel [] = None
first_channel (u ∷ us) = Some u.0

-- the used channels but these
abbrev pub left : List ℕ → List (ℕ × Ty) → List (ℕ × Ty)
left gone us = filter (λ u. not (list_any (λ y. y == u.0) gone)) us

-- a type's ticks are at least these
abbrev pub delay_premise : Table → ℕ → Linear → (ℕ × Ty) → ℕ × Premise
delay_premise t n by u = (2, truth_premise (is_at_least (before_delay t n u.1).ticks by))
