-- How many references a walk of two types takes from those that are there.
use Rattle.std.specs.Prelude.{◌-◌, true, if◌then◌else◌, List, [], ◌∷◌}
use Rattle.rast_equal.specs.declared.met.Met.{Met}
use Rattle.rast_equal.specs.declared.met.Met.TheVariants.{Wants, Names, Differs, Shuffled, Over}
use Rattle.rast_rules.specs.declared.count.Left.{Left}

-- one reference less; none is counted once there were more than 16 variables
abbrev pub taken : Left → Left
taken l = if l.over then l else record l { room = l.room - 1 }

abbrev pub met_step : Left → Met → Left
met_step l (Wants p goal) = l
met_step l (Names p a b) = taken l
met_step l (Differs p) = l
met_step l (Shuffled p) = l
met_step l Over = record l { over = true }

-- what is left when all this is met
abbrev pub after : Left → List Met → Left
after l [] = l
after l (m ∷ ms) = after (met_step l m) ms
