-- What the calls answer that look at one process alone.
use Rattle.std.specs.Prelude.{◌≡◌, ℕ, ℤ, pos, negsuc, ◌^◌, ◌<◌, ◌≤◌, List, [], ◌∷◌, Bool, true, false, None, Some}
use Rattle.rast_index.specs.Linear.{Linear}
use Rattle.rast_index.specs.Keys.{numbered, pull}
use Rattle.rast_terms.specs.declared.program.Decl.{Decl}
use Rattle.rast_items.specs.declared.action.Action.{Action}
use Rattle.rast_items.specs.declared.action.Action.TheVariants as action
use Rattle.rast_items.specs.declared.reading.Reading.{Reading}
use Rattle.rast_items.specs.declared.reading.Reading.TheVariants.{Natural, Large, Unfit}
use Rattle.rast_items.specs.Items.{Link, Proc}
use Rattle.rast_items.specs.Deeds.{Deed, Puts, Takes, Moves, Makes, Turns, Works, Delays, Halts, Breaks, with_arguments, naturals, argument_values, has_room, with_channel, at_node}
use Rattle.std.specs.Prelude.{length, ◌+◌, ◌-◌, ◌&&◌, nat_le, if◌then◌else◌}

-- a deed as the code has it
abbrev pub action_of : Deed → Action
action_of (Puts m rest) = action.Put m rest
action_of (Takes l s) = action.Take l s
action_of (Moves other wait) = action.Move other wait
action_of (Makes child rest d) = action.Make child rest d
action_of (Turns rest d) = action.Turn rest d
action_of (Works q rest) = action.Work q rest
action_of (Delays t rest) = action.Delay t rest
action_of (Halts v) = action.Halt v
action_of Breaks = action.Breaks

-- a value read as a natural below 2 ^ 64, if it is one
abbrev pub IsReading : ℤ → Reading → Type 0
IsReading z (Natural n) = (z ≡ pos n) × (n < 2 ^ 64)
IsReading z (Large v) = (z ≡ pos v) × (2 ^ 64 ≤ v)
IsReading z Unfit = (n : ℕ) × (z ≡ negsuc n)

-- what is done with the arguments of a callee, whatever is done where all are naturals
abbrev pub IsArguments : Proc → List Linear → Decl → List ℕ → Reading → Type 0
IsArguments p es decl ns (Natural q) = (then_do : List ℕ → ℕ → Deed) → with_arguments p es decl then_do ≡ then_do ns q
IsArguments p es decl ns (Large v) = (then_do : List ℕ → ℕ → Deed) → with_arguments p es decl then_do ≡ Halts v
IsArguments p es decl ns Unfit = (then_do : List ℕ → ℕ → Deed) → with_arguments p es decl then_do ≡ Breaks

-- the callee's arguments are these naturals; they are not all naturals
abbrev pub ReadsAll : Proc → List Linear → List ℕ → Bool → Type 0
ReadsAll p es ns true = naturals (argument_values p es) ≡ Some ns
ReadsAll p es ns false = naturals (argument_values p es) ≡ None

-- the named channels went from one process to another that had none
pub record HandsOver (ys : List ℕ) (from after to full : Proc) : Type 0 where
  pub links : List Link
  pub pulled : pull ys from.uses ≡ Some (links, after.uses)
  pub rest : after ≡ record from { uses = after.uses }
  pub given : full ≡ record to { uses = numbered 1 links; fresh = length links + 1 }

-- a channel is missing
abbrev pub IsHandOver : List ℕ → Proc → Proc → Proc → Proc → Bool → Type 0
IsHandOver ys from after to full true = HandsOver ys from after to full
IsHandOver ys from after to full false = pull ys from.uses ≡ None

-- a process that has given channels away hands this potential to a child that has them
abbrev pub spawned : Proc → Proc → ℕ → ℕ → ℕ → Deed
spawned child rest q d n =
    if nat_le q rest.potential && has_room rest.uses
    then Makes (record child { potential = q }) (at_node (with_channel (record rest { potential = rest.potential - q; spawned = rest.spawned + 1 }) child.own) n) d
    else Breaks

-- a process goes on as another with what it holds and has done, if it has given all its used channels away
abbrev pub replaced_by : Proc → Proc → ℕ → List (ℕ × Link) → Deed
replaced_by next left d [] = Turns (record next { potential = left.potential; spawned = left.spawned; steps = left.steps + 1 }) d
replaced_by next left d (u ∷ us) = Breaks
