-- The states that the search has still to visit.
use Rattle.std.specs.Prelude.{◌≡◌, ℕ, suc, ◌≤◌, ◌==◌, true, Option, Some, None, List, [], ◌∷◌, ◌++◌, length, take, reverse, if◌then◌else◌}
use Rattle.rast_cooper.specs.declared.literal.Literal.{Literal}
use Rattle.rast_cooper.specs.declared.search.Pending.{Pending}
use Rattle.rast_cooper.specs.declared.search.Frame.{Frame}
use Rattle.rast_cooper.specs.declared.search.Stack.{Stack}
use Rattle.rast_cooper.specs.Claims as claims
use Rattle.rast_cooper.specs.Search.{State, state, all_in_bounds}
use Rattle.rast_cooper.specs.Stack.{claim_value}

-- the claims from a place on, where the newest stands first and has the greatest place
abbrev pub chain : List Pending → ℕ → List claims.Claim
chain [] n = []
chain (p ∷ ps) n = if n == suc (length ps) then claim_value p.claim ∷ chain ps p.rest else chain ps n

-- the claims from a place on, where the oldest stands first
abbrev pub chained : List Pending → ℕ → List claims.Claim
chained ps n = chain (reverse ps) n

-- each claim is followed by older ones
abbrev pub IsChain : List Pending → Type 0
IsChain [] = Unit {0}
IsChain (p ∷ ps) = (p.rest ≤ length ps) × IsChain ps

-- claims were put before those at the place rest, and stand at the place n
pub record Adds (old new : List Pending) (cs : List claims.Claim) (rest n : ℕ) : Type 0 where
  pub here : chained new n ≡ cs ++ chained old rest
  pub others : (m : ℕ) → m ≤ length old → chained new m ≡ chained old m
  pub linked : IsChain (reverse old) → IsChain (reverse new)
  pub within : n ≤ length new
  pub longer : length old ≤ length new

-- the states of a frame: one for each member
abbrev pub member_states : List claims.Claim → List claims.Claim → List Literal → List Literal → List State
member_states [] cs ls rows = []
member_states (d ∷ ds) cs ls rows = state (d ∷ cs) ls rows ∷ member_states ds cs ls rows

abbrev pub frame_states : List Literal → List Literal → List Pending → Frame → List State
frame_states rows ls ps f = member_states (chained ps f.members) (chained ps f.pending) (take f.literals ls) rows

-- the states of all frames, the newest first
abbrev pub frames_states : List Literal → List Literal → List Pending → List Frame → List State
frames_states rows ls ps [] = []
frames_states rows ls ps (f ∷ fs) = frame_states rows ls ps f ++ frames_states rows ls ps fs

-- a frame among so many literals and claims
pub record IsFrame (f : Frame) (literals claims : ℕ) : Type 0 where
  pub literals_within : f.literals ≤ literals
  pub claims_within : f.claims ≤ claims
  pub members_within : f.members ≤ f.claims
  pub pending_within : f.pending ≤ f.claims

-- each frame, the newest first, has no fewer literals and claims than the older ones
abbrev pub AreFrames : List Frame → ℕ → ℕ → Type 0
AreFrames [] l n = Unit {0}
AreFrames (f ∷ fs) l n = IsFrame f l n × AreFrames fs f.literals f.claims

pub record IsStack (s : Stack) : Type 0 where
  pub linked : IsChain (reverse s.claims.items)
  pub frames : AreFrames (reverse s.frames.items) (length s.literals.items) (length s.claims.items)
  pub bounded : all_in_bounds s.literals.items ≡ true

-- the states of the stack's frames, and the one of its literals and the claims at a place
abbrev pub waiting : List Literal → Stack → List State
waiting rows s = frames_states rows s.literals.items s.claims.items (reverse s.frames.items)

abbrev pub present : List Literal → Stack → ℕ → State
present rows s n = state (chained s.claims.items n) s.literals.items rows

-- the states of the stack, the present one first
abbrev pub all_states : List Literal → Stack → Option ℕ → List State
all_states rows s None = []
all_states rows s (Some n) = present rows s n ∷ waiting rows s

abbrev pub IsPlace : Stack → Option ℕ → Type 0
IsPlace s None = Unit {0}
IsPlace s (Some n) = (n ≤ length s.claims.items) × IsStack s

-- these are the states of the stack
pub record Stands (ss : List Literal → List State) (s : Stack) (at : Option ℕ) : Type 0 where
  pub states : (rows : List Literal) → ss rows ≡ all_states rows s at
  pub place : IsPlace s at
