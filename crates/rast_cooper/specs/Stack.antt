-- What the claims that the code keeps stand for.
use Rattle.std.specs.Prelude.{◌≡◌, Bool, true, false, List, [], ◌∷◌}
use Rattle.rast_index.specs.declared.formula.Rel.{Rel}
use Rattle.rast_index.specs.declared.formula.Formula.{Formula}
use Rattle.rast_cooper.specs.declared.literal.Sort.{Sort}
use Rattle.rast_cooper.specs.declared.literal.Sort.TheVariants.{Multiple, NotMultiple}
use Rattle.rast_cooper.specs.declared.claim.Claim.{Claim}
use Rattle.rast_cooper.specs.declared.claim.Claim.TheVariants as given
use Rattle.rast_cooper.specs.declared.claim.Members.{Members}
use Rattle.rast_cooper.specs.declared.claim.Members.TheVariants as some
use Rattle.rast_cooper.specs.declared.claim.Node.{Node}
use Rattle.rast_cooper.specs.declared.claim.Node.TheVariants as now
use Rattle.rast_cooper.specs.Search.{in_bounds}
use Rattle.rast_cooper.specs.Claims as claims

abbrev pub claim_value : Claim → claims.Claim
claim_value (given.Whole f wanted) = claims.Whole f.now wanted
claim_value (given.Compared a r b) = claims.Compared a.now r b.now

-- each formula is true, or each is false
abbrev pub wholes : Bool → List Formula → List claims.Claim
wholes wanted [] = []
wholes wanted (f ∷ fs) = claims.Whole f wanted ∷ wholes wanted fs

abbrev pub members_value : Members → List claims.Claim
members_value (some.Each fs wanted) = wholes wanted fs.now
members_value (some.Two c d) = claim_value c ∷ claim_value d ∷ []

abbrev pub node_value : Node → claims.Node
node_value now.Always = claims.Always
node_value now.Never = claims.Never
node_value (now.Atom lit) = claims.Atom lit
node_value (now.Every cs) = claims.Every (members_value cs)
node_value (now.SomeOf cs) = claims.Some_of (members_value cs)

-- true or false
abbrev pub fixed : Bool → claims.Node
fixed true = claims.Always
fixed false = claims.Never

-- all of some claims, or one of them
abbrev pub gathered : Bool → List claims.Claim → claims.Node
gathered true cs = claims.Every cs
gathered false cs = claims.Some_of cs

-- a relation, or its opposite
abbrev pub directed : Rel → Bool → Rel
directed r true = r
directed r false = claims.opposite r

-- a multiple, or none
abbrev pub dividing : Bool → Sort
dividing true = Multiple
dividing false = NotMultiple

-- its numbers are at most 2 ^ 120 in magnitude
abbrev pub IsBounded : Node → Type 0
IsBounded now.Always = Unit {0}
IsBounded now.Never = Unit {0}
IsBounded (now.Atom lit) = in_bounds lit ≡ true
IsBounded (now.Every cs) = Unit {0}
IsBounded (now.SomeOf cs) = Unit {0}
