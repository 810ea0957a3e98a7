-- What is still to be made true, and what it comes to.
use Rattle.std.specs.Prelude.{Bool, true, false, not, List, [], ◌∷◌, map}
use Rattle.rast_index.specs.declared.formula.Rel.{Rel}
use Rattle.rast_index.specs.declared.formula.Rel.TheVariants.{Eq, Ne, Lt, Le, Gt, Ge}
use Rattle.rast_index.specs.declared.formula.Formula.{Formula, roll-Formula}
use Rattle.rast_index.specs.declared.formula.Formula.TheOpen.{Formula-F, True, False, Rel as Related, Div, Not, And, Or, Imp}
use Rattle.rast_index.specs.declared.formula.Formula.TheFolds.{fold-Formula, map-Formula}
use Rattle.rast_cooper.specs.declared.literal.Sort.TheVariants.{AtLeast, Equals, Multiple, NotMultiple}
use Rattle.rast_cooper.specs.declared.literal.Literal.{Literal}
use Rattle.rast_cooper.specs.Arithmetic.{Linear, minus, less_one}
use Rattle.rast_cooper.specs.Meaning.{literal}

-- what is still to be made true: a formula, or that it is false; or a relation
pub data Claim : Type 0 where
  Whole : (f : Formula) (wanted : Bool) → Claim
  Compared : (a : Linear) (r : Rel) (b : Linear) → Claim

-- what a claim comes to
pub data Node : Type 0 where
  Always : Node
  Never : Node
  Atom : (lit : Literal) → Node
  Every : (cs : List Claim) → Node
  Some_of : (cs : List Claim) → Node

abbrev pub compared : Linear → Rel → Linear → Node
compared a Eq b = Atom (literal Equals 0 (minus b a))
compared a Ne b = Some_of (Compared a Lt b ∷ Compared a Gt b ∷ [])
compared a Lt b = Atom (literal AtLeast 0 (less_one (minus b a)))
compared a Le b = Atom (literal AtLeast 0 (minus b a))
compared a Gt b = Atom (literal AtLeast 0 (less_one (minus a b)))
compared a Ge b = Atom (literal AtLeast 0 (minus a b))

abbrev pub opposite : Rel → Rel
opposite Eq = Ne
opposite Ne = Eq
opposite Lt = Ge
opposite Le = Gt
opposite Gt = Le
opposite Ge = Lt

-- a formula, with what it comes to where it is to be true and where it is to be false
pub record Seen : Type 0 where
  pub self : Formula
  pub node : Bool → Node

abbrev pub node_step : Formula-F Seen → Bool → Node
node_step True true = Always
node_step True false = Never
node_step False true = Never
node_step False false = Always
node_step (Related a r b) true = compared a r b
node_step (Related a r b) false = compared a (opposite r) b
node_step (Div d l) true = Atom (literal Multiple d l)
node_step (Div d l) false = Atom (literal NotMultiple d l)
node_step (Not f) b = f.node (not b)
node_step (And fs) true = Every (map (λ (f : Seen). Whole f.self true) fs)
node_step (And fs) false = Some_of (map (λ (f : Seen). Whole f.self false) fs)
node_step (Or fs) true = Some_of (map (λ (f : Seen). Whole f.self true) fs)
node_step (Or fs) false = Every (map (λ (f : Seen). Whole f.self false) fs)
node_step (Imp f g) true = Some_of (Whole f.self false ∷ Whole g.self true ∷ [])
node_step (Imp f g) false = Every (Whole f.self true ∷ Whole g.self false ∷ [])

abbrev pub seen_step : Formula-F Seen → Seen
seen_step y = record { self = roll-Formula (map-Formula Seen Formula (λ (s : Seen). s.self) y); node = node_step y }

unfoldable pub seen : Formula → Seen
seen = fold-Formula Seen seen_step

abbrev pub node_of : Claim → Node
node_of (Whole f wanted) = (seen f).node wanted
node_of (Compared a r b) = compared a r b
