-- What each kind of node says of itself.
use Rattle.std.specs.Prelude.{ℕ, List, [], ◌∷◌, map, Option, Some, None}
pub use Rattle.rast_terms.specs.declared.node.Node.{Node}
use Rattle.rast_terms.specs.declared.node.Node.TheVariants as node
use Rattle.rast_types.specs.declared.ty.Kind.{Kind}
use Rattle.rast_types.specs.declared.ty.Kind.TheVariants as kind
use Rattle.rast_types.specs.declared.equation.Ref.{Ref}
use Rattle.rast_terms.specs.declared.kids.Kids.{Kids}
use Rattle.rast_terms.specs.declared.kids.Kids.TheVariants as found

-- the channel that a node touches, and the head that it needs where the channel is provided and where it is used
pub record Touch : Type 0 where
  pub x : ℕ
  pub provided : Option Kind
  pub used : Option Kind

abbrev pub touch : ℕ → Option Kind → Option Kind → Option Touch
touch x p u = Some (record { x = x; provided = p; used = u })

abbrev pub touches : Node → Option Touch
touches (node.Label x l n) = touch x (Some kind.Plus) (Some kind.With)
touches (node.Case x bs) = touch x (Some kind.With) (Some kind.Plus)
touches (node.Send x w rs n) = touch x (Some kind.Tensor) (Some kind.Lolli)
touches (node.Recv x y n) = touch x (Some kind.Lolli) (Some kind.Tensor)
touches (node.Index x e n) = touch x (Some kind.Ex) (Some kind.All)
touches (node.Bind x v n) = touch x (Some kind.All) (Some kind.Ex)
touches (node.Assert x n) = touch x (Some kind.Assert) (Some kind.Assume)
touches (node.Assume x n) = touch x (Some kind.Assume) (Some kind.Assert)
touches (node.Pay x n) = touch x (Some kind.Pays) (Some kind.Gets)
touches (node.Get x n) = touch x (Some kind.Gets) (Some kind.Pays)
touches (node.Close x) = touch x (Some kind.One) None
touches (node.Wait x n) = touch x None (Some kind.One)
touches n = None

-- the child nodes, in order
abbrev pub kids : Node → List ℕ
kids (node.Label x l n) = n ∷ []
kids (node.Case x bs) = map (λ b. b.1) bs
kids (node.Send x w rs n) = n ∷ []
kids (node.Recv x y n) = n ∷ []
kids (node.Index x e n) = n ∷ []
kids (node.Bind x v n) = n ∷ []
kids (node.Assert x n) = n ∷ []
kids (node.Assume x n) = n ∷ []
kids (node.Pay x n) = n ∷ []
kids (node.Get x n) = n ∷ []
kids (node.Close x) = []
kids (node.Wait x n) = n ∷ []
kids (node.Forward x y rs) = []
kids (node.Spawn y d es ys rs n) = n ∷ []
kids (node.Call x d es ys rs) = []
kids node.Impossible = []
kids (node.Work r n) = n ∷ []
kids (node.Delay t n) = n ∷ []

-- the same where they stand in the node
abbrev pub listed : Kids → List ℕ
listed found.Nothing = []
listed (found.One n) = n ∷ []
listed (found.Branches bs) = map (λ b. b.1) bs.now

abbrev pub refs_of : Node → List Ref
refs_of (node.Send x w rs n) = rs
refs_of (node.Forward x y rs) = rs
refs_of (node.Spawn y d es ys rs n) = rs
refs_of (node.Call x d es ys rs) = rs
refs_of n = []
