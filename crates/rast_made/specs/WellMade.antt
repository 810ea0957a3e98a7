-- Programs that are well made: all numbers are in range, all variables and channels in scope, and the nodes are a forest.
use Rattle.std.specs.Prelude.{◌≡◌, ℕ, ◌+◌, ◌<◌, true, ◌==◌, cond, List, [], ◌∷◌, map, length, flat_map, sum_by, slice_get, Option, Some, None, All}
use Rattle.std.specs.List.{list_all}
use Rattle.rast_index.specs.Linear.{Linear, is_closed}
use Rattle.rast_index.specs.Truth.{is_closed_formula}
use Rattle.rast_types.specs.Closed.{Table}
use Rattle.rast_types.specs.Symbolic.{is_scoped}
use Rattle.rast_cooper.specs.Verdicts.{is_within}
use Rattle.rast_equal.specs.Fit.{is_within_type}
use Rattle.rast_equal.specs.WellMadeTypes.{is_named, is_labelled, are_labels, quantifiers}
use Rattle.rast_types.specs.declared.ty.Ty.{Ty}
use Rattle.rast_types.specs.declared.table.TypeDef.{TypeDef}
use Rattle.rast_types.specs.declared.equation.Equation.{Equation}
use Rattle.rast_terms.specs.declared.program.Program.{Program}
use Rattle.rast_terms.specs.declared.program.Decl.{Decl}
use Rattle.rast_terms.specs.declared.node.Node.{Node}
use Rattle.rast_terms.specs.declared.node.Node.TheVariants as node
use Rattle.rast_terms.specs.Nodes.{kids}

abbrev pub table_of : Program → Table
table_of g = g.types.defs

-- a type in which this many variables are in scope; each divisor in it is at least 1
pub record IsMadeType (g : Program) (vars : ℕ) (a : Ty) : Type 0 where
  pub within : is_within_type vars a ≡ true
  pub scoped : is_scoped vars a ≡ true
  pub named : is_named (table_of g) a ≡ true
  pub labelled : is_labelled (length g.names) a ≡ true

pub record IsMadeDef (g : Program) (d : TypeDef) : Type 0 where
  pub name : d.name < length g.names
  pub body : IsMadeType g d.params d.body

pub record IsMadeDecl (g : Program) (d : Decl) : Type 0 where
  pub name : d.name < length g.names
  pub uses : All (IsMadeType g d.params) d.uses
  pub potential : is_closed d.params d.potential ≡ true
  pub gives : IsMadeType g d.params d.gives
  pub body : d.body < length g.nodes

pub record IsMadeEquation (g : Program) (e : Equation) : Type 0 where
  pub within : is_within e.vars e.premise ≡ true
  pub premise : is_closed_formula e.vars e.premise ≡ true
  pub left : IsMadeType g e.vars e.left
  pub right : IsMadeType g e.vars e.right

-- how many variables and channels a node binds
abbrev pub bound_variables : Node → ℕ
bound_variables (node.Bind x v n) = 1
bound_variables n = 0

abbrev pub bound_channels : Node → ℕ
bound_channels (node.Recv x y n) = 1
bound_channels (node.Spawn v d es ys rs n) = 1
bound_channels n = 0

-- at a node so many variables are in scope, and the channels below a number
pub data StandsIn (g : Program) : ℕ → ℕ → ℕ → Type 0 where
  at_root : (k : ℕ) (d : Decl) → slice_get g.decls k ≡ Some d → StandsIn g d.body d.params (length d.uses + 1)
  at_child : (n vars fresh : ℕ) (nd : Node) (i m : ℕ) → StandsIn g n vars fresh → slice_get g.nodes n ≡ Some nd → slice_get (kids nd) i ≡ Some m → StandsIn g m (vars + bound_variables nd) (fresh + bound_channels nd)

-- a spawn or a call of a declaration
pub record IsMadeCall (g : Program) (vars fresh d : ℕ) (es : List Linear) (ys : List ℕ) : Type 0 where
  pub decl : Decl
  pub is : slice_get g.decls d ≡ Some decl
  pub args : length es ≡ decl.params
  pub terms : list_all (is_closed vars) es ≡ true
  pub channels : length ys ≡ length decl.uses
  pub bound : All (λ y. y < fresh) ys

abbrev pub IsMadeNode : Program → ℕ → ℕ → Node → Type 0
IsMadeNode g vars fresh (node.Label x l n) = (x < fresh) × (l < length g.names)
IsMadeNode g vars fresh (node.Case x bs) = (x < fresh) × (are_labels (length g.names) (map (λ b. b.0) bs) ≡ true)
IsMadeNode g vars fresh (node.Send x w rs n) = (x < fresh) × (w < fresh)
IsMadeNode g vars fresh (node.Recv x y n) = (x < fresh) × (y < length g.names)
IsMadeNode g vars fresh (node.Index x e n) = (x < fresh) × (is_closed vars e ≡ true)
IsMadeNode g vars fresh (node.Bind x v n) = (x < fresh) × (v < length g.names)
IsMadeNode g vars fresh (node.Assert x n) = x < fresh
IsMadeNode g vars fresh (node.Assume x n) = x < fresh
IsMadeNode g vars fresh (node.Pay x n) = x < fresh
IsMadeNode g vars fresh (node.Get x n) = x < fresh
IsMadeNode g vars fresh (node.Close x) = x < fresh
IsMadeNode g vars fresh (node.Wait x n) = x < fresh
IsMadeNode g vars fresh (node.Forward x y rs) = (x < fresh) × (y < fresh)
IsMadeNode g vars fresh (node.Spawn v d es ys rs n) = (v < length g.names) × IsMadeCall g vars fresh d es ys
IsMadeNode g vars fresh (node.Call x d es ys rs) = (x < fresh) × IsMadeCall g vars fresh d es ys
IsMadeNode g vars fresh node.Impossible = Unit {0}
IsMadeNode g vars fresh (node.Work r n) = is_closed vars r ≡ true
IsMadeNode g vars fresh (node.Delay t n) = is_closed vars t ≡ true

-- main has no parameter and no used channel
abbrev pub IsMadeMain : Program → Option ℕ → Type 0
IsMadeMain g None = Unit {0}
IsMadeMain g (Some k) = (d : Decl) × (slice_get g.decls k ≡ Some d) × (d.params ≡ 0) × (d.uses ≡ [])

-- how often a node is the body of a declaration or the child of a node
abbrev pub times_placed : Program → ℕ → ℕ
times_placed g n = sum_by (λ d. cond (d.body == n) 1 0) g.decls + sum_by (λ m. cond (m == n) 1 0) (flat_map kids g.nodes)

-- each list has a name for each of these
abbrev pub AreSaid : {A : Type 0} → Program → (A → ℕ) → List A → List (List ℕ) → Type 0
AreSaid {A} g f [] [] = Unit {0}
AreSaid {A} g f [] (s ∷ ss) = ⊥
AreSaid {A} g f (x ∷ xs) [] = ⊥
AreSaid {A} g f (x ∷ xs) (s ∷ ss) = (length s ≡ f x) × All (λ n. n < length g.names) s × AreSaid g f xs ss

-- parameters, and then quantifiers
abbrev pub names_of_def : TypeDef → ℕ
names_of_def d = d.params + quantifiers d.body

abbrev pub names_of_decl : Decl → ℕ
names_of_decl d = d.params + (sum_by quantifiers d.uses + quantifiers d.gives)

abbrev pub names_of_channels : Decl → ℕ
names_of_channels d = length d.uses + 1

pub record IsWellMade (g : Program) : Type 0 where
  pub types : All (IsMadeDef g) g.types.defs
  pub decls : All (IsMadeDecl g) g.decls
  pub equations : All (IsMadeEquation g) g.equations
  pub nodes : (n vars fresh : ℕ) (nd : Node) → StandsIn g n vars fresh → slice_get g.nodes n ≡ Some nd → IsMadeNode g vars fresh nd
  pub main : IsMadeMain g g.main
  -- children come after their parent, and each node has one place
  pub forward : (n : ℕ) (nd : Node) → slice_get g.nodes n ≡ Some nd → All (λ m. (n < m) × (m < length g.nodes)) (kids nd)
  pub placed : (n : ℕ) → n < length g.nodes → times_placed g n ≡ 1
  pub said_types : AreSaid g names_of_def g.types.defs g.said.types
  pub said_decls : AreSaid g names_of_decl g.decls g.said.decls
  pub said_channels : AreSaid g names_of_channels g.decls g.said.channels
