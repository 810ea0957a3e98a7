-- Where a node stands: its declaration, and the nodes above it.
use Rattle.std.specs.Prelude.{◌≡◌, ℕ, zero, suc, ◌+◌, ◌==◌, Bool, false, if◌then◌else◌, List, [], ◌∷◌, reverse, Option, None, Some, slice_get}
use Rattle.std.specs.List.{list_any}
use Rattle.rast_terms.specs.Nodes.{kids}
use Rattle.rast_terms.specs.declared.program.Decl.{Decl}
use Rattle.rast_terms.specs.declared.program.Program.{Program}
use Rattle.rast_terms.specs.declared.node.Node.{Node}
use Rattle.rast_rules.specs.Plan.{IsKid}

-- whether a node is a child of one
abbrev pub is_child : ℕ → Node → Bool
is_child n nd = list_any (λ m. m == n) (kids nd)

abbrev pub is_below : ℕ → Option Node → Bool
is_below n None = false
is_below n (Some nd) = is_child n nd

-- The nodes above a node, of those with numbers below k, the nearest first: children have greater numbers than their parent,
-- and each has one parent.
abbrev pub above : Program → ℕ → ℕ → List ℕ
above g zero n = []
above g (suc k) n = if is_below n (slice_get g.nodes k) then k ∷ above g k k else above g k n

-- the nodes from a declaration's body to the one above the node
abbrev pub nodes_above : Program → ℕ → List ℕ
nodes_above g n = reverse (above g n n)

abbrev pub first_or : ℕ → List ℕ → ℕ
first_or n [] = n
first_or n (m ∷ ms) = m

-- the first of these declarations that has a body, where they have the numbers from k on
abbrev pub decl_from : ℕ → List Decl → ℕ → ℕ
decl_from k [] n = 0
decl_from k (d ∷ ds) n = if d.body == n then k else decl_from (k + 1) ds n

-- the declaration in which a node stands
abbrev pub decl_of : Program → ℕ → ℕ
decl_of g n = decl_from 0 g.decls (first_or n (nodes_above g n))

-- The way down from node m to node n has these nodes: none where m is n; else m first, and then those on the way from a child of m.
abbrev pub IsPath : Program → ℕ → List ℕ → ℕ → Type 0
IsPath g m [] n = m ≡ n
IsPath g m (p ∷ ps) n = (p ≡ m) × (i : ℕ) × (c : ℕ) × IsKid g m i c × IsPath g c ps n
