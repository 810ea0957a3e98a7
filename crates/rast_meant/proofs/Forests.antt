-- Nodes in preorder: those of some roots with all that stands below them, one root after another.
use Rattle.std.specs.Prelude.{◌≡◌, ℕ, ◌+◌, List, [], ◌∷◌, ◌++◌, map, length}
use Rattle.rast_terms.specs.declared.node.Node.{Node}
use Rattle.rast_terms.specs.declared.program.Program.{Program}
use Rattle.rast_terms.specs.declared.program.Decl.{Decl}
use Rattle.rast_terms.specs.Nodes.{kids}
use Rattle.rast_made.specs.WellMade.{IsMadeNode, bound_variables, bound_channels}

-- the number of a node, and how many variables and channels are in scope there
pub record Root : Type 0 where
  pub node : ℕ
  pub vars : ℕ
  pub fresh : ℕ

abbrev pub below : Root → Node → ℕ → Root
below r nd m = record { node = m; vars = r.vars + bound_variables nd; fresh = r.fresh + bound_channels nd }

abbrev pub children : Root → Node → List Root
children r nd = map (below r nd) (kids nd)

abbrev pub body_root : Decl → Root
body_root d = record { node = d.body; vars = d.params; fresh = length d.uses + 1 }

-- the first of these nodes has this number; a root is followed by all that stands below it, and then by the next root
pub data Forest (g : Program) : ℕ → List Root → List Node → Type 0 where
  none : (n : ℕ) → Forest g n [] []
  tree : (n : ℕ) (r : Root) (nd : Node) (rs : List Root) (ns more : List Node) → r.node ≡ n → IsMadeNode g r.vars r.fresh nd → Forest g (n + 1) (children r nd) ns → Forest g (n + 1 + length ns) rs more → Forest g n (r ∷ rs) (nd ∷ (ns ++ more))
