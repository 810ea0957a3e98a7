-- The names that are printed for the channels and the index variables at a node.
use Rattle.std.specs.Prelude.{ℕ, List, [], ◌∷◌, map, take, Option, Some, None, slice_get}
use Rattle.std.specs.List.{IsDistinct}
use Rattle.std.specs.Str.{bytes_eq}
use Rattle.rast_terms.specs.declared.program.Program.{Program}
use Rattle.rast_terms.specs.declared.program.Decl.{Decl}
use Rattle.rast_terms.specs.declared.node.Node.{Node}
use Rattle.rast_terms.specs.declared.node.Node.TheVariants as node
pub use Rattle.rast_lines.specs.declared.names.Names.{Names}
pub use Rattle.rast_lines.specs.NewNames.{numbered_name, is_taken, free_from, new_name, with_new}
use Rattle.rast_lines.specs.Places.{decl_of, nodes_above}
use Rattle.rast_terms.specs.Texts.{name_text}

-- a list of numbers of names, where there is one
abbrev pub or_none : Option (List ℕ) → List ℕ
or_none None = []
or_none (Some ns) = ns

abbrev pub params_of : Option Decl → ℕ
params_of None = 0
params_of (Some d) = d.params

-- no two channels are printed alike, and no two index variables
pub record AreApart (s : Names) : Type 0 where
  pub channels : IsDistinct bytes_eq s.channels
  pub vars : IsDistinct bytes_eq s.vars

-- at a declaration's body: the names that the declaration gives
abbrev pub body_names : Program → ℕ → Names
body_names g k = record {
  channels = map (name_text g) (or_none (slice_get g.said.channels k));
  vars = map (name_text g) (take (params_of (slice_get g.decls k)) (or_none (slice_get g.said.decls k)));
}

-- below a node: one more where it binds one, in scope to the end of the branch
abbrev pub names_below : Program → Names → Option Node → Names
names_below g s (Some (node.Recv x y n)) = record s { channels = with_new s.channels (name_text g y) }
names_below g s (Some (node.Spawn y d es ys rs n)) = record s { channels = with_new s.channels (name_text g y) }
names_below g s (Some (node.Bind x v n)) = record s { vars = with_new s.vars (name_text g v) }
names_below g s nd = s

-- below these nodes, each a child of the one before
abbrev pub names_after : Program → Names → List ℕ → Names
names_after g s [] = s
names_after g s (n ∷ ns) = names_after g (names_below g s (slice_get g.nodes n)) ns

-- at a node
abbrev pub names_at : Program → ℕ → Names
names_at g n = names_after g (body_names g (decl_of g n)) (nodes_above g n)
