-- Whether a program is well made: types, declarations and equations one by one, and nodes by one pass, which gives each the scope of its place.
use Rattle.std.specs.Prelude.{◌≡◌, ℕ, ◌+◌, ◌^◌, ◌≤◌, Bool, true, false, ◌&&◌, ◌==◌, nat_lt, if◌then◌else◌, List, [], ◌∷◌, map, length, slice_get, slice_set, Option, Some, None, is_some}
use Rattle.std.specs.List.{list_all}
use Rattle.rast_index.specs.Linear.{Linear, is_closed}
use Rattle.rast_cooper.specs.Verdicts.{is_within}
use Rattle.rast_types.specs.declared.ty.Ty.{Ty}
use Rattle.rast_types.specs.declared.table.TypeDef.{TypeDef}
use Rattle.rast_types.specs.declared.equation.Equation.{Equation}
use Rattle.rast_equal.specs.Fit.{is_within_type}
use Rattle.rast_equal.specs.WellMadeTypes.{is_named, is_labelled, are_labels}
use Rattle.rast_terms.specs.declared.program.Program.{Program}
use Rattle.rast_terms.specs.declared.program.Decl.{Decl}
use Rattle.rast_terms.specs.declared.node.Node.{Node}
use Rattle.rast_terms.specs.declared.node.Node.TheVariants as node
use Rattle.rast_terms.specs.Nodes.{kids}
use Rattle.rast_made.specs.WellMade.{table_of, bound_variables, bound_channels, names_of_def, names_of_decl, names_of_channels}
use Rattle.rast_made.specs.declared.scope.Scope.{Scope}

-- a number of a name
abbrev pub is_name : Program → ℕ → Bool
is_name g k = nat_lt k (length g.names)

abbrev pub is_made_type : Program → ℕ → Ty → Bool
is_made_type g n a = is_within_type n a && (is_named (table_of g) a && is_labelled (length g.names) a)

abbrev pub is_made_def : Program → TypeDef → Bool
is_made_def g d = is_name g d.name && is_made_type g d.params d.body

abbrev pub is_made_decl : Program → Decl → Bool
is_made_decl g d = is_name g d.name && (list_all (is_made_type g d.params) d.uses && (is_closed d.params d.potential && is_made_type g d.params d.gives))

abbrev pub is_made_equation : Program → Equation → Bool
is_made_equation g e = is_within e.vars e.premise && (is_made_type g e.vars e.left && is_made_type g e.vars e.right)

-- no parameter and no used channel
abbrev pub takes_nothing : Option Decl → Bool
takes_nothing None = false
takes_nothing (Some d) = (d.params == 0) && (length d.uses == 0)

abbrev pub is_made_main : Program → Option ℕ → Bool
is_made_main g None = true
is_made_main g (Some k) = takes_nothing (slice_get g.decls k)

-- ---- nodes, each in a scope

abbrev pub is_channel : Scope → ℕ → Bool
is_channel c x = nat_lt x c.channels

abbrev pub are_as_many : Decl → List Linear → List ℕ → Bool
are_as_many d es ys = (length es == d.params) && (length ys == length d.uses)

abbrev pub is_made_call : Option Decl → Scope → List Linear → List ℕ → Bool
is_made_call None c es ys = false
is_made_call (Some d) c es ys = are_as_many d es ys && (list_all (is_closed c.vars) es && list_all (is_channel c) ys)

abbrev pub is_made_node : Program → Scope → Node → Bool
is_made_node g c (node.Label x l n) = is_channel c x && is_name g l
is_made_node g c (node.Case x bs) = is_channel c x && are_labels (length g.names) (map (λ b. b.0) bs)
is_made_node g c (node.Send x w rs n) = is_channel c x && is_channel c w
is_made_node g c (node.Recv x y n) = is_channel c x && is_name g y
is_made_node g c (node.Index x e n) = is_channel c x && is_closed c.vars e
is_made_node g c (node.Bind x v n) = is_channel c x && is_name g v
is_made_node g c (node.Assert x n) = is_channel c x
is_made_node g c (node.Assume x n) = is_channel c x
is_made_node g c (node.Pay x n) = is_channel c x
is_made_node g c (node.Get x n) = is_channel c x
is_made_node g c (node.Close x) = is_channel c x
is_made_node g c (node.Wait x n) = is_channel c x
is_made_node g c (node.Forward x y rs) = is_channel c x && is_channel c y
is_made_node g c (node.Spawn v d es ys rs n) = is_name g v && is_made_call (slice_get g.decls d) c es ys
is_made_node g c (node.Call x d es ys rs) = is_channel c x && is_made_call (slice_get g.decls d) c es ys
is_made_node g c node.Impossible = true
is_made_node g c (node.Work r n) = is_closed c.vars r
is_made_node g c (node.Delay t n) = is_closed c.vars t

-- ---- the pass

-- for each node the scope of its place, where one was met
abbrev pub Places : Type 0
Places = List (Option Scope)

-- a node of which no place was met
abbrev pub is_open : Option (Option Scope) → Bool
is_open None = false
is_open (Some None) = true
is_open (Some (Some c)) = false

abbrev pub after : {X Y : Type 0} → Option X → (X → Option Y) → Option Y
after {X} {Y} None f = None
after {X} {Y} (Some x) f = f x

-- the places with one more, of a node that has none yet
abbrev pub placed : Places → Scope → ℕ → Option Places
placed s c m = if is_open (slice_get s m) then Some (slice_set s m (Some c)) else None

-- the same for each of a list, of which these functions tell the node and the scope
abbrev pub all_placed : {X : Type 0} → (X → ℕ) → (X → Scope) → Places → List X → Option Places
all_placed {X} node scope s [] = Some s
all_placed {X} node scope s (x ∷ xs) = after (placed s (scope x) (node x)) (λ t. all_placed node scope t xs)

abbrev pub scope_of : Decl → Scope
scope_of d = record { vars = d.params; channels = length d.uses + 1 }

-- the scope of the children of a node
abbrev pub below : Scope → Node → Scope
below c nd = record { vars = c.vars + bound_variables nd; channels = c.channels + bound_channels nd }

-- the scope of a node's place, where one was met
abbrev pub found : Option (Option Scope) → Option Scope
found None = None
found (Some e) = e

-- the places with the children of a node, which has a place and is made in its scope
abbrev pub visited : Program → Places → Option Scope → Node → Option Places
visited g s None nd = None
visited g s (Some c) nd = if is_made_node g c nd then all_placed (λ m. m) (λ m. below c nd) s (kids nd) else None

-- the same for all nodes, of which the first has this number
abbrev pub all_visited : Program → Places → ℕ → List Node → Option Places
all_visited g s n [] = Some s
all_visited g s n (nd ∷ nds) = after (visited g s (found (slice_get s n)) nd) (λ t. all_visited g t (n + 1) nds)

abbrev pub no_places : List Node → Places
no_places nds = map (λ nd. None) nds

abbrev pub final_places : Program → Option Places
final_places g = after (all_placed (λ d. d.body) scope_of (no_places g.nodes) g.decls) (λ s. all_visited g s 0 g.nodes)

abbrev pub are_made_nodes : Program → Bool
are_made_nodes g = is_some (final_places g)

-- ---- names for printing

abbrev pub is_said : Program → ℕ → List ℕ → Bool
is_said g n s = (length s == n) && list_all (is_name g) s

abbrev pub are_said : {A : Type 0} → Program → (A → ℕ) → List A → List (List ℕ) → Bool
are_said {A} g f [] [] = true
are_said {A} g f [] (s ∷ ss) = false
are_said {A} g f (x ∷ xs) [] = false
are_said {A} g f (x ∷ xs) (s ∷ ss) = is_said g (f x) s && are_said g f xs ss

-- ---- all

abbrev pub are_made_tables : Program → Bool
are_made_tables g = list_all (is_made_def g) g.types.defs && (list_all (is_made_decl g) g.decls && list_all (is_made_equation g) g.equations)

abbrev pub are_all_said : Program → Bool
are_all_said g = are_said g names_of_def g.types.defs g.said.types && (are_said g names_of_decl g.decls g.said.decls && are_said g names_of_channels g.decls g.said.channels)

abbrev pub is_well_made : Program → Bool
is_well_made g = are_made_tables g && (is_made_main g g.main && (are_made_nodes g && are_all_said g))

-- the scopes of all places have few variables and channels, where nodes below n were visited
abbrev pub AreFew : ℕ → Places → Type 0
AreFew n s = (m : ℕ) (c : Scope) → found (slice_get s m) ≡ Some c → (c.vars ≤ 2 ^ 8 + n) × (c.channels ≤ 2 ^ 64 + n)

-- what a call that puts places answers, and the places after it
abbrev pub Puts : Bool → Places → Option Places → Type 0
Puts true new p = p ≡ Some new
Puts false new p = p ≡ None
