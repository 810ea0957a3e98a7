-- The names of a file that its program numbers, and what is known of a whole file from its beginning.
use Rattle.std.specs.Prelude.{ℕ, ◌+◌, Bool, true, false, List, [], ◌∷◌, ◌++◌, flat_map, length, sum, replicate, Option, Some, None, slice_set}
use Rattle.rast_ast.specs.declared.file.Item.{Item}
use Rattle.rast_ast.specs.declared.file.Item.TheVariants as item
use Rattle.rast_ast.specs.declared.type_expr.TypeExpr.{TypeExpr}
use Rattle.rast_ast.specs.declared.type_expr.Atom.{Atom}
use Rattle.rast_ast.specs.declared.type_expr.Choice.{Choice}
use Rattle.rast_ast.specs.declared.type_expr.Atom.TheOpen.{TypeExpr-F, Atom-F, Choice-F, Prefixed, Atom as Alone, Tensor, Lolli, One, Plus, With, Named, Group}
use Rattle.rast_ast.specs.declared.type_expr.Atom.TheFolds.{fold-TypeExpr, fold-Atom, fold-Choice}
use Rattle.rast_ast.specs.declared.type_expr.Prefix.{Prefix}
use Rattle.rast_ast.specs.declared.type_expr.Prefix.TheVariants as prefix
use Rattle.rast_ast.specs.declared.process.Step.{Step}
use Rattle.rast_ast.specs.declared.process.Step.TheVariants as step
use Rattle.rast_ast.specs.declared.process.Proc.{Proc}
use Rattle.rast_ast.specs.declared.process.End.{End}
use Rattle.rast_ast.specs.declared.process.Branch.{Branch}
use Rattle.rast_ast.specs.declared.process.End.TheOpen.{End-F, Branch-F, Proc-F, Case}
use Rattle.rast_ast.specs.declared.process.End.TheFolds.{fold-Proc, fold-End, fold-Branch}
use Rattle.rast_resolve.specs.declared.gather.Sought.{Sought}
use Rattle.rast_resolve.specs.declared.gather.Sought.TheVariants as sought
use Rattle.rast_resolve.specs.Scopes.{Text, Texts, Known, Counts, place_of, once_from}

-- ---- names in a type in text order: its labels, its quantifiers, or both

abbrev pub has_labels : Sought → Bool
has_labels sought.Both = true
has_labels sought.Labels = true
has_labels sought.Quantifiers = false

abbrev pub has_quantifiers : Sought → Bool
has_quantifiers sought.Both = true
has_quantifiers sought.Labels = false
has_quantifiers sought.Quantifiers = true

abbrev pub only : Bool → Text → Texts
only true n = n ∷ []
only false n = []

abbrev pub bound_by : Sought → Prefix → Texts
bound_by s (prefix.Ex n) = only (has_quantifiers s) n
bound_by s (prefix.All n) = only (has_quantifiers s) n
bound_by s p = []

abbrev pub type_step : Sought → TypeExpr-F Texts Texts Texts → Texts
type_step s (Prefixed p a) = bound_by s p ++ a
type_step s (Alone a) = a
type_step s (Tensor a b) = a ++ b
type_step s (Lolli a b) = a ++ b

abbrev pub atom_step : Atom-F Texts Texts Texts → Texts
atom_step One = []
atom_step (Plus c) = c
atom_step (With c) = c
atom_step (Named n es) = []
atom_step (Group a) = a

abbrev pub choice_step : Sought → Choice-F Texts Texts Texts → Texts
choice_step s c = only (has_labels s) c.label ++ (c.body ++ flat_map (λ (e : Text × Texts). only (has_labels s) e.0 ++ e.1) c.rest)

abbrev pub names_in_type : Sought → TypeExpr → Texts
names_in_type s = fold-TypeExpr Texts Texts Texts atom_step (type_step s) (choice_step s)

abbrev pub names_in_atom : Sought → Atom → Texts
names_in_atom s = fold-Atom Texts Texts Texts atom_step (type_step s) (choice_step s)

abbrev pub names_in_choice : Sought → Choice → Texts
names_in_choice s = fold-Choice Texts Texts Texts atom_step (type_step s) (choice_step s)

-- ---- names in a term: labels, and the names that recv, bind and spawn bind

abbrev pub step_names : Step → Texts
step_names (step.Label x l) = l ∷ []
step_names (step.Recv y x) = y ∷ []
step_names (step.Bind v x) = v ∷ []
step_names (step.Spawn y f es ys by) = y ∷ []
step_names s = []

abbrev pub end_names : End-F Texts Texts Texts → Texts
end_names (Case x first rest) = first ++ flat_map (λ (b : Texts). b) rest
end_names e = []

abbrev pub branch_names : Branch-F Texts Texts Texts → Texts
branch_names b = b.label ∷ b.body

abbrev pub proc_names : Proc-F Texts Texts Texts → Texts
proc_names p = flat_map step_names p.steps ++ p.end

abbrev pub names_in_term : Proc → Texts
names_in_term = fold-Proc Texts Texts Texts end_names branch_names proc_names

abbrev pub names_in_end : End → Texts
names_in_end = fold-End Texts Texts Texts end_names branch_names proc_names

abbrev pub names_in_branch : Branch → Texts
names_in_branch = fold-Branch Texts Texts Texts end_names branch_names proc_names

-- ---- how many nodes a term has

abbrev pub end_size : End-F ℕ ℕ ℕ → ℕ
end_size (Case x first rest) = 1 + (first + sum rest)
end_size e = 1

abbrev pub branch_size : Branch-F ℕ ℕ ℕ → ℕ
branch_size b = b.body

abbrev pub proc_size : Proc-F ℕ ℕ ℕ → ℕ
proc_size p = length p.steps + p.end

abbrev pub size_of : Proc → ℕ
size_of = fold-Proc ℕ ℕ ℕ end_size branch_size proc_size

abbrev pub size_of_end : End → ℕ
size_of_end = fold-End ℕ ℕ ℕ end_size branch_size proc_size

abbrev pub size_of_branch : Branch → ℕ
size_of_branch = fold-Branch ℕ ℕ ℕ end_size branch_size proc_size

-- ---- a whole file

-- the names of the program's tables; an equation's variables have none
abbrev pub item_names : Item → Texts
item_names (item.Def n ps a) = n ∷ (ps ++ names_in_type sought.Both a)
item_names (item.Decl n ps us q x) = n ∷ (ps ++ (flat_map (λ c. c.name ∷ names_in_type sought.Both c.body) us ++ x.name ∷ names_in_type sought.Both x.body))
item_names (item.Proc x f ps ys t) = names_in_term t
item_names (item.Eq ps f a b by) = names_in_type sought.Labels a ++ names_in_type sought.Labels b
item_names (item.Exec n) = []

-- each once, in the order in which they come first
abbrev pub names_of : List Item → Texts
names_of is = once_from [] (flat_map item_names is)

abbrev pub def_names : Item → Texts
def_names (item.Def n ps a) = n ∷ []
def_names i = []

abbrev pub def_params : Item → List ℕ
def_params (item.Def n ps a) = length ps ∷ []
def_params i = []

abbrev pub decl_names : Item → Texts
decl_names (item.Decl n ps us q x) = n ∷ []
decl_names i = []

abbrev pub decl_counts : Item → List Counts
decl_counts (item.Decl n ps us q x) = record { params = length ps; channels = length us } ∷ []
decl_counts i = []

abbrev pub body_names : Item → Texts
body_names (item.Proc x f ps ys t) = f ∷ []
body_names i = []

-- for each body the place of its declaration, and how many nodes it has
abbrev pub body_sizes : Texts → Item → List (Option ℕ × ℕ)
body_sizes decls (item.Proc x f ps ys t) = (place_of f decls, size_of t) ∷ []
body_sizes decls i = []

-- put at a place, in place of what is there; nowhere if there is no such place
abbrev pub put_at : {X : Type 0} → List X → Option ℕ → X → List X
put_at {X} xs None x = xs
put_at {X} xs (Some k) x = slice_set xs k x

abbrev pub all_put : {X : Type 0} → List X → List (Option ℕ × X) → List X
all_put {X} xs [] = xs
all_put {X} xs (p ∷ ps) = all_put (put_at xs p.0 p.1) ps

-- where parts of these sizes begin, one after another
abbrev pub starts_from : ℕ → List ℕ → List ℕ
starts_from k [] = []
starts_from k (n ∷ ns) = k ∷ starts_from (k + n) ns

-- for each declaration the number of the first node of its body, where the bodies follow one another in the order of the declarations
abbrev pub starts_of : Texts → List Item → List ℕ
starts_of decls is = starts_from 0 (all_put (replicate (length decls) 0) (flat_map (body_sizes decls) is))

abbrev pub known_of : List Item → Known
known_of is =
    record {
      names = names_of is;
      types = flat_map def_names is;
      params = flat_map def_params is;
      decls = flat_map decl_names is;
      counts = flat_map decl_counts is;
      procs = flat_map body_names is;
      starts = starts_of (flat_map decl_names is) is;
    }
