-- The canonical text of types.
use Rattle.std.specs.Prelude.{ℕ, List, codes}
use Rattle.rast_ast.specs.declared.Lin.{Lin}
use Rattle.rast_ast.specs.declared.Prefix.{Prefix}
use Rattle.rast_ast.specs.declared.Prefix.TheVariants as prefix
use Rattle.rast_ast.specs.declared.TypeExpr.{TypeExpr}
use Rattle.rast_ast.specs.declared.Atom.{Atom}
use Rattle.rast_ast.specs.declared.Choice.{Choice}
use Rattle.rast_ast.specs.declared.Atom.TheOpen.{TypeExpr-F, Atom-F, Choice-F, Prefixed, Atom as Alone, Tensor, Lolli, One, Plus, With, Named, Group}
use Rattle.rast_ast.specs.declared.Atom.TheFolds.{fold-TypeExpr, fold-Atom, fold-Choice}
use Rattle.std.specs.List.{flat_map}
use Rattle.rast_print.specs.Joined.{◌▸◌, braced}
use Rattle.rast_print.specs.LinearText.{braced_text}
use Rattle.rast_print.specs.FormulaText.{form_text}

-- {e}..
abbrev pub args_text : List Lin → List ℕ
args_text args = flat_map braced_text args

abbrev pub prefix_text : Prefix → List ℕ
prefix_text (prefix.Ex n) = codes "?" ▸ n ▸ codes "."
prefix_text (prefix.All n) = codes "!" ▸ n ▸ codes "."
prefix_text (prefix.Assert f) = codes "?" ▸ braced (form_text f) ▸ codes "."
prefix_text (prefix.Assume f) = codes "!" ▸ braced (form_text f) ▸ codes "."
prefix_text (prefix.Pays l) = codes "|" ▸ braced_text l ▸ codes ">"
prefix_text (prefix.Gets l) = codes "<" ▸ braced_text l ▸ codes "|"
prefix_text prefix.NextOne = codes "()"
prefix_text (prefix.Next l) = codes "(" ▸ braced_text l ▸ codes ")"

abbrev pub type_step : TypeExpr-F (List ℕ) (List ℕ) (List ℕ) → List ℕ
type_step (Prefixed p t) = prefix_text p ▸ codes " " ▸ t
type_step (Alone a) = a
type_step (Tensor a t) = a ▸ codes " * " ▸ t
type_step (Lolli a t) = a ▸ codes " -o " ▸ t

abbrev pub atom_step : Atom-F (List ℕ) (List ℕ) (List ℕ) → List ℕ
atom_step One = codes "1"
atom_step (Plus c) = codes "+{" ▸ c ▸ codes "}"
atom_step (With c) = codes "&{" ▸ c ▸ codes "}"
atom_step (Named n args) = n ▸ args_text args
atom_step (Group t) = codes "(" ▸ t ▸ codes ")"

-- l : A
abbrev pub labelled : List ℕ → List ℕ → List ℕ
labelled label body = label ▸ codes " : " ▸ body

abbrev pub choice_step : Choice-F (List ℕ) (List ℕ) (List ℕ) → List ℕ
choice_step c = labelled c.label c.body ▸ flat_map (λ p. codes ", " ▸ labelled p.0 p.1) c.rest

abbrev pub type_text : TypeExpr → List ℕ
type_text = fold-TypeExpr (List ℕ) (List ℕ) (List ℕ) atom_step type_step choice_step

abbrev pub atom_text : Atom → List ℕ
atom_text = fold-Atom (List ℕ) (List ℕ) (List ℕ) atom_step type_step choice_step

abbrev pub choice_text : Choice → List ℕ
choice_text = fold-Choice (List ℕ) (List ℕ) (List ℕ) atom_step type_step choice_step

-- a further label with its type, behind a comma
abbrev pub label_text : List ℕ × TypeExpr → List ℕ
label_text p = codes ", " ▸ labelled p.0 (type_text p.1)
