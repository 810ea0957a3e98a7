-- The grammar of types: the tokens of each, and the starred nonterminals that are open at them.
use Rattle.std.specs.Prelude.{ℕ, Bool, true, false, ◌&&◌, List, [], ◌∷◌, map}
use Rattle.rast_forms.specs.Words.{all_true}
use Rattle.rast_forms.specs.Marks.{Mark, starred, joined, ◌▸◌}
use Rattle.rast_ast.specs.declared.kind.Kind.TheVariants as kind
use Rattle.rast_ast.specs.declared.term.Lin.{Lin}
use Rattle.rast_ast.specs.declared.type_expr.Prefix.{Prefix}
use Rattle.rast_ast.specs.declared.type_expr.Prefix.TheVariants as prefix
use Rattle.rast_ast.specs.declared.type_expr.TypeExpr.{TypeExpr}
use Rattle.rast_ast.specs.declared.type_expr.Atom.{Atom}
use Rattle.rast_ast.specs.declared.type_expr.Choice.{Choice}
use Rattle.rast_ast.specs.declared.type_expr.Atom.TheOpen.{TypeExpr-F, Atom-F, Choice-F, Prefixed, Atom as Alone, Tensor, Lolli, One, Plus, With, Named, Group}
use Rattle.rast_ast.specs.declared.type_expr.Atom.TheFolds.{fold-TypeExpr, fold-Atom, fold-Choice}
use Rattle.rast_ast.specs.Written.{fixed, name, number}
use Rattle.rast_ast.specs.Linear.{lin_marks}
use Rattle.rast_ast.specs.Formulas.{form_marks, form_fits}

-- "{" Lin "}"
abbrev pub braced : Lin → List Mark
braced l = fixed kind.OpenBrace ▸ lin_marks false l ▸ fixed kind.CloseBrace

-- Args = {"{" Lin "}"}
abbrev pub args_marks : List Lin → List Mark
args_marks args = joined (map braced args)

-- Prefix = "?" Id "." | "!" Id "." | "?" "{" Form "}" "." | "!" "{" Form "}" "." | "|" "{" Lin "}" ">" | "<" "{" Lin "}" "|" | "(" ")" | "(" "{" Lin "}" ")"
abbrev pub prefix_marks : Prefix → List Mark
prefix_marks (prefix.Ex n) = fixed kind.Question ▸ name n ▸ fixed kind.Dot
prefix_marks (prefix.All n) = fixed kind.Exclamation ▸ name n ▸ fixed kind.Dot
prefix_marks (prefix.Assert f) = fixed kind.Question ▸ (fixed kind.OpenBrace ▸ form_marks f ▸ fixed kind.CloseBrace) ▸ fixed kind.Dot
prefix_marks (prefix.Assume f) = fixed kind.Exclamation ▸ (fixed kind.OpenBrace ▸ form_marks f ▸ fixed kind.CloseBrace) ▸ fixed kind.Dot
prefix_marks (prefix.Pays l) = fixed kind.Bar ▸ braced l ▸ fixed kind.Greater
prefix_marks (prefix.Gets l) = fixed kind.Less ▸ braced l ▸ fixed kind.Bar
prefix_marks prefix.NextOne = fixed kind.OpenParen ▸ fixed kind.CloseParen
prefix_marks (prefix.Next l) = fixed kind.OpenParen ▸ braced l ▸ fixed kind.CloseParen

-- Type* = Prefix Type | Atom [("*" | "-o") Type]
abbrev pub type_step : TypeExpr-F (List Mark) (List Mark) (List Mark) → List Mark
type_step (Prefixed p t) = starred (prefix_marks p ▸ t)
type_step (Alone a) = starred a
type_step (Tensor a t) = starred (a ▸ fixed kind.Star ▸ t)
type_step (Lolli a t) = starred (a ▸ fixed kind.Lolli ▸ t)

-- Atom = "1" | "+" "{" Alts "}" | "&" "{" Alts "}" | Id Args | "(" Type ")"
abbrev pub atom_step : Atom-F (List Mark) (List Mark) (List Mark) → List Mark
atom_step One = number 1
atom_step (Plus c) = fixed kind.Plus ▸ fixed kind.OpenBrace ▸ c ▸ fixed kind.CloseBrace
atom_step (With c) = fixed kind.Ampersand ▸ fixed kind.OpenBrace ▸ c ▸ fixed kind.CloseBrace
atom_step (Named n args) = name n ▸ args_marks args
atom_step (Group t) = fixed kind.OpenParen ▸ t ▸ fixed kind.CloseParen

-- Alts = Id ":" Type {"," Id ":" Type}
abbrev pub choice_step : Choice-F (List Mark) (List Mark) (List Mark) → List Mark
choice_step c = (name c.label ▸ fixed kind.Colon ▸ c.body) ▸ joined (map (λ p. fixed kind.Comma ▸ name p.0 ▸ fixed kind.Colon ▸ p.1) c.rest)

abbrev pub type_marks : TypeExpr → List Mark
type_marks = fold-TypeExpr (List Mark) (List Mark) (List Mark) atom_step type_step choice_step

abbrev pub atom_marks : Atom → List Mark
atom_marks = fold-Atom (List Mark) (List Mark) (List Mark) atom_step type_step choice_step

abbrev pub choice_marks : Choice → List Mark
choice_marks = fold-Choice (List Mark) (List Mark) (List Mark) atom_step type_step choice_step

-- ---- which types the grammar has: those whose formulas it has

abbrev pub prefix_fits : Prefix → Bool
prefix_fits (prefix.Assert f) = form_fits f
prefix_fits (prefix.Assume f) = form_fits f
prefix_fits (prefix.Ex n) = true
prefix_fits (prefix.All n) = true
prefix_fits (prefix.Pays l) = true
prefix_fits (prefix.Gets l) = true
prefix_fits prefix.NextOne = true
prefix_fits (prefix.Next l) = true

abbrev pub type_proper : TypeExpr-F Bool Bool Bool → Bool
type_proper (Prefixed p t) = prefix_fits p && t
type_proper (Alone a) = a
type_proper (Tensor a t) = a && t
type_proper (Lolli a t) = a && t

abbrev pub atom_proper : Atom-F Bool Bool Bool → Bool
atom_proper One = true
atom_proper (Plus c) = c
atom_proper (With c) = c
atom_proper (Named n args) = true
atom_proper (Group t) = t

abbrev pub choice_proper : Choice-F Bool Bool Bool → Bool
choice_proper c = c.body && all_true (map (λ p. p.1) c.rest)

abbrev pub type_fits : TypeExpr → Bool
type_fits = fold-TypeExpr Bool Bool Bool atom_proper type_proper choice_proper

abbrev pub atom_fits : Atom → Bool
atom_fits = fold-Atom Bool Bool Bool atom_proper type_proper choice_proper

abbrev pub choice_fits : Choice → Bool
choice_fits = fold-Choice Bool Bool Bool atom_proper type_proper choice_proper
