-- The grammar of linear terms: the tokens of each, and the starred nonterminals that are open at them.
use Rattle.std.specs.Prelude.{ℕ, Bool, List, [], ◌∷◌, ◌++◌, map}
use Rattle.rast_forms.specs.Words.{Number}
use Rattle.rast_forms.specs.Marks.{Mark, starred, joined, ◌▸◌}
use Rattle.rast_ast.specs.declared.kind.Kind.TheVariants as kind
use Rattle.rast_ast.specs.declared.term.Sign.{Sign}
use Rattle.rast_ast.specs.declared.term.Sign.TheVariants as sign
use Rattle.rast_ast.specs.declared.term.Term.{Term}
use Rattle.rast_ast.specs.declared.term.Lin.{Lin}
use Rattle.rast_ast.specs.declared.term.Term.TheOpen.{Term-F, Lin-F, Times, Number as Constant, Variable, Group}
use Rattle.rast_ast.specs.declared.term.Term.TheFolds.{fold-Term, fold-Lin}
use Rattle.rast_ast.specs.Written.{fixed, name}

-- a number that begins a term, in a formula or elsewhere
abbrev pub beginning : Bool → ℕ → List Mark
beginning in_formula k = record { word = Number k; open_at = 0; in_formula = in_formula } ∷ []

abbrev pub sign_marks : Sign → List Mark
sign_marks sign.Plus = fixed kind.Plus
sign_marks sign.Minus = fixed kind.Minus

-- Term* = Num "*" Term | Num | Id | "(" Lin ")"
abbrev pub term_step : Bool → Term-F (List Mark) (List Mark) → List Mark
term_step in_formula (Times k t) = starred (beginning in_formula k ▸ fixed kind.Star ▸ t)
term_step in_formula (Constant k) = starred (beginning in_formula k)
term_step in_formula (Variable n) = starred (name n)
term_step in_formula (Group l) = starred (fixed kind.OpenParen ▸ l ▸ fixed kind.CloseParen)

-- Lin = Term {("+" | "-") Term}
abbrev pub lin_step : Lin-F (List Mark) (List Mark) → List Mark
lin_step l = l.first ▸ joined (map (λ t. sign_marks t.0 ▸ t.1) l.rest)

abbrev pub term_marks : Bool → Term → List Mark
term_marks in_formula = fold-Term (List Mark) (List Mark) (term_step in_formula) lin_step

abbrev pub lin_marks : Bool → Lin → List Mark
lin_marks in_formula = fold-Lin (List Mark) (List Mark) (term_step in_formula) lin_step
