-- The canonical text of a type is cut into its tokens.
use Rattle.std.proofs.Common.{ℕ, false, List, ◌++◌, map, codes, refl}
use Rattle.std.specs.List.{flat_map}
use Rattle.rast_forms.specs.Marks.{Mark, joined}
use Rattle.rast_ast.specs.declared.kind.Kind.TheVariants as kind
use Rattle.rast_ast.specs.declared.type_expr.Prefix.{Prefix}
use Rattle.rast_ast.specs.declared.type_expr.Prefix.TheVariants as prefix
use Rattle.rast_ast.specs.declared.type_expr.TypeExpr.{TypeExpr, roll-TypeExpr}
use Rattle.rast_ast.specs.declared.type_expr.Atom.{Atom, roll-Atom}
use Rattle.rast_ast.specs.declared.type_expr.Choice.{Choice, roll-Choice}
use Rattle.rast_ast.specs.declared.type_expr.Atom.TheOpen.{TypeExpr-F, Atom-F, Choice-F, Prefixed, Atom as Alone, Tensor, Lolli, One, Plus, With, Named, Group}
use Rattle.rast_ast.specs.declared.type_expr.Atom.TheFolds.{map-TypeExpr, map-Atom, map-Choice, fold-roll-TypeExpr, fold-roll-Atom, fold-roll-Choice}
use Rattle.rast_ast.specs.Written.{fixed, name}
use Rattle.rast_ast.specs.Types as grammar
use Rattle.rast_print.specs.LinearText.{braced_text}
use Rattle.rast_print.specs.TypeText.{prefix_text, type_step, atom_step, choice_step, labelled, type_text, atom_text, choice_text}
use Rattle.rast_print.proofs.Induction.{Such, each_type}
use Rattle.rast_print.proofs.Cutting.{MayFollow, Cut, next, ◌▷◌, open_cut, weaker, as_is, regroup, list_begins, parts_begin, parts_cut}
use Rattle.rast_print.proofs.Tokens as text
use Rattle.rast_print.proofs.LinearCut.{braced_cut, args_cut}
use Rattle.rast_print.proofs.FormulaCut.{braced_form_cut}

-- a prefix and a space, before what goes on
prefix_cut : (p : Prefix) {x : List ℕ} {ms : List Mark} → Cut false x ms → Cut false (prefix_text p ++ (codes " " ++ x)) (grammar.prefix_marks p ++ ms)
prefix_cut (prefix.Ex n) {x = x} {ms = ms} c = text.question ▷ regroup n (codes ".") (codes " " ++ x) (name n) (fixed kind.Dot) ms (next (text.name_cut n) (λ r h. refl) (text.dot_space ▷ c))
prefix_cut (prefix.All n) {x = x} {ms = ms} c = text.exclamation ▷ regroup n (codes ".") (codes " " ++ x) (name n) (fixed kind.Dot) ms (next (text.name_cut n) (λ r h. refl) (text.dot_space ▷ c))
prefix_cut (prefix.Assert f) c = text.question ▷ ((braced_form_cut f ▷ text.dot) ▷ (text.blank_cut 32 refl ▷ c))
prefix_cut (prefix.Assume f) c = text.exclamation ▷ ((braced_form_cut f ▷ text.dot) ▷ (text.blank_cut 32 refl ▷ c))
prefix_cut (prefix.Pays l) {x = x} {ms = ms} c = text.bar ▷ regroup (braced_text l) (codes ">") (codes " " ++ x) (grammar.braced l) (fixed kind.Greater) ms (braced_cut l ▷ (text.greater_space ▷ c))
prefix_cut (prefix.Gets l) c = (text.less_before (braced_cut l ▷ text.bar)) ▷ (text.blank_cut 32 refl ▷ c)
prefix_cut prefix.NextOne c = (text.open_paren ▷ text.close_paren) ▷ (text.blank_cut 32 refl ▷ c)
prefix_cut (prefix.Next l) c = (text.open_paren ▷ (braced_cut l ▷ text.close_paren)) ▷ (text.blank_cut 32 refl ▷ c)

abbrev AtomCut : Atom → Type 0
AtomCut a = Cut false (atom_text a) (grammar.atom_marks a)

abbrev TypeCut : TypeExpr → Type 0
TypeCut a = Cut false (type_text a) (grammar.type_marks a)

abbrev ChoiceCut : Choice → Type 0
ChoiceCut c = Cut false (choice_text c) (grammar.choice_marks c)

-- a tree from its parts: its text and its tokens are those of its layer
atom_by : (y : Atom-F Atom TypeExpr Choice) → Cut false (atom_step (map-Atom Atom TypeExpr Choice (List ℕ) (List ℕ) (List ℕ) atom_text type_text choice_text y)) (grammar.atom_step (map-Atom Atom TypeExpr Choice (List Mark) (List Mark) (List Mark) grammar.atom_marks grammar.type_marks grammar.choice_marks y)) → AtomCut (roll-Atom y)
atom_by y = as_is (fold-roll-Atom (List ℕ) (List ℕ) (List ℕ) atom_step type_step choice_step y) (fold-roll-Atom (List Mark) (List Mark) (List Mark) grammar.atom_step grammar.type_step grammar.choice_step y)

type_by : (y : TypeExpr-F Atom TypeExpr Choice) → Cut false (type_step (map-TypeExpr Atom TypeExpr Choice (List ℕ) (List ℕ) (List ℕ) atom_text type_text choice_text y)) (grammar.type_step (map-TypeExpr Atom TypeExpr Choice (List Mark) (List Mark) (List Mark) grammar.atom_marks grammar.type_marks grammar.choice_marks y)) → TypeCut (roll-TypeExpr y)
type_by y = as_is (fold-roll-TypeExpr (List ℕ) (List ℕ) (List ℕ) atom_step type_step choice_step y) (fold-roll-TypeExpr (List Mark) (List Mark) (List Mark) grammar.atom_step grammar.type_step grammar.choice_step y)

choice_by : (y : Choice-F Atom TypeExpr Choice) → Cut false (choice_step (map-Choice Atom TypeExpr Choice (List ℕ) (List ℕ) (List ℕ) atom_text type_text choice_text y)) (grammar.choice_step (map-Choice Atom TypeExpr Choice (List Mark) (List Mark) (List Mark) grammar.atom_marks grammar.type_marks grammar.choice_marks y)) → ChoiceCut (roll-Choice y)
choice_by y = as_is (fold-roll-Choice (List ℕ) (List ℕ) (List ℕ) atom_step type_step choice_step y) (fold-roll-Choice (List Mark) (List Mark) (List Mark) grammar.atom_step grammar.type_step grammar.choice_step y)

atom_at : (y : Atom-F (Such AtomCut) (Such TypeCut) (Such ChoiceCut)) → AtomCut (roll-Atom (map-Atom (Such AtomCut) (Such TypeCut) (Such ChoiceCut) Atom TypeExpr Choice (λ e. e.0) (λ e. e.0) (λ e. e.0) y))
atom_at One = atom_by One text.one_number
atom_at (Plus c) = atom_by (Plus c.0) (weaker (text.plus ▷ (text.open_brace ▷ next c.1 (λ r h. refl) text.close_brace)))
atom_at (With c) = atom_by (With c.0) (weaker (text.ampersand ▷ (text.open_brace ▷ next c.1 (λ r h. refl) text.close_brace)))
atom_at (Named n args) = atom_by (Named n args) (next (text.name_cut n) (list_begins false braced_text grammar.braced (λ a z. refl) args) (weaker (args_cut args)))
atom_at (Group t) = atom_by (Group t.0) (weaker (text.open_paren ▷ next t.1 (λ r h. refl) text.close_paren))

type_at : (y : TypeExpr-F (Such AtomCut) (Such TypeCut) (Such ChoiceCut)) → TypeCut (roll-TypeExpr (map-TypeExpr (Such AtomCut) (Such TypeCut) (Such ChoiceCut) Atom TypeExpr Choice (λ e. e.0) (λ e. e.0) (λ e. e.0) y))
type_at (Prefixed p t) = type_by (Prefixed p t.0) (open_cut (prefix_cut p t.1))
type_at (Alone a) = type_by (Alone a.0) (open_cut a.1)
type_at (Tensor a t) = type_by (Tensor a.0 t.0) (open_cut (next a.1 (λ r h. refl) (text.spaced_star ▷ t.1)))
type_at (Lolli a t) = type_by (Lolli a.0 t.0) (open_cut (next a.1 (λ r h. refl) (text.spaced_lolli ▷ t.1)))

labelled_cut : (l : List ℕ) (t : Such TypeCut) → Cut false (labelled l (type_text t.0)) (name l ++ (fixed kind.Colon ++ grammar.type_marks t.0))
labelled_cut l t = next (text.name_cut l) (λ r h. refl) (text.spaced_colon ▷ t.1)

module _ (ps : List (List ℕ × Such TypeCut)) where
  labels_begin : (r : List ℕ) → MayFollow false r → MayFollow false (flat_map (λ (p : List ℕ × List ℕ). codes ", " ++ labelled p.0 p.1) (map (λ (p : List ℕ × TypeExpr). (p.0, type_text p.1)) (map (λ (p : List ℕ × Such TypeCut). (p.0, p.1.0)) ps)) ++ r)
  labels_begin = parts_begin false (λ (p : List ℕ × List ℕ). codes ", " ++ labelled p.0 p.1) (λ (p : List ℕ × TypeExpr). (p.0, type_text p.1)) (λ (p : List ℕ × List Mark). fixed kind.Comma ++ (name p.0 ++ (fixed kind.Colon ++ p.1))) (λ (p : List ℕ × TypeExpr). (p.0, grammar.type_marks p.1)) (λ (p : List ℕ × Such TypeCut). (p.0, p.1.0))
      (λ a z. refl) ps

  labels_cut : Cut false (flat_map (λ (p : List ℕ × List ℕ). codes ", " ++ labelled p.0 p.1) (map (λ (p : List ℕ × TypeExpr). (p.0, type_text p.1)) (map (λ (p : List ℕ × Such TypeCut). (p.0, p.1.0)) ps)))
      (joined (map (λ (p : List ℕ × List Mark). fixed kind.Comma ++ (name p.0 ++ (fixed kind.Colon ++ p.1))) (map (λ (p : List ℕ × TypeExpr). (p.0, grammar.type_marks p.1)) (map (λ (p : List ℕ × Such TypeCut). (p.0, p.1.0)) ps))))
  labels_cut = parts_cut false (λ (p : List ℕ × List ℕ). codes ", " ++ labelled p.0 p.1) (λ (p : List ℕ × TypeExpr). (p.0, type_text p.1)) (λ (p : List ℕ × List Mark). fixed kind.Comma ++ (name p.0 ++ (fixed kind.Colon ++ p.1))) (λ (p : List ℕ × TypeExpr). (p.0, grammar.type_marks p.1)) (λ (p : List ℕ × Such TypeCut). (p.0, p.1.0))
      (λ a. text.comma_space ▷ labelled_cut a.0 a.1) (λ a z. refl) ps

choice_at : (y : Choice-F (Such AtomCut) (Such TypeCut) (Such ChoiceCut)) → ChoiceCut (roll-Choice (map-Choice (Such AtomCut) (Such TypeCut) (Such ChoiceCut) Atom TypeExpr Choice (λ e. e.0) (λ e. e.0) (λ e. e.0) y))
choice_at y = choice_by (map-Choice (Such AtomCut) (Such TypeCut) (Such ChoiceCut) Atom TypeExpr Choice (λ e. e.0) (λ e. e.0) (λ e. e.0) y)
    (next (labelled_cut y.label y.body) (labels_begin y.rest) (labels_cut y.rest))

pub type_cut : (a : TypeExpr) → Cut false (type_text a) (grammar.type_marks a)
type_cut = each_type AtomCut TypeCut ChoiceCut atom_at type_at choice_at
