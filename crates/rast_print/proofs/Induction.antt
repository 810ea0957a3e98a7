-- Induction on trees: a claim holds of each tree, if it holds of each whose parts have it.
use Rattle.std.proofs.Common.{subst}
use Rattle.rast_ast.specs.declared.term.Term.{Term, roll-Term}
use Rattle.rast_ast.specs.declared.term.Lin.{Lin, roll-Lin}
use Rattle.rast_ast.specs.declared.term.Term.TheOpen.{Term-F, Lin-F}
use Rattle.rast_ast.specs.declared.term.Term.TheFolds.{map-Term, map-Lin, ind-Term, ind-Lin}
use Rattle.rast_ast.specs.declared.form.Form.{Form, roll-Form}
use Rattle.rast_ast.specs.declared.form.Literal.{Literal, roll-Literal}
use Rattle.rast_ast.specs.declared.form.Conjunction.{Conjunction, roll-Conjunction}
use Rattle.rast_ast.specs.declared.form.Disjunction.{Disjunction, roll-Disjunction}
use Rattle.rast_ast.specs.declared.form.Form.TheOpen.{Form-F, Literal-F, Conjunction-F, Disjunction-F}
use Rattle.rast_ast.specs.declared.form.Form.TheFolds.{map-Form, map-Literal, map-Conjunction, map-Disjunction, ind-Form}
use Rattle.rast_ast.specs.declared.type_expr.TypeExpr.{TypeExpr, roll-TypeExpr}
use Rattle.rast_ast.specs.declared.type_expr.Atom.{Atom, roll-Atom}
use Rattle.rast_ast.specs.declared.type_expr.Choice.{Choice, roll-Choice}
use Rattle.rast_ast.specs.declared.type_expr.Atom.TheOpen.{TypeExpr-F, Atom-F, Choice-F}
use Rattle.rast_ast.specs.declared.type_expr.Atom.TheFolds.{map-TypeExpr, map-Atom, map-Choice, ind-TypeExpr}
use Rattle.rast_ast.specs.declared.process.Proc.{Proc, roll-Proc}
use Rattle.rast_ast.specs.declared.process.End.{End, roll-End}
use Rattle.rast_ast.specs.declared.process.Branch.{Branch, roll-Branch}
use Rattle.rast_ast.specs.declared.process.End.TheOpen.{Proc-F, End-F, Branch-F}
use Rattle.rast_ast.specs.declared.process.End.TheFolds.{map-Proc, map-End, map-Branch, ind-Proc}

-- a tree with a claim on it
abbrev pub Such : {T : Type 0} → (T → Type 0) → Type 0
Such {T} P = (t : T) × P t

module _ (P : Term → Type 0) (Q : Lin → Type 0)
    (term : (y : Term-F (Such P) (Such Q)) → P (roll-Term (map-Term (Such P) (Such Q) Term Lin (λ e. e.0) (λ e. e.0) y)))
    (lin : (y : Lin-F (Such P) (Such Q)) → Q (roll-Lin (map-Lin (Such P) (Such Q) Term Lin (λ e. e.0) (λ e. e.0) y))) where
  pub each_term : (t : Term) → P t
  each_term = ind-Term P Q (λ x y e. subst (λ z. P (roll-Term z)) e (term y)) (λ x y e. subst (λ z. Q (roll-Lin z)) e (lin y))

  pub each_lin : (l : Lin) → Q l
  each_lin = ind-Lin P Q (λ x y e. subst (λ z. P (roll-Term z)) e (term y)) (λ x y e. subst (λ z. Q (roll-Lin z)) e (lin y))

module _ (P : Form → Type 0) (Q : Literal → Type 0) (R : Conjunction → Type 0) (S : Disjunction → Type 0)
    (form : (y : Form-F (Such P) (Such Q) (Such R) (Such S)) → P (roll-Form (map-Form (Such P) (Such Q) (Such R) (Such S) Form Literal Conjunction Disjunction (λ e. e.0) (λ e. e.0) (λ e. e.0) (λ e. e.0) y)))
    (literal : (y : Literal-F (Such P) (Such Q) (Such R) (Such S)) → Q (roll-Literal (map-Literal (Such P) (Such Q) (Such R) (Such S) Form Literal Conjunction Disjunction (λ e. e.0) (λ e. e.0) (λ e. e.0) (λ e. e.0) y)))
    (conjunction : (y : Conjunction-F (Such P) (Such Q) (Such R) (Such S)) → R (roll-Conjunction (map-Conjunction (Such P) (Such Q) (Such R) (Such S) Form Literal Conjunction Disjunction (λ e. e.0) (λ e. e.0) (λ e. e.0) (λ e. e.0) y)))
    (disjunction : (y : Disjunction-F (Such P) (Such Q) (Such R) (Such S)) → S (roll-Disjunction (map-Disjunction (Such P) (Such Q) (Such R) (Such S) Form Literal Conjunction Disjunction (λ e. e.0) (λ e. e.0) (λ e. e.0) (λ e. e.0) y))) where
  pub each_form : (f : Form) → P f
  each_form = ind-Form P Q R S (λ x y e. subst (λ z. P (roll-Form z)) e (form y)) (λ x y e. subst (λ z. Q (roll-Literal z)) e (literal y)) (λ x y e. subst (λ z. R (roll-Conjunction z)) e (conjunction y)) (λ x y e. subst (λ z. S (roll-Disjunction z)) e (disjunction y))

module _ (P : Atom → Type 0) (Q : TypeExpr → Type 0) (R : Choice → Type 0)
    (atom : (y : Atom-F (Such P) (Such Q) (Such R)) → P (roll-Atom (map-Atom (Such P) (Such Q) (Such R) Atom TypeExpr Choice (λ e. e.0) (λ e. e.0) (λ e. e.0) y)))
    (type_expr : (y : TypeExpr-F (Such P) (Such Q) (Such R)) → Q (roll-TypeExpr (map-TypeExpr (Such P) (Such Q) (Such R) Atom TypeExpr Choice (λ e. e.0) (λ e. e.0) (λ e. e.0) y)))
    (choice : (y : Choice-F (Such P) (Such Q) (Such R)) → R (roll-Choice (map-Choice (Such P) (Such Q) (Such R) Atom TypeExpr Choice (λ e. e.0) (λ e. e.0) (λ e. e.0) y))) where
  pub each_type : (a : TypeExpr) → Q a
  each_type = ind-TypeExpr P Q R (λ x y e. subst (λ z. P (roll-Atom z)) e (atom y)) (λ x y e. subst (λ z. Q (roll-TypeExpr z)) e (type_expr y)) (λ x y e. subst (λ z. R (roll-Choice z)) e (choice y))

module _ (P : End → Type 0) (Q : Branch → Type 0) (R : Proc → Type 0)
    (ending : (y : End-F (Such P) (Such Q) (Such R)) → P (roll-End (map-End (Such P) (Such Q) (Such R) End Branch Proc (λ e. e.0) (λ e. e.0) (λ e. e.0) y)))
    (branch : (y : Branch-F (Such P) (Such Q) (Such R)) → Q (roll-Branch (map-Branch (Such P) (Such Q) (Such R) End Branch Proc (λ e. e.0) (λ e. e.0) (λ e. e.0) y)))
    (proc : (y : Proc-F (Such P) (Such Q) (Such R)) → R (roll-Proc (map-Proc (Such P) (Such Q) (Such R) End Branch Proc (λ e. e.0) (λ e. e.0) (λ e. e.0) y))) where
  pub each_proc : (p : Proc) → R p
  each_proc = ind-Proc P Q R (λ x y e. subst (λ z. P (roll-End z)) e (ending y)) (λ x y e. subst (λ z. Q (roll-Branch z)) e (branch y)) (λ x y e. subst (λ z. R (roll-Proc z)) e (proc y))
