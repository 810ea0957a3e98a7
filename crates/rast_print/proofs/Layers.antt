-- The canonical text of a tree whose parts are a list, from theirs.
use Rattle.std.proofs.Common.{◌≡◌, ℕ, List, ◌++◌, codes, ap, ap₂, sym, ◌∙◌}
use Rattle.std.specs.List.{flat_map}
use Rattle.std.proofs.lemmas.List.Folds.{flat_map-map}
use Rattle.rast_ast.specs.declared.Lin.{Lin}
use Rattle.rast_ast.specs.declared.Term.TheFolds.{fold_out-Lin}
use Rattle.rast_print.specs.LinearText.{sign_text, signed_text, term_step, lin_step, term_text, lin_text}
use Rattle.rast_ast.specs.declared.Disjunction.{Disjunction, out-Disjunction}
use Rattle.rast_ast.specs.declared.Conjunction.{Conjunction, out-Conjunction}
use Rattle.rast_ast.specs.declared.Choice.{Choice}
use Rattle.rast_ast.specs.declared.Form.TheFolds.{fold_out-Disjunction, fold_out-Conjunction}
use Rattle.rast_ast.specs.declared.Atom.TheFolds.{fold_out-Choice}
use Rattle.rast_print.specs.FormulaText.{form_step, literal_step, conjunction_step, disjunction_step, literal_text, conjunction_text, disjunction_text, or_text, and_text}
use Rattle.rast_print.specs.TypeText.{atom_step, type_step, choice_step, type_text, choice_text, labelled, label_text}
use Rattle.rast_ast.specs.declared.process.End.{End}
use Rattle.rast_ast.specs.declared.process.End.TheVariants as ending
use Rattle.rast_ast.specs.declared.process.End.TheOpen.{Case}
use Rattle.rast_ast.specs.declared.process.End.TheFolds.{fold-roll-End}
use Rattle.rast_ast.specs.declared.process.Branch.{Branch}
use Rattle.rast_print.specs.ProcessText.{deeper, case_text, close_text, end_text, branch_text, branch_line, end_step, branch_step, proc_step}
use Rattle.rast_print.proofs.Appended.{four}

pub lin_at : (l : Lin) → lin_text l ≡ term_text l.first ++ flat_map signed_text l.rest
lin_at l = fold_out-Lin (List ℕ) (List ℕ) term_step lin_step l ∙ ap (λ z. term_text l.first ++ z) (flat_map-map (λ t. sign_text t.0 ++ t.1) (λ t. (t.0, term_text t.1)) l.rest)

pub disjunction_at : (d : Disjunction) → disjunction_text d ≡ conjunction_text (out-Disjunction d).first ++ flat_map or_text (out-Disjunction d).rest
disjunction_at d = fold_out-Disjunction (List ℕ) (List ℕ) (List ℕ) (List ℕ) form_step literal_step conjunction_step disjunction_step d ∙ ap (λ z. conjunction_text (out-Disjunction d).first ++ z) (flat_map-map (λ c. codes " \\/ " ++ c) conjunction_text (out-Disjunction d).rest)

pub conjunction_at : (c : Conjunction) → conjunction_text c ≡ literal_text (out-Conjunction c).first ++ flat_map and_text (out-Conjunction c).rest
conjunction_at c = fold_out-Conjunction (List ℕ) (List ℕ) (List ℕ) (List ℕ) form_step literal_step conjunction_step disjunction_step c ∙ ap (λ z. literal_text (out-Conjunction c).first ++ z) (flat_map-map (λ l. codes " /\\ " ++ l) literal_text (out-Conjunction c).rest)

pub choice_at : (c : Choice) → choice_text c ≡ labelled c.label (type_text c.body) ++ flat_map label_text c.rest
choice_at c = fold_out-Choice (List ℕ) (List ℕ) (List ℕ) atom_step type_step choice_step c ∙ ap (λ z. labelled c.label (type_text c.body) ++ z) (flat_map-map (λ p. codes ", " ++ labelled p.0 p.1) (λ p. (p.0, type_text p.1)) c.rest)

pub case_at : (x : List ℕ) (b : Branch) (bs : List Branch) (indent : List ℕ) → end_text (ending.Case x b bs) indent ≡ case_text x ++ ((deeper indent ++ branch_text b (deeper indent)) ++ (flat_map (branch_line (deeper indent)) bs ++ close_text indent))
case_at x b bs indent = ap (λ (e : End). end_text e indent) (sym (ending.rolls-Case x b bs))
    ∙ ap (λ (f : List ℕ → List ℕ). f indent) (fold-roll-End (List ℕ → List ℕ) (List ℕ → List ℕ) (List ℕ → List ℕ) end_step branch_step proc_step (Case x b bs))
    ∙ ap (λ z. case_text x ++ ((deeper indent ++ branch_text b (deeper indent)) ++ (z ++ close_text indent))) (flat_map-map (λ (t : List ℕ → List ℕ). deeper indent ++ (codes "| " ++ t (deeper indent))) branch_text bs)

-- a case that was appended in steps, behind blanks that were made for its branches
pub case_put : (e : End) (x : List ℕ) (b : Branch) (bs rest : List Branch) (indent made also old one two three new : List ℕ) → e ≡ ending.Case x b bs → made ≡ deeper indent → also ≡ deeper indent → rest ≡ bs
    → one ≡ old ++ case_text x → two ≡ one ++ (made ++ branch_text b made) → three ≡ two ++ flat_map (branch_line also) rest → new ≡ three ++ close_text indent → new ≡ old ++ end_text e indent
case_put e x b bs rest indent made also old one two three new is m a r f g h k =
    let second : two ≡ one ++ (deeper indent ++ branch_text b (deeper indent)) = g ∙ ap (λ z. one ++ (z ++ branch_text b z)) m in
    let third : three ≡ two ++ flat_map (branch_line (deeper indent)) bs = h ∙ ap₂ (λ z w. two ++ flat_map (branch_line z) w) a r in
    four old (case_text x) (deeper indent ++ branch_text b (deeper indent)) (flat_map (branch_line (deeper indent)) bs) (close_text indent) f second third k (ap (λ (z : End). end_text z indent) is ∙ case_at x b bs indent)
