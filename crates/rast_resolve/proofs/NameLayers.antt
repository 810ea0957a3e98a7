-- The names in a tree, from those in its parts.
use Rattle.std.proofs.Common.{◌≡◌, List, ◌++◌, sym, ◌∙◌, ap, ap₂, append_assoc}
use Rattle.std.specs.List.{flat_map}
use Rattle.std.proofs.lemmas.List.Folds.{flat_map-map}
use Rattle.rast_ast.specs.declared.type_expr.TypeExpr.{TypeExpr}
use Rattle.rast_ast.specs.declared.type_expr.Choice.{Choice}
use Rattle.rast_ast.specs.declared.type_expr.Atom.TheFolds.{fold_out-Choice}
use Rattle.rast_ast.specs.declared.process.Branch.{Branch}
use Rattle.rast_ast.specs.declared.process.End.{End}
use Rattle.rast_ast.specs.declared.process.End.TheVariants as ending
use Rattle.rast_ast.specs.declared.process.End.TheOpen.{Case}
use Rattle.rast_ast.specs.declared.process.End.TheFolds.{fold-roll-End}
use Rattle.rast_resolve.specs.declared.gather.Sought.{Sought}
use Rattle.rast_resolve.specs.Scopes.{Text, Texts}
use Rattle.rast_resolve.specs.Names as names
use Rattle.rast_resolve.specs.Names.{only, has_labels, names_in_type, names_in_choice, names_in_end, names_in_branch}

module _ (s : Sought) where
  choice_names_at : (c : Choice) → names_in_choice s c ≡ only (has_labels s) c.label ++ (names_in_type s c.body ++ flat_map (λ e. only (has_labels s) e.0 ++ names_in_type s e.1) c.rest)
  choice_names_at c = fold_out-Choice Texts Texts Texts names.atom_step (names.type_step s) (names.choice_step s) c
      ∙ ap (λ z. only (has_labels s) c.label ++ (names_in_type s c.body ++ z)) (flat_map-map (λ (e : Text × Texts). only (has_labels s) e.0 ++ e.1) (λ (e : Text × TypeExpr). (e.0, names_in_type s e.1)) c.rest)

  pub choice_put : (c : Choice) (es : List (Text × TypeExpr)) (old one two three : Texts) → es ≡ c.rest → one ≡ old ++ only (has_labels s) c.label → two ≡ one ++ names_in_type s c.body
      → three ≡ two ++ flat_map (λ e. only (has_labels s) e.0 ++ names_in_type s e.1) es → three ≡ old ++ names_in_choice s c
  choice_put c es old one two three same f g h =
      h ∙ ap₂ (λ z y. z ++ flat_map (λ e. only (has_labels s) e.0 ++ names_in_type s e.1) y) (g ∙ ap (λ z. z ++ names_in_type s c.body) f) same
      ∙ append_assoc (old ++ only (has_labels s) c.label) (names_in_type s c.body) _ ∙ append_assoc old (only (has_labels s) c.label) _ ∙ ap (λ z. old ++ z) (sym (choice_names_at c))

case_names_at : (x : Text) (b : Branch) (bs : List Branch) → names_in_end (ending.Case x b bs) ≡ names_in_branch b ++ flat_map names_in_branch bs
case_names_at x b bs = ap names_in_end (sym (ending.rolls-Case x b bs)) ∙ fold-roll-End Texts Texts Texts names.end_names names.branch_names names.proc_names (Case x b bs)
    ∙ ap (λ z. names_in_branch b ++ z) (flat_map-map (λ (t : Texts). t) names_in_branch bs)

pub case_put : (e : End) (x : Text) (b : Branch) (bs more : List Branch) (old one two : Texts) → e ≡ ending.Case x b bs → more ≡ bs → one ≡ old ++ names_in_branch b → two ≡ one ++ flat_map names_in_branch more → two ≡ old ++ names_in_end e
case_put e x b bs more old one two is same f g =
    g ∙ ap₂ (λ z y. z ++ flat_map names_in_branch y) f same ∙ append_assoc old (names_in_branch b) (flat_map names_in_branch bs) ∙ ap (λ z. old ++ z) (sym (ap names_in_end is ∙ case_names_at x b bs))
