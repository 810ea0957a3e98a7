-- The canonical text of linear terms.
use Rattle.std.specs.Prelude.{ℕ, List, codes}
use Rattle.std.specs.Fmt.{decimal}
use Rattle.rast_ast.specs.declared.Sign.{Sign}
use Rattle.rast_ast.specs.declared.Sign.TheVariants as sign
use Rattle.rast_ast.specs.declared.Lin.{Lin}
use Rattle.rast_ast.specs.declared.Term.{Term}
use Rattle.rast_ast.specs.declared.Term.TheOpen.{Term-F, Lin-F, Times, Number, Variable, Group}
use Rattle.rast_ast.specs.declared.Term.TheFolds.{fold-Term, fold-Lin}
use Rattle.std.specs.List.{flat_map}
use Rattle.rast_print.specs.Joined.{◌▸◌, braced}

abbrev pub sign_text : Sign → List ℕ
sign_text sign.Plus = codes " + "
sign_text sign.Minus = codes " - "

abbrev pub term_step : Term-F (List ℕ) (List ℕ) → List ℕ
term_step (Times k t) = decimal k ▸ codes " * " ▸ t
term_step (Number k) = decimal k
term_step (Variable n) = n
term_step (Group l) = codes "(" ▸ l ▸ codes ")"

abbrev pub lin_step : Lin-F (List ℕ) (List ℕ) → List ℕ
lin_step l = l.first ▸ flat_map (λ t. sign_text t.0 ▸ t.1) l.rest

abbrev pub term_text : Term → List ℕ
term_text = fold-Term (List ℕ) (List ℕ) term_step lin_step

abbrev pub lin_text : Lin → List ℕ
lin_text = fold-Lin (List ℕ) (List ℕ) term_step lin_step

-- a further term behind its sign
abbrev pub signed_text : Sign × Term → List ℕ
signed_text t = sign_text t.0 ▸ term_text t.1

-- {e}
abbrev pub braced_text : Lin → List ℕ
braced_text l = braced (lin_text l)
