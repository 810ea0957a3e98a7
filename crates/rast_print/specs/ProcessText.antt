-- The canonical text of process terms: a step a line, and branches indented.
use Rattle.std.specs.Prelude.{ℕ, List, [], codes, Option, Some, None}
use Rattle.std.specs.Fmt.{decimal}
use Rattle.rast_ast.specs.declared.Ref.{Ref}
use Rattle.rast_ast.specs.declared.Ref.TheVariants as ref
use Rattle.rast_ast.specs.declared.Lin.{Lin}
use Rattle.rast_ast.specs.declared.By.{By}
use Rattle.rast_ast.specs.declared.Step.{Step}
use Rattle.rast_ast.specs.declared.Step.TheVariants as step
use Rattle.rast_ast.specs.declared.Proc.{Proc}
use Rattle.rast_ast.specs.declared.End.{End}
use Rattle.rast_ast.specs.declared.Branch.{Branch}
use Rattle.rast_ast.specs.declared.End.TheOpen.{End-F, Proc-F, Branch-F, Close, Forward, Call, Case, Impossible}
use Rattle.rast_ast.specs.declared.End.TheFolds.{fold-End, fold-Proc, fold-Branch}
use Rattle.std.specs.List.{flat_map}
use Rattle.rast_print.specs.Joined.{◌▸◌, braced}
use Rattle.rast_print.specs.LinearText.{braced_text}
use Rattle.rast_print.specs.TypeText.{args_text}

-- a name behind a space
abbrev pub spaced_name : List ℕ → List ℕ
spaced_name n = codes " " ▸ n

abbrev pub names_text : List (List ℕ) → List ℕ
names_text names = flat_map spaced_name names

abbrev pub ref_text : Ref → List ℕ
ref_text ref.Refl = codes "refl"
ref_text (ref.Equation k args) = decimal k ▸ args_text args

-- a further reference behind a comma
abbrev pub next_ref_text : Ref → List ℕ
next_ref_text r = codes ", " ▸ ref_text r

abbrev pub by_text : By → List ℕ
by_text b = codes "by " ▸ ref_text b.first ▸ flat_map next_ref_text b.rest

-- a list of references behind a space, where there is one
abbrev pub optional_by_text : Option By → List ℕ
optional_by_text None = []
optional_by_text (Some b) = codes " " ▸ by_text b

-- f{e}.. y.. by ..
abbrev pub use_text : List ℕ → List Lin → List (List ℕ) → Option By → List ℕ
use_text f args ys by = f ▸ args_text args ▸ names_text ys ▸ optional_by_text by

abbrev pub step_text : Step → List ℕ
step_text (step.Label x l) = x ▸ codes "." ▸ l
step_text (step.Send x w by) = codes "send " ▸ x ▸ codes " " ▸ w ▸ optional_by_text by
step_text (step.Index x e) = codes "send " ▸ x ▸ codes " " ▸ braced_text e
step_text (step.Recv y x) = y ▸ codes " <- recv " ▸ x
step_text (step.Bind n x) = braced n ▸ codes " <- recv " ▸ x
step_text (step.Wait x) = codes "wait " ▸ x
step_text (step.Spawn x f args ys by) = x ▸ codes " <- " ▸ use_text f args ys by
step_text (step.Work r) = codes "work " ▸ braced_text r
step_text (step.Delay t) = codes "delay " ▸ braced_text t
step_text (step.Assert x) = codes "assert " ▸ x
step_text (step.Assume x) = codes "assume " ▸ x
step_text (step.Pay x) = codes "pay " ▸ x
step_text (step.Get x) = codes "get " ▸ x

-- the line that begins a case, and the bracket that ends it
abbrev pub case_text : List ℕ → List ℕ
case_text x = codes "case " ▸ x ▸ codes " (\n"

abbrev pub close_text : List ℕ → List ℕ
close_text indent = indent ▸ codes ")"

-- The text of a term, an end or a branch, by the blanks before its lines.
abbrev Indented : Type 0
Indented = List ℕ → List ℕ

-- blanks one level deeper
abbrev pub deeper : List ℕ → List ℕ
deeper indent = indent ▸ codes "  "

-- a step on a line of its own
abbrev pub step_line : List ℕ → Step → List ℕ
step_line indent s = indent ▸ step_text s ▸ codes " ;\n"

abbrev pub proc_step : Proc-F Indented Indented Indented → Indented
proc_step p indent = flat_map (step_line indent) p.steps ▸ indent ▸ p.end indent

abbrev pub end_step : End-F Indented Indented Indented → Indented
end_step (Close x) indent = codes "close " ▸ x
end_step (Forward x y by) indent = x ▸ codes " <-> " ▸ y ▸ optional_by_text by
end_step (Call x f args ys by) indent = x ▸ codes " <- " ▸ use_text f args ys by
end_step (Case x b bs) indent = case_text x ▸ (deeper indent ▸ b (deeper indent)) ▸ flat_map (λ b. deeper indent ▸ codes "| " ▸ b (deeper indent)) bs ▸ close_text indent
end_step Impossible indent = codes "impossible"

abbrev pub branch_step : Branch-F Indented Indented Indented → Indented
branch_step b indent = b.label ▸ codes " =>\n" ▸ b.body (deeper indent) ▸ codes "\n"

abbrev pub proc_text : Proc → List ℕ → List ℕ
proc_text = fold-Proc Indented Indented Indented end_step branch_step proc_step

abbrev pub end_text : End → List ℕ → List ℕ
end_text = fold-End Indented Indented Indented end_step branch_step proc_step

abbrev pub branch_text : Branch → List ℕ → List ℕ
branch_text = fold-Branch Indented Indented Indented end_step branch_step proc_step

-- a further branch on a line of its own
abbrev pub branch_line : List ℕ → Branch → List ℕ
branch_line indent b = indent ▸ codes "| " ▸ branch_text b indent
