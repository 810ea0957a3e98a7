-- The grammar of process terms: the tokens of each, and the starred nonterminals that are open at them.
use Rattle.std.specs.Prelude.{ℕ, Bool, true, false, ◌&&◌, ◌||◌, List, [], ◌∷◌, map, Option, Some, None, is_none}
use Rattle.rast_forms.specs.Words.{all_true}
use Rattle.rast_forms.specs.Marks.{Mark, starred, joined, ◌▸◌}
use Rattle.rast_ast.specs.declared.kind.Kind.TheVariants as kind
use Rattle.rast_ast.specs.declared.process.Ref.{Ref}
use Rattle.rast_ast.specs.declared.process.Ref.TheVariants as ref
use Rattle.rast_ast.specs.declared.process.By.{By}
use Rattle.rast_ast.specs.declared.process.Step.{Step}
use Rattle.rast_ast.specs.declared.process.Step.TheVariants as step
use Rattle.rast_ast.specs.declared.process.Proc.{Proc}
use Rattle.rast_ast.specs.declared.process.Branch.{Branch}
use Rattle.rast_ast.specs.declared.process.End.{End}
use Rattle.rast_ast.specs.declared.process.End.TheOpen.{End-F, Proc-F, Branch-F, Close, Forward, Call, Case, Impossible}
use Rattle.rast_ast.specs.declared.process.End.TheFolds.{fold-End, fold-Proc, fold-Branch}
use Rattle.rast_ast.specs.Written.{fixed, name, number}
use Rattle.rast_ast.specs.Types.{braced, args_marks}

-- {Id}
abbrev pub names_marks : List (List ℕ) → List Mark
names_marks ns = joined (map name ns)

-- Ref = "refl" | Num Args
abbrev pub ref_marks : Ref → List Mark
ref_marks ref.Refl = fixed kind.Refl
ref_marks (ref.Equation k args) = number k ▸ args_marks args

-- By = "by" Ref {"," Ref}
abbrev pub by_marks : By → List Mark
by_marks b = fixed kind.By ▸ ref_marks b.first ▸ joined (map (λ r. fixed kind.Comma ▸ ref_marks r) b.rest)

-- [By]
abbrev pub optional_by : Option By → List Mark
optional_by None = []
optional_by (Some b) = by_marks b

-- Step = Id "." Id | "send" Id Id [By] | "send" Id "{" Lin "}" | Id "<-" "recv" Id | "{" Id "}" "<-" "recv" Id | "wait" Id
--      | Id "<-" Id Args {Id} [By] | "work" "{" Lin "}" | "delay" "{" Lin "}" | "assert" Id | "assume" Id | "pay" Id | "get" Id
abbrev pub step_marks : Step → List Mark
step_marks (step.Label x l) = name x ▸ fixed kind.Dot ▸ name l
step_marks (step.Send x w by) = fixed kind.Send ▸ name x ▸ name w ▸ optional_by by
step_marks (step.Index x e) = fixed kind.Send ▸ name x ▸ braced e
step_marks (step.Recv y x) = name y ▸ fixed kind.LeftArrow ▸ fixed kind.Recv ▸ name x
step_marks (step.Bind n x) = (fixed kind.OpenBrace ▸ name n ▸ fixed kind.CloseBrace) ▸ fixed kind.LeftArrow ▸ fixed kind.Recv ▸ name x
step_marks (step.Wait x) = fixed kind.Wait ▸ name x
step_marks (step.Spawn x f args ys by) = name x ▸ fixed kind.LeftArrow ▸ name f ▸ args_marks args ▸ names_marks ys ▸ optional_by by
step_marks (step.Work r) = fixed kind.Work ▸ braced r
step_marks (step.Delay t) = fixed kind.Delay ▸ braced t
step_marks (step.Assert x) = fixed kind.Assert ▸ name x
step_marks (step.Assume x) = fixed kind.Assume ▸ name x
step_marks (step.Pay x) = fixed kind.Pay ▸ name x
step_marks (step.Get x) = fixed kind.Get ▸ name x

-- Proc* = {Step ";"} End
abbrev pub proc_step : Proc-F (List Mark) (List Mark) (List Mark) → List Mark
proc_step p = starred (joined (map (λ s. step_marks s ▸ fixed kind.Semicolon) p.steps) ▸ p.end)

-- End = "close" Id | Id "<->" Id [By] | Id "<-" Id Args {Id} [By] | "case" Id "(" Branch {"|" Branch} ")" | "impossible"
abbrev pub end_step : End-F (List Mark) (List Mark) (List Mark) → List Mark
end_step (Close x) = fixed kind.Close ▸ name x
end_step (Forward x y by) = name x ▸ fixed kind.Forward ▸ name y ▸ optional_by by
end_step (Call x f args ys by) = name x ▸ fixed kind.LeftArrow ▸ name f ▸ args_marks args ▸ names_marks ys ▸ optional_by by
end_step (Case x b bs) = fixed kind.Case ▸ name x ▸ fixed kind.OpenParen ▸ b ▸ joined (map (λ b. fixed kind.Bar ▸ b) bs) ▸ fixed kind.CloseParen
end_step Impossible = fixed kind.Impossible

-- Branch = Id "=>" Proc
abbrev pub branch_step : Branch-F (List Mark) (List Mark) (List Mark) → List Mark
branch_step b = name b.label ▸ fixed kind.RightArrow ▸ b.body

abbrev pub proc_marks : Proc → List Mark
proc_marks = fold-Proc (List Mark) (List Mark) (List Mark) end_step branch_step proc_step

abbrev pub end_marks : End → List Mark
end_marks = fold-End (List Mark) (List Mark) (List Mark) end_step branch_step proc_step

abbrev pub branch_marks : Branch → List Mark
branch_marks = fold-Branch (List Mark) (List Mark) (List Mark) end_step branch_step proc_step

-- ---- which process terms the grammar has: in a file without `explicit` none with a list of references, `assert`, `assume`, `pay`, `get` or `impossible`

abbrev pub by_fits : Bool → Option By → Bool
by_fits explicit by = explicit || is_none by

abbrev pub step_fits : Bool → Step → Bool
step_fits explicit (step.Label x l) = true
step_fits explicit (step.Send x w by) = by_fits explicit by
step_fits explicit (step.Index x e) = true
step_fits explicit (step.Recv y x) = true
step_fits explicit (step.Bind n x) = true
step_fits explicit (step.Wait x) = true
step_fits explicit (step.Spawn x f args ys by) = by_fits explicit by
step_fits explicit (step.Work r) = true
step_fits explicit (step.Delay t) = true
step_fits explicit (step.Assert x) = explicit
step_fits explicit (step.Assume x) = explicit
step_fits explicit (step.Pay x) = explicit
step_fits explicit (step.Get x) = explicit

abbrev pub proc_proper : Bool → Proc-F Bool Bool Bool → Bool
proc_proper explicit p = all_true (map (step_fits explicit) p.steps) && p.end

abbrev pub end_proper : Bool → End-F Bool Bool Bool → Bool
end_proper explicit (Close x) = true
end_proper explicit (Forward x y by) = by_fits explicit by
end_proper explicit (Call x f args ys by) = by_fits explicit by
end_proper explicit (Case x b bs) = b && all_true bs
end_proper explicit Impossible = explicit

abbrev pub branch_proper : Branch-F Bool Bool Bool → Bool
branch_proper b = b.body

abbrev pub proc_fits : Bool → Proc → Bool
proc_fits explicit = fold-Proc Bool Bool Bool (end_proper explicit) branch_proper (proc_proper explicit)

abbrev pub end_fits : Bool → End → Bool
end_fits explicit = fold-End Bool Bool Bool (end_proper explicit) branch_proper (proc_proper explicit)

abbrev pub branch_fits : Bool → Branch → Bool
branch_fits explicit = fold-Branch Bool Bool Bool (end_proper explicit) branch_proper (proc_proper explicit)
