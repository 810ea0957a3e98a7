-- Reading process terms.
use Rattle.std.specs.Prelude.{◌≡◌, ℕ, zero, suc, ◌-◌, Bool, true, false, ◌&&◌, ◌||◌, cond, List, [], ◌∷◌, ◌++◌, map, ◌⊎◌, Option, Some, None}
use Rattle.std.proofs.Common.{inl, inr}
use Rattle.rast_forms.specs.Words.{Word, starts}
use Rattle.rast_forms.specs.Reading.{Syntax, Read, Done, Bad, Reader, seq_read, nil_read, all_read, as_read, choice_read, all_chain_read, chain_read, limited, ◌>>=◌}
use Rattle.rast_ast.specs.declared.kind.Kind.TheVariants as kind
use Rattle.rast_ast.specs.declared.term.Lin.{Lin}
use Rattle.rast_ast.specs.declared.process.Ref.{Ref}
use Rattle.rast_ast.specs.declared.process.Ref.TheVariants as ref
use Rattle.rast_ast.specs.declared.process.By.{By}
use Rattle.rast_ast.specs.declared.process.Step.{Step}
use Rattle.rast_ast.specs.declared.process.Step.TheVariants as step
use Rattle.rast_ast.specs.declared.process.Proc.{Proc}
use Rattle.rast_ast.specs.declared.process.Branch.{Branch}
use Rattle.rast_ast.specs.declared.process.End.{End}
use Rattle.rast_ast.specs.declared.process.End.TheVariants as end
use Rattle.rast_ast.specs.Kinds.{code}
use Rattle.rast_parse.specs.declared.statement.Statement.{Statement}
use Rattle.rast_parse.specs.declared.statement.Statement.TheVariants as statement
use Rattle.rast_parse.specs.LinearReading.{is, fixed_read, name_read, number_read, lin_read}
use Rattle.rast_parse.specs.FormulaReading.{behind_kind}
use Rattle.rast_parse.specs.TypeReading.{then_read, before_kind, between_kinds, braced_read, args_read}

-- a choice that is there only if a flag says so
abbrev pub flag_read : {X : Type 0} → Bool → List ℕ → Reader X → Reader X → Reader X
flag_read flag first p q ts = cond (flag && starts first ts) (p ts) (q ts)

abbrev pub names_read : Reader (List (List ℕ))
names_read = all_read (is kind.Name) name_read

-- ---- references to equations

abbrev pub to_ref : Unit {0} ⊎ (ℕ × List Lin) → Ref
to_ref (inl u) = ref.Refl
to_ref (inr (k, args)) = ref.Equation k args

abbrev pub ref_by : Reader Lin → Reader Ref
ref_by sum = choice_read (is kind.Refl) (as_read (λ x. to_ref (inl x)) (fixed_read kind.Refl)) (as_read (λ x. to_ref (inr x)) (seq_read number_read (args_read sum)))

abbrev pub further_refs : Reader Lin → Reader (List Ref)
further_refs sum = all_read (is kind.Comma) (behind_kind kind.Comma (ref_by sum))

abbrev pub to_by : Ref × List Ref → By
to_by s = record { first = s.0; rest = s.1 }

abbrev pub by_by : Reader Lin → Reader By
by_by sum = as_read to_by (seq_read (behind_kind kind.By (ref_by sum)) (further_refs sum))

abbrev pub to_optional : By ⊎ Unit {0} → Option By
to_optional (inl b) = Some b
to_optional (inr u) = None

-- references where the file is explicit
abbrev pub optional_by_read : Bool → Reader Lin → Reader (Option By)
optional_by_read explicit sum = flag_read explicit (is kind.By) (as_read (λ x. to_optional (inl x)) (by_by sum)) (as_read (λ x. to_optional (inr x)) nil_read)

-- ---- statements: steps and ends

abbrev pub label_by : List ℕ → Reader Statement
label_by x = as_read (λ l. statement.Step (step.Label x l)) (behind_kind kind.Dot name_read)

abbrev pub forward_by : Bool → Reader Lin → List ℕ → Reader Statement
forward_by explicit sum x = as_read (λ s. statement.End (end.Forward x s.0 s.1)) (behind_kind kind.Forward (seq_read name_read (optional_by_read explicit sum)))

abbrev pub recv_by : List ℕ → Reader Statement
recv_by x = as_read (λ y. statement.Step (step.Recv x y)) (behind_kind kind.Recv name_read)

abbrev pub spawn_by : Bool → Reader Lin → List ℕ → Reader Statement
spawn_by explicit sum x = as_read (λ s. statement.Step (step.Spawn x s.0 s.1.0 s.1.1.0 s.1.1.1)) (seq_read name_read (seq_read (args_read sum) (seq_read names_read (optional_by_read explicit sum))))

abbrev pub arrow_by : Bool → Reader Lin → List ℕ → Reader Statement
arrow_by explicit sum x = choice_read (is kind.Recv) (recv_by x) (spawn_by explicit sum x)

abbrev pub after_name : Bool → Reader Lin → List ℕ → Reader Statement
after_name explicit sum x = choice_read (is kind.Dot) (label_by x) (choice_read (is kind.Forward) (forward_by explicit sum x) (behind_kind kind.LeftArrow (arrow_by explicit sum x)))

abbrev pub named_statement : Bool → Reader Lin → Reader Statement
named_statement explicit sum = then_read name_read (after_name explicit sum)

abbrev pub sent_by : Bool → Reader Lin → List ℕ → Reader Statement
sent_by explicit sum x = choice_read (is kind.Name) (as_read (λ s. statement.Step (step.Send x s.0 s.1)) (seq_read name_read (optional_by_read explicit sum)))
    (as_read (λ e. statement.Step (step.Index x e)) (braced_read sum))

abbrev pub send_by : Bool → Reader Lin → Reader Statement
send_by explicit sum = behind_kind kind.Send (then_read name_read (sent_by explicit sum))

abbrev pub bind_read : Reader Statement
bind_read = as_read (λ s. statement.Step (step.Bind s.0 s.1)) (seq_read (braced_read name_read) (behind_kind kind.LeftArrow (behind_kind kind.Recv name_read)))

abbrev pub wait_read : Reader Statement
wait_read = as_read (λ x. statement.Step (step.Wait x)) (behind_kind kind.Wait name_read)

abbrev pub work_by : Reader Lin → Reader Statement
work_by sum = as_read (λ r. statement.Step (step.Work r)) (behind_kind kind.Work (braced_read sum))

abbrev pub delay_by : Reader Lin → Reader Statement
delay_by sum = as_read (λ t. statement.Step (step.Delay t)) (behind_kind kind.Delay (braced_read sum))

abbrev pub close_read : Reader Statement
close_read = as_read (λ x. statement.End (end.Close x)) (behind_kind kind.Close name_read)

abbrev pub to_branch : List ℕ × Proc → Branch
to_branch s = record { label = s.0; body = s.1 }

abbrev pub branch_by : Reader Proc → Reader Branch
branch_by one = as_read to_branch (seq_read (before_kind kind.RightArrow name_read) one)

abbrev pub further_branches : Reader Proc → Reader (List Branch)
further_branches one = all_read (is kind.Bar) (behind_kind kind.Bar (branch_by one))

abbrev pub case_by : Reader Proc → Reader Statement
case_by one = as_read (λ s. statement.End (end.Case s.0 s.1.0 s.1.1)) (behind_kind kind.Case (seq_read name_read (between_kinds kind.OpenParen kind.CloseParen (seq_read (branch_by one) (further_branches one)))))

abbrev pub assert_read : Reader Statement
assert_read = as_read (λ x. statement.Step (step.Assert x)) (behind_kind kind.Assert name_read)

abbrev pub assume_read : Reader Statement
assume_read = as_read (λ x. statement.Step (step.Assume x)) (behind_kind kind.Assume name_read)

abbrev pub pay_read : Reader Statement
pay_read = as_read (λ x. statement.Step (step.Pay x)) (behind_kind kind.Pay name_read)

abbrev pub get_read : Reader Statement
get_read = as_read (λ x. statement.Step (step.Get x)) (behind_kind kind.Get name_read)

abbrev pub impossible_read : Reader Statement
impossible_read = as_read (λ u. statement.End end.Impossible) (fixed_read kind.Impossible)

abbrev pub explicit_read : Reader Statement
explicit_read = choice_read (is kind.Assert) assert_read (choice_read (is kind.Assume) assume_read (choice_read (is kind.Pay) pay_read (choice_read (is kind.Get) get_read impossible_read)))

abbrev pub plain_by : Bool → Reader Lin → Reader Proc → Reader Statement
plain_by explicit sum one = choice_read (is kind.Name) (named_statement explicit sum) (choice_read (is kind.Send) (send_by explicit sum) (choice_read (is kind.OpenBrace) bind_read (choice_read (is kind.Wait) wait_read
    (choice_read (is kind.Work) (work_by sum) (choice_read (is kind.Delay) (delay_by sum) (choice_read (is kind.Close) close_read (case_by one)))))))

abbrev pub explicit_first : List ℕ
explicit_first = code kind.Assert ∷ code kind.Assume ∷ code kind.Pay ∷ code kind.Get ∷ code kind.Impossible ∷ []

abbrev pub plain_first : List ℕ
plain_first = code kind.Name ∷ code kind.Send ∷ code kind.OpenBrace ∷ code kind.Wait ∷ code kind.Work ∷ code kind.Delay ∷ code kind.Close ∷ code kind.Case ∷ []

abbrev pub statement_by : Bool → Reader Lin → Reader Proc → Reader Statement
statement_by explicit sum one = flag_read explicit explicit_first explicit_read (plain_by explicit sum one)

-- ---- process terms

-- whether a statement may have others behind it, and whether it may be the last
abbrev pub is_spawn : Step → Bool
is_spawn (step.Spawn x f args ys by) = true
is_spawn s = false

abbrev pub goes : Statement → Bool
goes (statement.Step s) = true
goes (statement.End e) = false

abbrev pub ends : Statement → Bool
ends (statement.Step s) = is_spawn s
ends (statement.End e) = true

abbrev pub step_of : Statement → Step
step_of (statement.Step s) = s
step_of (statement.End e) = step.Wait []

-- a spawn that is the last is a call
abbrev pub called : Step → End
called (step.Spawn x f args ys by) = end.Call x f args ys by
called s = end.Impossible

abbrev pub end_of : Statement → End
end_of (statement.Step s) = called s
end_of (statement.End e) = e

abbrev pub to_proc : List Statement × Statement → Proc
to_proc s = record { steps = map step_of s.0; end = end_of s.1 }

-- steps and one more that no `;` follows
abbrev pub last_read : List Step → Step → Reader Proc
last_read steps s ts = cond (is_spawn s) (Done (record { steps = steps; end = called s }) ts) (Bad Syntax ts)

abbrev pub proc_by : Bool → Reader Lin → Reader Proc → Reader Proc
proc_by explicit sum one = as_read to_proc (all_chain_read (is kind.Semicolon) goes ends (statement_by explicit sum one))

abbrev pub proc_limit : Bool → Reader Proc
proc_limit explicit ts = limited ((explicit && starts explicit_first ts) || starts plain_first ts) ts

-- a process term, below at most so many that are open, itself counted
abbrev pub proc_read : Bool → ℕ → Reader Proc
proc_read explicit zero = proc_limit explicit
proc_read explicit (suc d) = proc_by explicit (lin_read false d) (proc_read explicit d)

-- ---- the loop over statements

-- these steps before what is read further
abbrev pub ahead : List Step → Read (List Statement × Statement) → Read Proc
ahead steps m = m >>= λ s rest. Done (record { steps = steps ++ map step_of s.0; end = end_of s.1 }) rest

-- the loop, with so many turns, before one of them: the steps that it has read, and what it will answer
pub record IsProcUnderWay (one : Reader Statement) (turns turn : ℕ) (steps : List Step) (rest : List Word) (all : Read Proc) : Type 0 where
  pub so_far : ahead steps (chain_read (is kind.Semicolon) goes ends one (turns - turn) rest) ≡ all
