-- Statements are read exactly.
use Rattle.std.proofs.Common.{◌≡◌, ℕ, ◌-◌, Bool, true, false, not, ◌&&◌, List, [], ◌∷◌, ◌++◌, map, Option, ap, ap₂, sym, ◌∙◌, refl, subst, ◌⊎◌, inl, inr, append_assoc}
use Rattle.rast_forms.specs.Words.{Name, Fixed, all_true}
use Rattle.rast_forms.specs.Marks.{Mark, joined, plain}
use Rattle.rast_forms.specs.Reading.{Reader, seq_read, alt_read, as_read, choice_read, guarded_read}
use Rattle.rast_forms.proofs.Forms.{Form as Shape, Exact}
use Rattle.rast_forms.proofs.One.{name, name_exact, fixed_exact}
use Rattle.rast_forms.proofs.Sequence.{seq, seq_exact}
use Rattle.rast_forms.proofs.Either.{alt, alt_exact}
use Rattle.rast_forms.proofs.Between.{behind, behind_exact, between, between_exact}
use Rattle.rast_forms.proofs.Many.{many, many_exact}
use Rattle.rast_forms.proofs.Guarded.{guarded, guarded_exact}
use Rattle.rast_forms.proofs.Shapes.{shape_exact}
use Rattle.rast_ast.specs.Kinds.{code}
use Rattle.rast_ast.specs.declared.kind.Kind.{Kind}
use Rattle.rast_ast.specs.declared.kind.Kind.TheVariants as kind
use Rattle.rast_ast.specs.declared.term.Lin.{Lin}
use Rattle.rast_ast.specs.declared.process.By.{By}
use Rattle.rast_ast.specs.declared.process.Step.{Step}
use Rattle.rast_ast.specs.declared.process.Step.TheVariants as step
use Rattle.rast_ast.specs.declared.process.Proc.{Proc}
use Rattle.rast_ast.specs.declared.process.Branch.{Branch}
use Rattle.rast_ast.specs.declared.process.End.{End, roll-End, out-End, roll-out-End, out-roll-End}
use Rattle.rast_ast.specs.declared.process.End.TheVariants as end
use Rattle.rast_ast.specs.declared.process.End.TheOpen.{End-F, Close, Forward, Call, Case, Impossible}
use Rattle.rast_ast.specs.declared.process.End.TheFolds.{fold-roll-End, fold-roll-Branch}
use Rattle.rast_ast.specs.Processes.{step_marks, proc_step, end_step, branch_step, proc_marks, end_marks, branch_marks, by_fits, step_fits, proc_proper, end_proper, branch_proper, proc_fits, end_fits, branch_fits}
use Rattle.rast_parse.specs.declared.statement.Statement.{Statement}
use Rattle.rast_parse.specs.declared.statement.Statement.TheVariants as statement
use Rattle.rast_parse.specs.LinearReading.{is, fixed_read, name_read, lin_read}
use Rattle.rast_parse.specs.FormulaReading.{behind_kind}
use Rattle.rast_parse.specs.TypeReading.{then_read, between_kinds, braced_read, args_read}
use Rattle.rast_parse.specs.ProcessReading.{flag_read, names_read, optional_by_read, label_by, forward_by, arrow_by, after_name, named_statement, send_by, bind_read, wait_read, work_by, delay_by, close_read, to_branch, branch_by, further_branches, case_by, assert_read, assume_read, pay_read, explicit_read, plain_by, explicit_first, plain_first, statement_by}
use Rattle.rast_parse.proofs.Choices.{alt_choice}
use Rattle.rast_parse.proofs.Fusions.{then_fused, behind_fused, ending, ending_exact}
use Rattle.rast_parse.proofs.Trees.{map-map, all_true_of, and_true}
use Rattle.rast_parse.proofs.LinearExact.{bars, word}
use Rattle.rast_parse.proofs.TypesExact.{braced_lin, braced_exact, args_form, args_exact}
use Rattle.rast_parse.proofs.ReferencesExact.{guarded_choice, names_form, names_exact, optional_form, optional_exact}
use mathlib.Core.Path.{fun_ext}

abbrev within : {X : Type 0} → Kind → Kind → Shape X → Shape X
within j k F = between (code j - 2) (code k - 2) F

abbrev after : {X : Type 0} → Kind → Shape X → Shape X
after k F = behind (code k - 2) F

abbrev up_to : {X : Type 0} → Kind → Shape X → Shape X
up_to k F = ending (code k - 2) F

-- ---- statements that begin with a name

abbrev Spawned : Type 0
Spawned = List ℕ × (List Lin × (List (List ℕ) × Option By))

abbrev AfterName : Type 0
AfterName = List ℕ ⊎ ((List ℕ × Option By) ⊎ (List ℕ ⊎ Spawned))

abbrev spawn_form : Bool → Shape Spawned
spawn_form explicit = seq name (seq args_form (seq names_form (optional_form explicit)))

abbrev after_name_form : Bool → Shape AfterName
after_name_form explicit = alt (after kind.Dot name) (alt (after kind.Forward (seq name (optional_form explicit))) (after kind.LeftArrow (alt (after kind.Recv name) (spawn_form explicit))))

abbrev to_named : List ℕ × AfterName → Statement
to_named (x, inl l) = statement.Step (step.Label x l)
to_named (x, inr (inl (y, by))) = statement.End (end.Forward x y by)
to_named (x, inr (inr (inl y))) = statement.Step (step.Recv x y)
to_named (x, inr (inr (inr (f, (args, (ys, by)))))) = statement.Step (step.Spawn x f args ys by)

abbrev arrow_read : Bool → Reader Lin → Reader (List ℕ ⊎ Spawned)
arrow_read explicit sum = alt_read (is kind.Recv) (behind_kind kind.Recv name_read) (seq_read name_read (seq_read (args_read sum) (seq_read names_read (optional_by_read explicit sum))))

abbrev after_name_read : Bool → Reader Lin → Reader AfterName
after_name_read explicit sum = alt_read (is kind.Dot) (behind_kind kind.Dot name_read) (alt_read (is kind.Forward) (behind_kind kind.Forward (seq_read name_read (optional_by_read explicit sum)))
    (behind_kind kind.LeftArrow (arrow_read explicit sum)))

arrow_reads : (explicit : Bool) (sum : Reader Lin) (x : List ℕ) → as_read (λ z. to_named (x, inr (inr z))) (behind_kind kind.LeftArrow (arrow_read explicit sum)) ≡ behind_kind kind.LeftArrow (arrow_by explicit sum x)
arrow_reads explicit sum x = behind_fused kind.LeftArrow (λ z. to_named (x, inr (inr z))) (arrow_read explicit sum) ∙ ap (behind_kind kind.LeftArrow) (alt_choice (λ z. to_named (x, inr (inr z))) (is kind.Recv) _ _)

after_name_reads : (explicit : Bool) (sum : Reader Lin) (x : List ℕ) → as_read (λ z. to_named (x, z)) (after_name_read explicit sum) ≡ after_name explicit sum x
after_name_reads explicit sum x = alt_choice (λ z. to_named (x, z)) (is kind.Dot) _ _
    ∙ ap (choice_read (is kind.Dot) (label_by x)) (alt_choice (λ z. to_named (x, inr z)) (is kind.Forward) _ _
    ∙ ap (choice_read (is kind.Forward) (forward_by explicit sum x)) (arrow_reads explicit sum x))

named_reads : (explicit : Bool) (sum : Reader Lin) → as_read to_named (seq_read name_read (after_name_read explicit sum)) ≡ named_statement explicit sum
named_reads explicit sum = then_fused to_named name_read (after_name_read explicit sum) ∙ ap (then_read name_read) (fun_ext (λ x. after_name_reads explicit sum x))

-- ---- `send`

abbrev Sent : Type 0
Sent = (List ℕ × Option By) ⊎ Lin

abbrev sent_form : Bool → Shape Sent
sent_form explicit = alt (seq name (optional_form explicit)) braced_lin

abbrev to_send : List ℕ × Sent → Statement
to_send (x, inl (y, by)) = statement.Step (step.Send x y by)
to_send (x, inr e) = statement.Step (step.Index x e)

abbrev sent_read : Bool → Reader Lin → Reader Sent
sent_read explicit sum = alt_read (is kind.Name) (seq_read name_read (optional_by_read explicit sum)) (braced_read sum)

send_reads : (explicit : Bool) (sum : Reader Lin) → as_read to_send (behind_kind kind.Send (seq_read name_read (sent_read explicit sum))) ≡ send_by explicit sum
send_reads explicit sum = behind_fused kind.Send to_send (seq_read name_read (sent_read explicit sum))
    ∙ ap (behind_kind kind.Send) (then_fused to_send name_read (sent_read explicit sum) ∙ ap (then_read name_read) (fun_ext (λ x. alt_choice (λ z. to_send (x, z)) (is kind.Name) _ _)))

module _ (d : ℕ) (explicit : Bool) where
  spawn_exact : Exact bars d (spawn_form explicit) (seq_read name_read (seq_read (args_read (lin_read false d)) (seq_read names_read (optional_by_read explicit (lin_read false d)))))
  spawn_exact = seq_exact bars d name (seq args_form (seq names_form (optional_form explicit))) _ _ (name_exact bars d)
      (seq_exact bars d args_form (seq names_form (optional_form explicit)) _ _ (args_exact d)
      (seq_exact bars d names_form (optional_form explicit) _ _ (names_exact d) (optional_exact d explicit) refl) refl) refl

  after_name_exact : Exact bars d (after_name_form explicit) (after_name_read explicit (lin_read false d))
  after_name_exact = alt_exact bars d (after kind.Dot name) _ _ _ (behind_exact bars d _ name _ (name_exact bars d))
      (alt_exact bars d (after kind.Forward (seq name (optional_form explicit))) (after kind.LeftArrow (alt (after kind.Recv name) (spawn_form explicit))) _ _
      (behind_exact bars d _ (seq name (optional_form explicit)) _ (seq_exact bars d name (optional_form explicit) _ _ (name_exact bars d) (optional_exact d explicit) refl))
      (behind_exact bars d _ (alt (after kind.Recv name) (spawn_form explicit)) _
      (alt_exact bars d (after kind.Recv name) (spawn_form explicit) _ _ (behind_exact bars d _ name _ (name_exact bars d)) spawn_exact refl refl)) refl refl) refl refl

  named_exact : Exact bars d (seq name (after_name_form explicit)) (seq_read name_read (after_name_read explicit (lin_read false d)))
  named_exact = seq_exact bars d name (after_name_form explicit) _ _ (name_exact bars d) after_name_exact refl

  send_exact : Exact bars d (after kind.Send (seq name (sent_form explicit))) (behind_kind kind.Send (seq_read name_read (sent_read explicit (lin_read false d))))
  send_exact = behind_exact bars d _ (seq name (sent_form explicit)) _ (seq_exact bars d name (sent_form explicit) _ _ (name_exact bars d)
      (alt_exact bars d (seq name (optional_form explicit)) braced_lin _ _ (seq_exact bars d name (optional_form explicit) _ _ (name_exact bars d) (optional_exact d explicit) refl) (braced_exact d) refl refl) refl)

-- ---- branches

abbrev pub proc_first : List ℕ
proc_first = explicit_first ++ plain_first

abbrev pub proc_more : List ℕ
proc_more = code kind.OpenBrace ∷ code kind.Name ∷ code kind.Comma ∷ code kind.By ∷ code kind.Semicolon ∷ []

abbrev pub some_end : End
some_end = end.Close (97 ∷ [])

abbrev pub proc_form : Bool → Shape Proc
proc_form explicit = record { mark = proc_marks; fits = proc_fits explicit; first = proc_first; is_empty = false; goes_on = proc_more; some = record { steps = []; end = some_end } }

abbrev branch_form : Bool → Shape Branch
branch_form explicit = record { mark = branch_marks; fits = branch_fits explicit; first = is kind.Name; is_empty = false; goes_on = proc_more; some = record { label = 97 ∷ []; body = record { steps = []; end = some_end } } }

branch_mark : (x : List ℕ × Proc) → branch_marks (to_branch x) ≡ (seq (up_to kind.RightArrow name) (proc_form true)).mark x
branch_mark (l, p) = fold-roll-Branch _ _ _ end_step branch_step proc_step (record { label = l; body = p })

pub branch_fit : (explicit : Bool) (x : List ℕ × Proc) → branch_fits explicit (to_branch x) ≡ (seq (up_to kind.RightArrow name) (proc_form explicit)).fits x
branch_fit explicit (l, p) = fold-roll-Branch _ _ _ (end_proper explicit) branch_proper (proc_proper explicit) (record { label = l; body = p })

abbrev Branches : Type 0
Branches = Branch × List Branch

abbrev branches_form : Bool → Shape Branches
branches_form explicit = seq (branch_form explicit) (many (after kind.Bar (branch_form explicit)))

-- ---- statements

abbrev pub Plain : Type 0
Plain = (List ℕ × AfterName) ⊎ ((List ℕ × Sent) ⊎ ((List ℕ × List ℕ) ⊎ (List ℕ ⊎ (Lin ⊎ (Lin ⊎ (List ℕ ⊎ (List ℕ × Branches)))))))

abbrev pub Explicit : Type 0
Explicit = List ℕ ⊎ (List ℕ ⊎ (List ℕ ⊎ (List ℕ ⊎ Unit {0})))

abbrev pub explicit_form : Shape Explicit
explicit_form = alt (after kind.Assert name) (alt (after kind.Assume name) (alt (after kind.Pay name) (alt (after kind.Get name) (word kind.Impossible))))

abbrev bind_form : Shape (List ℕ × List ℕ)
bind_form = seq (within kind.OpenBrace kind.CloseBrace name) (after kind.LeftArrow (after kind.Recv name))

abbrev case_form : Bool → Shape (List ℕ × Branches)
case_form explicit = after kind.Case (seq name (within kind.OpenParen kind.CloseParen (branches_form explicit)))

abbrev pub plain_form : Bool → Shape Plain
plain_form explicit = alt (seq name (after_name_form explicit)) (alt (after kind.Send (seq name (sent_form explicit))) (alt bind_form (alt (after kind.Wait name) (alt (after kind.Work braced_lin)
    (alt (after kind.Delay braced_lin) (alt (after kind.Close name) (case_form explicit)))))))

abbrev pub to_explicit : Explicit → Statement
to_explicit (inl x) = statement.Step (step.Assert x)
to_explicit (inr (inl x)) = statement.Step (step.Assume x)
to_explicit (inr (inr (inl x))) = statement.Step (step.Pay x)
to_explicit (inr (inr (inr (inl x)))) = statement.Step (step.Get x)
to_explicit (inr (inr (inr (inr u)))) = statement.End end.Impossible

abbrev pub to_plain : Plain → Statement
to_plain (inl s) = to_named s
to_plain (inr (inl s)) = to_send s
to_plain (inr (inr (inl (n, x)))) = statement.Step (step.Bind n x)
to_plain (inr (inr (inr (inl x)))) = statement.Step (step.Wait x)
to_plain (inr (inr (inr (inr (inl l))))) = statement.Step (step.Work l)
to_plain (inr (inr (inr (inr (inr (inl l)))))) = statement.Step (step.Delay l)
to_plain (inr (inr (inr (inr (inr (inr (inl x))))))) = statement.End (end.Close x)
to_plain (inr (inr (inr (inr (inr (inr (inr (x, (b, bs))))))))) = statement.End (end.Case x b bs)

abbrev pub Layer : Type 0
Layer = Explicit ⊎ Plain

abbrev pub layer_form : Bool → Shape Layer
layer_form explicit = guarded explicit explicit_form (plain_form explicit)

abbrev pub to_statement : Layer → Statement
to_statement (inl x) = to_explicit x
to_statement (inr x) = to_plain x

abbrev pub call_layer : End-F End Branch Proc → Bool
call_layer (Close x) = false
call_layer (Forward x y by) = false
call_layer (Call x f args ys by) = true
call_layer (Case x b bs) = false
call_layer Impossible = false

abbrev pub is_call : End → Bool
is_call e = call_layer (out-End e)

abbrev pub statement_marks : Statement → List Mark
statement_marks (statement.Step s) = step_marks s
statement_marks (statement.End e) = end_marks e

-- a call is a spawn here
abbrev pub statement_fits : Bool → Statement → Bool
statement_fits explicit (statement.Step s) = step_fits explicit s
statement_fits explicit (statement.End e) = end_fits explicit e && not (is_call e)

abbrev pub statement_form : Bool → Shape Statement
statement_form explicit = record { mark = statement_marks; fits = statement_fits explicit; first = proc_first; is_empty = false; goes_on = code kind.OpenBrace ∷ code kind.Name ∷ code kind.Comma ∷ code kind.By ∷ []; some = statement.End some_end }

from_end : End-F End Branch Proc → Layer
from_end (Close x) = inr (inr (inr (inr (inr (inr (inr (inl x)))))))
from_end (Forward x y by) = inr (inl (x, inr (inl (y, by))))
from_end (Call x f args ys by) = inl (inr (inr (inr (inr tt))))
from_end (Case x b bs) = inr (inr (inr (inr (inr (inr (inr (inr (x, (b, bs)))))))))
from_end Impossible = inl (inr (inr (inr (inr tt))))

from_step : Step → Layer
from_step (step.Label x l) = inr (inl (x, inl l))
from_step (step.Send x y by) = inr (inr (inl (x, inl (y, by))))
from_step (step.Index x e) = inr (inr (inl (x, inr e)))
from_step (step.Recv x y) = inr (inl (x, inr (inr (inl y))))
from_step (step.Bind n x) = inr (inr (inr (inl (n, x))))
from_step (step.Wait x) = inr (inr (inr (inr (inl x))))
from_step (step.Spawn x f args ys by) = inr (inl (x, inr (inr (inr (f, (args, (ys, by)))))))
from_step (step.Work l) = inr (inr (inr (inr (inr (inl l)))))
from_step (step.Delay l) = inr (inr (inr (inr (inr (inr (inl l))))))
from_step (step.Assert x) = inl (inl x)
from_step (step.Assume x) = inl (inr (inl x))
from_step (step.Pay x) = inl (inr (inr (inl x)))
from_step (step.Get x) = inl (inr (inr (inr (inl x))))

pub from_statement : Statement → Layer
from_statement (statement.Step s) = from_step s
from_statement (statement.End e) = from_end (out-End e)

step_there : (s : Step) → to_statement (from_step s) ≡ statement.Step s
unfolding from_step
step_there (step.Label x l) = refl
step_there (step.Send x y by) = refl
step_there (step.Index x e) = refl
step_there (step.Recv x y) = refl
step_there (step.Bind n x) = refl
step_there (step.Wait x) = refl
step_there (step.Spawn x f args ys by) = refl
step_there (step.Work l) = refl
step_there (step.Delay l) = refl
step_there (step.Assert x) = refl
step_there (step.Assume x) = refl
step_there (step.Pay x) = refl
step_there (step.Get x) = refl

end_there : (x : End-F End Branch Proc) → call_layer x ≡ false → to_statement (from_end x) ≡ statement.End (roll-End x)
unfolding from_end
end_there (Close x) e = ap statement.End (sym (end.rolls-Close x))
end_there (Forward x y by) e = ap statement.End (sym (end.rolls-Forward x y by))
end_there (Call x f args ys by) e = absurd (cc)
end_there (Case x b bs) e = ap statement.End (sym (end.rolls-Case x b bs))
end_there Impossible e = ap statement.End (sym end.rolls-Impossible)

no_call : (a b : Bool) → (a && not b) ≡ true → b ≡ false
no_call true true e = absurd (cc)
no_call true false e = refl
no_call false b e = absurd (cc)

pub statement_there : (explicit : Bool) (s : Statement) → statement_fits explicit s ≡ true → to_statement (from_statement s) ≡ s
unfolding from_statement
statement_there explicit (statement.Step s) f = step_there s
statement_there explicit (statement.End e) f = end_there (out-End e) (no_call (end_fits explicit e) (is_call e) f) ∙ ap statement.End (roll-out-End e)

case_mark : (explicit : Bool) (x : List ℕ) (b : Branch) (bs : List Branch) → end_marks (end.Case x b bs) ≡ (case_form explicit).mark (x, (b, bs))
case_mark explicit x b bs = ap end_marks (sym (end.rolls-Case x b bs)) ∙ fold-roll-End _ _ _ end_step branch_step proc_step (Case x b bs)
    ∙ ap (λ z. plain (Fixed (code kind.Case - 2)) ∷ plain (Name x) ∷ plain (Fixed (code kind.OpenParen - 2)) ∷ (branch_marks b ++ (joined z ++ plain (Fixed (code kind.CloseParen - 2)) ∷ [])))
    (map-map (λ c. plain (Fixed (code kind.Bar - 2)) ∷ c) branch_marks bs)
    ∙ ap (λ z. plain (Fixed (code kind.Case - 2)) ∷ plain (Name x) ∷ plain (Fixed (code kind.OpenParen - 2)) ∷ z)
    (sym (append_assoc (branch_marks b) (joined (map (λ c. plain (Fixed (code kind.Bar - 2)) ∷ branch_marks c) bs)) (plain (Fixed (code kind.CloseParen - 2)) ∷ [])))

pub statement_mark : (explicit : Bool) (x : Layer) → statement_marks (to_statement x) ≡ (layer_form explicit).mark x
statement_mark explicit (inl (inl x)) = refl
statement_mark explicit (inl (inr (inl x))) = refl
statement_mark explicit (inl (inr (inr (inl x)))) = refl
statement_mark explicit (inl (inr (inr (inr (inl x))))) = refl
statement_mark explicit (inl (inr (inr (inr (inr u))))) = ap end_marks (sym end.rolls-Impossible) ∙ fold-roll-End _ _ _ end_step branch_step proc_step Impossible
statement_mark explicit (inr (inl (x, inl l))) = refl
statement_mark explicit (inr (inl (x, inr (inl (y, by))))) = ap end_marks (sym (end.rolls-Forward x y by)) ∙ fold-roll-End _ _ _ end_step branch_step proc_step (Forward x y by)
statement_mark explicit (inr (inl (x, inr (inr (inl y))))) = refl
statement_mark explicit (inr (inl (x, inr (inr (inr (f, (args, (ys, by)))))))) = refl
statement_mark explicit (inr (inr (inl (x, inl (y, by))))) = refl
statement_mark explicit (inr (inr (inl (x, inr e)))) = refl
statement_mark explicit (inr (inr (inr (inl (n, x))))) = refl
statement_mark explicit (inr (inr (inr (inr (inl x))))) = refl
statement_mark explicit (inr (inr (inr (inr (inr (inl l)))))) = refl
statement_mark explicit (inr (inr (inr (inr (inr (inr (inl l))))))) = refl
statement_mark explicit (inr (inr (inr (inr (inr (inr (inr (inl x)))))))) = ap end_marks (sym (end.rolls-Close x)) ∙ fold-roll-End _ _ _ end_step branch_step proc_step (Close x)
statement_mark explicit (inr (inr (inr (inr (inr (inr (inr (inr (x, (b, bs)))))))))) = case_mark explicit x b bs

-- the fit of an end by its layer
end_fit : (explicit : Bool) (x : End-F End Branch Proc) (e : End) → roll-End x ≡ e → statement_fits explicit (statement.End e) ≡ (end_fits explicit (roll-End x) && not (call_layer x))
end_fit explicit x e r = ap (λ z. end_fits explicit z && not (is_call z)) (sym r) ∙ ap (λ z. end_fits explicit (roll-End x) && not (call_layer z)) (out-roll-End x)

-- names fit always
spawn_fit : (explicit : Bool) (args : List Lin) (ys : List (List ℕ)) (by : Option By) → by_fits explicit by ≡ (args_form.fits args && (names_form.fits ys && by_fits explicit by))
spawn_fit explicit args ys by = sym (ap₂ (λ a b. a && (b && by_fits explicit by)) (all_true_of _ (λ l. refl) args) (all_true_of _ (λ n. refl) ys))

pub statement_fit : (explicit : Bool) (x : Layer) → statement_fits explicit (to_statement x) ≡ (layer_form explicit).fits x
statement_fit explicit (inl (inl x)) = and_true explicit
statement_fit explicit (inl (inr (inl x))) = and_true explicit
statement_fit explicit (inl (inr (inr (inl x)))) = and_true explicit
statement_fit explicit (inl (inr (inr (inr (inl x))))) = and_true explicit
statement_fit explicit (inl (inr (inr (inr (inr u))))) = end_fit explicit Impossible end.Impossible end.rolls-Impossible ∙ ap (λ z. z && true) (fold-roll-End _ _ _ (end_proper explicit) branch_proper (proc_proper explicit) Impossible)
statement_fit explicit (inr (inl (x, inl l))) = refl
statement_fit explicit (inr (inl (x, inr (inl (y, by))))) = end_fit explicit (Forward x y by) (end.Forward x y by) (end.rolls-Forward x y by)
    ∙ ap (λ z. z && true) (fold-roll-End _ _ _ (end_proper explicit) branch_proper (proc_proper explicit) (Forward x y by)) ∙ sym (and_true (by_fits explicit by))
statement_fit explicit (inr (inl (x, inr (inr (inl y))))) = refl
statement_fit explicit (inr (inl (x, inr (inr (inr (f, (args, (ys, by)))))))) = spawn_fit explicit args ys by
statement_fit explicit (inr (inr (inl (x, inl (y, by))))) = refl
statement_fit explicit (inr (inr (inl (x, inr e)))) = refl
statement_fit explicit (inr (inr (inr (inl (n, x))))) = refl
statement_fit explicit (inr (inr (inr (inr (inl x))))) = refl
statement_fit explicit (inr (inr (inr (inr (inr (inl l)))))) = refl
statement_fit explicit (inr (inr (inr (inr (inr (inr (inl l))))))) = refl
statement_fit explicit (inr (inr (inr (inr (inr (inr (inr (inl x)))))))) = end_fit explicit (Close x) (end.Close x) (end.rolls-Close x)
    ∙ ap (λ z. z && true) (fold-roll-End _ _ _ (end_proper explicit) branch_proper (proc_proper explicit) (Close x))
statement_fit explicit (inr (inr (inr (inr (inr (inr (inr (inr (x, (b, bs)))))))))) = end_fit explicit (Case x b bs) (end.Case x b bs) (end.rolls-Case x b bs)
    ∙ ap (λ z. z && true) (fold-roll-End _ _ _ (end_proper explicit) branch_proper (proc_proper explicit) (Case x b bs)) ∙ sym (and_true (branch_fits explicit b && all_true (map (branch_fits explicit) bs)))

pub close_fits : (explicit : Bool) (x : List ℕ) → statement_fits explicit (statement.End (end.Close x)) ≡ true
close_fits explicit x = statement_fit explicit (inr (inr (inr (inr (inr (inr (inr (inl x))))))))

-- ---- their readers

abbrev raw_explicit_read : Reader Explicit
raw_explicit_read = alt_read (is kind.Assert) (behind_kind kind.Assert name_read) (alt_read (is kind.Assume) (behind_kind kind.Assume name_read)
    (alt_read (is kind.Pay) (behind_kind kind.Pay name_read) (alt_read (is kind.Get) (behind_kind kind.Get name_read) (fixed_read kind.Impossible))))

explicit_reads : as_read to_explicit raw_explicit_read ≡ explicit_read
explicit_reads = alt_choice to_explicit (is kind.Assert) _ _
    ∙ ap (choice_read (is kind.Assert) assert_read) (alt_choice (λ x. to_explicit (inr x)) (is kind.Assume) _ _
    ∙ ap (choice_read (is kind.Assume) assume_read) (alt_choice (λ x. to_explicit (inr (inr x))) (is kind.Pay) _ _
    ∙ ap (choice_read (is kind.Pay) pay_read) (alt_choice (λ x. to_explicit (inr (inr (inr x)))) (is kind.Get) _ _)))

abbrev bind_raw : Reader (List ℕ × List ℕ)
bind_raw = seq_read (braced_read name_read) (behind_kind kind.LeftArrow (behind_kind kind.Recv name_read))

abbrev branches_read : Reader Proc → Reader Branches
branches_read one = seq_read (branch_by one) (further_branches one)

abbrev case_raw : Reader Proc → Reader (List ℕ × Branches)
case_raw one = behind_kind kind.Case (seq_read name_read (between_kinds kind.OpenParen kind.CloseParen (branches_read one)))

abbrev raw_plain_read : Bool → Reader Lin → Reader Proc → Reader Plain
raw_plain_read explicit sum one = alt_read (is kind.Name) (seq_read name_read (after_name_read explicit sum)) (alt_read (is kind.Send) (behind_kind kind.Send (seq_read name_read (sent_read explicit sum)))
    (alt_read (is kind.OpenBrace) bind_raw (alt_read (is kind.Wait) (behind_kind kind.Wait name_read) (alt_read (is kind.Work) (behind_kind kind.Work (braced_read sum))
    (alt_read (is kind.Delay) (behind_kind kind.Delay (braced_read sum)) (alt_read (is kind.Close) (behind_kind kind.Close name_read) (case_raw one)))))))

later_reads : (sum : Reader Lin) (one : Reader Proc) → as_read (λ x. to_plain (inr (inr (inr x)))) (alt_read (is kind.Wait) (behind_kind kind.Wait name_read) (alt_read (is kind.Work) (behind_kind kind.Work (braced_read sum))
    (alt_read (is kind.Delay) (behind_kind kind.Delay (braced_read sum)) (alt_read (is kind.Close) (behind_kind kind.Close name_read) (case_raw one)))))
    ≡ choice_read (is kind.Wait) wait_read (choice_read (is kind.Work) (work_by sum) (choice_read (is kind.Delay) (delay_by sum) (choice_read (is kind.Close) close_read (case_by one))))
later_reads sum one = alt_choice (λ x. to_plain (inr (inr (inr x)))) (is kind.Wait) _ _
    ∙ ap (choice_read (is kind.Wait) wait_read) (alt_choice (λ x. to_plain (inr (inr (inr (inr x))))) (is kind.Work) _ _
    ∙ ap (choice_read (is kind.Work) (work_by sum)) (alt_choice (λ x. to_plain (inr (inr (inr (inr (inr x)))))) (is kind.Delay) _ _
    ∙ ap (choice_read (is kind.Delay) (delay_by sum)) (alt_choice (λ x. to_plain (inr (inr (inr (inr (inr (inr x))))))) (is kind.Close) _ _)))

plain_reads : (explicit : Bool) (sum : Reader Lin) (one : Reader Proc) → as_read to_plain (raw_plain_read explicit sum one) ≡ plain_by explicit sum one
plain_reads explicit sum one = alt_choice to_plain (is kind.Name) _ _
    ∙ ap₂ (choice_read (is kind.Name)) (named_reads explicit sum) (alt_choice (λ x. to_plain (inr x)) (is kind.Send) _ _
    ∙ ap₂ (choice_read (is kind.Send)) (send_reads explicit sum) (alt_choice (λ x. to_plain (inr (inr x))) (is kind.OpenBrace) _ _
    ∙ ap (choice_read (is kind.OpenBrace) bind_read) (later_reads sum one)))

statement_reads : (explicit : Bool) (sum : Reader Lin) (one : Reader Proc) → as_read to_statement (guarded_read explicit explicit_first raw_explicit_read (raw_plain_read explicit sum one)) ≡ statement_by explicit sum one
statement_reads explicit sum one = guarded_choice to_statement explicit explicit_first raw_explicit_read (raw_plain_read explicit sum one)
    ∙ ap₂ (flag_read explicit explicit_first) explicit_reads (plain_reads explicit sum one)

explicit_exact : (d : ℕ) → Exact bars d explicit_form raw_explicit_read
explicit_exact d = alt_exact bars d (after kind.Assert name) _ _ _ (behind_exact bars d _ name _ (name_exact bars d))
    (alt_exact bars d (after kind.Assume name) _ _ _ (behind_exact bars d _ name _ (name_exact bars d))
    (alt_exact bars d (after kind.Pay name) _ _ _ (behind_exact bars d _ name _ (name_exact bars d))
    (alt_exact bars d (after kind.Get name) (word kind.Impossible) _ _ (behind_exact bars d _ name _ (name_exact bars d)) (fixed_exact bars d _) refl refl) refl refl) refl refl) refl refl

module _ (d : ℕ) (explicit : Bool) (one : Reader Proc) (E : Exact bars d (proc_form explicit) one) where
  branch_exact : Exact bars d (branch_form explicit) (branch_by one)
  branch_exact = shape_exact bars d (seq (up_to kind.RightArrow name) (proc_form explicit)) _
      (seq_exact bars d (up_to kind.RightArrow name) (proc_form explicit) _ _ (ending_exact bars d _ name _ (name_exact bars d) refl refl) E refl)
      (branch_form explicit) to_branch (λ b. (b.label, b.body)) (λ b f. refl) branch_mark (branch_fit explicit) refl refl refl
      (branch_fit explicit (97 ∷ [], record { steps = []; end = some_end }) ∙ E.some_fits)

  branches_exact : Exact bars d (branches_form explicit) (branches_read one)
  branches_exact = seq_exact bars d (branch_form explicit) (many (after kind.Bar (branch_form explicit))) _ _ branch_exact
      (many_exact bars d (after kind.Bar (branch_form explicit)) _ (behind_exact bars d _ (branch_form explicit) _ branch_exact) refl refl) refl

  case_exact : Exact bars d (case_form explicit) (case_raw one)
  case_exact = behind_exact bars d _ (seq name (within kind.OpenParen kind.CloseParen (branches_form explicit))) _
      (seq_exact bars d name (within kind.OpenParen kind.CloseParen (branches_form explicit)) _ _ (name_exact bars d) (between_exact bars d _ _ (branches_form explicit) _ branches_exact refl) refl)

  bind_exact : Exact bars d bind_form bind_raw
  bind_exact = seq_exact bars d (within kind.OpenBrace kind.CloseBrace name) (after kind.LeftArrow (after kind.Recv name)) _ _ (between_exact bars d _ _ name _ (name_exact bars d) refl)
      (behind_exact bars d _ (after kind.Recv name) _ (behind_exact bars d _ name _ (name_exact bars d))) refl

  plain_exact : Exact bars d (plain_form explicit) (raw_plain_read explicit (lin_read false d) one)
  plain_exact = alt_exact bars d (seq name (after_name_form explicit)) _ _ _ (named_exact d explicit)
      (alt_exact bars d (after kind.Send (seq name (sent_form explicit))) _ _ _ (send_exact d explicit)
      (alt_exact bars d bind_form _ _ _ bind_exact
      (alt_exact bars d (after kind.Wait name) _ _ _ (behind_exact bars d _ name _ (name_exact bars d))
      (alt_exact bars d (after kind.Work braced_lin) _ _ _ (behind_exact bars d _ braced_lin _ (braced_exact d))
      (alt_exact bars d (after kind.Delay braced_lin) _ _ _ (behind_exact bars d _ braced_lin _ (braced_exact d))
      (alt_exact bars d (after kind.Close name) (case_form explicit) _ _ (behind_exact bars d _ name _ (name_exact bars d)) case_exact refl refl) refl refl) refl refl) refl refl) refl refl) refl refl) refl refl

  pub statement_exact : Exact bars d (statement_form explicit) (statement_by explicit (lin_read false d) one)
  statement_exact = subst (Exact bars d (statement_form explicit)) (statement_reads explicit (lin_read false d) one)
      (shape_exact bars d (layer_form explicit) _ (guarded_exact bars d explicit_form (plain_form explicit) _ _ (explicit_exact d) plain_exact refl refl explicit)
      (statement_form explicit) to_statement from_statement (statement_there explicit) (statement_mark explicit) (statement_fit explicit) refl refl refl (close_fits explicit (97 ∷ [])))
