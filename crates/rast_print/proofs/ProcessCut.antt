-- The canonical text of a process term is cut into its tokens, whatever blanks its lines begin with.
use Rattle.std.proofs.Common.{◌≡◌, ℕ, true, false, ◌&&◌, List, [], ◌∷◌, ◌++◌, map, codes, Option, Some, None, ap, sym, ◌∙◌, refl, append-nil}
use Rattle.std.specs.List.{flat_map, list_all}
use Rattle.std.proofs.lemmas.List.Folds.{list_all-append}
use Rattle.rast_forms.specs.Marks.{Mark, joined}
use Rattle.rast_ast.specs.declared.kind.Kind.TheVariants as kind
use Rattle.rast_ast.specs.declared.term.Lin.{Lin}
use Rattle.rast_ast.specs.declared.process.Ref.{Ref}
use Rattle.rast_ast.specs.declared.process.Ref.TheVariants as ref
use Rattle.rast_ast.specs.declared.process.By.{By}
use Rattle.rast_ast.specs.declared.process.Step.{Step}
use Rattle.rast_ast.specs.declared.process.Step.TheVariants as step
use Rattle.rast_ast.specs.declared.process.Proc.{Proc, roll-Proc}
use Rattle.rast_ast.specs.declared.process.End.{End, roll-End}
use Rattle.rast_ast.specs.declared.process.Branch.{Branch, roll-Branch}
use Rattle.rast_ast.specs.declared.process.End.TheOpen.{End-F, Proc-F, Branch-F, Close, Forward, Call, Case, Impossible}
use Rattle.rast_ast.specs.declared.process.End.TheFolds.{map-End, map-Proc, map-Branch, fold-roll-End, fold-roll-Proc, fold-roll-Branch}
use Rattle.rast_ast.specs.Written.{fixed, name}
use Rattle.rast_ast.specs.Types.{braced, args_marks}
use Rattle.rast_ast.specs.Processes as grammar
use Rattle.rast_lex.specs.Bytes.{is_blank}
use Rattle.rast_lex.proofs.Runs.{and_left, and_right}
use Rattle.rast_print.specs.LinearText.{braced_text}
use Rattle.rast_print.specs.TypeText.{args_text}
use Rattle.rast_print.specs.ProcessText.{spaced_name, names_text, ref_text, next_ref_text, by_text, optional_by_text, use_text, step_text, step_line, close_text, deeper, proc_step, end_step, branch_step, proc_text, end_text, branch_text}
use Rattle.rast_print.proofs.Induction.{Such, each_proc}
use Rattle.rast_print.proofs.Cutting.{MayFollow, Cut, next, ◌▷◌, open_cut, weaker, as_is, regroup, none_cut, list_begins, list_cut, parts_cut}
use Rattle.rast_print.proofs.Tokens as text
use Rattle.rast_print.proofs.LinearCut.{braced_cut, args_cut}

-- ---- lists of names and of references

pub names_begin : (ns : List (List ℕ)) (r : List ℕ) → MayFollow false r → MayFollow false (names_text ns ++ r)
names_begin = list_begins false spaced_name name (λ a z. refl)

pub names_cut : (ns : List (List ℕ)) → Cut false (names_text ns) (grammar.names_marks ns)
names_cut = list_cut false spaced_name name (λ n. text.blank_cut 32 refl ▷ text.name_cut n) (λ a z. refl)

args_begin : (args : List Lin) (r : List ℕ) → MayFollow false r → MayFollow false (args_text args ++ r)
args_begin = list_begins false braced_text braced (λ a z. refl)

ref_cut : (r : Ref) → Cut false (ref_text r) (grammar.ref_marks r)
ref_cut ref.Refl = text.refl_word
ref_cut (ref.Equation k args) = next (text.number_cut false k) (args_begin args) (weaker (args_cut args))

by_cut : (b : By) → Cut false (by_text b) (grammar.by_marks b)
by_cut b = text.by_space ▷ next (ref_cut b.first) (list_begins false next_ref_text (λ r. fixed kind.Comma ++ grammar.ref_marks r) (λ a z. refl) b.rest)
    (list_cut false next_ref_text (λ r. fixed kind.Comma ++ grammar.ref_marks r) (λ r. text.comma_space ▷ ref_cut r) (λ a z. refl) b.rest)

pub optional_by_begins : (o : Option By) (r : List ℕ) → MayFollow false r → MayFollow false (optional_by_text o ++ r)
optional_by_begins None r h = h
optional_by_begins (Some b) r h = refl

pub optional_by_cut : (o : Option By) → Cut false (optional_by_text o) (grammar.optional_by o)
optional_by_cut None = none_cut false
optional_by_cut (Some b) = text.blank_cut 32 refl ▷ by_cut b

by_after_names : (ys : List (List ℕ)) (o : Option By) (r : List ℕ) → MayFollow false r → MayFollow false ((names_text ys ++ optional_by_text o) ++ r)
by_after_names [] o r h = optional_by_begins o r h
by_after_names (y ∷ ys) o r h = refl

use_begins : (args : List Lin) (ys : List (List ℕ)) (o : Option By) (r : List ℕ) → MayFollow false r → MayFollow false ((args_text args ++ (names_text ys ++ optional_by_text o)) ++ r)
use_begins [] ys o r h = by_after_names ys o r h
use_begins (a ∷ args) ys o r h = refl

-- f{e}.. y.. by ..
use_cut : (f : List ℕ) (args : List Lin) (ys : List (List ℕ)) (o : Option By) → Cut false (use_text f args ys o) (name f ++ (args_marks args ++ (grammar.names_marks ys ++ grammar.optional_by o)))
use_cut f args ys o = next (text.name_cut f) (use_begins args ys o) (args_cut args ▷ next (names_cut ys) (optional_by_begins o) (optional_by_cut o))

-- ---- steps

step_cut : (s : Step) → Cut false (step_text s) (grammar.step_marks s)
step_cut (step.Label x l) = next (text.name_cut x) (λ r h. refl) (text.dot ▷ text.name_cut l)
step_cut (step.Send x w o) = text.send_space ▷ next (text.name_cut x) (λ r h. refl) (text.blank_cut 32 refl ▷ next (text.name_cut w) (optional_by_begins o) (optional_by_cut o))
step_cut (step.Index x e) = text.send_space ▷ next (text.name_cut x) (λ r h. refl) (text.blank_cut 32 refl ▷ weaker (braced_cut e))
step_cut (step.Recv y x) = next (text.name_cut y) (λ r h. refl) (text.spaced_left_arrow ▷ (text.recv_space ▷ text.name_cut x))
step_cut (step.Bind n x) = (text.open_brace ▷ next (text.name_cut n) (λ r h. refl) text.close_brace) ▷ (text.spaced_left_arrow ▷ (text.recv_space ▷ text.name_cut x))
step_cut (step.Wait x) = text.wait_space ▷ text.name_cut x
step_cut (step.Spawn x f args ys o) = next (text.name_cut x) (λ r h. refl) (text.spaced_left_arrow ▷ use_cut f args ys o)
step_cut (step.Work e) = text.work_space ▷ weaker (braced_cut e)
step_cut (step.Delay e) = text.delay_space ▷ weaker (braced_cut e)
step_cut (step.Assert x) = text.assert_space ▷ text.name_cut x
step_cut (step.Assume x) = text.assume_space ▷ text.name_cut x
step_cut (step.Pay x) = text.pay_space ▷ text.name_cut x
step_cut (step.Get x) = text.get_space ▷ text.name_cut x

-- ---- blanks

pub record AreBlanks (indent : List ℕ) : Type 0 where
  pub all : list_all is_blank indent ≡ true

blanks_are : (indent : List ℕ) → list_all is_blank indent ≡ true → Cut true indent []
blanks_are [] h = none_cut true
blanks_are (c ∷ cs) h = text.blank_cut c (and_left (is_blank c) (list_all is_blank cs) h) ▷ blanks_are cs (and_right (is_blank c) (list_all is_blank cs) h)

blanks_cut : {indent : List ℕ} → AreBlanks indent → Cut true indent []
blanks_cut {indent = indent} h = blanks_are indent h.all

deeper_blanks : {indent : List ℕ} → AreBlanks indent → AreBlanks (deeper indent)
deeper_blanks {indent = indent} h = record { all = list_all-append is_blank indent (codes "  ") ∙ ap (λ b. b && true) h.all }

step_line_cut : (indent : List ℕ) → AreBlanks indent → (s : Step) → Cut true (step_line indent s) (grammar.step_marks s ++ fixed kind.Semicolon)
step_line_cut indent h s = blanks_cut h ▷ next (step_cut s) (λ r m. refl) text.semicolon_line

steps_cut : (indent : List ℕ) → AreBlanks indent → (ss : List Step) → Cut true (flat_map (step_line indent) ss) (joined (map (λ s. grammar.step_marks s ++ fixed kind.Semicolon) ss))
steps_cut indent h = list_cut true (step_line indent) (λ s. grammar.step_marks s ++ fixed kind.Semicolon) (step_line_cut indent h) (λ a z. tt)

-- a text before the end of its line
pub line_after : {x : List ℕ} {ms : List Mark} → Cut false x ms → Cut true (x ++ codes "\n") ms
line_after {x = x} {ms = ms} p = as_is refl (sym (append-nil ms)) (next p (λ r m. refl) (text.blank_cut 10 refl))

-- ---- terms, ends and branches

abbrev Indented : Type 0
Indented = List ℕ → List ℕ

abbrev EndCut : End → Type 0
EndCut e = (indent : List ℕ) → AreBlanks indent → Cut false (end_text e indent) (grammar.end_marks e)

abbrev BranchCut : Branch → Type 0
BranchCut b = (indent : List ℕ) → AreBlanks indent → Cut true (branch_text b indent) (grammar.branch_marks b)

abbrev ProcCut : Proc → Type 0
ProcCut p = (indent : List ℕ) → AreBlanks indent → Cut false (proc_text p indent) (grammar.proc_marks p)

-- a tree from its parts: its text and its tokens are those of its layer
end_by : (indent : List ℕ) (y : End-F End Branch Proc) → Cut false (end_step (map-End End Branch Proc Indented Indented Indented end_text branch_text proc_text y) indent) (grammar.end_step (map-End End Branch Proc (List Mark) (List Mark) (List Mark) grammar.end_marks grammar.branch_marks grammar.proc_marks y)) → Cut false (end_text (roll-End y) indent) (grammar.end_marks (roll-End y))
end_by indent y = as_is (ap (λ (f : Indented). f indent) (fold-roll-End Indented Indented Indented end_step branch_step proc_step y)) (fold-roll-End (List Mark) (List Mark) (List Mark) grammar.end_step grammar.branch_step grammar.proc_step y)

branch_by : (indent : List ℕ) (y : Branch-F End Branch Proc) → Cut true (branch_step (map-Branch End Branch Proc Indented Indented Indented end_text branch_text proc_text y) indent) (grammar.branch_step (map-Branch End Branch Proc (List Mark) (List Mark) (List Mark) grammar.end_marks grammar.branch_marks grammar.proc_marks y)) → Cut true (branch_text (roll-Branch y) indent) (grammar.branch_marks (roll-Branch y))
branch_by indent y = as_is (ap (λ (f : Indented). f indent) (fold-roll-Branch Indented Indented Indented end_step branch_step proc_step y)) (fold-roll-Branch (List Mark) (List Mark) (List Mark) grammar.end_step grammar.branch_step grammar.proc_step y)

proc_by : (indent : List ℕ) (y : Proc-F End Branch Proc) → Cut false (proc_step (map-Proc End Branch Proc Indented Indented Indented end_text branch_text proc_text y) indent) (grammar.proc_step (map-Proc End Branch Proc (List Mark) (List Mark) (List Mark) grammar.end_marks grammar.branch_marks grammar.proc_marks y)) → Cut false (proc_text (roll-Proc y) indent) (grammar.proc_marks (roll-Proc y))
proc_by indent y = as_is (ap (λ (f : Indented). f indent) (fold-roll-Proc Indented Indented Indented end_step branch_step proc_step y)) (fold-roll-Proc (List Mark) (List Mark) (List Mark) grammar.end_step grammar.branch_step grammar.proc_step y)

case_cut : (x indent : List ℕ) → AreBlanks indent → (b : Such BranchCut) (bs : List (Such BranchCut)) → Cut true (end_step (Case x (branch_text b.0) (map branch_text (map (λ (e : Such BranchCut). e.0) bs))) indent) (grammar.end_step (Case x (grammar.branch_marks b.0) (map grammar.branch_marks (map (λ (e : Such BranchCut). e.0) bs))))
case_cut x indent h b bs =
    let into : AreBlanks (deeper indent) = deeper_blanks h in
    text.case_space ▷ regroup x (codes " (\n") ((deeper indent ++ branch_text b.0 (deeper indent)) ++ (flat_map (λ (t : Indented). deeper indent ++ (codes "| " ++ t (deeper indent))) (map branch_text (map (λ (e : Such BranchCut). e.0) bs)) ++ close_text indent)) (name x) (fixed kind.OpenParen) (grammar.branch_marks b.0 ++ (joined (map (λ (m : List Mark). fixed kind.Bar ++ m) (map grammar.branch_marks (map (λ (e : Such BranchCut). e.0) bs))) ++ fixed kind.CloseParen))
    (next (text.name_cut x) (λ r m. refl) (text.open_paren_line ▷ ((blanks_cut into ▷ b.1 (deeper indent) into)
    ▷ (parts_cut true (λ (t : Indented). deeper indent ++ (codes "| " ++ t (deeper indent))) branch_text (λ (m : List Mark). fixed kind.Bar ++ m) grammar.branch_marks (λ (e : Such BranchCut). e.0) (λ a. blanks_cut into ▷ (text.bar_space ▷ a.1 (deeper indent) into)) (λ a z. tt) bs
    ▷ (blanks_cut h ▷ text.close_paren)))))

end_at : (y : End-F (Such EndCut) (Such BranchCut) (Such ProcCut)) → EndCut (roll-End (map-End (Such EndCut) (Such BranchCut) (Such ProcCut) End Branch Proc (λ e. e.0) (λ e. e.0) (λ e. e.0) y))
end_at (Close x) indent h = end_by indent (Close x) (text.close_space ▷ text.name_cut x)
end_at (Forward x y o) indent h = end_by indent (Forward x y o) (next (text.name_cut x) (λ r m. refl) (text.spaced_forward ▷ next (text.name_cut y) (optional_by_begins o) (optional_by_cut o)))
end_at (Call x f args ys o) indent h = end_by indent (Call x f args ys o) (next (text.name_cut x) (λ r m. refl) (text.spaced_left_arrow ▷ use_cut f args ys o))
end_at (Case x b bs) indent h = end_by indent (Case x b.0 (map (λ (e : Such BranchCut). e.0) bs)) (weaker (case_cut x indent h b bs))
end_at Impossible indent h = end_by indent Impossible text.impossible_word

branch_at : (y : Branch-F (Such EndCut) (Such BranchCut) (Such ProcCut)) → BranchCut (roll-Branch (map-Branch (Such EndCut) (Such BranchCut) (Such ProcCut) End Branch Proc (λ e. e.0) (λ e. e.0) (λ e. e.0) y))
branch_at y indent h = branch_by indent (map-Branch (Such EndCut) (Such BranchCut) (Such ProcCut) End Branch Proc (λ e. e.0) (λ e. e.0) (λ e. e.0) y)
    (next (text.name_cut y.label) (λ r m. refl) (text.right_arrow_line ▷ line_after (y.body.1 (deeper indent) (deeper_blanks h))))

proc_at : (y : Proc-F (Such EndCut) (Such BranchCut) (Such ProcCut)) → ProcCut (roll-Proc (map-Proc (Such EndCut) (Such BranchCut) (Such ProcCut) End Branch Proc (λ e. e.0) (λ e. e.0) (λ e. e.0) y))
proc_at y indent h = proc_by indent (map-Proc (Such EndCut) (Such BranchCut) (Such ProcCut) End Branch Proc (λ e. e.0) (λ e. e.0) (λ e. e.0) y)
    (open_cut (steps_cut indent h y.steps ▷ (blanks_cut h ▷ y.end.1 indent h)))

pub proc_cut : (p : Proc) (indent : List ℕ) → AreBlanks indent → Cut false (proc_text p indent) (grammar.proc_marks p)
proc_cut = each_proc EndCut BranchCut ProcCut end_at branch_at proc_at
