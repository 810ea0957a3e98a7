-- Process terms are read exactly.
use Rattle.std.proofs.Common.{◌≡◌, ℕ, suc, ◌-◌, Bool, true, false, not, ◌&&◌, List, [], ◌∷◌, ◌++◌, map, ap, ap₂, sym, ◌∙◌, refl}
use Rattle.rast_forms.specs.Words.{Fixed, all_true}
use Rattle.rast_forms.specs.Marks.{starred, joined, plain}
use Rattle.rast_forms.specs.Reading.{Reader}
use Rattle.rast_forms.proofs.Forms.{Form as Shape, Exact}
use Rattle.rast_forms.proofs.Sets.{and_left, and_right, and_both}
use Rattle.rast_forms.proofs.Chain.{before, chain, chain_exact}
use Rattle.rast_forms.proofs.Shapes.{star, star_exact}
use Rattle.rast_ast.specs.Kinds.{code}
use Rattle.rast_ast.specs.declared.kind.Kind.TheVariants as kind
use Rattle.rast_ast.specs.declared.process.Step.{Step}
use Rattle.rast_ast.specs.declared.process.Step.TheVariants as step
use Rattle.rast_ast.specs.declared.process.Proc.{Proc}
use Rattle.rast_ast.specs.declared.process.Branch.{Branch}
use Rattle.rast_ast.specs.declared.process.End.{End, roll-End, out-End, roll-out-End}
use Rattle.rast_ast.specs.declared.process.End.TheVariants as end
use Rattle.rast_ast.specs.declared.process.End.TheOpen.{End-F, Close, Forward, Call, Case, Impossible}
use Rattle.rast_ast.specs.declared.process.End.TheFolds.{fold-roll-End, fold-roll-Proc}
use Rattle.rast_ast.specs.Processes.{step_marks, proc_step, end_step, branch_step, proc_marks, end_marks, step_fits, proc_proper, end_proper, branch_proper, proc_fits, end_fits}
use Rattle.rast_parse.specs.declared.statement.Statement.{Statement}
use Rattle.rast_parse.specs.declared.statement.Statement.TheVariants as statement
use Rattle.rast_parse.specs.LinearReading.{lin_read}
use Rattle.rast_parse.specs.ProcessReading.{goes, ends, is_spawn, step_of, called, end_of, to_proc, proc_by}
use Rattle.rast_parse.proofs.Narrow.{narrow_exact}
use Rattle.rast_parse.proofs.LinearExact.{bars}
use Rattle.rast_parse.proofs.StatementsExact.{some_end, proc_form, is_call, call_layer, statement_form, close_fits, statement_exact}

abbrev semi : ℕ
semi = code kind.Semicolon - 2

abbrev last : Statement
last = statement.End some_end

abbrev pub proc_chain : Bool → Shape (List Statement × Statement)
proc_chain explicit = chain semi goes ends (statement_form explicit) last

-- ---- from a process term to its statements

last_layer : End-F End Branch Proc → End → Statement
last_layer (Close x) e = statement.End e
last_layer (Forward x y by) e = statement.End e
last_layer (Call x f args ys by) e = statement.Step (step.Spawn x f args ys by)
last_layer (Case x b bs) e = statement.End e
last_layer Impossible e = statement.End e

pub from_proc : Proc → List Statement × Statement
from_proc p = (map statement.Step p.steps, last_layer (out-End p.end) p.end)

steps_there : (ss : List Step) → map step_of (map statement.Step ss) ≡ ss
steps_there [] = refl
steps_there (s ∷ ss) = ap (λ z. s ∷ z) (steps_there ss)

end_there : (x : End-F End Branch Proc) (e : End) → roll-End x ≡ e → end_of (last_layer x e) ≡ e
unfolding last_layer
end_there (Close x) e r = refl
end_there (Forward x y by) e r = refl
end_there (Call x f args ys by) e r = sym (end.rolls-Call x f args ys by) ∙ r
end_there (Case x b bs) e r = refl
end_there Impossible e r = refl

pub proc_there : (p : Proc) → to_proc (from_proc p) ≡ p
unfolding from_proc
proc_there p = ap₂ (λ (s : List Step) (e : End). let q : Proc = record { steps = s; end = e } in q) (steps_there p.steps) (end_there (out-End p.end) p.end (roll-out-End p.end))

-- ---- tokens

spawn_mark : (s : Step) → is_spawn s ≡ true → end_marks (called s) ≡ step_marks s
spawn_mark (step.Spawn x f args ys by) e = ap end_marks (sym (end.rolls-Call x f args ys by)) ∙ fold-roll-End _ _ _ end_step branch_step proc_step (Call x f args ys by)
spawn_mark _ e = absurd (cc)

spawn_fit : (explicit : Bool) (s : Step) → is_spawn s ≡ true → end_fits explicit (called s) ≡ step_fits explicit s
spawn_fit explicit (step.Spawn x f args ys by) e = ap (end_fits explicit) (sym (end.rolls-Call x f args ys by)) ∙ fold-roll-End _ _ _ (end_proper explicit) branch_proper (proc_proper explicit) (Call x f args ys by)
spawn_fit explicit _ e = absurd (cc)

module _ (explicit : Bool) where
  steps_mark : (xs : List Statement) → all_true (map (λ x. goes x && (statement_form explicit).fits x) xs) ≡ true →
      joined (map (λ (s : Step). step_marks s ++ (plain (Fixed semi) ∷ [])) (map step_of xs)) ≡ joined (map (before semi (statement_form explicit)) xs)
  steps_mark [] f = refl
  steps_mark (statement.Step s ∷ xs) f = ap (λ z. (step_marks s ++ (plain (Fixed semi) ∷ [])) ++ z) (steps_mark xs (and_right _ _ f))
  steps_mark (statement.End e ∷ xs) f = absurd (cc)

  end_mark : (z : Statement) → (ends z && (statement_form explicit).fits z) ≡ true → end_marks (end_of z) ≡ (statement_form explicit).mark z
  end_mark (statement.Step s) f = spawn_mark s (and_left _ _ f)
  end_mark (statement.End e) f = refl

  pub proc_mark : (x : List Statement × Statement) → (proc_chain explicit).fits x ≡ true → proc_marks (to_proc x) ≡ starred ((proc_chain explicit).mark x)
  proc_mark (xs, z) f = fold-roll-Proc _ _ _ end_step branch_step proc_step (record { steps = map step_of xs; end = end_of z })
      ∙ ap₂ (λ a b. starred (a ++ b)) (steps_mark xs (and_left _ _ f)) (end_mark z (and_right _ _ f))

  steps_fit : (xs : List Statement) → all_true (map (λ x. goes x && (statement_form explicit).fits x) xs) ≡ true → all_true (map (step_fits explicit) (map step_of xs)) ≡ true
  steps_fit [] f = refl
  steps_fit (statement.Step s ∷ xs) f = and_both _ _ (and_left _ _ f) (steps_fit xs (and_right _ _ f))
  steps_fit (statement.End e ∷ xs) f = absurd (cc)

  end_fit : (z : Statement) → (ends z && (statement_form explicit).fits z) ≡ true → end_fits explicit (end_of z) ≡ true
  end_fit (statement.Step s) f = spawn_fit explicit s (and_left _ _ f) ∙ and_right _ _ f
  end_fit (statement.End e) f = and_left _ _ f

  proc_fits_at : (p : Proc) → proc_fits explicit p ≡ (all_true (map (step_fits explicit) p.steps) && end_fits explicit p.end)
  proc_fits_at p = fold-roll-Proc _ _ _ (end_proper explicit) branch_proper (proc_proper explicit) (record { steps = p.steps; end = p.end })

  pub proc_fit : (x : List Statement × Statement) → (proc_chain explicit).fits x ≡ true → proc_fits explicit (to_proc x) ≡ true
  proc_fit (xs, z) f = proc_fits_at (to_proc (xs, z)) ∙ and_both _ _ (steps_fit xs (and_left _ _ f)) (end_fit z (and_right _ _ f))

  steps_fit_back : (ss : List Step) → all_true (map (step_fits explicit) ss) ≡ true → all_true (map (λ x. goes x && (statement_form explicit).fits x) (map statement.Step ss)) ≡ true
  steps_fit_back [] f = refl
  steps_fit_back (s ∷ ss) f = and_both _ _ (and_left _ _ f) (steps_fit_back ss (and_right _ _ f))

  not_call : (e : End) (x : End-F End Branch Proc) → out-End e ≡ x → call_layer x ≡ false → end_fits explicit e ≡ true → (true && (end_fits explicit e && not (is_call e))) ≡ true
  not_call e x o c f = let h : is_call e ≡ false = ap call_layer o ∙ c in rw (f, h) refl

  end_fit_back : (x : End-F End Branch Proc) (e : End) → out-End e ≡ x → roll-End x ≡ e → end_fits explicit e ≡ true → (ends (last_layer x e) && (statement_form explicit).fits (last_layer x e)) ≡ true
  unfolding last_layer
  end_fit_back (Close x) e o r f = not_call e (Close x) o refl f
  end_fit_back (Forward x y by) e o r f = not_call e (Forward x y by) o refl f
  end_fit_back (Call x f args ys by) e o r g = sym (fold-roll-End _ _ _ (end_proper explicit) branch_proper (proc_proper explicit) (Call x f args ys by)) ∙ ap (end_fits explicit) r ∙ g
  end_fit_back (Case x b bs) e o r f = not_call e (Case x b bs) o refl f
  end_fit_back Impossible e o r f = not_call e Impossible o refl f

  pub proc_fit_back : (p : Proc) → proc_fits explicit p ≡ true → (proc_chain explicit).fits (from_proc p) ≡ true
  unfolding from_proc
  proc_fit_back p f = let g : (all_true (map (step_fits explicit) p.steps) && end_fits explicit p.end) ≡ true = sym (proc_fits_at p) ∙ f in
      and_both _ _ (steps_fit_back p.steps (and_left _ _ g)) (end_fit_back (out-End p.end) p.end refl (roll-out-End p.end) (and_right _ _ g))

some_way : (x : Statement) → goes x ≡ false → ends x ≡ true
some_way (statement.Step s) e = absurd (cc)
some_way (statement.End s) e = refl

goes_if : (x : Statement) → ends x ≡ false → goes x ≡ true
goes_if (statement.Step s) e = refl
goes_if (statement.End s) e = absurd (cc)

pub some_proc : (explicit : Bool) → proc_fits explicit (record { steps = []; end = some_end }) ≡ true
some_proc explicit = proc_fit explicit ([], last) (close_fits explicit (97 ∷ []))

pub proc_exact_by : (d : ℕ) (explicit : Bool) (one : Reader Proc) → Exact bars d (proc_form explicit) one → Exact bars (suc d) (proc_form explicit) (proc_by explicit (lin_read false d) one)
proc_exact_by d explicit one E = narrow_exact bars (suc d) (star (proc_chain explicit)) _
    (star_exact bars d (proc_chain explicit) _ (chain_exact bars d semi goes ends (statement_form explicit) last _ (statement_exact d explicit one E) refl refl some_way goes_if (close_fits explicit (97 ∷ []))))
    (proc_form explicit) to_proc from_proc (λ p f. proc_there p) (proc_fit_back explicit) (proc_mark explicit) (proc_fit explicit) refl refl refl (some_proc explicit)
