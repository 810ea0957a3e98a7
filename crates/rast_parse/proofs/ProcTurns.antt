-- One turn of the loop that reads a process term.
use Rattle.std.proofs.Common.{◌≡◌, ℕ, suc, ◌+◌, ◌-◌, ◌<◌, ◌≤◌, Bool, true, false, cond, List, [], ◌∷◌, ◌++◌, drop, Result, ap, sym, ◌∙◌, refl, subst, arith, append_assoc, append-nil}
use Rattle.rast_forms.specs.Words.{Word, starts}
use Rattle.rast_forms.specs.Reading.{Why, Syntax, TooDeep, Read, Done, Bad, Reader, ◌>>=◌, longer, after_first, chain_turn, chain_read}
use Rattle.rast_ast.specs.declared.kind.Kind.TheVariants as kind
use Rattle.rast_ast.specs.declared.process.Step.{Step}
use Rattle.rast_ast.specs.declared.process.End.{End}
use Rattle.rast_ast.specs.declared.process.Proc.{Proc}
use Rattle.rast_parse.specs.declared.statement.Statement.{Statement}
use Rattle.rast_parse.specs.declared.statement.Statement.TheVariants as statement
use Rattle.rast_parse.specs.declared.cursor.Fault.{Fault}
use Rattle.rast_parse.specs.declared.cursor.Fault.TheVariants as fault
use Rattle.rast_parse.specs.declared.cursor.Cursor.{Cursor}
use Rattle.rast_parse.specs.Answer.{FailsAs, Gives}
use Rattle.rast_parse.specs.LinearReading.{is}
use Rattle.rast_parse.specs.ProcessReading.{goes, ends, is_spawn, called, last_read, ahead, IsProcUnderWay}

abbrev semi : List ℕ
semi = is kind.Semicolon

after_drop : (ts : List Word) → after_first ts ≡ drop 1 ts
after_drop [] = refl
after_drop (t ∷ ts) = refl

moved : (steps : List Step) (s : Step) (m : Read (List Statement × Statement)) → ahead steps (longer (statement.Step s) m) ≡ ahead (steps ++ s ∷ []) m
moved steps s (Done x r) = rw append_assoc refl
moved steps s (Bad why r) = refl

last_is : (steps : List Step) (s : Step) (r : List Word) (b : Bool) → is_spawn s ≡ b →
    ahead steps (cond b (Done ([], statement.Step s) r) (Bad Syntax r)) ≡ cond b (Done (record { steps = steps; end = called s }) r) (Bad Syntax r)
last_is steps s r true e = ap (λ (z : List Step). Done (record { steps = z; end = called s }) r) (append-nil steps)
last_is steps s r false e = refl

module _ (one : Reader Statement) (n k : ℕ) (steps : List Step) (r : List Word) (all : Read Proc) (inv : IsProcUnderWay one n k steps r all) where
  turn : (m : ℕ) → k < m → m ≡ n → ahead steps (one r >>= λ x more. chain_turn semi goes ends (chain_read semi goes ends one (n - (k + 1))) x (starts semi more) more) ≡ all
  turn m h e = let s : n - k ≡ suc (n - (k + 1)) = omega arith in subst (λ j. ahead steps (chain_read semi goes ends one j r) ≡ all) s inv.so_far

  pub proc_wrong : (m : ℕ) (why : Why) (after : List Word) → k < m → m ≡ n → one r ≡ Bad why after → all ≡ Bad why after
  proc_wrong m why after h e g = sym (turn m h e) ∙ rw g refl

  pub proc_fault : (m : ℕ) (f : Fault) → k < m → m ≡ n → FailsAs f (one r) → FailsAs f all
  proc_fault m (fault.Syntax left) h e g = (g.0, proc_wrong m Syntax g.0 h e g.1, g.2)
  proc_fault m (fault.TooDeep left) h e g = (g.0, proc_wrong m TooDeep g.0 h e g.1, g.2)
  proc_fault m fault.Memory h e g = tt

  ended_by : (e : End) (after : List Word) (b : Bool) → chain_turn semi goes ends (chain_read semi goes ends one (n - (k + 1))) (statement.End e) b after ≡ Done ([], statement.End e) after
  ended_by e after true = refl
  ended_by e after false = refl

  ended_at : (m : ℕ) (e : End) (after : List Word) → k < m → m ≡ n → one r ≡ Done (statement.End e) after → all ≡ Done (record { steps = steps; end = e }) after
  ended_at m e after h f g = sym (turn m h f) ∙ rw (g, ended_by e after (starts semi after)) (ap (λ (z : List Step). Done (record { steps = z; end = e }) after) (append-nil steps))

  pub proc_end : (m : ℕ) (s : Statement) (e : End) (after : List Word) (result : Result (Proc × Cursor) Fault) → k < m → m ≡ n → one r ≡ Done s after → s ≡ statement.End e →
      Gives result (Done (record { steps = steps; end = e }) after) → Gives result all
  proc_end m s e after result h f g i w = subst (Gives result) (sym (ended_at m e after h f (g ∙ ap (λ (z : Statement). Done z after) i))) w

  last_at : (m : ℕ) (s : Step) (after : List Word) → k < m → m ≡ n → one r ≡ Done (statement.Step s) after → starts semi after ≡ false → all ≡ last_read steps s after
  last_at m s after h f g none = sym (turn m h f) ∙ rw (g, none) (last_is steps s after (is_spawn s) refl)

  pub proc_last : (m : ℕ) (s : Statement) (t : Step) (after : List Word) (b : Bool) (result : Result (Proc × Cursor) Fault) → k < m → m ≡ n → one r ≡ Done s after → s ≡ statement.Step t → b ≡ starts semi after → b ≡ false →
      Gives result (last_read steps t after) → Gives result all
  proc_last m s t after b result h f g i u v w = subst (Gives result) (sym (last_at m t after h f (g ∙ ap (λ (z : Statement). Done z after) i) (sym u ∙ v))) w

  goes_at : (m : ℕ) (s : Step) (after : List Word) → k < m → m ≡ n → one r ≡ Done (statement.Step s) after → starts semi after ≡ true →
      ahead (steps ++ s ∷ []) (chain_read semi goes ends one (n - (k + 1)) (drop 1 after)) ≡ all
  goes_at m s after h f g some = sym (moved steps s (chain_read semi goes ends one (n - (k + 1)) (drop 1 after)))
      ∙ ap (λ z. ahead steps (longer (statement.Step s) (chain_read semi goes ends one (n - (k + 1)) z))) (sym (after_drop after))
      ∙ sym (rw (g, some) refl)
      ∙ turn m h f

  pub proc_step : (m : ℕ) (s : Statement) (t : Step) (after more : List Word) (b : Bool) (longer_steps : List Step) → k < m → m ≡ n → one r ≡ Done s after → s ≡ statement.Step t → b ≡ starts semi after → b ≡ true →
      more ≡ drop 1 after → longer_steps ≡ steps ++ t ∷ [] → IsProcUnderWay one n (k + 1) longer_steps more all
  proc_step m s t after more b longer_steps h f g i u v w x = record {
    so_far = rw (x, w) (goes_at m t after h f (g ∙ ap (λ (z : Statement). Done z after) i) (sym u ∙ v));
  }

  pub proc_none : (m : ℕ) → m ≤ k → m ≡ n → all ≡ Bad Syntax r
  proc_none m h e = let s : n - k ≡ 0 = omega arith in sym inv.so_far ∙ rw s refl
