-- What an exit status says of a file that is to be shown.
use Rattle.std.proofs.Common.{◌≡◌, ℕ, List, sym, subst, inl, inr, ⊎_elim, arith}
use Rattle.std.specs.declared.option.Option.{Option}
use Rattle.std.specs.Io.KnownBytes.{Appends}
use Rattle.rast_io.specs.Bytes.{Named}
use Rattle.rast_items.specs.declared.event.Event.{Event}
use Rattle.rast_cli.specs.declared.answer.Answer.{Answer}
use Rattle.rast_cli.specs.Lines.{code_of}
use Rattle.rast_cli.specs.Held.{IsTooLong}
use Rattle.rast_cli.specs.Answered.{ShowsFile, ShowComes, Ends}
use Rattle.rast_cli.specs.Rows.{IsRefused, ShowEnds}
use Rattle.rast_cli.proofs.Codes.{fault_codes, at_code}
use Rattle.rast_cli.proofs.Views.{ShowView, show_view}

module _ (limit : ℕ) (held : Option Named) (rose quiet : Type 0) (name : List ℕ) (text : List ℕ) (old new : Option (List ℕ)) (printed : Appends old new text) where
  shown_row : ShowView limit held rose quiet name 0 text → ShowsFile limit held name text
  shown_row (inl fault) = let none : ⊥ = omega (arith, fault.0) in absurd none
  shown_row (inr (inl long)) = let none : ⊥ = omega (arith, long.0) in absurd none
  shown_row (inr (inr (inl wrong))) = absurd (⊎_elim (λ e. omega (arith, e, wrong.1)) (λ e. omega (arith, e, wrong.1)) (fault_codes wrong.0))
  shown_row (inr (inr (inr shown))) = shown.1

  refused_row : (k : ℕ) → (k ≡ 3 → ⊥) → (k ≡ 9 → ⊥) → (k ≡ 0 → ⊥) → ShowView limit held rose quiet name k text → IsRefused limit held old new name k
  refused_row k three nine zero (inl fault) = absurd (three fault.0)
  refused_row k three nine zero (inr (inl long)) = absurd (nine long.0)
  refused_row k three nine zero (inr (inr (inl wrong))) = (wrong.0, wrong.2, sym wrong.1, subst (λ (t : List ℕ). Appends old new t) wrong.3 printed)
  refused_row k three nine zero (inr (inr (inr shown))) = absurd (zero shown.0)

  long_row : ShowView limit held rose quiet name 9 text → IsTooLong limit held name
  long_row (inl fault) = let none : ⊥ = omega (arith, fault.0) in absurd none
  long_row (inr (inl long)) = long.1
  long_row (inr (inr (inl wrong))) = absurd (⊎_elim (λ e. omega (arith, e, wrong.1)) (λ e. omega (arith, e, wrong.1)) (fault_codes wrong.0))
  long_row (inr (inr (inr shown))) = let none : ⊥ = omega (arith, shown.0) in absurd none

module _ (limit : ℕ) (held : Option Named) (rose quiet : Type 0) (name : List ℕ) (text : List ℕ) (history : List Event) (old new : Option (List ℕ)) (before now status : ℕ) (answer : Answer) where
  pub show_ends : ShowComes limit held rose quiet name answer text history → Ends old new before now text (code_of answer) status → ShowEnds limit held old new name status
  show_ends comes ends =
      let view_at : (k : ℕ) → status ≡ k → (k ≡ 4 → ⊥) → ShowView limit held rose quiet name k text × Appends old new text = λ k is other.
      let w = at_code old new before now text (code_of answer) status k ends is other in
      (subst (λ (c : ℕ). ShowView limit held rose quiet name c text) (sym w.0) (show_view limit held rose quiet name answer text history comes), w.1)
      in
      record {
        shown = λ is. let w = view_at 0 is (λ e. omega (arith, e)) in (text, shown_row limit held rose quiet name text old new w.1 w.0, w.1);
        refused = λ is. let w = view_at 1 is (λ e. omega (arith, e)) in refused_row limit held rose quiet name text old new w.1 1 (λ e. omega (arith, e)) (λ e. omega (arith, e)) (λ e. omega (arith, e)) w.0;
        too_deep = λ is. let w = view_at 5 is (λ e. omega (arith, e)) in refused_row limit held rose quiet name text old new w.1 5 (λ e. omega (arith, e)) (λ e. omega (arith, e)) (λ e. omega (arith, e)) w.0;
        too_long = λ is. let w = view_at 9 is (λ e. omega (arith, e)) in long_row limit held rose quiet name text old new w.1 w.0;
      }
