-- What an exit status says of a formula.
use Rattle.std.proofs.Common.{◌≡◌, ◌∙◌, ℕ, List, sym, subst, arith}
use Rattle.std.specs.declared.option.Option.{Option}
use Rattle.std.specs.Io.KnownBytes.{Appends}
use Rattle.rast_items.specs.declared.event.Event.{Event}
use Rattle.rast_cli.specs.declared.answer.Answer.{Answer}
use Rattle.rast_cli.specs.Lines.{code_of}
use Rattle.rast_cli.specs.Answered.{DecideComes, Ends}
use Rattle.rast_cli.specs.Rows.{IsDecided, IsTrueFormula, DecideEnds}
use Rattle.rast_cooper.specs.declared.verdict.Verdict.TheVariants.{Holds, Fails, NodeLimit, NumberLimit}
use Rattle.rast_decide.specs.declared.decision.Decision.{Decision}
use Rattle.rast_decide.specs.declared.decision.Decision.TheVariants as decision
use Rattle.rast_decide.specs.Lines.{status_of}
use Rattle.rast_decide.specs.Decides.{Decides}
use Rattle.rast_cli.proofs.Codes.{at_code}
use Rattle.rast_cli.proofs.Views.{decide_view}

module _ (old new : Option (List ℕ)) (formula : List ℕ) (limit : ℕ) where
  -- a formula of which `holds` was printed is true
  holds_row : (d : Decision) (line : List ℕ) → Decides limit formula d line → 0 ≡ status_of d → Appends old new line → IsTrueFormula formula old new
  holds_row decision.TooLong line decides e printed = let none : ⊥ = omega (arith, e) in absurd none
  holds_row (decision.BadByte at) line decides e printed = let none : ⊥ = omega (arith, e) in absurd none
  holds_row (decision.BadNumber at) line decides e printed = let none : ⊥ = omega (arith, e) in absurd none
  holds_row (decision.LongName at) line decides e printed = let none : ⊥ = omega (arith, e) in absurd none
  holds_row (decision.Syntax at) line decides e printed = let none : ⊥ = omega (arith, e) in absurd none
  holds_row (decision.TooDeep at) line decides e printed = let none : ⊥ = omega (arith, e) in absurd none
  holds_row decision.Limit line decides e printed = let none : ⊥ = omega (arith, e) in absurd none
  holds_row (decision.Judged Holds) line decides e printed =
      let said = decides.decides in
      let judged = said.decides in
      record {
        form = said.form;
        is = said.is;
        subject = judged.subject;
        stands = judged.stands;
        follows = judged.tells;
        printed = subst (λ (t : List ℕ). Appends old new t) judged.line_is printed;
      }
  holds_row (decision.Judged (Fails values)) line decides e printed = let none : ⊥ = omega (arith, e) in absurd none
  holds_row (decision.Judged NodeLimit) line decides e printed = let none : ⊥ = omega (arith, e) in absurd none
  holds_row (decision.Judged NumberLimit) line decides e printed = let none : ⊥ = omega (arith, e) in absurd none

module _ (limit : ℕ) (formula text : List ℕ) (history : List Event) where
  pub decide_ends : (old new : Option (List ℕ)) (before now status : ℕ) (answer : Answer) → DecideComes limit formula answer text history
      → Ends old new before now text (code_of answer) status → DecideEnds limit old new formula status
  decide_ends old new before now status answer comes ends =
      let row : (k : ℕ) → status ≡ k → (k ≡ 4 → ⊥) → IsDecided limit old new formula k = λ k is other.
      let w = at_code old new before now text (code_of answer) status k ends is other in
      let d = decide_view limit formula answer text history comes in
      (d.0, text, d.2, sym (w.0 ∙ d.1), w.1)
      in
      record {
        holds = λ is.
            let d = row 0 is (λ four. omega (arith, four)) in
            holds_row old new formula limit d.0 d.1 d.2 (sym d.3) d.4;
        refused = λ is. row 1 is (λ four. omega (arith, four));
        bound = λ is. row 5 is (λ four. omega (arith, four));
        too_long = λ is. row 9 is (λ four. omega (arith, four));
      }
