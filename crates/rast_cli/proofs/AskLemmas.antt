-- Words ask for one thing.
use Rattle.std.proofs.Common.{◌≡◌, ◌∙◌, ℕ, Bool, List, [], Option, None, Some, get_or, sym, ap, arith, true≢false, codes}
use Rattle.clap.specs.Words.{Row, Text}
use Rattle.rast_words.specs.Matched.{text_at, number_at, is_set}
use Rattle.rast_words.specs.Asks.{AsksBy, AsksRun, AsksCheck, AsksShow, AsksWhether}
use Rattle.rast_cli.specs.Answered.{IsUsage}

-- the first byte of the name of a subcommand, and its matches
first_of : Option (Text × List Row) → ℕ
first_of None = 0
first_of (Some p) = get_or p.0 0 0

matches_in : Option (Text × List Row) → List Row
matches_in None = []
matches_in (Some p) = p.1

module _ (words : List Text) where
  pub run_or_check : (name : Text) (budget : ℕ) (trace : Bool) (other : Text) → AsksRun words name budget trace → AsksCheck words other → ⊥
  unfolding first_of
  run_or_check name budget trace other p q = let e : 114 ≡ 99 = ap first_of (sym p.1.subcommand ∙ q.1.subcommand) in omega (arith, e)

  pub run_or_show : (name : Text) (budget : ℕ) (trace : Bool) (other : Text) → AsksRun words name budget trace → AsksShow words other → ⊥
  unfolding first_of
  run_or_show name budget trace other p q = let e : 114 ≡ 115 = ap first_of (sym p.1.subcommand ∙ q.1.subcommand) in omega (arith, e)

  pub run_or_decide : (name : Text) (budget : ℕ) (trace : Bool) (formula : Text) → AsksRun words name budget trace → AsksWhether words formula → ⊥
  unfolding first_of
  run_or_decide name budget trace formula p q = let e : 114 ≡ 100 = ap first_of (sym p.1.subcommand ∙ q.1.subcommand) in omega (arith, e)

  pub check_or_show : (name : Text) (other : Text) → AsksCheck words name → AsksShow words other → ⊥
  unfolding first_of
  check_or_show name other p q = let e : 99 ≡ 115 = ap first_of (sym p.1.subcommand ∙ q.1.subcommand) in omega (arith, e)

  pub check_or_decide : (name : Text) (formula : Text) → AsksCheck words name → AsksWhether words formula → ⊥
  unfolding first_of
  check_or_decide name formula p q = let e : 99 ≡ 100 = ap first_of (sym p.1.subcommand ∙ q.1.subcommand) in omega (arith, e)

  pub show_or_decide : (name : Text) (formula : Text) → AsksShow words name → AsksWhether words formula → ⊥
  unfolding first_of
  show_or_decide name formula p q = let e : 115 ≡ 100 = ap first_of (sym p.1.subcommand ∙ q.1.subcommand) in omega (arith, e)

  pub no_usage : (name : Text) (matches : List Row) → AsksBy words name matches → IsUsage words → ⊥
  no_usage name matches p usage = true≢false (sym p.taken ∙ usage)

  same_matches : (name : Text) (one other : List Row) → AsksBy words name one → AsksBy words name other → other ≡ one
  unfolding matches_in
  same_matches name one other p q = ap matches_in (sym q.subcommand ∙ p.subcommand)

  pub same_run : (name : Text) (budget : ℕ) (trace : Bool) (name2 : Text) (budget2 : ℕ) (trace2 : Bool) → AsksRun words name budget trace → AsksRun words name2 budget2 trace2
      → (name2 ≡ name) × (budget2 ≡ budget) × (trace2 ≡ trace)
  same_run name budget trace name2 budget2 trace2 p q =
      let same = same_matches (codes "run") p.0 q.0 p.1 q.1 in (
        q.2.file ∙ (ap (text_at (codes "file")) same ∙ sym p.2.file),
        q.2.budget ∙ (ap (number_at 100000 (codes "budget")) same ∙ sym p.2.budget),
        q.2.trace ∙ (ap (is_set (codes "trace")) same ∙ sym p.2.trace),
      )

  pub same_show : (name name2 : Text) → AsksShow words name → AsksShow words name2 → name2 ≡ name
  same_show name name2 p q = q.2 ∙ (ap (text_at (codes "file")) (same_matches (codes "show") p.0 q.0 p.1 q.1) ∙ sym p.2)

  pub same_check : (name name2 : Text) → AsksCheck words name → AsksCheck words name2 → name2 ≡ name
  same_check name name2 p q = q.2 ∙ (ap (text_at (codes "file")) (same_matches (codes "check") p.0 q.0 p.1 q.1) ∙ sym p.2)

  pub same_formula : (formula other : Text) → AsksWhether words formula → AsksWhether words other → other ≡ formula
  same_formula formula other p q = q.2 ∙ (ap (text_at (codes "formula")) (same_matches (codes "decide") p.0 q.0 p.1 q.1) ∙ sym p.2)
