-- The verdict that a memo has on an obligation that was inserted and decided.
use Rattle.std.proofs.Common.{◌≡◌, ℕ, ◌≤◌, List, length, true, Some, slice_get, sym, ◌∙◌, subst}
use Rattle.std.specs.List.{list_all}
use Rattle.rast_cooper.proofs.Obligation.{tells}
use Rattle.rast_cooper.specs.Verdicts.{Tells, is_within, most_states}
use Rattle.rast_cooper.specs.declared.verdict.Verdict.{Verdict}
use Rattle.rast_index.specs.declared.formula.Formula.{Formula}
use Rattle.rast_memo.proofs.Numbering.{decided_at}
use Rattle.rast_memo.specs.Numbers.{IsNumbered, verdicts_on}
use Rattle.rast_memo.specs.Obligations.{asked, verdict_on}
use Rattle.rast_memo.specs.declared.obligation.Obligation.{Obligation}

same_verdict : (v w : Verdict) → Some v ≡ Some w → v ≡ w
same_verdict v w e = cc

remembered : (o : Obligation) (before inserted decided : List Obligation) (k n : ℕ) (v : Verdict) → IsNumbered o before inserted n → decided ≡ inserted → k ≡ length decided → Some v ≡ slice_get (verdicts_on k decided) n → v ≡ verdict_on o
remembered o before inserted decided k n v h same all e =
    same_verdict v (verdict_on o) (e ∙ decided_at decided k n o all (subst (λ (os : List Obligation). slice_get os n ≡ Some o) (sym same) h.there))

-- it tells what the search's verdict does
pub remembered_tells : (vars : ℕ) (ps : List Formula) (goal : Formula) (before inserted decided : List Obligation) (k n : ℕ) (v : Verdict) → vars ≤ 16 → list_all (is_within vars) ps ≡ true → is_within vars goal ≡ true →
    IsNumbered (asked vars ps goal) before inserted n → decided ≡ inserted → k ≡ length decided → Some v ≡ slice_get (verdicts_on k decided) n → Tells vars ps goal v
remembered_tells vars ps goal before inserted decided k n v few p q h same all e =
    subst (Tells vars ps goal) (sym (remembered (asked vars ps goal) before inserted decided k n v h same all e)) (tells vars ps goal few p q most_states)
