-- The decision holds only where the goal follows, and fails only where it doesn't.
use Rattle.std.proofs.Common.{arith, ◌≡◌, ℕ, ◌≤◌, Bool, true, false, List, take, length, if◌then◌else◌, refl, sym, ◌∙◌, true≢false}
use Rattle.std.specs.List.{list_all}
use Rattle.rast_index.specs.Truth.{Follows}
use Rattle.rast_index.specs.declared.formula.Formula.{Formula}
use Rattle.rast_types.specs.declared.stop.Stop.TheVariants as stop
use Rattle.rast_cooper.specs.Verdicts.{is_within, verdict, most_states, Refutes, Tells}
use Rattle.rast_cooper.specs.declared.verdict.Verdict as cooper
use Rattle.rast_cooper.specs.declared.verdict.Verdict.TheVariants as verdicts
use Rattle.rast_cooper.proofs.Obligation.{tells}
use Rattle.rast_check.specs.Questions.{Holds, Fails, Limits}
use Rattle.rast_check.specs.Decided.{is_in_scope, as_verdict, decided}
use Rattle.rast_check.proofs.Answers.{IsSoundly, IsRefuting}
use Rattle.std.proofs.lemmas.Bool.{leb-true}
use Rattle.std.proofs.lemmas.List.{length-take-le}
use Rattle.rast_cooper.proofs.Closed.{and_true}

-- what a scope says
scoped : (n : ℕ) (ps : List Formula) (goal : Formula) → is_in_scope n ps goal ≡ true → (n ≤ 16) × (list_all (is_within n) ps ≡ true) × (is_within n goal ≡ true)
scoped n ps goal e =
    let p = and_true _ _ e in
    let q = and_true _ _ p.1 in
    (leb-true n 16 p.0, q.0, q.1)

follows_by : (n : ℕ) (ps : List Formula) (goal : Formula) (v : cooper.Verdict) → Tells n ps goal v → as_verdict v ≡ Holds → Follows n ps goal
follows_by n ps goal verdicts.Holds t h = t
follows_by n ps goal (verdicts.Fails values) t h = absurd (let k : Fails values ≡ Holds = h in cc)
follows_by n ps goal verdicts.NodeLimit t h = absurd (let k : Limits stop.NodeLimit ≡ Holds = h in cc)
follows_by n ps goal verdicts.NumberLimit t h = absurd (let k : Limits stop.NumberLimit ≡ Holds = h in cc)

sound_in : (n : ℕ) (ps : List Formula) (goal : Formula) (b : Bool) → is_in_scope n ps goal ≡ b → (if b then as_verdict (verdict most_states n ps goal) else Limits stop.Variables) ≡ Holds → Follows n ps goal
sound_in n ps goal true e h = let s = scoped n ps goal e in follows_by n ps goal (verdict most_states n ps goal) (tells n ps goal s.0 s.1 s.2 most_states) h
sound_in n ps goal false e h = absurd (let k : Limits stop.Variables ≡ Holds = h in cc)

pub decided_soundly : IsSoundly decided
decided_soundly n ps goal h = sound_in n ps goal (is_in_scope n ps goal) refl h

-- a counterexample and what it refutes
not_both : (n : ℕ) (ps : List Formula) (goal : Formula) (values : List ℕ) → length (take n values) ≡ n → Refutes n ps goal values → Follows n ps goal → ⊥
not_both n ps goal values l r f = true≢false (sym (f (take n values) l r.premises_true) ∙ r.goal_false)

pub refuted_by : (n : ℕ) (ps : List Formula) (goal : Formula) (vs : List ℕ) (v : cooper.Verdict) → n ≤ 16 → Tells n ps goal v → as_verdict v ≡ Fails vs → Follows n ps goal → ⊥
refuted_by n ps goal vs verdicts.Holds few t h f = let k : Holds ≡ Fails vs = h in cc
refuted_by n ps goal vs (verdicts.Fails values) few t h f = not_both n ps goal values (length-take-le n values (let s : length values ≡ 16 = t.sized in omega (arith, s, few))) t f
refuted_by n ps goal vs verdicts.NodeLimit few t h f = let k : Limits stop.NodeLimit ≡ Fails vs = h in cc
refuted_by n ps goal vs verdicts.NumberLimit few t h f = let k : Limits stop.NumberLimit ≡ Fails vs = h in cc

refuted_in : (n : ℕ) (ps : List Formula) (goal : Formula) (vs : List ℕ) (b : Bool) → is_in_scope n ps goal ≡ b → (if b then as_verdict (verdict most_states n ps goal) else Limits stop.Variables) ≡ Fails vs → Follows n ps goal → ⊥
refuted_in n ps goal vs true e h f = let s = scoped n ps goal e in refuted_by n ps goal vs (verdict most_states n ps goal) s.0 (tells n ps goal s.0 s.1 s.2 most_states) h f
refuted_in n ps goal vs false e h f = let k : Limits stop.Variables ≡ Fails vs = h in cc

pub decided_refuting : IsRefuting decided
decided_refuting n ps goal vs h f = refuted_in n ps goal vs (is_in_scope n ps goal) refl h f
