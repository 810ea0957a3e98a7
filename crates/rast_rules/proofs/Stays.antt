-- What stays the same in a child.
use Rattle.std.proofs.Common.{◌≡◌, ℕ, ◌+◌, ◌<◌, ◌≤◌, Bool, true, false, if◌then◌else◌, List, [], ◌++◌, Some, None, Err, sym, ◌∙◌, ap, refl, arith, Bor, nat_lt}
use Rattle.std.proofs.lemmas.Bool.Decides.{nat_tests}
use Rattle.std.proofs.lemmas.List.{append-nil}
use Rattle.rast_index.specs.Keys.{set_key}
use Rattle.rast_index.specs.Linear.{Linear, variables}
use Rattle.rast_types.specs.declared.stop.Stop.TheVariants as stop
use Rattle.rast_types.specs.declared.ty.Ty.{Ty}
use Rattle.rast_rules.specs.declared.draft.Draft.{Draft}
use Rattle.rast_rules.specs.Rules.{Judgement, is_provided, with_type, without, with_variable, limited}
use Rattle.rast_rules.specs.Draft.{drafted, changed}
use Rattle.rast_rules.proofs.Limits.{limit_scope}
use Rattle.rast_rules.proofs.Sound.{IsKept}
use Rattle.rast_rules.proofs.Turned.{changed_none, changed_wider, without_none}

-- the draft of a judgement with another type at one channel
pub with_part_all : (j : Judgement) (x : ℕ) (a : Ty) (d : Draft) → d ≡ drafted (with_type (without j []) x a) → d ≡ drafted (with_type j x a)
with_part_all j x a d e = e ∙ ap (λ k. drafted (with_type k x a)) (without_none j)

pub changes_at : (j : Judgement) (x : ℕ) (a : Ty) (d : Draft) → d ≡ drafted (with_type (changed j.ctx.vars None [] j) x a) → d ≡ drafted (with_type j x a)
changes_at j x a d e = e ∙ ap (λ k. drafted (with_type k x a)) (changed_none j)

pub widens_at : (j : Judgement) (by : Bor (List Linear)) (x : ℕ) (a : Ty) (d : Draft) → by.now ≡ variables j.ctx.vars → d ≡ drafted (with_type (changed (j.ctx.vars + 1) (Some by) [] j) x a) → d ≡ drafted (with_type (with_variable j) x a)
widens_at j by x a d h e = e ∙ ap (λ k. drafted (with_type k x a)) (changed_wider j by h)

-- one more variable
pub record IsWider (j k : Judgement) : Type 0 where
  pub decl : k.decl ≡ j.decl
  pub vars : k.ctx.vars ≡ j.ctx.vars + 1
  pub premises : k.ctx.premises ≡ j.ctx.premises ++ []

pub wider : (j : Judgement) (x : ℕ) (a : Ty) → IsWider j (with_type (with_variable j) x a)
wider j x a = by_case (is_provided (with_variable j) x)
  where
    by_case : (b : Bool) → IsWider j (let k = with_variable j in if b then record k { gives = (x, a) } else record k { uses = set_key x a k.uses })
    by_case true = record { decl = refl; vars = refl; premises = sym (append-nil j.ctx.premises) }
    by_case false = record { decl = refl; vars = refl; premises = sym (append-nil j.ctx.premises) }

above : (n m : ℕ) → m ≡ n → 16 < n → nat_lt 16 m ≡ true
above n m e h = grind (arith, nat_tests)

-- too many variables
pub too_many_kept : (j k : Judgement) → IsKept j k → 16 < j.ctx.vars → Err stop.Variables ≡ limited k
too_many_kept j k h many = sym (limit_scope k (above j.ctx.vars k.ctx.vars h.vars many))

pub too_many_wider : (j k : Judgement) → IsWider j k → 16 ≤ j.ctx.vars → Err stop.Variables ≡ limited k
too_many_wider j k h many = sym (limit_scope k (above (j.ctx.vars + 1) k.ctx.vars h.vars (omega arith)))

-- without a change of its premises
pub premises_kept : (j k : Judgement) → IsKept j k → k.ctx.premises ≡ j.ctx.premises
premises_kept j k h = h.premises ∙ append-nil j.ctx.premises
