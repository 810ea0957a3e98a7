-- A program of which nothing is false, undecided or over a limit is not refused.
use Rattle.std.proofs.Common.{◌≡◌, ◌∙◌, ℕ, true, false, true≢false, List, Option, None, Some, sym, ap, subst}
use Rattle.rast_terms.specs.declared.program.Program.{Program}
use Rattle.rast_equal.specs.declared.answer.SameErr.{SameErr}
use Rattle.rast_equal.specs.declared.answer.SameErr.TheVariants as same
use Rattle.rast_equal.specs.declared.validity.TypeErr.{TypeErr}
use Rattle.rast_equal.specs.declared.validity.TypeErr.TheVariants as type
use Rattle.rast_check.specs.declared.answer.CheckErr.{CheckErr}
use Rattle.rast_check.specs.declared.answer.CheckErr.TheVariants as check
use Rattle.rast_check.specs.Decided.{searched}
use Rattle.rast_check.specs.Questions as asked
use Rattle.rast_check.specs.Questions.{answer}
use Rattle.rast_check.specs.Refusals.{IsTypeRefusal, IsDeclRefusal, IsEquationRefusal, IsRefusal}
use Rattle.rast_accept.specs.declared.refusal.Refusal.{Refusal}
use Rattle.rast_accept.specs.declared.refusal.Refusal.TheVariants.{NoFile, NotYet, Names, Rules}
use Rattle.rast_accept.specs.Loading.{Says, Loads, IsReason}
use Rattle.rast_accept.specs.Faults.{is_rule_fault}

not_some : (r : asked.Refusal) → None ≡ Some r → ⊥
not_some r h = cc

-- what isn't want of memory
no_want : false ≡ true → ⊥
no_want h = true≢false (sym h)

no_type : (e : TypeErr) → IsTypeRefusal None e → ⊥
no_type (type.Invalid def rule vars values) h = not_some _ h
no_type (type.Bound def stop) h = not_some _ h
no_type type.Memory h = h

no_decl : (k : ℕ) (e : TypeErr) → IsDeclRefusal None k e → ⊥
no_decl k (type.Invalid def rule vars values) h = not_some _ h
no_decl k (type.Bound def stop) h = not_some _ h
no_decl k type.Memory h = h

no_equation : (n k : ℕ) (e : SameErr) → IsEquationRefusal None n k e → ⊥
no_equation n k (same.Fails path vars values) h = not_some _ h
no_equation n k (same.Wanted path) h = not_some _ h
no_equation n k same.Left h = not_some _ h
no_equation n k (same.Bound stop) h = not_some _ h
no_equation n k same.Memory h = h

no_refusal : (e : CheckErr) → is_rule_fault e ≡ true → IsRefusal None e → ⊥
no_refusal (check.BadType e) r h = no_type e h
no_refusal (check.BadDecl k e) r h = no_decl k e h
no_refusal (check.BadEquation e) r h = no_equation e.number e.premise e.why h
no_refusal (check.Refused s k evidence) r h = not_some _ h
no_refusal (check.Bound s k stop) r h = not_some _ h
no_refusal (check.Limit s stop) r h = not_some _ h
no_refusal check.Memory r h = no_want r

module _ (text : List ℕ) (program : Program) (says : Says text program) where
  pub clear_reason : answer searched program ≡ None → (why : Refusal) → IsReason text why → ⊥
  clear_reason clear (NoFile fault) reason = reason.1 says.file says.is.0
  clear_reason clear (NotYet at) reason = reason.3 says.is.1
  clear_reason clear (Names f) reason = reason.1 program says
  clear_reason clear (Rules other f) reason =
      let one : program ≡ other = reason.1 program says in
      no_refusal f.why f.real (subst (λ (o : Option asked.Refusal). IsRefusal o f.why) (ap (answer searched) (sym one) ∙ clear) reason.2)

  -- a text says one program
  pub clear_same : (other : Program) → Loads text other → other ≡ program
  clear_same other loads = sym (loads.only program says)
