-- Refusals of the calls are reasons why a text isn't loaded.
use Rattle.std.proofs.Common.{◌≡◌, ◌∙◌, ℕ, List, None, Ok, Err, refl, sym, ap, subst}
use Rattle.rast_ast.specs.declared.file.File.{File}
use Rattle.rast_terms.specs.declared.program.Program.{Program}
use Rattle.rast_load.specs.declared.form.FormErr.{FormErr}
use Rattle.rast_load.specs.declared.form.FormErr.TheVariants as form
use Rattle.rast_load.specs.Reading.{IsFile}
use Rattle.rast_load.specs.Forms.{IsBuiltFile, IsUnread}
use Rattle.rast_resolve.specs.declared.fault.NameErr.{NameErr}
use Rattle.rast_resolve.specs.declared.fault.NameErr.TheVariants as name
use Rattle.rast_resolve.specs.declared.program.Resolved.{Resolved}
use Rattle.rast_resolve.specs.Answers.{Answer, Fails}
use Rattle.rast_resolve.specs.Programs.{resolved}
use Rattle.rast_made.specs.WellMade.{IsWellMade}
use Rattle.rast_rules.specs.Rules.{IsAccepted}
use Rattle.rast_check.specs.declared.answer.CheckErr.{CheckErr}
use Rattle.rast_check.specs.Decided.{searched}
use Rattle.rast_check.specs.Questions.{answer}
use Rattle.rast_check.specs.Refusals.{IsRefusal}
use Rattle.rast_check.specs.Shown.{Refutes}
use Rattle.rast_accept.specs.Loading.{Says, Loads, SaysNone, IsOfCheck, IsUnloaded, of_form, of_names}
use Rattle.rast_accept.specs.declared.refusal.Refusal.TheVariants.{NoFile, NotYet, Names, Rules}
use Rattle.rast_accept.specs.declared.refusal.LoadErr.{LoadErr}
use Rattle.rast_accept.specs.declared.refusal.LoadErr.TheVariants.{Refused, Memory}

pub read_reason : (text : List ℕ) (why : FormErr) → IsUnread text why → IsUnloaded text (of_form why)
read_reason text (form.NoFile fault) h = h
read_reason text (form.NotYet at) h = h
read_reason text form.Memory h = tt

not_both : (a : Answer Resolved) (e : NameErr) (r : Resolved) → a ≡ Err e → a ≡ Ok r → ⊥
not_both a e r p q = let x : Answer Resolved = Err e in let y : Answer Resolved = Ok r in let none : x ≡ y = sym p ∙ q in cc

same_value : (a b : Resolved) → let x : Answer Resolved = Ok a in let y : Answer Resolved = Ok b in x ≡ y → a ≡ b
same_value a b h = cc

module _ (text : List ℕ) (file : File) (is : IsBuiltFile text file) (only : (other : File) → IsFile text other → file ≡ other) where
  -- what the text says is what the file resolves to
  said : (program : Program) (s : Says text program) → resolved file ≡ Ok s.resolved_to
  said program s = ap resolved (only s.file s.is.0) ∙ s.resolved_is

  names_fault : (e : NameErr) → resolved file ≡ Err e → SaysNone text
  names_fault e h program s = not_both (resolved file) e s.resolved_to h (said program s)

  pub names_reason : (e : NameErr) → Fails (resolved file) e → IsUnloaded text (of_names e)
  names_reason (name.Unknown n) h = (record { file = file; is = is; faulty = h }, names_fault (name.Unknown n) h)
  names_reason (name.Twice n) h = (record { file = file; is = is; faulty = h }, names_fault (name.Twice n) h)
  names_reason (name.Arity n) h = (record { file = file; is = is; faulty = h }, names_fault (name.Arity n) h)
  names_reason (name.BadMain n) h = (record { file = file; is = is; faulty = h }, names_fault (name.BadMain n) h)
  names_reason (name.Limit n) h = (record { file = file; is = is; faulty = h }, names_fault (name.Limit n) h)
  names_reason name.Memory h = tt

  pub says : (r : Resolved) → resolved file ≡ Ok r → Says text r.program
  says r h = record { file = file; is = is; resolved_to = r; resolved_is = h; program_is = refl }

  pub says_one : (r : Resolved) → resolved file ≡ Ok r → (other : Program) → Says text other → other ≡ r.program
  says_one r h other s = s.program_is ∙ ap (λ (x : Resolved). x.program) (same_value s.resolved_to r (sym (said other s) ∙ h))

module _ (text : List ℕ) (g : Program) (says : Says text g) (one : (other : Program) → Says text other → other ≡ g) where
  pub check_reason : (e : CheckErr) (l : LoadErr) → IsRefusal (answer searched g) e → Refutes g e → IsOfCheck g e l → IsUnloaded text l
  check_reason e (Refused (Rules h f)) q refutes of = (
    subst (Says text) (sym of.0) says,
    λ other s. one other s ∙ sym of.0,
    subst (λ (x : Program). IsRefusal (answer searched x) f.why) (sym of.0) (subst (IsRefusal (answer searched g)) (sym of.1) q),
    subst (λ (x : Program). Refutes x f.why) (sym of.0) (subst (Refutes g) (sym of.1) refutes),
  )
  check_reason e (Refused (NoFile fault)) q refutes of = absurd of
  check_reason e (Refused (NotYet at)) q refutes of = absurd of
  check_reason e (Refused (Names f)) q refutes of = absurd of
  check_reason e Memory q refutes of = tt

  pub loads : (checked : Program) → checked ≡ g → IsWellMade checked → IsAccepted checked → answer searched g ≡ None → Loads text checked
  loads checked same made accepted clear =
      record { says = subst (Says text) (sym same) says; only = λ other s. one other s ∙ sym same; made = made; accepted = accepted; clear = ap (answer searched) same ∙ clear }
