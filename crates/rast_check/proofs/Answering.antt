-- The answer of a check.
use Rattle.std.proofs.Common.{◌≡◌, List, ◌++◌, Result, Ok, Err, refl}
use Rattle.std.specs.Result.{IsErrAnd}
use Rattle.rast_rules.specs.Rules.{Program}
use Rattle.rast_check.specs.Answer.{IsAnswer}
use Rattle.rast_check.specs.Formed.{IsFormed}
use Rattle.rast_check.specs.Questions.{Question, IsTrueQuestion, questions, type_questions, decl_questions, equation_questions, body_questions}
use Rattle.rast_check.specs.Refusals.{Asked, Clears, IsRefusal}
use Rattle.rast_check.specs.declared.answer.CheckErr.{CheckErr}
use Rattle.std.proofs.lemmas.List.Elements.{recursion_from_All}
use Rattle.rast_check.proofs.Laws.{accepted}
use Rattle.rast_check.proofs.Leads.{Leads, error_of, leads_start, leads_step, asked_last, asked_stop}

pub answered : {X : Type 0} (g : Program) (r : Result X CheckErr) → IsFormed g → Asked g (questions g) r → IsAnswer g r
answered {X} g (Ok x) f a = (a.0, accepted g f.forward (recursion_from_All (IsTrueQuestion g) (questions g) a.1))
answered {X} g (Err why) f a = a

-- ---- one part after the other

abbrev pub after_types : Program → List Question
after_types g = decl_questions g ++ (equation_questions g ++ body_questions g)

abbrev pub after_decls : Program → List Question
after_decls g = equation_questions g ++ body_questions g

pub leads_types : (g : Program) → Clears g (type_questions g) → Leads g (questions g) (after_types g)
leads_types g c = leads_step g (questions g) (questions g) (type_questions g) (after_types g) (leads_start g (questions g) (questions g) refl) refl c

pub leads_decls : (g : Program) → Clears g (type_questions g) → Clears g (decl_questions g) → Leads g (questions g) (after_decls g)
leads_decls g c d = leads_step g (questions g) (after_types g) (decl_questions g) (after_decls g) (leads_types g c) refl d

pub leads_equations : (g : Program) → Clears g (type_questions g) → Clears g (decl_questions g) → Clears g (equation_questions g) → Leads g (questions g) (body_questions g)
leads_equations g c d e = leads_step g (questions g) (after_decls g) (equation_questions g) (body_questions g) (leads_decls g c d) refl e

pub stops_types : {X : Type 0} (g : Program) (e : CheckErr) (r : Result X CheckErr) → IsErrAnd r (λ f. f ≡ e) → IsRefusal (error_of g (type_questions g)) e → Asked g (questions g) r
stops_types {X} g e r is h = asked_stop g (questions g) (questions g) (type_questions g) (after_types g) e r (leads_start g (questions g) (questions g) refl) refl is h

pub stops_decls : {X : Type 0} (g : Program) (e : CheckErr) (r : Result X CheckErr) → Clears g (type_questions g) → IsErrAnd r (λ f. f ≡ e) → IsRefusal (error_of g (decl_questions g)) e → Asked g (questions g) r
stops_decls {X} g e r c is h = asked_stop g (questions g) (after_types g) (decl_questions g) (after_decls g) e r (leads_types g c) refl is h

pub stops_equations : {X : Type 0} (g : Program) (e : CheckErr) (r : Result X CheckErr) → Clears g (type_questions g) → Clears g (decl_questions g) → IsErrAnd r (λ f. f ≡ e) → IsRefusal (error_of g (equation_questions g)) e → Asked g (questions g) r
stops_equations {X} g e r c d is h = asked_stop g (questions g) (after_decls g) (equation_questions g) (body_questions g) e r (leads_decls g c d) refl is h

pub ends_bodies : {X : Type 0} (g : Program) (r : Result X CheckErr) → Clears g (type_questions g) → Clears g (decl_questions g) → Clears g (equation_questions g) → Asked g (body_questions g) r → Asked g (questions g) r
ends_bodies {X} g r c d e a = asked_last g (questions g) (body_questions g) r (leads_equations g c d e) a
