-- A check that finds nothing is of an accepted program, and a refusal that is no bound of one that isn't.
use Rattle.std.proofs.Common.{◌≡◌, true, false, ◌++◌, Some, None, sym, ◌∙◌, true≢false}
use Rattle.rast_rules.specs.Rules.{Program, IsAccepted}
use Rattle.rast_check.specs.Questions.{Decision, IsTrueQuestion, Refusal, questions, type_questions, decl_questions, equation_questions, body_questions, refusal, answer, is_bound, IsForward}
use Rattle.rast_check.proofs.Every.{every_to, every_append}
use Rattle.std.specs.List.{AllByRecursion}
use Rattle.rast_equal.proofs.Every.{every_left, every_right}
use Rattle.rast_check.proofs.Answers.{IsSoundly, IsRefuting, first_none, first_some, question_none, question_some}
use Rattle.rast_check.proofs.Parts.{types_valid, valid_types, decls_valid, valid_decls, equations_good, good_equations}
use Rattle.rast_check.proofs.Bodies.{made_roots, right_nodes, asked_bodies}

-- all that is asked is true: the program is accepted
pub accepted : (g : Program) → IsForward g → AllByRecursion (IsTrueQuestion g) (questions g) → IsAccepted g
accepted g w h =
    let rest = every_right (IsTrueQuestion g) (type_questions g) (decl_questions g ++ (equation_questions g ++ body_questions g)) h in
    let last = every_right (IsTrueQuestion g) (decl_questions g) (equation_questions g ++ body_questions g) rest in
    let bodies = every_right (IsTrueQuestion g) (equation_questions g) (body_questions g) last in
    record {
      types = types_valid g (every_left (IsTrueQuestion g) (type_questions g) (decl_questions g ++ (equation_questions g ++ body_questions g)) h);
      decls = decls_valid g (every_left (IsTrueQuestion g) (decl_questions g) (equation_questions g ++ body_questions g) rest);
      equations = equations_good g (every_left (IsTrueQuestion g) (equation_questions g) (body_questions g) last);
      roots = made_roots g w bodies;
      nodes = right_nodes g w bodies;
    }

pub all_true : (g : Program) → IsAccepted g → AllByRecursion (IsTrueQuestion g) (questions g)
all_true g a =
    every_append (IsTrueQuestion g) (type_questions g) (decl_questions g ++ (equation_questions g ++ body_questions g)) (valid_types g a.types)
    (every_append (IsTrueQuestion g) (decl_questions g) (equation_questions g ++ body_questions g) (valid_decls g a.decls)
    (every_append (IsTrueQuestion g) (equation_questions g) (body_questions g) (good_equations g a.equations) (asked_bodies g a)))

pub check_sound : (v : Decision) → IsSoundly v → (g : Program) → IsForward g → answer v g ≡ None → IsAccepted g
check_sound v s g w h = accepted g w (every_to (λ q. refusal v g q ≡ None) (IsTrueQuestion g) (question_none v s g) (questions g) (first_none (refusal v g) (questions g) h))

pub check_refuses : (v : Decision) → IsRefuting v → (g : Program) (r : Refusal) → answer v g ≡ Some r → is_bound r ≡ false → IsAccepted g → ⊥
check_refuses v d g r h b a = true≢false (sym (first_some (refusal v g) (IsTrueQuestion g) (λ x. is_bound x ≡ true) r (λ q t e. question_some v d g q r t e) (questions g) (all_true g a) h) ∙ b)
