use Rattle.std.proofs.Common.{◌≡◌, ◌+◌, List, true, map, drop, ap, sym, ◌∙◌, subst}
use Rattle.std.specs.List.{list_all}
use Rattle.rast_index.specs.declared.formula.Formula.{Formula}
use Rattle.rast_ast.specs.Formulas.{form_fits, literal_fits, conjunction_fits}
use Rattle.rast_formula.specs.Answers.{gathered}
use Rattle.rast_formula.specs.Scopes.{is_good}
use Rattle.rast_formula.specs.Formulas.{conjunction_of, literal_of}
use Rattle.rast_formula.proofs.Each.{gathers, all_at, all_push}
use Rattle.rast_formula.proofs.Layers.{disjunction_parts, conjunction_parts, implies_parts, not_part, divides_part}
use Rattle.rast_formula.proofs.Within.{good_any, good_every, good_imp, good_not, good_div}
use Rattle.rast_formula.proofs.formulas.+formula.Goals as goal

pub disjunction-returns-in_ok-any-in-Ok-clause-within : goal.disjunction-returns-in_ok-any-in-Ok-clause-within
disjunction-returns-in_ok-any-in-Ok-clause-within g t c = λ n b h.
    let p = disjunction_parts c.args.d.now h in
    subst (λ (f : Formula). is_good n f ≡ true) (sym c.in_ok-any-in-Ok.ensures)
    (good_any n c.in_ok-first.first c.in-Ok.rest (c.in_ok-first.ensures.within n b p.0) (c.in-Ok.ensures.within n b (rw c.as_slice.ensures p.1)))

pub conjunction-returns-in_ok-every-in-Ok-clause-within : goal.conjunction-returns-in_ok-every-in-Ok-clause-within
conjunction-returns-in_ok-every-in-Ok-clause-within g t c = λ n b h.
    let p = conjunction_parts c.args.c.now h in
    subst (λ (f : Formula). is_good n f ≡ true) (sym c.in_ok-every-in-Ok.ensures)
    (good_every n c.in_ok-first.first c.in-Ok.rest (c.in_ok-first.ensures.within n b (rw c.get.ensures p.0)) (c.in-Ok.ensures.within n b (rw c.as_slice.ensures p.1)))

pub conjunctions-loop-next-preserved : goal.conjunctions-loop-next-preserved
conjunctions-loop-next-preserved g t c =
    let f = conjunction_of (g.S.Scope.find c.args.scope.now) in
    let xs = c.args.rest.now in
    let i = c.loop-next.next-index in
    let pushed = c.in_ok-push-in-Ok.ensures.ok in
    record {
      is = ap (λ all. gathered all (map f (drop (i + 1) xs))) pushed ∙ gathers f c.loop-next.all xs i c.next-item.result c.in-Ok.formula c.next-item.is c.loop-next-test.true c.in-Ok.ensures.gives ∙ c.loop-next.invariant.is;
      good = λ n b h.
          subst (λ (all : List Formula). list_all (is_good n) all ≡ true) (sym pushed)
          (all_push (is_good n) c.loop-next.all c.in-Ok.formula (c.loop-next.invariant.good n b h) (c.in-Ok.ensures.within n b (all_at conjunction_fits xs i c.next-item.result c.next-item.is c.loop-next-test.true h)));
    }

pub literals-loop-next-preserved : goal.literals-loop-next-preserved
literals-loop-next-preserved g t c =
    let f = literal_of (g.S.Scope.find c.args.scope.now) in
    let xs = c.args.rest.now in
    let i = c.loop-next.next-index in
    let pushed = c.in_ok-push-in-Ok.ensures.ok in
    record {
      is = ap (λ all. gathered all (map f (drop (i + 1) xs))) pushed ∙ gathers f c.loop-next.all xs i c.next-item.result c.in-Ok.formula c.next-item.is c.loop-next-test.true c.in-Ok.ensures.gives ∙ c.loop-next.invariant.is;
      good = λ n b h.
          subst (λ (all : List Formula). list_all (is_good n) all ≡ true) (sym pushed)
          (all_push (is_good n) c.loop-next.all c.in-Ok.formula (c.loop-next.invariant.good n b h) (c.in-Ok.ensures.within n b (all_at literal_fits xs i c.next-item.result c.next-item.is c.loop-next-test.true h)));
    }

pub formula_of-returns-in_ok-new-in-Implies-2-clause-within : goal.formula_of-returns-in_ok-new-in-Implies-2-clause-within
formula_of-returns-in_ok-new-in-Implies-2-clause-within g t c = λ n b h.
    let p = implies_parts c.in-Implies.premise c.in-Implies.conclusion (ap form_fits (sym c.in-Implies.is) ∙ h) in
    rw (c.in_ok-new-in-Implies.ensures, c.in_ok-new-in-Implies-2.ensures)
    (good_imp n c.in_ok-premise-in-Implies.premise c.in_ok-conclusion-in-Implies.conclusion (c.in_ok-premise-in-Implies.ensures.within n b p.0) (c.in_ok-conclusion-in-Implies.ensures.within n b (rw c.get.ensures p.1)))

pub literal-returns-in_ok-new-in-Not-clause-within : goal.literal-returns-in_ok-new-in-Not-clause-within
literal-returns-in_ok-new-in-Not-clause-within g t c = λ n b h.
    let p = sym (not_part c.in-Not.member) ∙ ap literal_fits (sym c.in-Not.is) ∙ h in
    rw c.in_ok-new-in-Not.ensures
    (good_not n c.in_ok-member-in-Not.member (c.in_ok-member-in-Not.ensures.within n b (rw c.get.ensures p)))

pub literal-returns-in_ok-linear_of-in-Divides-clause-within : goal.literal-returns-in_ok-linear_of-in-Divides-clause-within
literal-returns-in_ok-linear_of-in-Divides-clause-within g t c = λ n b h.
    let p = sym (divides_part c.in-Divides.divisor c.in-Divides.lin) ∙ ap literal_fits (sym c.in-Divides.is) ∙ h in
    good_div n c.in-Divides.divisor c.in_ok-linear_of-in-Divides.field-0 p (c.in_ok-linear_of-in-Divides.ensures.closed n b)
