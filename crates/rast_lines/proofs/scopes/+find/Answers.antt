use Rattle.std.proofs.Common.{◌∙◌, sym, ap, ap₂, drop, inl, inr, arith}
use Rattle.rast_types.specs.declared.ty.Ty.{Ty}
use Rattle.rast_types.specs.declared.ty.Ty.TheVariants as ty
use Rattle.rast_equal.specs.WellMadeTypes.{quantifiers}
use Rattle.rast_lines.proofs.Finding.{choice_here, choice_later, finds_plus, finds_with, first_part, second_part}
use Rattle.rast_lines.proofs.scopes.+find.Goals as goal

pub find-returns-in-Plus : goal.find-returns-in-Plus
find-returns-in-Plus t c =
    let p = c.args.place.now in
    finds_plus c.args.sought.now.rule c.args.sought.now.vars p.vars p.premises c.args.left.now p.names (omega arith) c.args.a.now c.find_choices.result c.as_slice.result.now (c.in-Plus.is ∙ ap ty.Plus (sym c.as_slice.ensures)) c.find_choices.ensures

pub find-returns-in-With : goal.find-returns-in-With
find-returns-in-With t c =
    let p = c.args.place.now in
    finds_with c.args.sought.now.rule c.args.sought.now.vars p.vars p.premises c.args.left.now p.names (omega arith) c.args.a.now c.find_choices-in-With.result c.as_slice-in-With.result.now (c.in-With.is ∙ ap ty.With (sym c.as_slice-in-With.ensures)) c.find_choices-in-With.ensures

pub find-returns-in-Some : goal.find-returns-in-Some
find-returns-in-Some t c = λ u.
    let p = c.args.place.now in
    first_part c.args.sought.now.rule c.args.sought.now.vars p.vars p.premises c.args.left.now p.names (omega arith) c.args.a.now c.get.result.now c.in-Tensor.c
    (inl (c.in-Tensor.is ∙ ap (λ (x : Ty). ty.Tensor x c.in-Tensor.c) (sym c.get.ensures))) c.in-Some.names u (sym c.in-Some.is ∙ c.in_ok-names-in-Tensor.ensures u)

pub find-returns-in-None : goal.find-returns-in-None
find-returns-in-None t c =
    let p = c.args.place.now in
    second_part c.args.sought.now.rule c.args.sought.now.vars p.vars p.premises c.args.left.now p.names (omega arith) c.args.a.now c.get.result.now c.get-in-None-2.result.now
    (inl (c.in-Tensor.is ∙ ap₂ ty.Tensor (sym c.get.ensures) (sym c.get-in-None-2.ensures))) c.find-in-None.result c.past.result.now
    (c.past.ensures ∙ ap (λ (x : Ty). drop (quantifiers x) c.args.left.now) (c.get-in-None.ensures ∙ sym c.get.ensures)) (λ u. sym c.in-None.is ∙ c.in_ok-names-in-Tensor.ensures u) c.find-in-None.ensures

pub find-returns-in-Some-2 : goal.find-returns-in-Some-2
find-returns-in-Some-2 t c = λ u.
    let p = c.args.place.now in
    first_part c.args.sought.now.rule c.args.sought.now.vars p.vars p.premises c.args.left.now p.names (omega arith) c.args.a.now c.get-in-Lolli.result.now c.in-Lolli.c
    (inr (c.in-Lolli.is ∙ ap (λ (x : Ty). ty.Lolli x c.in-Lolli.c) (sym c.get-in-Lolli.ensures))) c.in-Some-2.names u (sym c.in-Some-2.is ∙ c.in_ok-names-in-Lolli.ensures u)

pub find-returns-in-None-2 : goal.find-returns-in-None-2
find-returns-in-None-2 t c =
    let p = c.args.place.now in
    second_part c.args.sought.now.rule c.args.sought.now.vars p.vars p.premises c.args.left.now p.names (omega arith) c.args.a.now c.get-in-Lolli.result.now c.get-in-None-2-3.result.now
    (inr (c.in-Lolli.is ∙ ap₂ ty.Lolli (sym c.get-in-Lolli.ensures) (sym c.get-in-None-2-3.ensures))) c.find-in-None-2.result c.past-in-None-2.result.now
    (c.past-in-None-2.ensures ∙ ap (λ (x : Ty). drop (quantifiers x) c.args.left.now) (c.get-in-None-2-2.ensures ∙ sym c.get-in-Lolli.ensures)) (λ u. sym c.in-None-2.is ∙ c.in_ok-names-in-Lolli.ensures u) c.find-in-None-2.ensures

pub find_choices-returns-in-Some : goal.find_choices-returns-in-Some
find_choices-returns-in-Some t c = λ u.
    let p = c.args.place.now in
    choice_here c.args.sought.now.rule c.args.sought.now.vars p.vars p.premises c.loop-a.left.now p.names c.args.ts.now c.loop-a.a-index c.loop-a-item.result c.loop-a-test.true c.loop-a-item.is u c.in-Some.names (sym c.in-Some.is ∙ c.in_ok-names.ensures u)
    ∙ c.loop-a.invariant u

pub find_choices-loop-a-preserved : goal.find_choices-loop-a-preserved
find_choices-loop-a-preserved t c = λ u.
    let p = c.args.place.now in
    sym (choice_later c.args.sought.now.rule c.args.sought.now.vars p.vars p.premises c.loop-a.left.now p.names c.args.ts.now c.loop-a.a-index c.loop-a-item.result c.loop-a-test.true c.loop-a-item.is u c.past-left.result.now c.past-left.ensures (sym c.in-None.is ∙ c.in_ok-names.ensures u))
    ∙ c.loop-a.invariant u
