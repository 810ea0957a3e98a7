use Rattle.std.proofs.Common.{◌≡◌, ◌-◌, arith, rules, ap, sym, ◌∙◌, subst, List, [], ◌∷◌, ◌++◌, length, vec_len, Option}
use Rattle.rast_cooper.specs.declared.literal.Literal.{Literal}
use Rattle.rast_cooper.specs.declared.search.Stack.{Stack}
use Rattle.rast_cooper.specs.declared.explore.Course.{Course}
use Rattle.rast_cooper.specs.Claims.{node_of}
use Rattle.rast_cooper.specs.Course.{Explores, continued}
use Rattle.rast_cooper.specs.Eliminate.{Positive}
use Rattle.rast_cooper.specs.Frames.{all_states, IsPlace, chained, present, waiting}
use Rattle.rast_cooper.specs.Search.{state, run, step_states, apart}
use Rattle.rast_cooper.specs.Stack.{claim_value}
use Rattle.rast_cooper.proofs.Courses.{is_end}
use Rattle.rast_cooper.proofs.Loop.{AllGood, begin_is, begin_stack, first_good, tail_good, head_positive, step_good, turn_apart, turn_explored, turn_ended, turn_over, present_at, rest_place, goes_on, good_on}
use Rattle.rast_cooper.proofs.search.search.Goals as goal

pub loop-place-init : goal.loop-place-init
loop-place-init c =
    let s : Stack = record { claims = c.begin.new.claims; literals = c.in_ok-own.field-0; frames = c.new-2.result } in
    let a = c.in_ok-begin.ensures in
    let e = begin_is c.args.vars c.args.premises.now c.args.goal.now c.in_ok-rows.rows.items s c.in_ok-begin.field-0 c.new.result.items a c.in_ok-own.ensures.made c.in_ok-rows.ensures.made c.new-2.ensures.items in
    record {
      states = ap (run c.args.most) (sym e);
      place = (a.within, begin_stack s c.in_ok-begin.field-0 c.new.result.items _ a c.new.ensures.items c.in_ok-own.ensures.bounded c.new-2.ensures.items);
      good = first_good c.args.vars c.args.premises.now c.args.goal.now c.requires.few c.requires.premises c.requires.goal _ e;
      rows = c.in_ok-rows.ensures.bounded;
    }

pub explore-requires-clause-divisors : goal.explore-requires-clause-divisors
explore-requires-clause-divisors c =
    let s = c.loop-place.stack in
    let r = c.in_ok-rows.rows.items in
    let g = subst (λ (p : Option _). AllGood c.args.vars (all_states r s p)) c.in-Some.is c.loop-place.invariant.good in
    subst Positive (sym c.deref.ensures.value) (head_positive c.args.vars (present r s c.in-Some.at) (waiting r s) g)

pub returns-in_default-2 : goal.returns-in_default-2
returns-in_default-2 c =
    let s = c.loop-place.stack in
    let r = c.in_ok-rows.rows.items in
    let f = ap (λ p. run c.loop-place.left (all_states r s p)) c.in-Some.is in
    let h = subst (λ (ls : List Literal). Explores c.loop-place.left (state [] ls c.deref-then-at-eq0.result.now ∷ []) c.in_ok-end.end) c.deref.ensures.value c.in_ok-end.ensures.course in
    let k = subst (λ (ls : List Literal). Explores c.loop-place.left (state [] s.literals.items ls ∷ []) c.in_ok-end.end) c.deref-then-at-eq0.ensures.value h in
    c.loop-place.invariant.states ∙ f ∙ turn_ended c.loop-place.left c.in-Some.at r s c.in_ok-end.end c.if-at-eq0.true k (is_end c.in_ok-end.end c.in_default-2.not-Done)

pub loop-place-preserved-then-at-eq0 : goal.loop-place-preserved-then-at-eq0
loop-place-preserved-then-at-eq0 c =
    let s = c.loop-place.stack in
    let r = c.in_ok-rows.rows.items in
    let f = ap (λ p. run c.loop-place.left (all_states r s p)) c.in-Some.is in
    let h = subst (λ (ls : List Literal). Explores c.loop-place.left (state [] ls c.deref-then-at-eq0.result.now ∷ []) c.in_ok-end.end) c.deref.ensures.value c.in_ok-end.ensures.course in
    let k = subst (λ (ls : List Literal). Explores c.loop-place.left (state [] s.literals.items ls ∷ []) c.in_ok-end.end) c.deref-then-at-eq0.ensures.value h in
    let e = turn_explored c.loop-place.left c.in-Some.at r s c.in_ok-end.end c.if-at-eq0.true k in
    let g = subst (λ (p : Option _). AllGood c.args.vars (all_states r s p)) c.in-Some.is c.loop-place.invariant.good in
    let n = c.in_ok-place.ensures in
    record {
      states = c.loop-place.invariant.states ∙ f ∙ e ∙ ap (λ (d : Course). continued d (waiting r s)) c.in-Done.is ∙ goes_on c.in-Done.rest r (λ rows. waiting rows s) c.take_next.new.stack c.in_ok-place.place n;
      place = n.place;
      good = good_on c.args.vars r (λ rows. waiting rows s) c.take_next.new.stack c.in_ok-place.place n (tail_good c.args.vars (present r s c.in-Some.at) (waiting r s) g);
      rows = c.loop-place.invariant.rows;
    }

pub returns-then-left-eq0 : goal.returns-then-left-eq0
returns-then-left-eq0 c =
    let s = c.loop-place.stack in
    let r = c.in_ok-rows.rows.items in
    c.loop-place.invariant.states ∙ ap (λ p. run c.loop-place.left (all_states r s p)) c.in-Some.is ∙ turn_over c.loop-place.left (present r s c.in-Some.at) (waiting r s) c.if-left-eq0.true

pub advance-requires-clause-place : goal.advance-requires-clause-place
advance-requires-clause-place c =
    let s = c.loop-place.stack in
    let v = subst (IsPlace s) c.in-Some.is c.loop-place.invariant.place in
    let d : vec_len s.claims ≡ length s.claims.items = search rules in
    let p = rest_place s c.in-Some.at c.index-present.result.now (omega arith) v.0 c.index-present.ensures v.1.linked in
    omega (arith, d, p)

pub loop-place-preserved : goal.loop-place-preserved
loop-place-preserved c =
    let s = c.loop-place.stack in
    let r = c.in_ok-rows.rows.items in
    let p = c.index-present.result.now in
    let v = subst (IsPlace s) c.in-Some.is c.loop-place.invariant.place in
    let f = ap (λ q. run c.loop-place.left (all_states r s q)) c.in-Some.is in
    let g = subst (λ (q : Option _). AllGood c.args.vars (all_states r s q)) c.in-Some.is c.loop-place.invariant.good in
    let cs = chained s.claims.items p.rest in
    let e = present_at r s c.in-Some.at p (omega arith) v.0 c.index-present.ensures v.1.linked in
    let n = c.in_ok-place-2.ensures in
    record {
      states = c.loop-place.invariant.states ∙ f
          ∙ turn_apart c.loop-place.left (present r s c.in-Some.at) (claim_value p.claim) cs s.literals.items r (waiting r s) e (omega arith) v.1.bounded c.loop-place.invariant.rows
          ∙ goes_on (c.loop-place.left - 1) r (λ rows. step_states (apart (node_of (claim_value p.claim)) cs s.literals.items rows) ++ waiting rows s) c.advance.new.stack c.in_ok-place-2.place n;
      place = n.place;
      good = good_on c.args.vars r (λ rows. step_states (apart (node_of (claim_value p.claim)) cs s.literals.items rows) ++ waiting rows s) c.advance.new.stack c.in_ok-place-2.place n
          (step_good c.args.vars (present r s c.in-Some.at) (claim_value p.claim) cs s.literals.items r (waiting r s) e g);
      rows = c.loop-place.invariant.rows;
    }
