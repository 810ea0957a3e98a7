use Rattle.std.proofs.Common.{Ok, ◌≡◌, ◌++◌, ◌∷◌, [], ◌∙◌, ap, sym, take, drop, add-one, List, ℕ, length, ◌-◌, ◌+◌, false, ◌==◌}
use Rattle.std.specs.List.{list_any}
use Rattle.rast_index.specs.Keys.{set_key, IsPlace}
use Rattle.rast_types.specs.declared.ty.Ty.{Ty}
use Rattle.rast_rules.specs.Draft.{made_uses}
use Rattle.rast_rules.proofs.Turned.{all_of, set_gone, set_absent, set_split, join_made_is, rest_is, ok_trans}
use Rattle.rast_rules.proofs.child_types.uses_with_type.Goals as goal

pub returns-then-is_among : goal.returns-then-is_among
returns-then-is_among c = λ a e.
    let n = c.args.vars in
    let gone = c.args.gone.now in
    let us = c.args.uses.now in
    ok_trans c.uses_in_scope.result (made_uses n (all_of n c.args.by gone us)) (made_uses n (set_key c.args.x a (all_of n c.args.by gone us)))
    (ap (made_uses n) (sym (set_gone n c.args.by gone c.args.x a us (sym c.is_among.ensures ∙ c.if-is_among.true)))) (c.uses_in_scope.ensures [] (ap Ok c.new.ensures))

pub returns-in-None : goal.returns-in-None
returns-in-None c = λ a e.
    let n = c.args.vars in
    let gone = c.args.gone.now in
    let us = c.args.uses.now in
    ok_trans c.uses_in_scope-in-None.result (made_uses n (all_of n c.args.by gone us)) (made_uses n (set_key c.args.x a (all_of n c.args.by gone us)))
    (ap (made_uses n) (sym (set_absent n c.args.by gone c.args.x a us c.in-None.ensures))) (c.uses_in_scope-in-None.ensures [] (ap Ok c.new.ensures))

pub returns-in_ok-middle-in-Ok : goal.returns-in_ok-middle-in-Ok
returns-in_ok-middle-in-Ok c = λ a e.
    let n = c.args.vars in
    let by = c.args.by in
    let gone = c.args.gone.now in
    let us = c.args.uses.now in
    let x = c.args.x in
    let i = c.in-Some.i in
    let place : IsPlace x us i = c.in-Some.ensures in
    let free : list_any (λ y. y == x) gone ≡ false = sym c.is_among.ensures ∙ c.if-is_among.false in
    let rest = take (length us - (i + 1)) (drop (i + 1) us) in
    let before : List (ℕ × Ty) = all_of n by gone (take i us) in
    let with : List (ℕ × Ty) = before ++ (x, a) ∷ [] in
    let front = c.in-Ok.ensures [] (ap Ok c.new.ensures) in
    let middle = join_made_is n before x a c.in-Ok.front c.in_ok-middle-in-Ok.middle c.args.part front e c.in_ok-middle-in-Ok.ensures in
    ok_trans c.uses_in_scope-in-Ok.result (made_uses n (with ++ all_of n by gone rest)) (made_uses n (set_key x a (all_of n by gone us)))
    (ap (λ vs. made_uses n (with ++ all_of n by gone vs)) (rest_is us (i + 1) ∙ ap (λ k. drop k us) (add-one i)) ∙ ap (made_uses n) (sym (set_split n by gone x a us i (x, a) free place.below place.free (place.here (x, a)))))
    (c.uses_in_scope-in-Ok.ensures with middle)
