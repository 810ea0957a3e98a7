use Rattle.std.proofs.Common.{rules, ◌≡◌, ◌∷◌}
use Rattle.rast_resolve.proofs.TypeLayers.{prefixed_gives, plus_ok, plus_err, with_ok, with_err, choice_made, choice_stops}
use Rattle.rast_resolve.proofs.types.+type_of.Goals as goal

pub type_of-returns-in-Prefixed-clause-gives : goal.type_of-returns-in-Prefixed-clause-gives
type_of-returns-in-Prefixed-clause-gives t c = prefixed_gives c.args.known.now c.args.item.now c.args.vars.now c.args.written.now c.in-Prefixed.prefix c.in-Prefixed.body c.get.result.now c.prefixed.result c.in-Prefixed.is c.get.ensures c.prefixed.ensures.gives

pub atom-returns-in-Ok-clause-gives : goal.atom-returns-in-Ok-clause-gives
atom-returns-in-Ok-clause-gives t c = plus_ok c.args.known.now c.args.item.now c.args.vars.now c.args.written.now c.in-Plus.c c.get.result.now c.get.ensures c.in-Ok.ts c.in-Plus.is c.in-Ok.ensures.gives

pub atom-returns-in-Err-clause-gives : goal.atom-returns-in-Err-clause-gives
atom-returns-in-Err-clause-gives t c = plus_err c.args.known.now c.args.item.now c.args.vars.now c.args.written.now c.in-Plus.c c.get.result.now c.get.ensures _ c.in-Plus.is c.in-Err.ensures.gives

pub atom-returns-in-Ok-choice-clause-gives : goal.atom-returns-in-Ok-choice-clause-gives
atom-returns-in-Ok-choice-clause-gives t c = with_ok c.args.known.now c.args.item.now c.args.vars.now c.args.written.now c.in-With.c c.get-in-With.result.now c.get-in-With.ensures c.in-Ok-choice.ts c.in-With.is c.in-Ok-choice.ensures.gives

pub atom-returns-in-Err-choice-clause-gives : goal.atom-returns-in-Err-choice-clause-gives
atom-returns-in-Err-choice-clause-gives t c = with_err c.args.known.now c.args.item.now c.args.vars.now c.args.written.now c.in-With.c c.get-in-With.result.now c.get-in-With.ensures _ c.in-With.is c.in-Err-choice.ensures.gives

pub choice-returns-in_ok-append-in-Ok-clause-gives : goal.choice-returns-in_ok-append-in-Ok-clause-gives
choice-returns-in_ok-append-in-Ok-clause-gives t c =
    let out : c.append.new.self ≡ (c.in_ok-number.number, c.in_ok-first.first) ∷ c.in-Ok.rest = search rules in
    choice_made c.args.known.now c.args.item.now c.args.vars.now c.args.written.now c.in_ok-first.first c.in_ok-number.number c.as_slice.result.now c.in_ok-seen.seen c.type_of.new.vars
    c.in_ok-first.ensures.gives c.in_ok-number.ensures c.as_slice.ensures c.in_ok-seen.ensures c.in_ok-first.ensures.kept c.in-Ok.rest c.append.new.self c.in-Ok.ensures.gives out

pub choice-returns-in-Err-clause-gives : goal.choice-returns-in-Err-clause-gives
choice-returns-in-Err-clause-gives t c =
    choice_stops c.args.known.now c.args.item.now c.args.vars.now c.args.written.now c.in_ok-first.first c.in_ok-number.number c.as_slice.result.now c.in_ok-seen.seen c.type_of.new.vars
    c.in_ok-first.ensures.gives c.in_ok-number.ensures c.as_slice.ensures c.in_ok-seen.ensures c.in_ok-first.ensures.kept _ c.in-Err.ensures.gives
