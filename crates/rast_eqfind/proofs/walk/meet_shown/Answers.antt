use Rattle.std.proofs.Common.{◌∙◌, ◌++◌, Err, ap, refl, sym}
use Rattle.rast_equal.specs.Walk.{left}
use Rattle.rast_eqfind.specs.Search.{meet_all}
use Rattle.rast_eqfind.proofs.Meeting.{goes_from, goes_is, goes_on, meet_append}
use Rattle.rast_eqfind.proofs.walk.meet_shown.Goals as goal

pub returns-in-Ok : goal.returns-in-Ok
returns-in-Ok c =
    let known = c.args.known.now in
    let s = c.args.search.now in
    let own = c.args.shown.own in
    let more = left c.args.shown.parts in
    goes_on (meet_all known s (own ++ more)) (meet_all known s own) (λ z. meet_all known z more) c.meet_each-met.new.search c.meet_pairs.new.search c.meet_pairs.result
    (meet_append known s own more) (ap (meet_all known s) (sym c.as_slice.ensures) ∙ c.in-Ok.ensures.0) c.meet_pairs.ensures

pub returns-in-Err : goal.returns-in-Err
returns-in-Err c =
    let known = c.args.known.now in
    let s = c.args.search.now in
    let own = c.args.shown.own in
    let more = left c.args.shown.parts in
    let now = c.meet_each-met.new.search in
    goes_from (meet_all known s (own ++ more)) (meet_all known s own) (λ z. meet_all known z more) now now c.in-Err.halt (Err c.in-Err.halt)
    (meet_append known s own more) (goes_is (meet_all known s own) (meet_all known s c.as_slice.result.now) now (Err c.in-Err.halt) (ap (meet_all known s) (sym c.as_slice.ensures)) c.in-Err.ensures) refl
