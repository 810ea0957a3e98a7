use Rattle.std.proofs.Common.{ap, sym, ◌∙◌, drop, ◌+◌}
use Rattle.rast_formula.specs.Scopes.{newest_from}
use Rattle.rast_formula.proofs.Each.{drop_at_item}
use Rattle.rast_formula.proofs.scope.newest.Goals as goal

pub loop-bound-preserved : goal.loop-bound-preserved
loop-bound-preserved c =
    let s = c.args.scope.now in
    let i = c.loop-bound.bound-index in
    let b = c.bound-item.result in
    let n = c.args.name.now in
    ap (λ f. newest_from f n (drop (i + 1) s)) c.later-found.ensures
    ∙ ap (newest_from c.loop-bound.found n) (sym (drop_at_item s i b c.bound-item.is c.loop-bound-test.true))
    ∙ c.loop-bound.invariant
