use Rattle.std.proofs.Common.{◌∙◌, sym}
use Rattle.rast_lines.proofs.Finding.{type_here, type_later}
use Rattle.rast_lines.proofs.scopes.find_types.Goals as goal

pub returns-in-Some : goal.returns-in-Some
returns-in-Some c = λ u.
    let p = c.args.place.now in
    type_here c.args.sought.now.rule c.args.sought.now.vars p.vars p.premises c.loop-ty.left.now p.names c.args.before.now c.args.last.now c.loop-ty.ty-index c.ty-item.result c.loop-ty-test.true c.ty-item.is u c.in-Some.names (sym c.in-Some.is ∙ c.in_ok-names.ensures u)
    ∙ c.loop-ty.invariant u

pub loop-ty-preserved : goal.loop-ty-preserved
loop-ty-preserved c = λ u.
    let p = c.args.place.now in
    sym (type_later c.args.sought.now.rule c.args.sought.now.vars p.vars p.premises c.loop-ty.left.now p.names c.args.before.now c.args.last.now c.loop-ty.ty-index c.ty-item.result c.loop-ty-test.true c.ty-item.is u c.past-left.result.now c.past-left.ensures (sym c.in-None.is ∙ c.in_ok-names.ensures u))
    ∙ c.loop-ty.invariant u
