use Rattle.std.proofs.Common.{ap}
use Rattle.rast_rules.specs.Draft.{drafted, changed}
use Rattle.rast_rules.specs.Rules.{with_type, without}
use Rattle.std.specs.Prelude.{None}
use Rattle.rast_rules.proofs.Turned.{changed_without, ok_trans}
use Rattle.rast_rules.proofs.below.with_part.Goals as goal

pub returns : goal.returns
returns c = λ a m.
    let j = c.args.at.now in
    let x = c.args.x in
    let gone = c.args.gone.now in
    ok_trans c.draft_with_type.result (drafted (with_type (changed j.ctx.vars None gone j) x a)) (drafted (with_type (without j gone) x a)) (ap (λ k. drafted (with_type k x a)) (changed_without j gone)) (c.draft_with_type.ensures a (c.in_ok-part.ensures a m))
