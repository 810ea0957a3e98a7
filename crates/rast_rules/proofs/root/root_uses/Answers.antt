use Rattle.std.proofs.Common.{◌+◌, ◌∙◌, ap, sym, take}
use Rattle.rast_index.specs.Keys.{numbered}
use Rattle.rast_rules.specs.Draft.{made_uses}
use Rattle.rast_rules.proofs.Sound.{numbered_turn}
use Rattle.rast_rules.proofs.Turned.{join_made_is}
use Rattle.rast_rules.proofs.root.root_uses.Goals as goal

pub loop-i-preserved : goal.loop-i-preserved
loop-i-preserved c =
    let n = c.args.vars in
    let ts = c.args.types.now in
    let i = c.loop-i.i in
    let a = c.index-types-i.result in
    join_made_is n (numbered 1 (take i ts)) (i + 1) a c.loop-i.made c.in_ok-made.made c.in_ok-ty.ty c.loop-i.invariant c.in_ok-ty.ensures c.in_ok-made.ensures
    ∙ ap (made_uses n) (sym (numbered_turn ts i a c.loop-i-test.true c.index-types-i.is))
