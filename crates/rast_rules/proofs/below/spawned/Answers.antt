use Rattle.std.proofs.Common.{◌∙◌, ap}
use Rattle.rast_index.specs.Linear.{less, replaced}
use Rattle.rast_rules.specs.declared.draft.Draft.{Draft}
use Rattle.rast_rules.specs.Draft.{drafted}
use Rattle.rast_rules.specs.Rules.{with_potential, with_channel, without, at_args}
use Rattle.rast_rules.proofs.Sound.{kept_without}
use Rattle.rast_rules.proofs.Turned.{changed_without}
use Rattle.rast_rules.proofs.below.spawned.Goals as goal

pub with_channel-requires : goal.with_channel-requires
with_channel-requires c =
    let j = c.args.at.now in
    let ys = c.args.ys.now in
    let q = less j.potential (replaced c.args.args.now c.args.callee.now.potential) in
    ap (λ (d : Draft). d.fresh) (c.with_potential-draft.ensures (without j ys) q (c.in_ok-draft.ensures ∙ ap drafted (changed_without j ys)) (c.handed.ensures (replaced c.args.args.now c.args.callee.now.potential) c.put_term.ensures c.requires))

pub returns-in_ok-wider-in-Ok : goal.returns-in_ok-wider-in-Ok
returns-in_ok-wider-in-Ok c =
    let j = c.args.at.now in
    let ys = c.args.ys.now in
    let es = c.args.args.now in
    let l = replaced es c.args.callee.now.potential in
    let q = less j.potential l in
    let k = with_potential (without j ys) q in
    let b = at_args j es c.args.callee.now.gives in
    let kept = kept_without j ys in
    let draft = c.with_potential-draft.ensures (without j ys) q (c.in_ok-draft.ensures ∙ ap drafted (changed_without j ys)) (c.handed.ensures l c.put_term.ensures c.requires) in
    c.single_child.ensures (with_channel k b) (c.in_ok-wider-in-Ok.ensures k b draft c.in-Ok.ensures) kept.decl kept.premises
