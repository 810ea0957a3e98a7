use Rattle.std.proofs.Common.{◌∙◌, ap, map, sym}
use Rattle.rast_types.specs.declared.ty.Ty.{Ty}
use Rattle.rast_types.specs.declared.ty.Ty.TheVariants as ty
use Rattle.rast_terms.specs.Nodes.{Touch}
use Rattle.rast_rules.specs.Rules.{limited, child_at, children, head_at}
use Rattle.rast_rules.proofs.Sound.{touch_exposes, child_touched, child_untouched}
use Rattle.rast_rules.proofs.Turned.{ok_trans}
use Rattle.rast_rules.proofs.below.children_of.Goals as goal

pub head_at-requires : goal.head_at-requires
head_at-requires c = λ s e.
    let t : Touch = record { x = c.in-Some.touch.x; provided = c.in-Some.touch.provided; used = c.in-Some.touch.used } in
    touch_exposes c.args.program.now c.args.at.now c.args.node.now t s c.in-Some.ensures c.requires e

pub returns-in_ok-head-in-Some : goal.returns-in_ok-head-in-Some
returns-in_ok-head-in-Some c =
    let g = c.args.program.now in
    let j = c.args.at.now in
    let n = c.args.node.now in
    let t : Touch = record { x = c.in-Some.touch.x; provided = c.in-Some.touch.provided; used = c.in-Some.touch.used } in
    let same = child_touched g j n t (head_at g j) c.in-Some.ensures ∙ ap (λ (h : Ty). child_at g j n (λ x. h)) (sym c.in_ok-head-in-Some.ensures) in
    ok_trans c.children_under-children.result (map limited (child_at g j n (λ x. c.in_ok-head-in-Some.head))) (children g j n) (ap (map limited) (sym same)) c.children_under-children.ensures

pub returns-in-None : goal.returns-in-None
returns-in-None c =
    let g = c.args.program.now in
    let j = c.args.at.now in
    let n = c.args.node.now in
    ok_trans c.children_under.result (map limited (child_at g j n (λ x. ty.One))) (children g j n) (ap (map limited) (child_untouched g j n (λ x. ty.One) (head_at g j) c.in-None.ensures)) c.children_under.ensures
