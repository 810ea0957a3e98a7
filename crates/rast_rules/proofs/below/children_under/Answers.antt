use Rattle.std.proofs.Common.{◌∙◌, ap, ap₂, map, sym, List, ℕ}
use Rattle.rast_index.specs.Keys.{find_key}
use Rattle.rast_index.specs.Linear.{is_small, replaced}
use Rattle.rast_terms.specs.declared.node.Node.{Node}
use Rattle.rast_types.specs.declared.ty.Ty.{Ty}
use Rattle.rast_rules.specs.Rules.{limited, child_at, with_type, or_one}
use Rattle.rast_rules.proofs.Sound.{spawn_small, delay_small}
use Rattle.rast_rules.proofs.Turned.{ok_trans}
use Rattle.rast_rules.proofs.below.children_under.Goals as goal

pub below_spawn-requires : goal.below_spawn-requires
below_spawn-requires c = λ d found.
    ap (λ es. is_small (replaced es d.potential)) c.as_slice-in-Spawn.ensures ∙ spawn_small c.args.program.now c.args.at.now c.args.node.now _ c.in-Spawn.decl _ _ _ _ d c.in-Spawn.is found c.requires

pub delay-requires-clause-used : goal.delay-requires-clause-used
delay-requires-clause-used c = (delay_small c.args.program.now c.args.at.now c.args.node.now c.in-Delay.ticks c.in-Delay.next c.in-Delay.is c.requires).0

pub delay-requires-clause-provided : goal.delay-requires-clause-provided
delay-requires-clause-provided c = (delay_small c.args.program.now c.args.at.now c.args.node.now c.in-Delay.ticks c.in-Delay.next c.in-Delay.is c.requires).1

pub returns-in-Case : goal.returns-in-Case
returns-in-Case c =
    let g = c.args.program.now in
    let j = c.args.at.now in
    let x = c.in-Case.x in
    let h = c.args.head.now in
    ok_trans c.below_case.result (map limited (map (λ (b : ℕ × ℕ). with_type j x (or_one (find_key b.0 c.choices_of-in-Case.result.now))) c.as_slice.result.now)) (map limited (child_at g j c.args.node.now (λ y. h)))
    (ap₂ (λ (bs : List (ℕ × ℕ)) (ts : List (ℕ × Ty)). map limited (map (λ b. with_type j x (or_one (find_key b.0 ts))) bs)) c.as_slice.ensures c.choices_of-in-Case.ensures ∙ ap (λ (m : Node). map limited (child_at g j m (λ y. h))) (sym c.in-Case.is)) c.below_case.ensures
