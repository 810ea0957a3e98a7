use Rattle.std.proofs.Common.{◌∙◌, ◌∷◌, [], ap, Option}
use Rattle.rast_rules.specs.Draft.{drafted}
use Rattle.rast_rules.specs.Rules.{Decl, limited, spawned}
use Rattle.std.specs.Prelude.{slice_get}
use Rattle.rast_rules.proofs.Sound.{kept_same}
use Rattle.rast_rules.proofs.Turned.{changed_none, ok_trans}
use Rattle.rast_rules.proofs.below.below_spawn.Goals as goal

pub returns-in_ok-draft-in-None : goal.returns-in_ok-draft-in-None
returns-in_ok-draft-in-None c =
    let j = c.args.at.now in
    let kept = kept_same j in
    ok_trans c.single_child.result (limited j ∷ []) (limited (spawned j c.args.args.now c.args.ys.now (slice_get c.args.program.now.decls c.args.decl)) ∷ [])
    (ap (λ (o : Option Decl). limited (spawned j c.args.args.now c.args.ys.now o) ∷ []) c.in-None.ensures.value)
    (c.single_child.ensures j (c.in_ok-draft-in-None.ensures ∙ ap drafted (changed_none j)) kept.decl kept.premises)
