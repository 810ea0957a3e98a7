use Rattle.std.proofs.Common.{Ok, [], ◌∙◌, ap, min, length}
use Rattle.rast_rules.specs.Draft.{made_uses, turned_uses}
use Rattle.rast_rules.specs.Trail.{left}
use Rattle.rast_rules.proofs.Turned.{change_is}
use Rattle.rast_rules.proofs.child_types.draft_in_scope.Goals as goal

pub returns-in-Ok : goal.returns-in-Ok
returns-in-Ok c =
    let n = c.args.vars in
    let gone = c.args.gone.now in
    let same = c.as_slice-uses.ensures in
    change_is c.args.at.now n c.args.by gone c.draft.result c.count_left.result (c.count_left.ensures ∙ ap (λ us. min 16 (length (left gone us))) same) c.in_ok-made.made c.in-Ok.gives
    (c.in_ok-made.ensures [] (ap Ok c.new.ensures) ∙ ap (λ us. made_uses n (turned_uses n c.args.by (left gone us))) same) c.in-Ok.ensures c.draft.ensures
