use Rattle.std.proofs.Common.{Ok, [], ◌∙◌, ap, sym, min, length}
use Rattle.rast_index.specs.Keys.{set_key}
use Rattle.rast_rules.specs.Draft.{made_uses, turned_uses}
use Rattle.rast_rules.specs.Trail.{left}
use Rattle.rast_rules.proofs.Turned.{change_provided, change_used}
use Rattle.rast_rules.proofs.child_types.draft_with_type.Goals as goal

pub returns-in-Ok : goal.returns-in-Ok
returns-in-Ok c = λ a e.
    let n = c.args.vars in
    let gone = c.args.gone.now in
    let same = c.as_slice-uses.ensures in
    change_provided c.args.at.now n c.args.by gone c.draft.result c.count_left-count.result (c.count_left-count.ensures ∙ ap (λ us. min 16 (length (left gone us))) same) c.args.x a c.in-Ok.made c.args.part
    (sym c.is_provided.ensures ∙ c.if-is_provided.true) (c.in-Ok.ensures [] (ap Ok c.new.ensures) ∙ ap (λ us. made_uses n (turned_uses n c.args.by (left gone us))) same) e c.draft.ensures

pub returns-in-Ok-type_in_scope : goal.returns-in-Ok-type_in_scope
returns-in-Ok-type_in_scope c = λ a e.
    let n = c.args.vars in
    let gone = c.args.gone.now in
    let same = c.as_slice-uses.ensures in
    change_used c.args.at.now n c.args.by gone c.draft-in-Ok-type_in_scope.result c.count_left-count.result (c.count_left-count.ensures ∙ ap (λ us. min 16 (length (left gone us))) same) c.args.x a c.in_ok-used.used c.in-Ok-type_in_scope.gives
    (sym c.is_provided.ensures ∙ c.if-is_provided.false) (c.in_ok-used.ensures a e ∙ ap (λ us. made_uses n (set_key c.args.x a (turned_uses n c.args.by (left gone us)))) same) c.in-Ok-type_in_scope.ensures c.draft-in-Ok-type_in_scope.ensures
