use Rattle.std.proofs.Common.{◌≡◌, ◌∷◌, [], ◌++◌, map, zip, ◌∙◌, ap, sym, refl, List}
use Rattle.std.proofs.lemmas.List.{append-nil}
use Rattle.rast_index.specs.Linear.{replaced}
use Rattle.rast_index.specs.Truth.{is_at_least}
use Rattle.rast_equal.specs.Valid.{nonneg}
use Rattle.rast_types.specs.declared.ty.Ty.{Ty}
use Rattle.rast_rules.specs.declared.premise.Premise.{Premise}
use Rattle.rast_rules.specs.Rules.{Askings, Is, deal, arg_asked, are_used}
use Rattle.rast_rules.specs.Trail.{and_then, plain, truth_premise}
use Rattle.rast_rules.proofs.Trails.{Found, two_then, then_nil}
use Rattle.rast_rules.proofs.Called.{spawn_deal}
use Rattle.rast_rules.proofs.calls.ask_spawned.Goals as goal

pub returns : goal.returns
returns c =
    let j = c.args.at.now in
    let n = j.ctx.vars in
    let es = c.args.args.now in
    let ys = c.args.ys.now in
    let rs = c.args.refs.now in
    let d = c.args.callee.now in
    let old = c.args.trail.now in
    let args : Askings = map (arg_asked j 4 es) (zip ys d.uses) in
    let A : Found = plain (map (λ e. (1, Is (nonneg e))) es) in
    let B : Found = plain (are_used j 2 [] ys) in
    let C : Found = (3, truth_premise (is_at_least j.potential (replaced es d.potential))) ∷ [] in
    let last : c.ask_arguments.new.trail ≡ and_then c.ask.new.self (deal n rs args) =
    sym (then_nil c.ask_arguments.new.trail) ∙ c.in_ok-_served.ensures.asks [] refl
    ∙ ap (λ (us : List Ty). and_then c.ask.new.self (deal n rs (map (arg_asked j 4 es) (zip ys us) ++ []))) c.as_slice-uses.ensures
    ∙ ap (λ (as' : Askings). and_then c.ask.new.self (deal n rs as')) (append-nil args) in
    let third : c.ask.new.self ≡ and_then c.ask_used.new.trail C =
    c.in_ok-ask.ensures ∙ ap (λ (q : Premise). and_then c.ask_used.new.trail ((3, q) ∷ [])) (c.afforded-potential.ensures (replaced es d.potential) c.put_term.ensures) in
    two_then old c.ask_nonneg.new.trail c.ask_arguments.new.trail A (B ++ (C ++ deal n rs args)) c.in_ok-ask_nonneg.ensures
    (two_then c.ask_nonneg.new.trail c.ask_used.new.trail c.ask_arguments.new.trail B (C ++ deal n rs args) c.in_ok-ask_used.ensures
    (two_then c.ask_used.new.trail c.ask.new.self c.ask_arguments.new.trail C (deal n rs args) third last))
    ∙ ap (and_then old) (spawn_deal j es ys d n rs)
