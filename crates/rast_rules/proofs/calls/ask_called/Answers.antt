use Rattle.std.proofs.Common.{◌≡◌, ◌∷◌, [], ◌++◌, map, zip, ◌∙◌, ap, refl, List}
use Rattle.rast_index.specs.Linear.{replaced}
use Rattle.rast_index.specs.Truth.{is_equal}
use Rattle.rast_equal.specs.Valid.{nonneg}
use Rattle.rast_types.specs.Symbolic.{made_type}
use Rattle.rast_types.specs.declared.ty.Ty.{Ty}
use Rattle.rast_rules.specs.declared.premise.Premise.TheVariants.{Shape}
use Rattle.rast_rules.specs.declared.premise.Evidence.TheVariants.{Linear as WLinear}
use Rattle.rast_rules.specs.Rules.{Askings, Is, Alike, deal, arg_asked, at_args, are_used, is_provided, none_left, without, failure}
use Rattle.rast_rules.specs.Trail.{and_then, plain, truth_premise}
use Rattle.rast_rules.proofs.Trails.{Found, two_then, on_ok}
use Rattle.rast_rules.proofs.Called.{call_deal}
use Rattle.rast_rules.proofs.calls.ask_called.Goals as goal

pub returns : goal.returns
returns c =
    let j = c.args.at.now in
    let n = j.ctx.vars in
    let x = c.args.x in
    let es = c.args.args.now in
    let ys = c.args.ys.now in
    let rs = c.args.refs.now in
    let d = c.args.callee.now in
    let old = c.args.trail.now in
    let b = at_args j es d.gives in
    let result : Askings = (5, Alike b j.gives.1 (failure (made_type n b))) ∷ [] in
    let args : Askings = map (arg_asked j 5 es) (zip ys d.uses) ++ result in
    let A : Found = plain (map (λ e. (1, Is (nonneg e))) es) in
    let B : Found = (2, Shape (is_provided j x) (WLinear x)) ∷ [] in
    let C : Found = plain (are_used j 3 [] ys) in
    let D : Found = plain (none_left 3 (without j ys).uses) in
    let E : Found = (4, truth_premise (is_equal j.potential (replaced es d.potential))) ∷ [] in
    on_ok c.ask_result.result (λ e.
    let last : c.ask_result.new.trail ≡ and_then c.ask_equal.new.trail (deal n rs args) =
    e ∙ c.in_ok-served.ensures.asks result refl ∙ ap (λ (us : List Ty). and_then c.ask_equal.new.trail (deal n rs (map (arg_asked j 5 es) (zip ys us) ++ result))) c.as_slice-uses.ensures in
    two_then old c.ask_nonneg.new.trail c.ask_result.new.trail A (B ++ (C ++ (D ++ (E ++ deal n rs args)))) c.in_ok-ask_nonneg.ensures
    (two_then c.ask_nonneg.new.trail c.ask_provided.new.trail c.ask_result.new.trail B (C ++ (D ++ (E ++ deal n rs args))) c.in_ok-ask_provided.ensures
    (two_then c.ask_provided.new.trail c.ask_used.new.trail c.ask_result.new.trail C (D ++ (E ++ deal n rs args)) c.in_ok-ask_used.ensures
    (two_then c.ask_used.new.trail c.ask_none_left.new.trail c.ask_result.new.trail D (E ++ deal n rs args) c.in_ok-ask_none_left.ensures
    (two_then c.ask_none_left.new.trail c.ask_equal.new.trail c.ask_result.new.trail E (deal n rs args) c.in_ok-ask_equal.ensures last))))
    ∙ ap (and_then old) (call_deal j x es ys d n rs)) c.ask_result.ensures
