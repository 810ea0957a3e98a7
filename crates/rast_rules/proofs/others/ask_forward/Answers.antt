use Rattle.std.proofs.Common.{◌∷◌, [], ◌++◌, ◌∙◌, ap}
use Rattle.std.specs.Prelude.{is_some}
use Rattle.rast_index.specs.Linear.{nought}
use Rattle.rast_index.specs.Truth.{is_equal}
use Rattle.rast_rules.specs.declared.premise.Premise.TheVariants.{Truth, Shape, Same}
use Rattle.rast_rules.specs.declared.premise.Evidence.TheVariants.{Linear}
use Rattle.rast_rules.specs.Rules.{none_left, without, is_provided, used_type, or_one}
use Rattle.rast_rules.specs.Trail.{and_then, plain}
use Rattle.rast_rules.proofs.Trails.{Found, two_then, on_ok}
use Rattle.rast_rules.proofs.Untouched.{forward_deal}
use Rattle.rast_rules.proofs.others.ask_forward.Goals as goal

pub returns : goal.returns
returns c =
    let j = c.args.at.now in
    let old = c.args.trail.now in
    let x = c.args.x in
    let y = c.args.y in
    let A : Found = (1, Shape (is_provided j x) (Linear x)) ∷ (1, Shape (is_some (used_type j y)) (Linear y)) ∷ [] in
    let C : Found = plain (none_left 2 (without j (y ∷ [])).uses) in
    let D : Found = (3, Truth (is_equal j.potential nought)) ∷ [] in
    let E : Found = (4, Same (or_one (used_type j y)) j.gives.1 c.args.refs.now) ∷ [] in
    on_ok c.ask_alike.result (λ e.
    two_then old c.ask_ends.new.trail c.ask_alike.new.trail A (C ++ (D ++ E)) c.in_ok-ask_ends.ensures
    (two_then c.ask_ends.new.trail c.ask_none_left.new.trail c.ask_alike.new.trail C (D ++ E) c.in_ok-ask_none_left.ensures
    (two_then c.ask_none_left.new.trail c.ask_empty.new.trail c.ask_alike.new.trail D E c.in_ok-ask_empty.ensures e))
    ∙ ap (and_then old) (forward_deal j x y j.ctx.vars c.args.refs.now)) c.ask_alike.ensures
