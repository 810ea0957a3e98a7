use Rattle.std.proofs.Common.{◌∙◌, ap, sym}
use Rattle.rast_rules.specs.Trail.{and_then}
use Rattle.rast_rules.proofs.Trails.{on_ok, two_then}
use Rattle.rast_rules.proofs.Deals.{plain_append}
use Rattle.rast_rules.proofs.touching.ask_case.Goals as goal

pub returns : goal.returns
returns c = on_ok c.ask_choices.result (λ e. two_then c.args.trail.now c.ask_branches.new.trail c.ask_choices.new.trail _ _ c.in_ok-ask_branches.ensures e ∙ ap (and_then c.args.trail.now) (sym (plain_append _ _))) c.ask_choices.ensures
