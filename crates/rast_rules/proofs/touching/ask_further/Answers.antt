use Rattle.std.proofs.Common.{◌∙◌, ap}
use Rattle.rast_rules.specs.Trail.{and_then}
use Rattle.rast_rules.proofs.Trails.{on_ok}
use Rattle.rast_rules.proofs.Touched.{case_deal}
use Rattle.rast_rules.proofs.touching.ask_further.Goals as goal

pub returns-in-Case : goal.returns-in-Case
returns-in-Case c =
    on_ok c.ask_case.result (λ e. e ∙ ap (and_then c.args.trail.now) (case_deal c.args.at.now c.args.node.now c.args.head.now c.args.at.now.ctx.vars c.in-Case.x c.in-Case.branches _ _ c.in-Case.is c.as_slice.ensures c.choices_of-in-Case.ensures)) c.ask_case.ensures
