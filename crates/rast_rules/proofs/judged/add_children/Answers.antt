use Rattle.std.proofs.Common.{◌∙◌, subst}
use Rattle.rast_terms.specs.declared.node.Node.{Node}
use Rattle.rast_rules.specs.Plan.{HaveKids}
use Rattle.rast_rules.proofs.Single.{some_same}
use Rattle.rast_rules.proofs.Trails.{on_ok}
use Rattle.rast_rules.proofs.judged.add_children.Goals as goal

pub returns-in-Some-clause-here : goal.returns-in-Some-clause-here
returns-in-Some-clause-here c = on_ok c.add_below.result (λ f nd has e. subst (λ (x : Node). HaveKids c.args.program.now c.add_below.new.judged x 0) (some_same c.in-Some.found.now nd (c.in-Some.ensures.value ∙ e)) (f has)) c.add_below.ensures.here
