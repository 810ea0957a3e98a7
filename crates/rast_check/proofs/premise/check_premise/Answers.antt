use Rattle.rast_check.proofs.Deciding.{truth_answers}
use Rattle.rast_check.proofs.premise.check_premise.Goals as goal

pub returns-in-Truth : goal.returns-in-Truth
returns-in-Truth c = truth_answers c.args.program.now c.args.at.now c.args.premise.now c.in-Truth.goal c.check_truth.result c.in-Truth.is c.check_truth.ensures
