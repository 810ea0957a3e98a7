use Rattle.std.proofs.Common.{◌∙◌, sym}
use Rattle.rast_made.proofs.Exactly.{well_made_true}
use Rattle.rast_made.proofs.Making.{well_made_is}
use Rattle.rast_made.proofs.Results.{for_ok}
use Rattle.rast_made.proofs.program.well_made.Goals as goal

pub returns-clause-made : goal.returns-clause-made
returns-clause-made c = for_ok c.is_well_made.result (λ t e h. well_made_is c.args.program.now (sym e ∙ h)) c.is_well_made.ensures

pub returns-clause-only : goal.returns-clause-only
returns-clause-only c = for_ok c.is_well_made.result (λ t e w. e ∙ well_made_true c.args.program.now w) c.is_well_made.ensures
