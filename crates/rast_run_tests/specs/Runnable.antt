-- Programs that may be run.
use Rattle.rast_rules.specs.declared.judgement.Plan.{Plan}
use Rattle.rast_rules.specs.Rules.{IsPlan}
use Rattle.rast_terms.specs.declared.program.Program.{Program}
use Rattle.rast_laws.specs.Sound.{IsReady}
use Rattle.rast_core.specs.Shown.{run_code}

-- with each plan that the rules give it
abbrev pub IsRunnable : Program → Type 0
IsRunnable g = (plan : Plan) → IsPlan g plan → IsReady (run_code g plan)
