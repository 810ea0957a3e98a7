use Rattle.rast_core.proofs.SoundLemmas.{begins_sound}
use Rattle.rast_core.proofs.config.Config.start.Goals as goal

pub returns-clause-going : goal.returns-clause-going
returns-clause-going c = λ ready.
    let s = c.in_ok-config.ensures.start in
    begins_sound c.args.program.now c.args.plan c.in_ok-config.config s.state s.replayed s.plan_is ready
