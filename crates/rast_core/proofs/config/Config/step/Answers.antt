use Rattle.rast_core.proofs.SoundLemmas.{step_sound, step_going}
use Rattle.rast_core.proofs.config.Config.step.Goals as goal

pub returns-clause-sound : goal.returns-clause-sound
returns-clause-sound c = step_sound c.args.program.now c.args.self.now c.do_next.new.self c.args.pid c.do_next.result c.requires.going c.do_next.ensures.step

pub returns-clause-going : goal.returns-clause-going
returns-clause-going c = step_going c.args.program.now c.args.self.now c.do_next.new.self c.args.pid c.do_next.result c.requires.going c.do_next.ensures.step
