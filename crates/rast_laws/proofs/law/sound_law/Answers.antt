use Rattle.rast_laws.proofs.Ready.{ready_sound}
use Rattle.rast_laws.proofs.law.sound_law.Goals as goal

pub returns : goal.returns
returns c = ready_sound
