use Rattle.rast_cli.proofs.SayLemmas.{refuses_text}
use Rattle.rast_cli.proofs.found.program_in.Goals as goal

pub returns-in_ok-unloaded-in-Err : goal.returns-in_ok-unloaded-in-Err
returns-in_ok-unloaded-in-Err c = refuses_text c.args.text.items c.in-Err.why c.in_ok-unloaded-in-Err.field-0 c.in-Err.ensures.unloaded c.in_ok-unloaded-in-Err.ensures
