use Rattle.rast_print.proofs.OneText.{read_again}
use Rattle.rast_print.proofs.reading.parsing_law.Goals as goal

pub returns : goal.returns
returns c = read_again
