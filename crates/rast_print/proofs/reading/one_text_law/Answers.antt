use Rattle.rast_print.proofs.OneText.{one_file}
use Rattle.rast_print.proofs.reading.one_text_law.Goals as goal

pub returns : goal.returns
returns c = one_file
