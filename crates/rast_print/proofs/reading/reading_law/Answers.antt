use Rattle.rast_print.proofs.FileCut.{read_as}
use Rattle.rast_print.proofs.reading.reading_law.Goals as goal

pub returns : goal.returns
returns c = read_as
