use Rattle.std.proofs.Common.{codes}
use Rattle.rast_cli.proofs.WriteLemmas.{written}
use Rattle.rast_cli.proofs.top.want.Goals as goal

pub returns : goal.returns
returns g c = written _ _ _ _ (codes "want of memory\n") c.write_all-written.result c.write_all-written.ensures.whole c.write_all-written.ensures.kept
    c.write_all-written.ensures.fault c.write_all-written.ensures.written c.write_all-written.ensures.part
