use Rattle.std.proofs.Common.{sym}
use Rattle.rast_core.proofs.Beginning.{main_natural, main_begins}
use Rattle.rast_core.proofs.main_process.begin.Goals as goal

pub body_of-requires : goal.body_of-requires
body_of-requires c = main_natural c.args.program.now c.in-Some.number c.in-Some-get.decl.now c.in-Some.is (sym c.in-Some-get.ensures.value) c.requires

pub returns-clause-begins : goal.returns-clause-begins
returns-clause-begins c = main_begins c.args.program.now c.in-Some.number c.in-Some-get.decl.now c.body_of.result c.in-Some.is (sym c.in-Some-get.ensures.value) c.requires c.body_of.ensures.process
