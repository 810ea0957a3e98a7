use Rattle.rast_check.proofs.Answering.{answered}
use Rattle.rast_check.proofs.Forming.{formed_is, never_unscoped}
use Rattle.rast_check.proofs.Refuting.{refutes_all}
use Rattle.rast_check.proofs.Testing.{whenever_ok}
use Rattle.rast_check.proofs.checked.check_program.Goals as goal

pub unreachable-requires : goal.unreachable-requires
unreachable-requires c = never_unscoped c.args.program.now c.requires c.is_scoped.result c.is_scoped.ensures.is c.if-not-is_scoped.true

pub check_formed-requires : goal.check_formed-requires
check_formed-requires c = formed_is c.args.program.now c.requires (c.is_scoped.ensures.more c.if-not-is_scoped.false)

pub returns-clause-answer : goal.returns-clause-answer
returns-clause-answer c =
    let g = c.args.program.now in
    answered g c.check_formed.result (formed_is g c.requires (c.is_scoped.ensures.more c.if-not-is_scoped.false)) c.check_formed.ensures

pub returns-clause-refutes : goal.returns-clause-refutes
returns-clause-refutes c =
    let g = c.args.program.now in
    refutes_all g c.check_formed.result (formed_is g c.requires (c.is_scoped.ensures.more c.if-not-is_scoped.false)) c.check_formed.ensures

pub returns-clause-forest : goal.returns-clause-forest
returns-clause-forest c =
    let g = c.args.program.now in
    whenever_ok c.check_formed.result (formed_is g c.requires (c.is_scoped.ensures.more c.if-not-is_scoped.false)).forest

pub returns-clause-made : goal.returns-clause-made
returns-clause-made c =
    let g = c.args.program.now in
    whenever_ok c.check_formed.result (formed_is g c.requires (c.is_scoped.ensures.more c.if-not-is_scoped.false)).made
