use Rattle.rast_accept.proofs.Reasons.{check_reason, loads}
use Rattle.rast_accept.proofs.loading.load.Goals as goal

pub check-requires : goal.check-requires
check-requires c = c.formed_law.ensures.formed c.args.text.items c.in-Ok.program c.requires c.in-Ok.ensures.says

pub returns-in-Ok-check-clause-loaded : goal.returns-in-Ok-check-clause-loaded
returns-in-Ok-check-clause-loaded c =
    loads c.args.text.items c.in-Ok.program c.in-Ok.ensures.says c.in-Ok.ensures.only c.in-Ok-check.checked.program c.in-Ok-check.ensures.kept c.in-Ok-check.ensures.made c.in-Ok-check.ensures.accepted c.in-Ok-check.ensures.none

pub returns-in-Ok-check-clause-made : goal.returns-in-Ok-check-clause-made
returns-in-Ok-check-clause-made c = c.formed_law.ensures.made c.args.text.items

pub returns-in-Ok-check-clause-formed : goal.returns-in-Ok-check-clause-formed
returns-in-Ok-check-clause-formed c = λ program says. c.formed_law.ensures.formed c.args.text.items program c.requires says

pub returns-in-Err-check-clause-unloaded : goal.returns-in-Err-check-clause-unloaded
returns-in-Err-check-clause-unloaded c =
    check_reason c.args.text.items c.in-Ok.program c.in-Ok.ensures.says c.in-Ok.ensures.only c.in-Err-check.why c.of_check.result c.in-Err-check.ensures.first c.in-Err-check.ensures.refutes (rw c.in-Err-check.ensures.back at c.of_check.ensures)

pub returns-in-Err-check-clause-made : goal.returns-in-Err-check-clause-made
returns-in-Err-check-clause-made c = c.formed_law.ensures.made c.args.text.items

pub returns-in-Err-check-clause-formed : goal.returns-in-Err-check-clause-formed
returns-in-Err-check-clause-formed c = λ program says. c.formed_law.ensures.formed c.args.text.items program c.requires says

pub returns-in-Err-clause-made : goal.returns-in-Err-clause-made
returns-in-Err-clause-made c = c.formed_law.ensures.made c.args.text.items

pub returns-in-Err-clause-formed : goal.returns-in-Err-clause-formed
returns-in-Err-clause-formed c = λ program says. c.formed_law.ensures.formed c.args.text.items program c.requires says
