use Rattle.std.proofs.Common.{sym}
use Rattle.rast_accept.proofs.Reasons.{names_reason, read_reason, says, says_one}
use Rattle.rast_accept.proofs.loading.said.Goals as goal

pub returns-in-Err-clause-unloaded : goal.returns-in-Err-clause-unloaded
returns-in-Err-clause-unloaded c = rw c.of_form.ensures (read_reason c.args.text.items c.in-Err.why (rw c.deref.ensures.value at c.in-Err.ensures.unread))

pub returns-in-Ok-resolved-clause-only : goal.returns-in-Ok-resolved-clause-only
returns-in-Ok-resolved-clause-only c =
    says_one c.args.text.items c.in-Ok.file (rw c.deref.ensures.value at c.in-Ok.ensures.file) (rw c.deref.ensures.value at c.in-Ok.ensures.only) c.in-Ok-resolved.resolved c.in-Ok-resolved.ensures

pub returns-in-Err-resolved-clause-unloaded : goal.returns-in-Err-resolved-clause-unloaded
returns-in-Err-resolved-clause-unloaded c =
    rw c.of_names.ensures
    (names_reason c.args.text.items c.in-Ok.file (rw c.deref.ensures.value at c.in-Ok.ensures.file) (rw c.deref.ensures.value at c.in-Ok.ensures.only) c.in-Err-resolved.why c.in-Err-resolved.ensures)
