use Rattle.std.proofs.Common.{sym, ◌∙◌}
use Rattle.rast_core.proofs.Cuts.{read_at}
use Rattle.rast_core.proofs.find.stands_at.Goals as goal

pub returns : goal.returns
returns c = λ h. record { item = c.index-items-place.result; get = read_at c.args.items.now c.args.place c.index-items-place.result c.if-place-items.false c.index-items-place.is; is = sym c.is_process.ensures ∙ h }
