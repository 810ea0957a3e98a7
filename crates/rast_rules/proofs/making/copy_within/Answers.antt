use Rattle.std.proofs.Common.{subst}
use Rattle.rast_types.specs.Made.{Answers}
use Rattle.rast_types.specs.Symbolic.{made_type}
use Rattle.rast_types.specs.declared.ty.Ty.{Ty}
use Rattle.rast_time.proofs.Delays.{opened_nothing}
use Rattle.rast_rules.proofs.making.copy_within.Goals as goal

pub returns : goal.returns
returns c = c.settled.ensures (made_type c.args.vars c.args.ty.now) (subst (λ (a : Ty). Answers (made_type c.args.vars a) c.unfold.result) (opened_nothing _ c.args.vars c.args.ty.now c.new.ensures) c.unfold.ensures)
