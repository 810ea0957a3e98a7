use Rattle.std.proofs.Common.{refl, subst}
use Rattle.rast_types.specs.Made.{Answers}
use Rattle.rast_types.specs.Symbolic.{made_type, put_type}
use Rattle.rast_types.specs.declared.ty.Ty.{Ty}
use Rattle.rast_types.specs.declared.ty.Ty.TheVariants.{Named}
use Rattle.rast_rules.proofs.Makings.{opened_only}
use Rattle.rast_rules.proofs.making.put_within.Goals as goal

pub returns : goal.returns
returns c =
    c.settled.ensures (made_type c.args.vars (put_type c.args.vars c.args.args.now c.args.ty.now))
    (subst (λ (a : Ty). Answers (made_type c.args.vars a) c.unfold-made.result)
    (opened_only _ c.args.vars c.args.ty.now (Named 0 c.in_ok-copy_terms.field-0) c.in_ok-copy_terms.field-0 c.args.args.now c.in_ok-table.ensures refl c.in_ok-copy_terms.ensures.same) c.unfold-made.ensures)
