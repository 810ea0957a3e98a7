use Rattle.std.proofs.Common.{subst, sym}
use Rattle.rast_index.specs.Linear.{Linear}
use Rattle.rast_index.specs.Truth.{is_at_least}
use Rattle.rast_equal.specs.Fit.{IsClosedFrom, IsWithin}
use Rattle.rast_equal.proofs.Demands.{nonneg_within}
use Rattle.rast_equal.proofs.validity.check_natural.Goals as goal

pub judge-requires-clause-within : goal.judge-requires-clause-within
judge-requires-clause-within c =
    let n = c.args.ctx.now.vars in
    let x = c.again.result in
    subst (λ (z : Linear). IsWithin n (is_at_least x z)) (sym c.nought.ensures) (nonneg_within n x (subst (IsClosedFrom n) (sym c.again.ensures.same) c.requires.within))
