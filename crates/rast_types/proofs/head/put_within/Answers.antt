use Rattle.std.proofs.Common.{◌≡◌, ◌∙◌, ap, sym, false}
use Rattle.rast_types.specs.Symbolic.{put_type, is_deep, is_small_type}
use Rattle.rast_types.proofs.Heads.{within_deep, answered}
use Rattle.rast_types.proofs.Binders.{deep_put}
use Rattle.rast_types.proofs.head.put_within.Goals as goal

pub returns-then-is_deep : goal.returns-then-is_deep
returns-then-is_deep c = within_deep _ _ _ (deep_put c.args.vars c.args.args.now c.args.a.now ∙ sym c.is_deep.ensures ∙ c.if-is_deep.true)

pub returns : goal.returns
returns c =
    let shallow : is_deep c.args.vars (put_type c.args.vars c.args.args.now c.args.a.now) ≡ false = deep_put c.args.vars c.args.args.now c.args.a.now ∙ sym c.is_deep.ensures ∙ c.if-is_deep.false in
    answered _ is_small_type _ _ shallow c.put_type.ensures
