use Rattle.std.proofs.Common.{◌∙◌, sym, refl}
use Rattle.rast_rules.specs.Draft.{join_made}
use Rattle.rast_rules.proofs.Turned.{one_gone, one_kept, ok_trans}
use Rattle.rast_rules.proofs.child_types.use_in_scope.Goals as goal

pub returns-then-is_among : goal.returns-then-is_among
returns-then-is_among c = λ us e. one_gone c.args.vars c.args.by c.args.gone.now us (c.args.channel, c.args.ty.now) c.args.before e (sym c.is_among.ensures ∙ c.if-is_among.true)

pub returns-in-Ok : goal.returns-in-Ok
returns-in-Ok c = λ us e.
    ok_trans c.with_use.result (join_made c.args.before c.args.channel c.in-Ok.made) _
    (one_kept c.args.vars c.args.by c.args.gone.now us (c.args.channel, c.args.ty.now) c.args.before _ c.in-Ok.made e (sym c.is_among.ensures ∙ c.if-is_among.false) c.in-Ok.ensures refl)
    c.with_use.ensures
