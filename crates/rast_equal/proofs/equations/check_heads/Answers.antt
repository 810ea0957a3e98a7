use Rattle.std.proofs.Common.{List, [], ◌++◌, subst}
use Rattle.rast_types.specs.declared.equation.Ref.{Ref}
use Rattle.rast_equal.specs.Equated.{Accepts, made}
use Rattle.rast_equal.specs.Walk.{left, parts_served, serve, tagged}
use Rattle.rast_equal.proofs.Exposes.{equation_heads, heads_accept}
use Rattle.rast_equal.proofs.equations.check_heads.Goals as goal

pub show_heads-requires : goal.show_heads-requires
show_heads-requires c =
    equation_heads c.args.equation.now c.args.place.now c.args.sides.0.now.head c.args.sides.1.now.head c.requires.place c.requires.fit c.requires.left.head c.requires.right.head

pub returns-in-Ok : goal.returns-in-Ok
returns-in-Ok c =
    heads_accept c.args.equations.now c.args.equation.now (made c.args.sides.0.now) (made c.args.sides.1.now) c.args.place.now c.requires.place c.in-Ok.shown.own (left c.in-Ok.shown.parts)
    c.in-Ok.ensures.own c.in-Ok.ensures.parts c.check_shown.result c.requires.ticks
    (subst (λ (rs : List Ref). Accepts (tagged 4 (serve c.args.equations.now [] c.in-Ok.shown.own) ++ tagged 5 (parts_served c.args.equations.now rs (left c.in-Ok.shown.parts))) c.check_shown.result) c.as_slice.ensures c.check_shown.ensures)
