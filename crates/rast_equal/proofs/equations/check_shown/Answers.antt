use Rattle.std.proofs.Common.{List, [], ◌++◌, subst}
use Rattle.rast_equal.specs.Fault.{IsFault, first_fault}
use Rattle.rast_equal.specs.Walk.{left, parts_served, serve, tagged}
use Rattle.rast_equal.specs.declared.met.Met.{Met}
use Rattle.rast_equal.proofs.Premises.{accepts_passed, passes_one, premise_fails}
use Rattle.rast_equal.proofs.Served.{Good}
use Rattle.rast_equal.proofs.equations.check_shown.Goals as goal

pub returns-in-Ok : goal.returns-in-Ok
returns-in-Ok c =
    let own = serve c.args.equations.now [] c.args.shown.own in
    let parts = tagged 5 (parts_served c.args.equations.now c.args.refs.now (left c.args.shown.parts)) in
    accepts_passed (tagged 4 own ++ parts) parts c.check_parts.result
    (passes_one 4 own parts (subst (λ (ms : List Met). Good (serve c.args.equations.now [] ms)) c.as_slice.ensures c.in-Ok.ensures)) c.check_parts.ensures

pub returns-in-Err : goal.returns-in-Err
returns-in-Err c =
    premise_fails 4 (serve c.args.equations.now [] c.args.shown.own) (tagged 5 (parts_served c.args.equations.now c.args.refs.now (left c.args.shown.parts))) c.in-Err.why
    (subst (λ (ms : List Met). IsFault (first_fault (serve c.args.equations.now [] ms)) c.in-Err.why) c.as_slice.ensures c.in-Err.ensures)
