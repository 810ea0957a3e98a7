use Rattle.std.proofs.Common.{[], refl}
use Rattle.rast_equal.specs.Walk.{alike}
use Rattle.rast_equal.proofs.Served.{alike_step}
use Rattle.rast_equal.proofs.Serving.{alike_failed, alike_first, brought, one_fits}
use Rattle.rast_equal.proofs.references.alike.Goals as goal

pub loop-pairs-init : goal.loop-pairs-init
loop-pairs-init c =
    let p = c.args.place in
    let a = c.args.left in
    let b = c.args.right in
    record {
      reduced = alike_first p a b c.in_ok-pairs.pairs [] c.in_ok-pairs.ensures refl;
      fit = one_fits p p a b a b c.in_ok-pairs.pairs [] c.in_ok-pairs.ensures refl refl refl refl c.requires;
    }

pub returns-in_err-alike_each : goal.returns-in_err-alike_each
returns-in_err-alike_each c =
    alike_failed (alike c.args.place c.args.left c.args.right) c.loop-pairs.pairs c.next.new.pairs c.as_slice.result.now c.in_err-alike_each.field-0.0 c.from_residual-in_err-alike_each.result
    c.loop-pairs.invariant.reduced (brought c.loop-pairs.pairs c.next.new.pairs c.in_ok-mets.field-0 c.in-Some.mets c.as_slice.result.now c.in_ok-mets.ensures c.in-Some.is c.as_slice.ensures)
    c.in_err-alike_each.ensures c.from_residual-in_err-alike_each.ensures.1

pub loop-pairs-preserved : goal.loop-pairs-preserved
loop-pairs-preserved c =
    let b = brought c.loop-pairs.pairs c.next.new.pairs c.in_ok-mets.field-0 c.in-Some.mets c.as_slice.result.now c.in_ok-mets.ensures c.in-Some.is c.as_slice.ensures in
    record {
      reduced = alike_step (alike c.args.place c.args.left c.args.right) c.loop-pairs.pairs c.next.new.pairs c.as_slice.result.now c.loop-pairs.invariant.reduced b c.in_ok-alike_each.ensures;
      fit = b.parts_fit;
    }
