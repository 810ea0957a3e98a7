use Rattle.std.proofs.Common.{◌∙◌, ap, sym, [], ◌∷◌, None, arith, length}
use Rattle.std.specs.Prelude.{slice_get}
use Rattle.std.proofs.lemmas.List.{length-append}
use Rattle.rast_rules.proofs.Single.{none_push, none_begin}
use Rattle.rast_rules.proofs.judged.nothing.Goals as goal

pub loop-node-init : goal.loop-node-init
loop-node-init c = record { size = ap length c.new-out.ensures; none = none_begin c.new-out.result c.new-out.ensures }

pub loop-node-preserved : goal.loop-node-preserved
loop-node-preserved c =
    let push = c.in_ok-push.ensures.ok in
    record {
      size = omega (arith, ap length push, length-append c.loop-node.out (None ∷ []), c.loop-node.invariant.size);
      none = λ m j e. none_push c.loop-node.out c.loop-node.invariant.none m j (ap (λ js. slice_get js m) (sym push) ∙ e);
    }
