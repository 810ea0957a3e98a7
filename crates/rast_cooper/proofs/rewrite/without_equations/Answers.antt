use Rattle.std.proofs.Common.{arith, ap, ap₂, ◌∙◌, sym, ◌++◌, ◌&&◌}
use Rattle.rast_cooper.specs.Eliminate.{parts}
use Rattle.rast_cooper.specs.Search.{all_in_bounds}
use Rattle.rast_cooper.proofs.Lists.{without_more, all_append}
use Rattle.rast_cooper.proofs.rewrite.without_equations.Goals as goal

pub loop-lit-preserved : goal.loop-lit-preserved
loop-lit-preserved c =
    let p = c.in_ok-push_parts.ensures in
    record {
      made = p.made ∙ ap (λ t. t ++ parts c.args.x c.lit-item.result) c.loop-lit.invariant.made ∙ sym (without_more c.args.x c.args.ls.now c.loop-lit.lit-index c.lit-item.result (omega arith) c.lit-item.is);
      fits = ap all_in_bounds p.made ∙ all_append c.loop-lit.out (parts c.args.x c.lit-item.result) ∙ ap₂ (λ a b. a && b) c.loop-lit.invariant.fits p.bounded;
    }
