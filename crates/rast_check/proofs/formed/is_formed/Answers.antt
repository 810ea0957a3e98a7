use Rattle.rast_check.proofs.Forests.{forest_is}
use Rattle.rast_check.proofs.Forming.{counted_is, forward_is}
use Rattle.rast_check.proofs.Testing.{for_ok}
use Rattle.std.proofs.Common.{◌∙◌, sym}
use Rattle.rast_check.proofs.formed.is_formed.Goals as goal

pub returns-clause-more : goal.returns-clause-more
returns-clause-more c =
    let g = c.args.program.now in
    for_ok c.well_made.result
    (λ t h b. let w = h b in record {
      counted = counted_is g (sym c.is_counted.ensures ∙ c.if-not-is_counted.false);
      scoped = c.is_scoped.ensures.more c.if-not-is_scoped.false;
      made = w;
      forward = forward_is g w;
      forest = forest_is g w;
    })
    c.well_made.ensures.made
