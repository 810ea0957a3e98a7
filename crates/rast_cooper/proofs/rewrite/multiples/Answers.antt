use Rattle.std.proofs.Common.{◌∙◌, ap₂, ◌++◌, ◌∷◌, [], map, List}
use Rattle.rast_cooper.specs.declared.literal.Literal.{Literal}
use Rattle.rast_cooper.specs.declared.literal.Sort.TheVariants.{Multiple}
use Rattle.rast_cooper.specs.Meaning.{literal}
use Rattle.rast_cooper.specs.Eliminate.{scaled}
use Rattle.rast_cooper.specs.Search.{all_in_bounds}
use Rattle.rast_cooper.proofs.Fits.{some_fits}
use Rattle.rast_cooper.proofs.PreparedFits.{multiples_fit}
use Rattle.rast_cooper.proofs.rewrite.multiples.Goals as goal

pub returns-in_ok-push-in-Some : goal.returns-in_ok-push-in-Some
returns-in_ok-push-in-Some c =
    let s = some_fits all_in_bounds (map (scaled c.args.x c.args.l) c.args.ls.now) c.in-Some.literals c.in_ok-literals.field-0 c.in_ok-literals.ensures c.in-Some.is in
    (c.in_ok-push-in-Some.ensures.ok ∙ ap₂ (λ (ls : List Literal) t. ls ++ literal Multiple c.args.l t ∷ []) s.0 c.variable.ensures, multiples_fit c.args.x c.args.l c.args.ls.now c.requires.least s.1)
