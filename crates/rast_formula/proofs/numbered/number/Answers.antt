use Rattle.rast_formula.specs.Scopes.{span}
use Rattle.rast_formula.proofs.Scoping.{finds_below}
use Rattle.rast_formula.proofs.Numbering.{within_length}
use Rattle.rast_formula.proofs.numbered.number.Goals as goal

pub returns-clause-within : goal.returns-clause-within
returns-clause-within c =
    let s = c.in_ok-variables.variables in
    within_length c.args.form.now s c.in_ok-formula.formula c.in_ok-variables.ensures (c.in_ok-formula.ensures.within (span s) (finds_below s) c.requires)
