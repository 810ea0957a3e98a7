use Rattle.std.proofs.Common.{◌∙◌, ap, not, subst, sym, true≢false}
use Rattle.rast_terms.specs.declared.program.Program.{Program}
use Rattle.rast_rules.specs.Plan.{IsForest}
use Rattle.rast_rules.specs.Rules.{IsAccepted}
use Rattle.rast_check.proofs.Forests.{forest_is}
use Rattle.rast_cli.specs.Reported.{IsRunnable}
use Rattle.rast_cli.proofs.Ending.{loads_runnable, is_some_main}
use Rattle.rast_cli.proofs.run.say_run.Goals as goal

pub report-requires-clause-runnable : goal.report-requires-clause-runnable
report-requires-clause-runnable g c =
    let found = rw c.in-Program.is at c.in_ok-checked.ensures in
    let loaded = found.0 in
    subst (λ (p : Program). IsRunnable p) (sym c.program-2.ensures) (loads_runnable loaded.0 c.in-Program.checked.program loaded.2 (is_some_main c.in-Program.checked.program.main (λ none.
    let some = rw (c.program.ensures, none) at c.is_none.ensures in
    true≢false (sym (some ∙ ap not c.if-is_none.false)))))

pub report-requires-clause-accepted : goal.report-requires-clause-accepted
report-requires-clause-accepted g c =
    let found = rw c.in-Program.is at c.in_ok-checked.ensures in
    let loaded = found.0 in
    subst (λ (p : Program). IsAccepted p) (sym c.program-2.ensures) loaded.2.accepted

pub report-requires-clause-forest : goal.report-requires-clause-forest
report-requires-clause-forest g c =
    let found = rw c.in-Program.is at c.in_ok-checked.ensures in
    let loaded = found.0 in
    subst (λ (p : Program). IsForest p) (sym c.program-2.ensures) (forest_is c.in-Program.checked.program loaded.2.made)
