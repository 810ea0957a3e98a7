use Rattle.std.proofs.Common.{◌∙◌, ap, not, sym, true≢false}
use Rattle.rast_check.proofs.Forests.{forest_is}
use Rattle.rast_run_tests.proofs.Loaded.{loads_runnable, is_some_main}
use Rattle.rast_run_tests.proofs.replay.program_of.Goals as goal

pub returns-clause-runnable : goal.returns-clause-runnable
returns-clause-runnable c =
    loads_runnable _ c.in-Ok.checked.program c.in-Ok.ensures.loaded (is_some_main c.in-Ok.checked.program.main (λ none.
    let some = rw (c.program.ensures, none) at c.is_none.ensures in
    true≢false (sym (some ∙ ap not c.if-is_none.false))))

pub returns-clause-accepted : goal.returns-clause-accepted
returns-clause-accepted c = c.in-Ok.ensures.loaded.accepted

pub returns-clause-forest : goal.returns-clause-forest
returns-clause-forest c = forest_is _ c.in-Ok.ensures.loaded.made
