-- Programs that are loaded and have a main may be run.
use Rattle.std.proofs.Common.{◌≡◌, ℕ, List, refl}
use Rattle.std.specs.Prelude.{IsSome, None, Some}
use Rattle.std.specs.declared.option.Option.{Option}
use Rattle.rast_terms.specs.declared.program.Program.{Program}
use Rattle.rast_accept.specs.Loading.{Loads}
use Rattle.rast_run_tests.specs.Runnable.{IsRunnable}

pub is_some_main : (main : Option ℕ) → (main ≡ None → ⊥) → IsSome main
is_some_main None h = absurd (h refl)
is_some_main (Some k) h = refl

pub loads_runnable : (text : List ℕ) (g : Program) → Loads text g → IsSome g.main
    → IsRunnable g
loads_runnable text g loads main = λ plan planned.
    record { made = loads.made; accepted = loads.accepted; plan = planned; main = main }
