-- The answer of a check.
use Rattle.std.specs.Prelude.{◌≡◌, None, Result, Ok, Err}
use Rattle.rast_rules.specs.Rules.{Program, IsAccepted}
use Rattle.rast_check.specs.Decided.{searched}
use Rattle.rast_check.specs.Questions.{answer}
use Rattle.rast_check.specs.Refusals.{IsRefusal}
use Rattle.rast_check.specs.declared.answer.CheckErr.{CheckErr}

-- nothing is refused and the program is accepted, or this is refused first
abbrev pub IsAnswer : {X : Type 0} → Program → Result X CheckErr → Type 0
IsAnswer {X} g (Ok x) = (answer searched g ≡ None) × IsAccepted g
IsAnswer {X} g (Err e) = IsRefusal (answer searched g) e
