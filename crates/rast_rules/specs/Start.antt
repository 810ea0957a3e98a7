-- The judgement of a declaration's body.
use Rattle.std.specs.Prelude.{◌≡◌, Result, Ok, Err}
use Rattle.rast_types.specs.declared.stop.Stop.{Stop}
use Rattle.rast_rules.specs.declared.judgement.Judgement.{Judgement}
use Rattle.rast_rules.specs.declared.root.RuleErr.{RuleErr}
use Rattle.rast_rules.specs.declared.root.RuleErr.TheVariants.{Limit, Memory}

-- the judgement, or the limit that it passes; want of memory may always come
abbrev pub IsStart : Result Judgement Stop → Result Judgement RuleErr → Type 0
IsStart made (Ok j) = made ≡ Ok j
IsStart made (Err (Limit s)) = made ≡ Err s
IsStart made (Err Memory) = Unit {0}
