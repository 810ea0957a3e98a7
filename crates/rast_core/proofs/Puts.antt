-- Where a message stands that a process sends.
use Rattle.std.proofs.Common.{◌≡◌, [], ◌∷◌, Option, None, refl, ap, ◌∙◌}
use Rattle.rast_core.specs.Words.{Side, Client, Provider, Msg, M, Proc}
use Rattle.rast_items.specs.Step.{put_beside, rest_items}

alone_beside : (s : Side) (m : Msg) → put_beside s m [] ≡ M m ∷ []
alone_beside Client m = refl
alone_beside Provider m = refl

-- where no process is left
pub close_beside : (m : Msg) (rest : Option Proc) → rest ≡ None → put_beside m.toward m (rest_items rest) ≡ M m ∷ []
close_beside m rest e = ap (λ (o : Option Proc). put_beside m.toward m (rest_items o)) e ∙ alone_beside m.toward m
