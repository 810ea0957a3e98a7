use Rattle.std.proofs.Common.{List, ◌++◌, ◌∙◌, ap, sym, take, drop, ◌+◌}
use Rattle.rast_core.specs.Words.{Item, M}
use Rattle.rast_core.proofs.Places.{set_at_place}
use Rattle.rast_core.proofs.Puts.{close_beside}
use Rattle.rast_core.proofs.decide.put.Goals as goal

pub returns-in_default : goal.returns-in_default
returns-in_default c = λ items i h. (set_at_place items i (M c.args.msg) h ∙ ap (λ (xs : List Item). take i items ++ (xs ++ drop (i + 1) items)) (sym (close_beside c.args.msg c.args.rest c.in_default.is)), tt)
