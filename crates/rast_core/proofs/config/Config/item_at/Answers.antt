use Rattle.std.proofs.Common.{◌≡◌, ap, subst, List, get_or}
use Rattle.rast_core.specs.Words.{Item}
use Rattle.rast_core.specs.Shown.{Shown}
use Rattle.rast_core.proofs.Cuts.{read_at}
use Rattle.rast_core.proofs.config.Config.item_at.Goals as goal

pub returns : goal.returns
returns c = read_at c.args.self.now.items c.args.place c.index.result.now c.requires (subst (λ (xs : List Item). c.index.result.now ≡ get_or xs c.args.place c.index.result.now) (ap (λ (s : Shown). s.items) c.self.view_is) c.index.ensures)
