use Rattle.std.proofs.Common.{ap, subst, List}
use Rattle.rast_core.specs.Words.{Item}
use Rattle.rast_items.specs.Step.{is_proc}
use Rattle.rast_core.specs.Shown.{Shown}
use Rattle.rast_core.specs.Edits.{IsCutAt, StandsAt}
use Rattle.rast_core.proofs.ConfigLemmas.{stands_cut}
use Rattle.rast_core.proofs.config.Config.place_of.Goals as goal

pub returns-in-Some : goal.returns-in-Some
returns-in-Some c =
    let items = c.self.inside.items.items in
    let s : StandsAt (is_proc c.args.pid) items c.in-Some.place = subst (λ (xs : List Item). StandsAt (is_proc c.args.pid) xs c.in-Some.place) c.deref.ensures.value c.in-Some.ensures in
    subst (λ (xs : List Item). IsCutAt (is_proc c.args.pid) xs c.in-Some.place) (ap (λ (v : Shown). v.items) c.self.view_is) (stands_cut c.args.pid items c.in-Some.place (c.self.invariant.2.once c.args.pid) s)
