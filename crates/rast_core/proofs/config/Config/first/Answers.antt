use Rattle.std.proofs.Common.{◌≡◌, ℕ, Option, IfSome, length, sym, ap, ◌∙◌, subst}
use Rattle.rast_core.specs.Shown.{Shown}
use Rattle.rast_core.specs.Places.{within}
use Rattle.rast_core.specs.Handles.{Lies}
use Rattle.rast_core.specs.declared.handle.Handle.{Handle}
use Rattle.rast_core.proofs.HandleLemmas.{lies_within}
use Rattle.rast_core.proofs.config.Config.first.Goals as goal

pub returns-clause-lies : goal.returns-clause-lies
returns-clause-lies c =
    let v = c.args.self.now in
    let n : c.len.result ≡ length v.items = c.len.ensures ∙ (c.self.inside.items.ok.0 ∙ ap (λ (s : Shown). length s.items) c.self.view_is) in
    subst (λ (o : Option Handle). IfSome o (λ h. Lies v h)) (sym (c.within.ensures ∙ ap (λ (k : ℕ). within 0 k) n)) (lies_within v 0)
