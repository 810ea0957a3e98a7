use Rattle.std.proofs.Common.{◌≡◌, ◌<◌, ◌+◌, ℕ, Option, IfSome, length, sym, ap, ◌∙◌, subst, arith}
use Rattle.rast_core.specs.Shown.{Shown}
use Rattle.rast_core.specs.Places.{within}
use Rattle.rast_core.specs.Handles.{Lies, rest_of}
use Rattle.rast_core.specs.declared.handle.Handle.{Handle}
use Rattle.rast_core.proofs.HandleLemmas.{place_of, rest_after, lies_within}
use Rattle.rast_core.proofs.config.Config.after.Goals as goal

pub overflow_add-handle : goal.overflow_add-handle
overflow_add-handle c =
    let v = c.args.self.now in
    let n : c.len-length.result ≡ length v.items = c.len-length.ensures ∙ (c.self.inside.items.ok.0 ∙ ap (λ (s : Shown). length s.items) c.self.view_is) in
    let h : c.args.handle.place < length v.items = place_of v c.args.handle c.requires in
    omega (arith, n, h, c.len-length.type_inv)

pub returns-clause-rest : goal.returns-clause-rest
returns-clause-rest c =
    let v = c.args.self.now in
    let n : c.len-length.result ≡ length v.items = c.len-length.ensures ∙ (c.self.inside.items.ok.0 ∙ ap (λ (s : Shown). length s.items) c.self.view_is) in
    ap (rest_of v) (c.within.ensures ∙ ap (λ (k : ℕ). within (c.args.handle.place + 1) k) n) ∙ rest_after v c.args.handle

pub returns-clause-lies : goal.returns-clause-lies
returns-clause-lies c =
    let v = c.args.self.now in
    let n : c.len-length.result ≡ length v.items = c.len-length.ensures ∙ (c.self.inside.items.ok.0 ∙ ap (λ (s : Shown). length s.items) c.self.view_is) in
    subst (λ (o : Option Handle). IfSome o (λ h. Lies v h)) (sym (c.within.ensures ∙ ap (λ (k : ℕ). within (c.args.handle.place + 1) k) n)) (lies_within v (c.args.handle.place + 1))
