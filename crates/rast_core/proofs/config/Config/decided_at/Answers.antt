use Rattle.std.proofs.Common.{◌≡◌, ◌≤◌, ap, sym, ◌∙◌, subst, List, Some}
use Rattle.std.specs.Prelude.{slice_get, length}
use Rattle.rast_core.specs.Words.{Item, P}
use Rattle.rast_items.specs.Items.{total}
use Rattle.rast_items.specs.Run.{numbered_as}
use Rattle.rast_items.specs.Step.{is_proc}
use Rattle.rast_core.specs.Shown.{Shown, next_of}
use Rattle.rast_core.specs.Edits.{IsCutAt, Decides}
use Rattle.rast_core.specs.Promises.{IsGoing}
use Rattle.rast_core.proofs.ConfigLemmas.{unique_cut, self_passes, step_here, decided_here}
use Rattle.rast_core.proofs.SoundLemmas.{going_unstuck}
use Rattle.rast_core.proofs.config.Config.decided_at.Goals as goal

pub decide-requires-clause-here : goal.decide-requires-clause-here
decide-requires-clause-here c =
    let p = c.args.proc.now in
    let e = c.deref.ensures.value ∙ ap (λ (s : Shown). s.items) c.self.view_is in
    unique_cut p.pid c.deref.result.now c.args.place (P p)
    (subst (λ (xs : List Item). total (numbered_as p.pid) xs ≤ 1) (sym c.deref.ensures.value) (c.self.invariant.2.once p.pid))
    (subst (λ (xs : List Item). slice_get xs c.args.place ≡ Some (P p)) (sym e) c.requires.at) (self_passes p)

pub decide-requires-clause-going : goal.decide-requires-clause-going
decide-requires-clause-going c = λ s.
    let p = c.args.proc.now in
    let i = c.self.inside in
    let v : Shown = record { items = i.items.items; origins = i.origins.items; plan = i.plan; spare = i.spare } in
    let e = c.deref.ensures.value ∙ ap (λ (w : Shown). w.items) c.self.view_is in
    let h : slice_get c.deref.result.now c.args.place ≡ Some (P p) = subst (λ (xs : List Item). slice_get xs c.args.place ≡ Some (P p)) (sym e) c.requires.at in
    let k : IsCutAt (is_proc p.pid) c.deref.result.now c.args.place = unique_cut p.pid c.deref.result.now c.args.place (P p)
    (subst (λ (xs : List Item). total (numbered_as p.pid) xs ≤ 1) (sym c.deref.ensures.value) (c.self.invariant.2.once p.pid)) h (self_passes p) in
    going_unstuck c.args.program.now v p.pid (subst (IsGoing c.args.program.now) (sym c.self.view_is) c.requires.going)
    (step_here c.args.program.now v c.deref.result.now c.args.place c.process_count.result p c.deref.ensures.value (c.process_count.ensures ∙ sym (ap (λ (w : Shown). length w.origins) c.self.view_is)) k h ∙ s)

pub returns : goal.returns
returns c =
    let p = c.args.proc.now in
    let i = c.self.inside in
    let v : Shown = record { items = i.items.items; origins = i.origins.items; plan = i.plan; spare = i.spare } in
    let e = c.deref.ensures.value ∙ ap (λ (s : Shown). s.items) c.self.view_is in
    let h : slice_get c.deref.result.now c.args.place ≡ Some (P p) = subst (λ (xs : List Item). slice_get xs c.args.place ≡ Some (P p)) (sym e) c.requires.at in
    let k : IsCutAt (is_proc p.pid) c.deref.result.now c.args.place = unique_cut p.pid c.deref.result.now c.args.place (P p)
    (subst (λ (xs : List Item). total (numbered_as p.pid) xs ≤ 1) (sym c.deref.ensures.value) (c.self.invariant.2.once p.pid)) h (self_passes p) in
    subst (λ (s : Shown). Decides (next_of c.args.program.now s p.pid) s.items c.args.place c.decide.result) c.self.view_is
    (decided_here c.args.program.now v c.deref.result.now c.args.place c.process_count.result p c.decide.result c.deref.ensures.value (c.process_count.ensures ∙ sym (ap (λ (s : Shown). length s.origins) c.self.view_is)) k h c.decide.ensures)
