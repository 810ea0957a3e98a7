use Rattle.std.proofs.Common.{◌≡◌, ◌+◌, ◌-◌, ◌≤◌, ℕ, List, ap, sym, ◌∙◌, subst, arith}
use Rattle.std.specs.Prelude.{length, option_to_list}
use Rattle.std.proofs.lemmas.List.{length-append}
use Rattle.rast_core.specs.Words.{Item}
use Rattle.rast_items.specs.Items.{held}
use Rattle.rast_items.specs.Run.{work_by}
use Rattle.rast_core.specs.Bounds.{IsBounded}
use Rattle.rast_core.specs.Shown.{Shown}
use Rattle.rast_core.specs.Edits.{IsStepEdit, edited}
use Rattle.rast_core.specs.Paths.{AreAfterParents}
use Rattle.rast_core.specs.declared.origin.Origin.{Origin}
use Rattle.rast_core.proofs.ConfigLemmas.{edit_bounded, edit_spent}
use Rattle.rast_core.proofs.PathLemmas.{parents_more}
use Rattle.rast_core.proofs.config.Config.perform.Goals as goal

pub invariant_of-self : goal.invariant_of-self
invariant_of-self c =
    let i = c.self.inside in
    let h = c.self.invariant in
    let v : Shown = record { items = i.items.items; origins = i.origins.items; plan = i.plan; spare = i.spare } in
    let k : IsStepEdit v c.args.place c.args.edit c.args.child = subst (λ (s : Shown). IsStepEdit s c.args.place c.args.edit c.args.child) (sym c.self.view_is) c.requires.step in
    let one : 1 ≤ i.spare = omega (arith, ap (λ (s : Shown). s.spare) c.self.view_is, c.requires.spare) in
    let b = edit_bounded v c.args.place c.args.edit c.args.child k one h.2 in
    let n : length c.note.new.origins.items ≡ length i.origins.items + length (option_to_list c.args.child) = ap (λ (os : List Origin). length os) c.note.ensures.items ∙ length-append i.origins.items (option_to_list c.args.child) in (
      omega (arith, h.0, one, c.apply.ensures.length, c.apply.ensures.capacity),
      omega (arith, h.1, one, c.note.ensures.length, c.note.ensures.capacity),
      subst (λ (m : ℕ). IsBounded c.apply.new.items.items m (i.spare - 1)) (sym n) (subst (λ (xs : List Item). IsBounded xs (length i.origins.items + length (option_to_list c.args.child)) (i.spare - 1)) (sym c.apply.ensures.items) b),
      subst AreAfterParents (sym c.note.ensures.items) (parents_more v c.args.place c.args.edit c.args.child k h.2 h.3),
    )

pub returns-clause-potential : goal.returns-clause-potential
returns-clause-potential c = λ k.
    let i = c.self.inside in
    let h = c.self.invariant in
    let b : IsBounded c.args.self.now.items (length c.args.self.now.origins) c.args.self.now.spare = subst (λ (s : Shown). IsBounded s.items (length s.origins) s.spare) c.self.view_is h.2 in
    subst (λ (xs : List Item). work_by k.event + held xs ≤ held c.args.self.now.items) (sym (c.apply.ensures.items ∙ ap (λ (s : Shown). edited c.args.edit s.items c.args.place) c.self.view_is)) (edit_spent c.args.self.now c.args.place c.args.edit c.args.child k b)
