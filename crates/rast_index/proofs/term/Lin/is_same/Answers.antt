use Rattle.std.proofs.Common.{◌≡◌, rules, sym, ◌∙◌, ap}
use Rattle.std.proofs.lemmas.Int.{to_z-of_z}
use mir.Val.{SFits, to_z}
use mir.Syntax.{w64}
use Rattle.rast_index.proofs.Same.{same_term}
use Rattle.rast_index.proofs.term.Lin.is_same.Goals as goal

pub returns-then-self-other : goal.returns-then-self-other
returns-then-self-other c =
    let f : SFits w64 c.self.inside.constant = search rules in
    let g : SFits w64 c.other.inside.constant = search rules in
    let e : c.self.inside.constant ≡ c.other.inside.constant = sym (to_z-of_z w64 _ f) ∙ ap (to_z w64) c.if-self-other.true ∙ to_z-of_z w64 _ g in
    rw (← c.self.view_is, ← c.other.view_is) (same_term _ _ _ e c.eq.ensures)
