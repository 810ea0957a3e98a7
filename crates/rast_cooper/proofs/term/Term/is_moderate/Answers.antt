use Rattle.std.proofs.Common.{◌&&◌, ap, sym, ◌∙◌, rules}
use Rattle.std.proofs.lemmas.Int.{to_z-of_z}
use Rattle.std.specs.List.{list_all}
use mir.Val.{SFits}
use mir.Syntax.{w128}
use Rattle.rast_cooper.specs.Moderate.{moderate, is_moderate}
use Rattle.rast_cooper.proofs.term.Term.is_moderate.Goals as goal

pub returns-then-is_moderate : goal.returns-then-is_moderate
returns-then-is_moderate c =
    let f : SFits w128 c.self.inside.constant = search rules in
    c.all_moderate.ensures
    ∙ ap (λ b. b && list_all moderate c.self.inside.coefficient) (sym c.if-is_moderate.true ∙ c.is_moderate.ensures ∙ ap moderate (to_z-of_z w128 _ f))
    ∙ ap is_moderate c.self.view_is
