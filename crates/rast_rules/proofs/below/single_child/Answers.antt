use Rattle.std.proofs.Common.{◌++◌, ◌∷◌, [], ◌∙◌, ap, ap₂, sym}
use Rattle.rast_rules.proofs.below.single_child.Goals as goal

pub returns : goal.returns
returns c = λ j e d p.
    c.in_ok-push.ensures.ok ∙ ap₂ (λ cs child. cs ++ child ∷ []) c.new-out.ensures (c.in_ok-child.ensures j e d (p ∙ ap (λ ps. ps ++ c.args.more.now) (sym c.as_slice.ensures)))
