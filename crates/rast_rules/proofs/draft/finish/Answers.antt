use Rattle.rast_rules.proofs.Finished.{not_by, uses_deep, gives_deep, too_many_channels}
use Rattle.rast_rules.proofs.draft.finish.Goals as goal

pub returns-then-are_deep : goal.returns-then-are_deep
returns-then-are_deep c = λ j e d p. uses_deep j c.args.draft e (c.are_deep.ensures.0 c.if-are_deep.true)

pub returns-then-is_deep : goal.returns-then-is_deep
returns-then-is_deep c = λ j e d p. gives_deep j c.args.draft e (c.is_deep.ensures.0 c.if-is_deep.true)

pub returns-then-draft-gt15 : goal.returns-then-draft-gt15
returns-then-draft-gt15 c = λ j e d p.
    too_many_channels j c.args.draft e (not_by c.are_deep.result _ c.are_deep.ensures c.if-are_deep.false) (not_by c.is_deep.result _ c.is_deep.ensures c.if-is_deep.false) c.if-draft-gt15.true
