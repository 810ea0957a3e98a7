use Rattle.std.proofs.Common.{◌∙◌, ap}
use Rattle.std.specs.Prelude.{slice_get}
use Rattle.rast_memo.proofs.memo.Memo.verdict_of.Goals as goal

pub returns : goal.returns
returns c = c.get.ensures.value ∙ ap (λ vs. slice_get vs c.args.number) c.args.self.now.right
