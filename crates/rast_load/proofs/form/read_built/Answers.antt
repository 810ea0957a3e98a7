use Rattle.std.proofs.Common.{◌≡◌, ◌∙◌, Some, ap, sym}
use Rattle.rast_load.specs.Unbuilt.{unbuilt}
use Rattle.rast_load.proofs.Refusals.{unbuilt_text}
use Rattle.rast_load.proofs.form.read_built.Goals as goal

pub returns-in-Some-clause-unread : goal.returns-in-Some-clause-unread
returns-in-Some-clause-unread c =
    let place : unbuilt c.in-Ok.read.tokens.items ≡ Some c.in-Some.at = ap unbuilt (sym c.deref.ensures.value) ∙ (sym c.unbuilt.ensures ∙ c.in-Some.is) in
    let wrong = unbuilt_text c.args.text.now c.in-Ok.read.tokens.items c.in-Some.at c.in-Ok.ensures.tokens place in
    (c.in-Ok.read.file, c.in-Ok.ensures.file, wrong.0, wrong.1)
