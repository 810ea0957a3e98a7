use Rattle.std.proofs.Common.{◌+◌, ◌∙◌, ap, refl, arith}
use Rattle.rast_rules.specs.Draft.{made_uses}
use Rattle.rast_rules.specs.Rules.{root}
use Rattle.rast_index.specs.Keys.{numbered}
use Rattle.rast_rules.proofs.Sound.{root_is}
use Rattle.rast_rules.proofs.root.root.Goals as goal

pub returns : goal.returns
returns c =
    let d = c.args.found.now in
    let uses = c.in_ok-uses.ensures ∙ ap (λ ts. made_uses d.params (numbered 1 ts)) c.as_slice.ensures in
    c.finish.ensures (root c.args.decl d) (root_is c.args.decl d c.in_ok-uses.uses c.in_ok-gives.gives c.same_term.result c.min.result (c.len-count.result + 1) uses c.in_ok-gives.ensures c.same_term.ensures (omega (arith, c.min.ensures, c.len-count.ensures)) (ap (λ n. n + 1) c.len-count.ensures)) refl refl
