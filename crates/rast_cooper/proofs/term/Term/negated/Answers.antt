use Rattle.std.proofs.Common.{◌≡◌, false, true, ap, ◌∙◌, sym}
use Rattle.rast_cooper.specs.Arithmetic.{is_bounded}
use Rattle.rast_cooper.proofs.Terms.{negated_bounded, is_true}
use Rattle.rast_cooper.proofs.term.Term.negated.Goals as goal

pub unreachable-requires : goal.unreachable-requires
unreachable-requires c =
    let h = ap is_bounded (sym c.self.view_is) ∙ is_true _ c.self.invariant in
    let g = negated_bounded c.args.self.now h in
    let e = c.in-None.ensures in
    let f : false ≡ true = sym e ∙ g in
    cc
