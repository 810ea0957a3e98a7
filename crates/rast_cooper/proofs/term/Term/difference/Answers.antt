use Rattle.std.proofs.Common.{◌≡◌, false, true, ap, ap₂, ◌∙◌, sym, negsuc, subst, unsigned_abs, ◌≤◌, ◌^◌}
use Rattle.rast_cooper.specs.Arithmetic.{Linear, is_bounded, added, times, minus, shifted}
use Rattle.rast_cooper.proofs.Terms.{difference_bounded, shifted_none}
use Rattle.rast_cooper.proofs.term.Term.difference.Goals as goal

same : (a b x y : Linear) → x ≡ a → y ≡ b → added x (times (negsuc 0) (shifted 0 y)) ≡ minus a b
same a b x y e f = ap₂ (λ u v. added u (times (negsuc 0) v)) e (shifted_none y ∙ f)

pub unreachable-requires : goal.unreachable-requires
unreachable-requires c =
    let g = difference_bounded c.args.a.now c.args.b.now c.widened.ensures.small c.widened-2.ensures.small in
    let s = same c.args.a.now c.args.b.now c.widened.result c.widened-2.result c.widened.ensures.same c.widened-2.ensures.same in
    let f : false ≡ true = sym c.in-None.ensures ∙ ap is_bounded s ∙ g.0 in
    cc

pub returns : goal.returns
returns c =
    let g = difference_bounded c.args.a.now c.args.b.now c.widened.ensures.small c.widened-2.ensures.small in
    let s = same c.args.a.now c.args.b.now c.widened.result c.widened-2.result c.widened.ensures.same c.widened-2.ensures.same in
    let e = c.in-Some.ensures.0 ∙ s in
    record { value = e; bounded = ap is_bounded e ∙ g.0; room = subst (λ (l : Linear). unsigned_abs l.constant ≤ 2 ^ 33) (sym e) g.1 }
