use Rattle.std.proofs.Common.{◌≡◌, true, pos, arith, ap, sym, subst}
use Rattle.rast_formula.specs.Scopes.{is_scoped}
use Rattle.rast_formula.proofs.Scoping.{scoped_fixed}
use Rattle.rast_formula.proofs.Layers.{linear_gives}
use Rattle.rast_formula.proofs.Sizes.{term_size, lin_size, first_smaller, rest_smaller, item_size, times_size, group_size}
use Rattle.rast_formula.proofs.terms.+linear.Goals as goal

pub linear_of-returns-clause-gives : goal.linear_of-returns-clause-gives
linear_of-returns-clause-gives g t c = linear_gives (g.S.Scope.find c.args.scope.now) c.args.lin.now c.get.result.now c.as_slice.result.now c.term-first.result c.sum.result c.get.ensures c.as_slice.ensures c.term-first.ensures.gives c.sum.ensures.gives

pub linear_of-sum-requires : goal.linear_of-sum-requires
linear_of-sum-requires g t c κs within = let d = c.decreases in let h = rest_smaller c.args.lin.now c.as_slice.result.now c.as_slice.ensures in (omega (arith, d, h), within)

pub linear_of-term-first-requires : goal.linear_of-term-first-requires
linear_of-term-first-requires g t c κs within = let d = c.decreases in let h = first_smaller c.args.lin.now c.get.result.now c.get.ensures in (omega (arith, d, h), within)

pub sum-term-requires : goal.sum-term-requires
sum-term-requires g t c κs within = let d = c.decreases in let h = item_size c.args.rest.now c.loop-sign.sign-index c.loop-sign-item.result c.loop-sign-item.is c.loop-sign-test.true in (omega (arith, d, h), within)

pub term-term-requires : goal.term-term-requires
term-term-requires g t c κs within =
    let d = c.decreases in
    let h = ap term_size c.in-Times.is in
    let k = times_size c.in-Times.k c.in-Times.t in
    let e = ap term_size c.get.ensures in (omega (arith, d, h, k, e), within)

pub term-linear_of-requires : goal.term-linear_of-requires
term-linear_of-requires g t c κs within =
    let d = c.decreases in
    let h = ap term_size c.in-Group.is in
    let k = group_size c.in-Group.lin in
    let e = ap lin_size c.get-in-Group.ensures in (omega (arith, d, h, k, e), within)

pub term-returns-in-Number-clause-closed : goal.term-returns-in-Number-clause-closed
term-returns-in-Number-clause-closed g t c = λ n b. subst (λ l. is_scoped n l ≡ true) (sym c.number.ensures) (scoped_fixed n (pos c.in-Number.k))
