use Rattle.std.proofs.Common.{◌+◌, ◌++◌, ◌∙◌, length, sym}
use Rattle.rast_eqfind.specs.Search.{listed}
use Rattle.rast_eqfind.proofs.Choosing.{both_first, both_then, if_is}
use Rattle.rast_eqfind.proofs.choice.listed_in_both.Goals as goal

pub returns-then-not-is_making : goal.returns-then-not-is_making
returns-then-not-is_making c =
    both_first c.args.known.now c.args.made.now c.args.place.now c.args.left.now c.args.right.now c.in_ok-choice.choice c.in_ok-choice.ensures (sym c.is_making.ensures ∙ c.if-not-is_making.true)

pub returns : goal.returns
returns c =
    let xs = c.args.known.now in
    let ys = c.args.made.now in
    let p = c.args.place.now in
    let a = c.args.left.now in
    let b = c.args.right.now in
    if_is (listed (length xs + 1) ys p a b) (listed 1 (xs ++ ys) p a b) c.listed-2.result
    (both_then xs ys p a b c.in_ok-choice.choice c.in_ok-choice.ensures (sym c.is_making.ensures ∙ c.if-not-is_making.false)) c.listed-2.ensures
