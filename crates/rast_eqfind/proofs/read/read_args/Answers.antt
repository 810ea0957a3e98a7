use Rattle.std.proofs.Common.{◌≤◌, arith, length}
use Rattle.std.specs.Prelude.{min}
use Rattle.rast_eqfind.proofs.Reading.{zip_all}
use Rattle.rast_eqfind.proofs.read.read_args.Goals as goal

pub returns : goal.returns
returns c =
    let xs = c.args.xs.now in
    let ys = c.args.ys.now in
    let past : min (length xs) (length ys) ≤ c.loop-i.i = omega arith in
    zip_all c.args.terms.now c.loop-i.terms xs ys c.loop-i.i past c.loop-i.invariant
