use Rattle.std.proofs.Common.{◌≡◌, Some}
use Rattle.std.specs.Prelude.{slice_get}
use Rattle.rast_rules.proofs.Single.{goes_on}
use Rattle.rast_rules.proofs.judged.made_below.Goals as goal

pub children-requires-clause-sound : goal.children-requires-clause-sound
children-requires-clause-sound c = λ n e.
    let is : slice_get c.args.judged.now c.args.node ≡ Some (Some c.in-Some-Some.at) = (let v = c.in-Some-Some.ensures.value in let f = c.in-Some-Some.field-0-is in let a = c.in-Some-Some.at-is in let i = c.in-Some-Some.is in cc) in
    goes_on c.args.program.now c.requires.accepted c.args.node c.in-Some-Some.at n (c.requires.sound.sound c.args.node c.in-Some-Some.at is) e

pub returns-in_ok-children-in-Some-Some : goal.returns-in_ok-children-in-Some-Some
returns-in_ok-children-in-Some-Some c = λ nd e.
    let is : slice_get c.args.judged.now c.args.node ≡ Some (Some c.in-Some-Some.at) = (let v = c.in-Some-Some.ensures.value in let f = c.in-Some-Some.field-0-is in let a = c.in-Some-Some.at-is in let i = c.in-Some-Some.is in cc) in
    record { at = c.in-Some-Some.at; is = is; made = c.in_ok-children-in-Some-Some.ensures nd e }
