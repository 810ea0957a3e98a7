use Rattle.std.proofs.Common.{◌∙◌, ap}
use Rattle.rast_eqfind.specs.Search.{instance_test}
use Rattle.rast_eqfind.proofs.Choosing.{listed_small}
use Rattle.rast_eqfind.proofs.choice.by_listed.Goals as goal

pub returns-in-Ok-test_instance : goal.returns-in-Ok-test_instance
returns-in-Ok-test_instance c =
    let e = c.args.equation.now in
    let p = c.args.place.now in
    let a = c.args.left.now in
    let b = c.args.right.now in
    c.tried.ensures
    ∙ listed_small c.args.number e p a b c.in-Ok.args c.in-Ok-test_instance.test c.in-Ok.ensures (c.in-Ok-test_instance.ensures ∙ ap (λ xs. instance_test e xs p a b) c.as_slice.ensures)
