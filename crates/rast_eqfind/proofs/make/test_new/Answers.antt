use Rattle.std.proofs.Common.{◌∙◌}
use Rattle.rast_eqfind.specs.Search.{instance_test, new_test}
use Rattle.rast_eqfind.proofs.Choosing.{if_is}
use Rattle.rast_eqfind.proofs.Making.{new_fit, new_tested}
use Rattle.rast_eqfind.proofs.make.test_new.Goals as goal

pub test_instance-test-requires-clause-equation : goal.test_instance-test-requires-clause-equation
test_instance-test-requires-clause-equation c = new_fit c.args.equation.now c.args.place.now c.args.left.now c.args.right.now c.requires.equation c.requires.fit

pub returns : goal.returns
returns c =
    let e = c.args.equation.now in
    let args = c.as_slice.result.now in
    let p = c.args.place.now in
    let a = c.args.left.now in
    let b = c.args.right.now in
    if_is (instance_test e args p a b) (new_test p a b) c.test_instance-test.result (new_tested e args p a b c.requires.equation (c.as_slice.ensures ∙ c.in_ok-args.ensures)) c.test_instance-test.ensures
