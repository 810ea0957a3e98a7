use Rattle.std.proofs.Common.{◌+◌, lit≤, arith}
use Rattle.std.proofs.lemmas.Int.Digits.{digits_value_more}
use Rattle.std.proofs.lemmas.Str.Parse.{digits_value-take-le}
use Rattle.rast_lex.proofs.number.value_of.Goals as goal

pub returns-then-value : goal.returns-then-value
returns-then-value c small = omega (arith, digits_value_more 10 c.args.digits.now c.loop-c.c-index c.loop-c-test.true, digits_value-take-le 10 c.args.digits.now (c.loop-c.c-index + 1) (lit≤ tt), c.digit_of.ensures.value, c.loop-c.invariant.so_far, c.if-value.true, small)

pub loop-c-preserved : goal.loop-c-preserved
loop-c-preserved c = record {
  so_far = omega (arith, digits_value_more 10 c.args.digits.now c.loop-c.c-index c.loop-c-test.true, c.digit_of.ensures.value, c.loop-c.invariant.so_far);
  below = omega arith;
}
