use Rattle.std.proofs.Common.{sym, ◌∙◌, ap}
use Rattle.rast_lex.specs.Numbers.{is_number}
use Rattle.rast_lex.proofs.FrontLaws.{all_digits, number, bad_number}
use Rattle.rast_lex.proofs.front.number.Goals as goal

pub is_number-requires : goal.is_number-requires
is_number-requires c = rw c.front.ensures (all_digits c.args.text.now c.digit_run-len.result c.digit_run-len.ensures.run)

pub returns-then-is_number : goal.returns-then-is_number
returns-then-is_number c = number c.args.text.now c.digit_run-len.result c.digit_run-len.ensures.run (ap is_number (sym c.front.ensures) ∙ sym c.is_number.ensures ∙ c.if-is_number.true)

pub returns-else-is_number : goal.returns-else-is_number
returns-else-is_number c = bad_number c.args.text.now c.digit_run-len.result c.digit_run-len.ensures.run c.requires (ap is_number (sym c.front.ensures) ∙ sym c.is_number.ensures ∙ c.if-is_number.false)
