use Rattle.std.proofs.Common.{◌≡◌, ◌++◌, take}
use Rattle.std.specs.List.{flat_map}
use Rattle.rast_print.specs.LinearText.{signed_text}
use Rattle.rast_print.proofs.linear.+lin.Given as goal

abbrev pub invariant-put_terms-loop-sign : goal.invariant-put_terms-loop-sign
invariant-put_terms-loop-sign l = l.out.items ≡ l.initial.out.items ++ flat_map signed_text (take l.sign-index l.terms)
