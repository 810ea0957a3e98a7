-- What follows from an answer.
use Rattle.std.specs.Prelude.{IfOk}
use Rattle.std.proofs.Common.{Result, Ok, Err}

pub for_ok : {T E : Type 0} {P Q : T → Type 0} (r : Result T E) → ((t : T) → P t → Q t) → IfOk r P → IfOk r Q
for_ok {T} {E} {P} {Q} (Ok t) f h = f t h
for_ok {T} {E} {P} {Q} (Err e) f h = h
