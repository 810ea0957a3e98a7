-- A text of which a beginning was written, or all of it.
use Rattle.std.proofs.Common.{◌≡◌, ◌<◌, ℕ, List, take, length, Result, Ok, Err, OnOk, OnErr, IfErr, inl, inr}
use Rattle.std.specs.declared.option.Option.{Option}
use Rattle.std.specs.Io.KnownBytes.{Appends}
use Rattle.rast_io.specs.Causes.{Rose}
use Rattle.rast_io.specs.declared.whole.WriteFault.{WriteFault}
use Rattle.rast_cli.specs.Answered.{IsWritten}

pub written : (old new : Option (List ℕ)) (before now : ℕ) (text : List ℕ) (r : Result (Unit {0}) WriteFault) → OnOk r (Appends old new text) → OnOk r (now ≡ before)
    → OnErr r (Rose before now) → IfErr r (λ e. e.written < length text) → IfErr r (λ e. Appends old new (take e.written text)) → IsWritten old new before now text
written old new before now text (Ok u) whole kept rose fewer part = inl (kept, whole)
written old new before now text (Err e) whole kept rose fewer part = inr (rose, (e.written, fewer, part))
