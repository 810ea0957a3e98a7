-- How far a value is printed.
use Rattle.std.specs.Prelude.{◌≡◌, ℕ, zero, suc, ◌+◌, ◌≤◌, ◌<◌, List, [], ◌∷◌, ◌++◌, length, codes}
use Rattle.std.specs.Prelude.{Option, Some, None}
use Rattle.rast_terms.specs.declared.program.Program.{Program}
use Rattle.rast_core.specs.Words.{Link, Msg, Client}
use Rattle.rast_core.specs.Shown.{Shown}
use Rattle.rast_items.specs.Items.{times, msg_uses}
use Rattle.rast_terms.specs.Texts.{Text}
use Rattle.rast_report.specs.declared.printing.Turn.{Turn}
use Rattle.rast_report.specs.declared.printing.Turn.TheVariants as turn
use Rattle.rast_report.specs.Values.{message_text}
use Rattle.rast_report.specs.Providers.{found}
use Rattle.rast_report.specs.Waiting.{value_at, waiting_text}

-- what is written, then the value at a link, and then those that wait
abbrev pub all_text : Program → Shown → Text → Link → List Link → Text
all_text g v text at waiting = (text ++ value_at g v at) ++ waiting_text g v waiting

-- three times for each item that is left
abbrev pub triple : ℕ → ℕ
triple zero = 1
triple (suc k) = triple k + (triple k + triple k)

-- How much is left to look at from where the value at a link stands. Two values that stand later are
-- less than the one.
abbrev pub left : Shown → Link → ℕ
left v l = triple (length (found v.items l))

abbrev pub weight : Shown → List Link → ℕ
weight v [] = 0
weight v (l ∷ ls) = left v l + weight v ls

abbrev pub load : Shown → Link → List Link → ℕ
load v at waiting = left v at + weight v waiting

-- the value at link k stands later than the one at l
abbrev pub IsLater : Shown → Link → Link → Type 0
IsLater v l k = length (found v.items k) < length (found v.items l)

-- one turn: the same text in all, and less to look at; or the text is whole
abbrev pub Advances :
    Program → Shown → Text → Text → List Link → List Link → Link → Option Link → Type 0
Advances g v old new before after at None = new ≡ all_text g v old at before
Advances g v old new before after at (Some next) =
    (all_text g v new next after ≡ all_text g v old at before) × (load v next after < load v at before)

-- a link that a message to a client uses
abbrev pub IsUsedBy : Msg → Link → Type 0
IsUsedBy m l = 1 ≤ times l (msg_uses Client m)

-- what a message's turn writes, and how the value goes on behind it
abbrev pub GoesOn : Program → Msg → Text → Turn → (Link → Text) → Type 0
GoesOn g m wrote turn.Ends at = message_text g m.body m.potential at m.next ≡ wrote
GoesOn g m wrote (turn.Next l) at = message_text g m.body m.potential at m.next ≡ wrote ++ at l
GoesOn g m wrote (turn.Sent k l) at =
    message_text g m.body m.potential at m.next ≡ wrote ++ (at k ++ (codes ") . " ++ at l))

-- it goes on at links that the message uses
abbrev pub GoesTo : Msg → Turn → Type 0
GoesTo m turn.Ends = Unit {0}
GoesTo m (turn.Next l) = IsUsedBy m l
GoesTo m (turn.Sent k l) = IsUsedBy m k × IsUsedBy m l

abbrev pub Goes : Program → Msg → Text → Text → Turn → Type 0
Goes g m old new t =
    (wrote : Text) × (new ≡ old ++ wrote) × ((at : Link → Text) → GoesOn g m wrote t at) × GoesTo m t

-- the value at a link is what was written, and then the values with which it goes on, further on
abbrev pub After : Program → Shown → Text → Link → Turn → Type 0
After g v wrote l turn.Ends = value_at g v l ≡ wrote
After g v wrote l (turn.Next k) = (value_at g v l ≡ wrote ++ value_at g v k) × IsLater v l k
After g v wrote l (turn.Sent k n) =
    (value_at g v l ≡ wrote ++ (value_at g v k ++ (codes ") . " ++ value_at g v n)))
    × IsLater v l k × IsLater v l n

-- what is written of the value at a link, and how it goes on
abbrev pub TurnsAt : Program → Shown → Text → Text → Link → Turn → Type 0
TurnsAt g v old new link t = (wrote : Text) × (new ≡ old ++ wrote) × After g v wrote link t

-- the value that goes on is the last one that waits
abbrev pub GoesBack : Text → Text → List Link → List Link → Option Link → Type 0
GoesBack old new before after None = (before ≡ []) × (new ≡ old)
GoesBack old new before after (Some l) = (before ≡ after ++ l ∷ []) × (new ≡ old ++ codes ") . ")
