-- The report of a run: its events where a trace is asked for, its outcome, its counts, and the value.
use Rattle.std.specs.Prelude.{ℕ, ◌+◌, Bool, List, [], ◌∷◌, ◌++◌, length, codes, if◌then◌else◌}
use Rattle.std.specs.Fmt.{decimal}
use Rattle.rast_terms.specs.declared.program.Program.{Program}
use Rattle.rast_core.specs.Words.{Link, Body, Event, Send, Take, Move, Spawn, Call, Work, Delay}
use Rattle.rast_items.specs.Items.{held}
use Rattle.rast_items.specs.Links.{same_link}
use Rattle.rast_items.specs.Run.{work, time, pid_of, moment_of}
use Rattle.rast_core.specs.Shown.{Shown}
use Rattle.rast_core.specs.declared.answer.Outcome.{Outcome}
use Rattle.rast_core.specs.declared.answer.Outcome.TheVariants.{Running, Finished, OutOfBudget, IndexLimit}
use Rattle.rast_terms.specs.Texts.{Text, decl_text}
use Rattle.rast_report.specs.Texts.{pid_text, link_text, body_text}
use Rattle.rast_report.specs.Values.{value_text}

-- the amount that a payment on this link held, after these events, the newest first
abbrev pub amount_on : Link → List Event → ℕ
amount_on l [] = 0
amount_on l (Send pid link body moment potential ∷ es) = if same_link link l then potential else amount_on l es
amount_on l (Move pid from to body moment ∷ es) = if same_link to l then amount_on from es else amount_on l es
amount_on l (e ∷ es) = amount_on l es

-- behind a space
abbrev pub spaced : Text → Text
spaced t = codes " " ++ t

abbrev pub at_moment : ℕ → Text
at_moment m = codes " @" ++ decimal m

-- what an event does to what it names
abbrev pub verb : Event → Text
verb (Send pid link body moment q) = codes " send "
verb (Take pid link body moment) = codes " take "
verb (Move pid from to body moment) = codes " move "
verb (Spawn pid child d moment) = codes " spawn "
verb (Call pid d moment) = codes " call "
verb (Work pid r moment) = codes " work "
verb (Delay pid t moment) = codes " delay "

-- a message: its link, and its body with the amount that a payment holds
abbrev pub message_line : Program → Link → Body → ℕ → Text
message_line g l b q = link_text l ++ spaced (body_text g b q)

-- what an event names: a message, a process, a declaration or a number; a message on a link holds an amount
abbrev pub object_text : Program → (Link → ℕ) → Event → Text
object_text g amount (Send pid link body moment q) = message_line g link body q
object_text g amount (Take pid link body moment) = message_line g link body (amount link)
object_text g amount (Move pid from to body moment) = link_text from ++ spaced (message_line g to body (amount from))
object_text g amount (Spawn pid child d moment) = pid_text child ++ spaced (decl_text g d)
object_text g amount (Call pid d moment) = decl_text g d
object_text g amount (Work pid r moment) = decimal r
object_text g amount (Delay pid t moment) = decimal t

-- an event: its process, what it does, and its moment
abbrev pub event_text : Program → (Link → ℕ) → Event → Text
event_text g amount e = pid_text (pid_of e) ++ (verb e ++ (object_text g amount e ++ at_moment (moment_of e)))

-- the line of the event with number n, after the earlier events, the newest first
abbrev pub trace_line : Program → ℕ → List Event → Event → Text
trace_line g n past e = decimal n ++ (spaced (event_text g (λ l. amount_on l past) e) ++ codes "\n")

-- the lines of a trace, from number n on
abbrev pub trace_from : Program → ℕ → List Event → List Event → Text
trace_from g n past [] = []
trace_from g n past (e ∷ es) = trace_line g n past e ++ trace_from g (n + 1) (e ∷ past) es

-- the whole trace where it is asked for
abbrev pub trace_text : Program → List Event → Bool → Text
trace_text g es asked = if asked then trace_from g 1 [] es else []

abbrev pub limit_text : ℕ → Text
limit_text v = codes " value " ++ decimal v

abbrev pub outcome_text : Outcome → Text
outcome_text Running = []
outcome_text Finished = codes "finished"
outcome_text OutOfBudget = codes "out of budget"
outcome_text (IndexLimit pid v) = codes "index limit at " ++ (pid_text pid ++ limit_text v)

-- a line of a word and a number
abbrev pub count_line : Text → ℕ → Text
count_line word n = word ++ (spaced (decimal n) ++ codes "\n")

abbrev pub counts_text : List Event → Shown → Text
counts_text es v =
    count_line (codes "steps") (length es) ++ (count_line (codes "work") (work es) ++ (count_line (codes "held") (held v.items) ++ count_line (codes "time") (time es)))

abbrev pub result_line : Program → Shown → Text
result_line g v = codes "result " ++ (value_text g v ++ codes "\n")

-- the value where it is asked for
abbrev pub shown_result : Program → Shown → Bool → Text
shown_result g v asked = if asked then result_line g v else []

-- the report of a run that came to this outcome
abbrev pub report : Program → Outcome → List Event → Shown → Bool → Bool → Text
report g o es v trace result =
    trace_text g es trace ++ (outcome_text o ++ (codes "\n" ++ (counts_text es v ++ shown_result g v result)))
