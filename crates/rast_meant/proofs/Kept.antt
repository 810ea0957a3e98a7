-- Types that the crate of names keeps to itself, by what its definitions take and give.
use Rattle.std.proofs.Common.{Option, []}
use Rattle.rast_resolve.specs.Scopes.{Text}
use Rattle.rast_resolve.specs.Names.{known_of}
use Rattle.rast_resolve.specs.Bodies.{with_channel, callee_of, is_counted}
use Rattle.rast_resolve.specs.Answers.{Answer}
use Rattle.rast_resolve.specs.Programs.{none_seen, no_entries, added}

-- what a function takes, and what it gives
abbrev Taken : {X Y : Type 0} → (X → Y) → Type 0
Taken {X} {Y} f = X

abbrev Given : {X Y : Type 0} → (X → Y) → Type 0
Given {X} {Y} f = Y

abbrev Inside : {X Y : Type 0} → (Option X → Y) → Type 0
Inside {X} {Y} f = X

abbrev Answered : {X Y : Type 0} → (X → Answer Y) → Type 0
Answered {X} {Y} f = Y

-- what is known of a whole file
abbrev pub Known : Type 0
Known = Given known_of

-- what a declaration says of its process
abbrev pub Counts : Type 0
Counts = Inside is_counted

-- the variables and channels in scope
abbrev pub Place : Type 0
Place = Taken (with_channel [])

-- what a spawn and a call hand over
abbrev pub Callee : Type 0
Callee = Answered (callee_of (known_of []) [] (record { vars = []; channels = [] }) [] [] [])

-- the names of the items before
abbrev pub Seen : Type 0
Seen = Given (λ (n : Text). none_seen)

-- what items add, and what an item adds
abbrev pub Tables : Type 0
Tables = Given no_entries

abbrev pub Part : Type 0
Part = Taken added
