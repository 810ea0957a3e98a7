use Rattle.std.proofs.Common.{None}
use Rattle.rast_io.proofs.Stored.{placed_pushed, left_pushed, newest_append}
use Rattle.rast_io.proofs.mem_files.MemFiles.put.Goals as goal
use Rattle.rast_io.proofs.mem_files.MemFiles.put.Goals.{in-Ok, in-Err}

pub invariant_of-self : goal.invariant_of-self
invariant_of-self c = record { placed = placed_pushed _ _ _ _ _ c.push.ensures.items c.args.self.now.placed }

pub returns-clause-held : goal.returns-clause-held
returns-clause-held c =
    elim c.match-push.branch [ in-Ok w ↦ rw w.result-is (λ n. rw w.in-Ok.ensures.items (newest_append c.args.self.now.files.items None (record { name = c.args.name; bytes = c.args.bytes }) n)) | in-Err w ↦ rw w.result-is tt ]

pub returns-clause-left : goal.returns-clause-left
returns-clause-left c = left_pushed _ _ _ _ _ c.push.ensures.items c.args.self.now.placed
