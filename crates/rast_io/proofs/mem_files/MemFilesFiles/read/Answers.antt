use Rattle.rast_io.proofs.Stored.{took}
use Rattle.rast_io.proofs.mem_files.MemFilesFiles.read.Goals as goal

pub rest_of-rest-requires : goal.rest_of-rest-requires
rest_of-rest-requires c = rw c.deref.ensures.value (c.args.self.now.placed _ c.in-Some.is)

pub returns-clause-bytes : goal.returns-clause-bytes
returns-clause-bytes c = took _ _ _ _ _ _ c.in-Some.is (rw c.deref.ensures.value at c.rest_of-rest.ensures.rest) c.give-count.ensures.count c.give-count.ensures.given
