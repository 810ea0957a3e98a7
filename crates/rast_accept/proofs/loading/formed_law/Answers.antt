use Rattle.rast_accept.proofs.Formed.{says_formed}
use Rattle.rast_accept.proofs.Made.{says_made}
use Rattle.rast_accept.proofs.loading.formed_law.Goals as goal

pub returns-clause-made : goal.returns-clause-made
returns-clause-made c = says_made c.meant_law.ensures

pub returns-clause-formed : goal.returns-clause-formed
returns-clause-formed c = λ text program short says. says_formed c.limits_law.ensures text program short says (says_made c.meant_law.ensures text program says)
