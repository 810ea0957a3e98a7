use Rattle.rast_made.proofs.Naming.{named_in_plus, named_in_with}
use Rattle.rast_made.proofs.names.+is_named.Goals as goal

pub is_named-returns-in-Plus : goal.is_named-returns-in-Plus
is_named-returns-in-Plus t c = named_in_plus c.args.defs.now c.args.a.now c.in-Plus.ts c.as_slice.result.now c.are_named.result c.in-Plus.is c.as_slice.ensures c.are_named.ensures

pub is_named-returns-in-With : goal.is_named-returns-in-With
is_named-returns-in-With t c = named_in_with c.args.defs.now c.args.a.now c.in-With.ts c.as_slice-in-With.result.now c.are_named-in-With.result c.in-With.is c.as_slice-in-With.ensures c.are_named-in-With.ensures
