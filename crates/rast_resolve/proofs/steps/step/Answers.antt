use Rattle.rast_resolve.proofs.steps.step.Goals as goal

pub returns-in-Send : goal.returns-in-Send
returns-in-Send c = rw c.in-Send.is c.send_step.ensures
