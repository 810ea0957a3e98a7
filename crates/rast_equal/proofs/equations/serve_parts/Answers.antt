use Rattle.rast_equal.proofs.Premises.{parts_some}
use Rattle.rast_equal.proofs.Serving.{not_empty}
use Rattle.rast_equal.proofs.equations.serve_parts.Goals as goal

pub returns : goal.returns
returns c =
    parts_some c.args.equations.now c.args.refs.now c.args.parts c.serve.result (not_empty c.args.parts c.is_empty.result c.is_empty.ensures.1 c.if-is_empty.false) c.serve.ensures
