use Rattle.std.proofs.Common.{◌∙◌, [], ◌∷◌, sym}
use Rattle.rast_equal.specs.declared.met.Met.TheVariants.{Names}
use Rattle.rast_equal.proofs.Faults.{refuses_ref, refuses_refl, serves_from, serves_ref, serves_refl}
use Rattle.rast_equal.proofs.Serving.{got_at, none_is, some_is}
use Rattle.rast_equal.proofs.references.serve_name.Goals as goal

pub returns-in_err-ask_name : goal.returns-in_err-ask_name
returns-in_err-ask_name c =
    serves_from c.args.equations.now c.args.refs.now c.args.used (Names c.args.place.now c.args.left.now c.args.right.now ∷ []) c.in_err-ask_name.field-0.0 c.from_residual.result c.from_residual.ensures.1
    (refuses_refl c.args.equations.now c.args.refs.now c.args.used c.args.place.now c.args.left.now c.args.right.now c.in_err-ask_name.field-0.0 (none_is c.args.refs.now (sym c.is_empty.ensures ∙ c.if-is_empty.true)) c.in_err-ask_name.ensures)

pub returns-then-is_empty : goal.returns-then-is_empty
returns-then-is_empty c =
    serves_refl c.args.equations.now c.args.refs.now c.args.used c.args.place.now c.args.left.now c.args.right.now (none_is c.args.refs.now (sym c.is_empty.ensures ∙ c.if-is_empty.true)) c.in_ok-ask_name.ensures

pub returns-in_err-ask_ref : goal.returns-in_err-ask_ref
returns-in_err-ask_ref c =
    serves_from c.args.equations.now c.args.refs.now c.args.used (Names c.args.place.now c.args.left.now c.args.right.now ∷ []) c.in_err-ask_ref.field-0.0 c.from_residual-in_err-ask_ref.result c.from_residual-in_err-ask_ref.ensures.1
    (refuses_ref c.args.equations.now c.args.refs.now c.args.used c.args.place.now c.args.left.now c.args.right.now c.in-Some.reference.now c.in_err-ask_ref.field-0.0
    (some_is c.args.refs.now (sym c.is_empty.ensures ∙ c.if-is_empty.false)) (got_at c.args.refs.now c.args.used c.in-Some.reference.now c.in-Some.ensures.lookup.3.0 c.in-Some.ensures.lookup.1) c.in_err-ask_ref.ensures)

pub returns : goal.returns
returns c =
    serves_ref c.args.equations.now c.args.refs.now c.args.used c.args.place.now c.args.left.now c.args.right.now c.in-Some.reference.now
    (some_is c.args.refs.now (sym c.is_empty.ensures ∙ c.if-is_empty.false)) (got_at c.args.refs.now c.args.used c.in-Some.reference.now c.in-Some.ensures.lookup.3.0 c.in-Some.ensures.lookup.1) c.in_ok-ask_ref.ensures
