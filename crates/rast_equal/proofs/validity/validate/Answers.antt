use Rattle.std.proofs.Common.{◌≡◌, List, length, get_or, sym, ap, subst, arith}
use Rattle.rast_types.specs.declared.table.TypeDef.{TypeDef}
use Rattle.rast_equal.specs.Invalid.{IsTypeErr, table_refusal}
use Rattle.rast_equal.proofs.Tables.{remains_false, remains_next}
use Rattle.rast_equal.proofs.validity.validate.Goals as goal

pub returns-in-Err-clause-first : goal.returns-in-Err-clause-first
returns-in-Err-clause-first c =
    let t = c.args.table.now.defs in
    let i = c.loop-i.i in
    let d = c.index-defs-i.result in
    let sized = ap length c.as_slice-defs.ensures in
    subst (IsTypeErr (table_refusal t 0 t)) (sym c.type_err.ensures)
    (remains_false t i d c.in-Err.e (omega (arith, sized)) (subst (λ (ds : List TypeDef). d ≡ get_or ds i d) c.as_slice-defs.ensures c.index-defs-i.is) c.loop-i.invariant c.in-Err.ensures)

pub loop-i-preserved : goal.loop-i-preserved
loop-i-preserved c =
    let t = c.args.table.now.defs in
    let i = c.loop-i.i in
    let d = c.index-defs-i.result in
    let sized = ap length c.as_slice-defs.ensures in
    remains_next t i d (omega (arith, sized)) (subst (λ (ds : List TypeDef). d ≡ get_or ds i d) c.as_slice-defs.ensures c.index-defs-i.is) c.loop-i.invariant c.in-Ok.ensures
