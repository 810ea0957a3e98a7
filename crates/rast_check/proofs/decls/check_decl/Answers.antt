use Rattle.std.proofs.Common.{◌++◌, refl}
use Rattle.rast_check.proofs.Declaring.{uses_asked, gives_asked, potential_asked, all_asked, decl_parts}
use Rattle.rast_check.proofs.Leads.{asked_last, asked_stop, leads_start, leads_step}
use Rattle.rast_check.proofs.decls.check_decl.Goals as goal

pub returns-in_err-check_uses : goal.returns-in_err-check_uses
returns-in_err-check_uses c =
    let g = c.args.program.now in
    let k = c.args.number in
    let d = c.args.decl.now in
    let us = c.as_slice.result.now in
    asked_stop g (all_asked g k d) (all_asked g k d) (uses_asked g k d.params us) (gives_asked g k d ++ potential_asked k d)
    c.in_err-check_uses.field-0.0 c.from_residual.result (leads_start g (all_asked g k d) (all_asked g k d) refl) (decl_parts g k d us c.as_slice.ensures) c.from_residual.ensures.1 c.in_err-check_uses.ensures

pub returns-in_err-check_type : goal.returns-in_err-check_type
returns-in_err-check_type c =
    let g = c.args.program.now in
    let k = c.args.number in
    let d = c.args.decl.now in
    let us = c.as_slice.result.now in
    let rest = gives_asked g k d ++ potential_asked k d in
    let first = leads_step g (all_asked g k d) (all_asked g k d) (uses_asked g k d.params us) rest (leads_start g (all_asked g k d) (all_asked g k d) refl) (decl_parts g k d us c.as_slice.ensures) c.in_ok-check_uses.ensures in
    asked_stop g (all_asked g k d) rest (gives_asked g k d) (potential_asked k d)
    c.in_err-check_type.field-0.0 c.from_residual-in_err-check_type.result first refl c.from_residual-in_err-check_type.ensures.1 c.in_err-check_type.ensures

pub returns : goal.returns
returns c =
    let g = c.args.program.now in
    let k = c.args.number in
    let d = c.args.decl.now in
    let us = c.as_slice.result.now in
    let rest = gives_asked g k d ++ potential_asked k d in
    let first = leads_step g (all_asked g k d) (all_asked g k d) (uses_asked g k d.params us) rest (leads_start g (all_asked g k d) (all_asked g k d) refl) (decl_parts g k d us c.as_slice.ensures) c.in_ok-check_uses.ensures in
    let second = leads_step g (all_asked g k d) rest (gives_asked g k d) (potential_asked k d) first refl c.in_ok-check_type.ensures in
    asked_last g (all_asked g k d) (potential_asked k d) c.check_potential.result second c.check_potential.ensures
