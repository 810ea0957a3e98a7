use Rattle.std.proofs.Common.{ℤ, List, sym, ◌∙◌, ap}
use Rattle.std.specs.BTreeMap.{get_by}
use Rattle.std.specs.Cmp.Lexicographic.{slice_cmp}
use Rattle.std.specs.Ordering.{int_cmp}
use Rattle.rast_memo.specs.Obligations.{asked}
use Rattle.rast_memo.proofs.Numbering.{found_numbered}
use Rattle.rast_memo.proofs.memo.Memo.insert.Goals as goal

pub returns-in-Some-clause-numbered : goal.returns-in-Some-clause-numbered
returns-in-Some-clause-numbered c =
    let m = c.args.self.now in
    found_numbered (asked c.args.vars c.args.premises.now c.args.goal.now) m.obligations.items m.numbers c.in_ok-code.code c.in-Some.number.now m.known m.asked c.in_ok-code.ensures
    (sym (c.in-Some.ensures.value ∙ ap (λ (xs : List ℤ). get_by (λ k. slice_cmp int_cmp xs k.items) m.numbers) c.as_slice.ensures.value))
