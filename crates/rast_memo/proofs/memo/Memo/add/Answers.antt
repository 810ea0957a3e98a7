use Rattle.std.proofs.Common.{◌≡◌, ◌++◌, ◌∷◌, [], List, true, length, arith, sym, ◌∙◌, ap, subst}
use Rattle.std.specs.List.{list_all}
use Rattle.rast_memo.specs.Numbers.{AreAsked, AreKnown, verdicts_on}
use Rattle.rast_memo.specs.Obligations.{is_fit}
use Rattle.rast_memo.specs.declared.obligation.Obligation.{Obligation}
use Rattle.rast_memo.proofs.Numbering.{asked_put, fit_more, known_put, numbered_put, right_more}
use Rattle.rast_memo.proofs.memo.Memo.add.Goals as goal

pub invariant_of-self-2 : goal.invariant_of-self-2
invariant_of-self-2 c =
    let m = c.args.self.now in
    let os = m.obligations.items in
    let o = c.args.obligation in
    let after = c.insert.new.self in
    let e : c.push_reserved.new.self.items ≡ os ++ o ∷ [] = c.push_reserved.ensures.items ∙ ap (λ (xs : List Obligation). xs ++ o ∷ []) c.in_ok-reserve.ensures.items in
    let n : c.len-number.result ≡ length os = omega (arith, m.obligations.ok.0, c.len-number.ensures) in
    record {
      right = subst (λ (xs : List Obligation). m.verdicts ≡ verdicts_on (length m.verdicts) xs) (sym e) (right_more m.verdicts os o m.right);
      fit = subst (λ (xs : List Obligation). list_all is_fit xs ≡ true) (sym e) (fit_more os o m.fit c.requires.fit);
      known = subst (λ (xs : List Obligation). AreKnown xs after) (sym e) (known_put o os m.numbers after c.args.code c.len-number.result c.requires.code c.requires.new n c.in_ok-_before.ensures.updates m.known);
      asked = subst (λ (xs : List Obligation). AreAsked xs after) (sym e) (asked_put o os m.numbers after c.args.code c.len-number.result c.requires.code c.requires.new n c.in_ok-_before.ensures.updates m.asked);
    }

pub returns-clause-numbered : goal.returns-clause-numbered
returns-clause-numbered c =
    let m = c.args.self.now in
    let os = m.obligations.items in
    let o = c.args.obligation in
    let e : c.push_reserved.new.self.items ≡ os ++ o ∷ [] = c.push_reserved.ensures.items ∙ ap (λ (xs : List Obligation). xs ++ o ∷ []) c.in_ok-reserve.ensures.items in
    let n : c.len-number.result ≡ length os = omega (arith, m.obligations.ok.0, c.len-number.ensures) in
    numbered_put o os c.push_reserved.new.self.items m.numbers c.args.code c.len-number.result c.requires.code c.requires.new n e m.known
