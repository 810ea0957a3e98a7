use Rattle.std.proofs.Common.{◌≡◌, ℕ, true, false, Some, subst, sym, ap, ◌∙◌}
use Rattle.std.specs.Prelude.{is_some}
use Rattle.std.specs.BTreeMap.{Updates}
use Rattle.rast_report.specs.Amounts.{key_cmp}
use Rattle.rast_report.specs.Providers.{handle_on}
use Rattle.rast_report.proofs.Finding.{kept_before, kept_now}
use Rattle.rast_report.proofs.providers.Providers.keep.Goals as goal

pub returns-then-is_some : goal.returns-then-is_some
returns-then-is_some c =
    let there : is_some (handle_on c.args.self.now c.args.link) ≡ true = ap is_some (sym c.on.ensures) ∙ (sym c.is_some.ensures ∙ c.if-is_some.true) in
    kept_before c.args.self.now c.args.link c.args.handle there

pub returns : goal.returns
returns c =
    let gone : is_some (handle_on c.args.self.now c.args.link) ≡ false = ap is_some (sym c.on.ensures) ∙ (sym c.is_some.ensures ∙ c.if-is_some.false) in
    kept_now c.args.self.now (record { handles = c.insert.new.self }) c.args.link c.args.handle gone
    (subst (λ (k : ℕ × ℕ). Updates key_cmp c.args.self.now.handles c.insert.new.self k (Some c.args.handle)) c.key.ensures c.in_ok-_before.ensures.updates)
