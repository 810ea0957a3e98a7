use Rattle.std.proofs.Common.{ℕ, Some, subst}
use Rattle.std.specs.BTreeMap.{Updates}
use Rattle.rast_report.specs.Amounts.{key_cmp}
use Rattle.rast_report.proofs.TraceLemmas.{kept_more}
use Rattle.rast_report.proofs.amounts.Amounts.keep.Goals as goal

pub returns : goal.returns
returns c =
    kept_more c.args.self.now (record { kept = c.insert.new.self }) c.args.link c.args.amount
    (subst (λ (k : ℕ × ℕ). Updates key_cmp c.args.self.now.kept c.insert.new.self k (Some c.args.amount)) c.key.ensures c.in_ok-_before.ensures.updates)
