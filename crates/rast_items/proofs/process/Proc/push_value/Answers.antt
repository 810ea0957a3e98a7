use Rattle.std.proofs.Common.{◌≡◌, ◌≤◌, ◌+◌, ◌<◌, length, arith, ap}
use Rattle.std.proofs.lemmas.List.{length-set, length-take}
use Rattle.rast_items.specs.Process.{Process}
use Rattle.rast_items.proofs.EntryLemmas.{filled_more}
use Rattle.rast_items.proofs.process.Proc.push_value.Goals as goal

pub invariant_of-self : goal.invariant_of-self
invariant_of-self c =
    let i = c.self.invariant in
    let n = c.self.inside.vars in
    let l : n < 16 = omega (arith, length-take n c.self.inside.values, i.0, i.1, ap (λ (q : Process). length q.values) c.self.view_is, c.requires) in
    (omega (arith, l), omega (arith, length-set c.self.inside.values n c.args.value, i.1), filled_more 0 c.args.value 16 n c.self.inside.values l i.1 i.2, i.3, i.4, i.5, i.6, i.7)
