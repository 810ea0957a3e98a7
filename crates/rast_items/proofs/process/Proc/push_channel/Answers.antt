use Rattle.std.proofs.Common.{◌≡◌, ◌≤◌, ◌+◌, ◌<◌, length, arith, refl, ap}
use Rattle.std.proofs.lemmas.List.{length-set}
use Rattle.rast_items.specs.Again.{count_again}
use Rattle.rast_items.specs.Process.{Process, own_of, uses_of}
use Rattle.rast_items.proofs.ChannelLemmas.{Array, push_array}
use Rattle.rast_items.proofs.process.Proc.push_channel.Goals as goal

pub invariant_of-self : goal.invariant_of-self
invariant_of-self c =
    let i = c.self.invariant in
    let n = c.self.inside.count in
    let links = c.self.inside.links in
    let l : n < 16 = omega (arith, count_again n links i.3 i.4 i.5, ap (λ (q : Process). length q.uses) c.self.view_is, c.requires.room) in
    let a : Array n links (uses_of n links) (own_of links) = record { uses_are = refl; own_is = refl; first = i.6; filled = i.7; whole = i.5 } in
    let b = push_array n c.self.inside.fresh c.args.link links (uses_of n links) (own_of links) i.3 l a in
    (i.0, i.1, i.2, omega arith, omega (arith, l), omega (arith, length-set links n (c.self.inside.fresh, c.args.link), i.5), b.0, b.1)
