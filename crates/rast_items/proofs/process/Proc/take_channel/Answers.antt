use Rattle.std.proofs.Common.{◌≡◌, ℕ, None, List, ◌∷◌, ◌++◌, ◌+◌, ◌-◌, ◌≤◌, ap, sym, ◌∙◌, subst, arith}
use Rattle.rast_index.specs.Keys.{find_key, drop_key, IsPlace}
use Rattle.rast_items.specs.declared.link.Link.{Link}
use Rattle.rast_items.specs.Process.{Process, no_link}
use Rattle.rast_items.proofs.EntryLemmas.{place_found, drop_missing}
use Rattle.rast_items.proofs.ChannelLemmas.{Array, take_array, place_below, view_with}
use Rattle.rast_items.proofs.process.Proc.take_channel.Goals as goal

-- what is left of the array
array_of : (c : goal.After-self-1) → Array (c.self.inside.count - 1) c.close_gap.new.entries (drop_key c.args.channel c.args.self.now.uses) c.args.self.now.own
array_of c =
    let s = c.args.self.now in
    let v = c.self.view_is in
    let i = c.self.invariant in
    let n = c.self.inside.count in
    let links = c.self.inside.links in
    let a : Array n links s.uses s.own = record { uses_are = ap (λ (q : Process). q.uses) v; own_is = ap (λ (q : Process). q.own) v; first = i.6; filled = i.7; whole = i.5 } in
    let p : IsPlace c.args.channel s.uses c.in_ok-place.place = subst (λ (us : List (ℕ × Link)). IsPlace c.args.channel us c.in_ok-place.place) c.uses-uses.ensures c.in_ok-place.ensures in
    let b = take_array n c.in_ok-place.place c.args.channel links s.uses s.own i.4 (place_below n c.in_ok-place.place c.args.channel links s.uses s.own i.3 i.4 a p) p a in
    subst (λ (es : List (ℕ × Link)). Array (n - 1) es (drop_key c.args.channel s.uses) s.own) (sym c.close_gap.ensures) b

two_or_more : (c : goal.After-self-1) → 2 ≤ c.self.inside.count
two_or_more c =
    let s = c.args.self.now in
    let v = c.self.view_is in
    let i = c.self.invariant in
    let a : Array c.self.inside.count c.self.inside.links s.uses s.own = record { uses_are = ap (λ (q : Process). q.uses) v; own_is = ap (λ (q : Process). q.own) v; first = i.6; filled = i.7; whole = i.5 } in
    let p : IsPlace c.args.channel s.uses c.in_ok-place.place = subst (λ (us : List (ℕ × Link)). IsPlace c.args.channel us c.in_ok-place.place) c.uses-uses.ensures c.in_ok-place.ensures in
    omega (arith, place_below c.self.inside.count c.in_ok-place.place c.args.channel c.self.inside.links s.uses s.own i.3 i.4 a p)

pub returns-in_err-place-clause-rest : goal.returns-in_err-place-clause-rest
returns-in_err-place-clause-rest c =
    let m : find_key c.args.channel c.args.self.now.uses ≡ None = subst (λ (us : List (ℕ × Link)). find_key c.args.channel us ≡ None) c.uses-uses.ensures c.in_err-place.ensures in
    ap (λ (us : List (ℕ × Link)). record c.args.self.now { uses = us }) (sym (drop_missing c.args.channel c.args.self.now.uses m))

pub invariant_of-self : goal.invariant_of-self
invariant_of-self c =
    let i = c.self.invariant in
    let a = array_of c in
    let t = two_or_more c in
    (i.0, i.1, i.2, omega (arith, t), omega (arith, i.4), a.whole, a.first, a.filled)

pub returns-clause-link : goal.returns-clause-link
returns-clause-link c =
    sym (place_found c.args.channel c.uses-uses.result.now c.in_ok-place.place no_link c.in_ok-place.ensures) ∙ ap (λ (us : List (ℕ × Link)). find_key c.args.channel us) c.uses-uses.ensures

pub returns-clause-rest : goal.returns-clause-rest
returns-clause-rest c =
    let a = array_of c in
    view_with _ c.args.self.now _ _ (drop_key c.args.channel c.args.self.now.uses) c.self.view_is a.own_is a.uses_are
