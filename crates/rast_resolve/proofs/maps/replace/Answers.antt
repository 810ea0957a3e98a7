use Rattle.std.proofs.Common.{sym, subst, Some}
use Rattle.std.specs.Option.{IsSome}
use Rattle.rast_resolve.specs.Maps.{found, Puts}
use Rattle.rast_resolve.proofs.Places.{puts_named}
use Rattle.rast_resolve.proofs.maps.replace.Goals as goal

pub returns-in-Some-get_mut : goal.returns-in-Some-get_mut
returns-in-Some-get_mut c =
    let there : IsSome (found c.args.places.now c.as_bytes.result.now) = subst (λ z. IsSome (found c.args.places.now z)) (sym c.as_bytes.ensures.bytes) c.requires in
    let h : Puts c.args.places.now (c.get_mut.follows.lender c.in-Some.place) c.args.name.now (Some c.in-Some.place) = puts_named c.args.places.now (c.get_mut.follows.lender c.in-Some.place) c.as_bytes.result.now _ _ c.as_bytes.ensures.bytes ((c.get_mut.follows.holds c.in-Some.place).3 there) in
    subst (λ o. Puts c.args.places.now (c.get_mut.follows.lender c.in-Some.place) c.args.name.now o) (sym c.in-Some.is) h

pub returns-in-None : goal.returns-in-None
returns-in-None c =
    subst (λ o. Puts c.args.places.now c.remove.new.self c.args.name.now o) (sym c.in-None.is) (puts_named c.args.places.now c.remove.new.self c.as_bytes-in-None.result.now _ _ c.as_bytes-in-None.ensures.bytes c.remove.ensures.updates)
