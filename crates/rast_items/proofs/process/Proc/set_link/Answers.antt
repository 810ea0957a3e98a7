use Rattle.std.proofs.Common.{◌≡◌, ℕ, None, List, ap, sym, ◌∙◌, subst}
use Rattle.rast_index.specs.Keys.{find_key, set_key, IsPlace}
use Rattle.rast_items.specs.declared.link.Link.{Link}
use Rattle.rast_items.specs.Process.{Process}
use Rattle.rast_items.proofs.EntryLemmas.{set_missing}
use Rattle.rast_items.proofs.ChannelLemmas.{Array, with_link_used, put_array, place_below, view_with}
use Rattle.rast_items.proofs.process.Proc.set_link.Goals as goal

pub returns-in-Some : goal.returns-in-Some
returns-in-Some c =
    let s = c.args.self.now in
    let v = c.self.view_is in
    let i = c.self.invariant in
    let a : Array c.self.inside.count c.self.inside.links s.uses s.own = record { uses_are = ap (λ (q : Process). q.uses) v; own_is = ap (λ (q : Process). q.own) v; first = i.6; filled = i.7; whole = i.5 } in
    let p : IsPlace c.args.channel s.uses c.in-Some.place = subst (λ (us : List (ℕ × Link)). IsPlace c.args.channel us c.in-Some.place) c.uses.ensures c.in-Some.ensures in
    let b = put_array c.self.inside.count c.in-Some.place c.args.channel c.args.link c.self.inside.links s.uses s.own i.4 (place_below c.self.inside.count c.in-Some.place c.args.channel c.self.inside.links s.uses s.own i.3 i.4 a p) p a in
    view_with _ s _ _ (set_key c.args.channel c.args.link s.uses) v b.own_is b.uses_are ∙ sym (with_link_used s c.args.channel c.args.link c.if-channel-eq0.false)

pub returns-in_default : goal.returns-in_default
returns-in_default c =
    let s = c.args.self.now in
    let m : find_key c.args.channel s.uses ≡ None = subst (λ (us : List (ℕ × Link)). find_key c.args.channel us ≡ None) c.uses.ensures c.in_default.ensures in
    ap (λ (us : List (ℕ × Link)). record s { uses = us }) (sym (set_missing c.args.channel c.args.link s.uses m)) ∙ sym (with_link_used s c.args.channel c.args.link c.if-channel-eq0.false)
