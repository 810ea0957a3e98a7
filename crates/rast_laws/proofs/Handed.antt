-- A message that a forward hands on fits the link to which it goes.
use Rattle.std.proofs.Common.{◌≡◌, ℕ, Bool, true, false, List, ◌∷◌, ◌++◌, Option, Some, None, refl, sym, ap, ◌∙◌, subst, arith, append_assoc, if◌then◌else◌}
use Rattle.rast_types.specs.declared.ty.Kind.{Kind}
use Rattle.rast_types.specs.Closed.{View, head, kind_of, is_positive, Suits}
use Rattle.rast_terms.specs.declared.program.Program.{Program}
use Rattle.rast_rules.specs.Rules.{defs}
use Rattle.rast_items.specs.Items.{link_at, hit, IsConfig}
use Rattle.rast_items.specs.Deeds.{Code, Moves, deed}
use Rattle.rast_items.specs.Step.{moved}
use Rattle.rast_laws.specs.Typed.{IsToward, side_of}
use Rattle.rast_order.proofs.Words.{Link, Item, P, M, Proc, Msg, Client, Provider}
use Rattle.rast_order.proofs.Counts.{on, on-append, hit_self}
use Rattle.rast_order.proofs.Keys.{held_by}
use Rattle.rast_order.proofs.Deeds.{DeedSound, deed_sound}
use Rattle.rast_equal.proofs.Equals.{some_same, SameHeads, heads_sym}
use Rattle.rast_laws.proofs.Serving.{suits_client, suits_provider, serves_same}
use Rattle.rast_laws.proofs.Fine.{MsgFine, AllFine, fine_left, fine_right, fine_append}
use Rattle.rast_laws.proofs.Lawful.{Toward, Forwards, DeedLaw}
use Rattle.rast_laws.proofs.Freely.{free_provided, free_used, forward_mine, forward_yours, msg_toward}
use Rattle.rast_laws.proofs.Moved.{moved_fine}
use Rattle.rast_laws.proofs.Whole.{deed_at}

side_positive : (b : Bool) → (if b then Client else Provider) ≡ Client → b ≡ true
side_positive true e = refl
side_positive false e = cc

side_negative : (b : Bool) → (if b then Client else Provider) ≡ Provider → b ≡ false
side_negative true e = cc
side_negative false e = refl

-- a head toward the client is positive, one toward the provider negative
pub positive_client : (o : Option Kind) (k : Kind) → o ≡ Some k → IsToward o Client → is_positive k ≡ true
positive_client None k e t = absurd t
positive_client (Some j) k e t = let s : j ≡ k = cc in side_positive (is_positive k) (ap side_of (sym s) ∙ t)

pub negative_provider : (o : Option Kind) (k : Kind) → o ≡ Some k → IsToward o Provider → is_positive k ≡ false
negative_provider None k e t = absurd t
negative_provider (Some j) k e t = let s : j ≡ k = cc in side_negative (is_positive k) (ap side_of (sym s) ∙ t)

-- ---- toward the client

client_moved : (g : Program) (d : Link → Option View) (p : Proc) (m : Msg) (wait : Link) → m.toward ≡ Client → Forwards g d p m.link wait → MsgFine (defs g) d m → MsgFine (defs g) d (moved m p.own)
client_moved g d p m wait t f x =
    let v : x.due ≡ f.yours = some_same (d m.link) x.is f.yours_is in
    let s : SameHeads (defs g) (head (defs g) f.yours) (head (defs g) f.mine) = serves_same (defs g) f.yours f.mine f.yours_proper f.mine_proper f.serves in
    let to : IsToward (kind_of (head (defs g) f.yours).ty) Client = subst (IsToward (kind_of (head (defs g) f.yours).ty)) t (subst (λ y. IsToward (kind_of (head (defs g) y).ty) m.toward) v x.toward) in
    moved_fine (defs g) d m p.own f.mine x (subst (λ y. SameHeads (defs g) (head (defs g) y) (head (defs g) f.mine)) (sym v) s) f.mine_is f.mine_proper
    (suits_client (defs g) f.yours f.mine m.moment f.kind f.kind_is (positive_client (kind_of (head (defs g) f.yours).ty) f.kind f.kind_is to) f.serves (subst (λ y. Suits (defs g) y m.moment) v x.moment))

pub move_client_well : (c : Code) (law : DeedLaw c) (d : Link → Option View) (k : ℕ) (before between after : List Item) (p : Proc) (m : Msg) (wait : Link) → m.toward ≡ Client → AllFine c.program d (before ++ (P p ∷ (between ++ (M m ∷ after)))) → deed c k p ≡ Moves m.link wait → AllFine c.program d (before ++ (between ++ (M (moved m p.own) ∷ after)))
move_client_well c law d k before between after p m wait t h e =
    let g : Program = c.program in
    let f : Forwards g d p m.link wait = deed_at c law d k before (between ++ (M m ∷ after)) p (Moves m.link wait) h e in
    let r = fine_right g d before (P p ∷ (between ++ (M m ∷ after))) h in
    let y = fine_right g d between (M m ∷ after) r.1 in
    fine_append g d before (between ++ (M (moved m p.own) ∷ after)) (fine_left g d before (P p ∷ (between ++ (M m ∷ after))) h)
    (fine_append g d between (M (moved m p.own) ∷ after) (fine_left g d between (M m ∷ after) r.1) (client_moved g d p m wait t f y.0, y.1))

pub move_client_freely : (c : Code) (law : DeedLaw c) (d : Link → Option View) (k : ℕ) (before between after : List Item) (p : Proc) (m : Msg) (wait : Link) → m.toward ≡ Client → AllFine c.program d (before ++ (P p ∷ (between ++ (M m ∷ after)))) → IsConfig (link_at 0 0) (before ++ (P p ∷ (between ++ (M m ∷ after)))) → deed c k p ≡ Moves m.link wait → on p.own (before ++ (P p ∷ (between ++ after))) ≡ 0
move_client_freely c law d k before between after p m wait t h cf e =
    let g : Program = c.program in
    let f : Forwards g d p m.link wait = deed_at c law d k before (between ++ (M m ∷ after)) p (Moves m.link wait) h e in
    let r = fine_right g d before (P p ∷ (between ++ (M m ∷ after))) h in
    let y : MsgFine (defs g) d m = (fine_right g d between (M m ∷ after) r.1).0 in
    let to : Toward g d p.own Client = forward_mine g d p m.link wait Client f (subst (Toward g d m.link) t (msg_toward g d m y)) in
    let none : on p.own (before ++ (P p ∷ (between ++ (M m ∷ after)))) ≡ 0 = free_provided g d (link_at 0 0) before (between ++ (M m ∷ after)) p p.own h cf refl to in
    omega (arith, none, on-append before (P p ∷ (between ++ (M m ∷ after))) p.own, on-append between (M m ∷ after) p.own, on-append before (P p ∷ (between ++ after)) p.own, on-append between after p.own)

-- ---- toward the provider

provider_moved : (g : Program) (d : Link → Option View) (p : Proc) (m : Msg) (other wait : Link) → m.toward ≡ Provider → m.link ≡ p.own → Forwards g d p other wait → MsgFine (defs g) d m → MsgFine (defs g) d (moved m other)
provider_moved g d p m other wait t l f x =
    let v : x.due ≡ f.mine = some_same (d p.own) (ap d (sym l) ∙ x.is) f.mine_is in
    let s : SameHeads (defs g) (head (defs g) f.yours) (head (defs g) f.mine) = serves_same (defs g) f.yours f.mine f.yours_proper f.mine_proper f.serves in
    let to : IsToward (kind_of (head (defs g) f.mine).ty) Provider = subst (IsToward (kind_of (head (defs g) f.mine).ty)) t (subst (λ y. IsToward (kind_of (head (defs g) y).ty) m.toward) v x.toward) in
    moved_fine (defs g) d m other f.yours x (subst (λ y. SameHeads (defs g) (head (defs g) y) (head (defs g) f.yours)) (sym v) (heads_sym (defs g) (head (defs g) f.yours) (head (defs g) f.mine) s)) f.yours_is f.yours_proper
    (suits_provider (defs g) f.yours f.mine m.moment f.kind f.kind_is (negative_provider (kind_of (head (defs g) f.mine).ty) f.kind (sym s.kind ∙ f.kind_is) to) f.serves (subst (λ y. Suits (defs g) y m.moment) v x.moment))

provider_deed : (c : Code) (law : DeedLaw c) (d : Link → Option View) (k : ℕ) (before between after : List Item) (p : Proc) (m : Msg) (other wait : Link) → AllFine c.program d (before ++ (M m ∷ (between ++ (P p ∷ after)))) → deed c k p ≡ Moves other wait → Forwards c.program d p other wait
provider_deed c law d k before between after p m other wait h e =
    deed_at c law d k (before ++ (M m ∷ between)) after p (Moves other wait) (subst (AllFine c.program d) (sym (append_assoc before (M m ∷ between) (P p ∷ after))) h) e

pub move_provider_well : (c : Code) (law : DeedLaw c) (d : Link → Option View) (k : ℕ) (before between after : List Item) (p : Proc) (m : Msg) (other wait : Link) → m.toward ≡ Provider → m.link ≡ p.own → AllFine c.program d (before ++ (M m ∷ (between ++ (P p ∷ after)))) → deed c k p ≡ Moves other wait → AllFine c.program d (before ++ (M (moved m other) ∷ (between ++ after)))
move_provider_well c law d k before between after p m other wait t l h e =
    let g : Program = c.program in
    let f : Forwards g d p other wait = provider_deed c law d k before between after p m other wait h e in
    let r = fine_right g d before (M m ∷ (between ++ (P p ∷ after))) h in
    let y = fine_right g d between (P p ∷ after) r.1 in
    fine_append g d before (M (moved m other) ∷ (between ++ after)) (fine_left g d before (M m ∷ (between ++ (P p ∷ after))) h)
    (provider_moved g d p m other wait t l f r.0, fine_append g d between after (fine_left g d between (P p ∷ after) r.1) y.1)

pub move_provider_freely : (c : Code) (law : DeedLaw c) (d : Link → Option View) (k : ℕ) (before between after : List Item) (p q : Proc) (m : Msg) (other wait : Link) → m.toward ≡ Provider → m.link ≡ p.own → AllFine c.program d (before ++ (M m ∷ (between ++ (P p ∷ after)))) → IsConfig (link_at 0 0) (before ++ (M m ∷ (between ++ (P p ∷ after)))) → deed c k p ≡ Moves other wait → on other (before ++ (P q ∷ (between ++ after))) ≡ 0
move_provider_freely c law d k before between after p q m other wait t l h cf e =
    let g : Program = c.program in
    let f : Forwards g d p other wait = provider_deed c law d k before between after p m other wait h e in
    let r = fine_right g d before (M m ∷ (between ++ (P p ∷ after))) h in
    let to : Toward g d other Provider = forward_yours g d p other wait Provider f (subst (λ y. Toward g d y Provider) l (subst (Toward g d m.link) t (msg_toward g d m r.0))) in
    let is : (before ++ (M m ∷ between)) ++ (P p ∷ after) ≡ before ++ (M m ∷ (between ++ (P p ∷ after))) = append_assoc before (M m ∷ between) (P p ∷ after) in
    let u : (x : Link) → held_by x p.uses ≡ hit x other = subst (DeedSound k p) e (deed_sound c k p) in
    let none : on other ((before ++ (M m ∷ between)) ++ (P p ∷ after)) ≡ 0 = free_used g d (link_at 0 0) (before ++ (M m ∷ between)) after p other (subst (AllFine g d) (sym is) h) (subst (IsConfig (link_at 0 0)) (sym is) cf) (omega (arith, u other, hit_self other)) to in
    omega (arith, ap (on other) is, none, on-append before (M m ∷ (between ++ (P p ∷ after))) other, on-append between (P p ∷ after) other, on-append before (P q ∷ (between ++ after)) other, on-append between after other)
