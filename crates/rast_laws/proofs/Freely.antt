-- Messages on one link go to one side, so no link has two of them.
use Rattle.std.proofs.Common.{◌≡◌, ◌≤◌, ◌+◌, List, [], ◌∷◌, ◌++◌, ◌⊎◌, inl, inr, Option, Some, None, refl, sym, ◌∙◌, subst, arith}
use Rattle.rast_types.specs.declared.ty.Kind.{Kind}
use Rattle.rast_types.specs.Closed.{View, head, kind_of}
use Rattle.rast_terms.specs.declared.program.Program.{Program}
use Rattle.rast_rules.specs.Rules.{defs}
use Rattle.rast_items.specs.Items.{provides, uses, hit, times, provided, used, IsConfig}
use Rattle.rast_items.specs.Run.{AreApart}
use Rattle.rast_laws.specs.Typed.{IsToward}
use Rattle.rast_order.proofs.Words.{Link, Item, P, M, Proc, Msg, Side, Client, Provider}
use Rattle.rast_order.proofs.Counts.{provided-append, used-append, on, on-append, hit_self, hit_of, hit_cases}
use Rattle.rast_order.proofs.Keys.{held_by}
use Rattle.rast_order.proofs.Deeds.{PutSound}
use Rattle.rast_order.proofs.Keeps.{uses_provider, gives_client}
use Rattle.rast_equal.proofs.Equals.{some_same}
use Rattle.rast_laws.proofs.Serving.{serves_same}
use Rattle.rast_laws.proofs.Fine.{MsgFine, AllFine, fine_left, fine_right}
use Rattle.rast_laws.proofs.Lawful.{Toward, Forwards}

-- a head has one direction
one_way : (o : Option Kind) (s r : Side) → IsToward o s → IsToward o r → s ≡ r
one_way None s r a b = absurd a
one_way (Some k) s r a b = sym a ∙ b

pub toward_same : (g : Program) (d : Link → Option View) (l : Link) (s r : Side) → Toward g d l s → Toward g d l r → s ≡ r
toward_same g d l s r a b =
    let e : a.due ≡ b.due = some_same (d l) a.is b.is in
    one_way (kind_of (head (defs g) b.due).ty) s r (subst (λ v. IsToward (kind_of (head (defs g) v).ty) s) e a.toward) b.toward

pub msg_toward : (g : Program) (d : Link → Option View) (m : Msg) → MsgFine (defs g) d m → Toward g d m.link m.toward
msg_toward g d m f = record { due = f.due; is = f.is; toward = f.toward }

pub on_client : (g : Program) (d : Link → Option View) (l : Link) (xs : List Item) → AllFine g d xs → Toward g d l Client → on l xs ≤ provided l xs
on_client g d l [] w s = omega arith
on_client g d l (P p ∷ xs) w s = omega (arith, on_client g d l xs w.1 s)
on_client g d l (M m ∷ xs) w s = pick (hit_cases l m.link) (on_client g d l xs w.1 s)
  where
    pick : (m.link ≡ l) ⊎ (hit l m.link ≡ 0) → on l xs ≤ provided l xs → hit l m.link + on l xs ≤ hit l (provides (M m)) + provided l xs
    pick (inl e) h = omega (arith, h, gives_client m (toward_same g d l m.toward Client (subst (λ y. Toward g d y m.toward) e (msg_toward g d m w.0)) s) l)
    pick (inr z) h = omega (arith, h, z)

pub on_provider : (g : Program) (d : Link → Option View) (l : Link) (xs : List Item) → AllFine g d xs → Toward g d l Provider → on l xs ≤ used l xs
on_provider g d l [] w s = omega arith
on_provider g d l (P p ∷ xs) w s = omega (arith, on_provider g d l xs w.1 s)
on_provider g d l (M m ∷ xs) w s = pick (hit_cases l m.link) (on_provider g d l xs w.1 s)
  where
    pick : (m.link ≡ l) ⊎ (hit l m.link ≡ 0) → on l xs ≤ used l xs → hit l m.link + on l xs ≤ times l (uses (M m)) + used l xs
    pick (inl e) h = omega (arith, h, uses_provider m (toward_same g d l m.toward Provider (subst (λ y. Toward g d y m.toward) e (msg_toward g d m w.0)) s) l)
    pick (inr z) h = omega (arith, h, z)

-- a link has no message, or its messages have a direction
some_way : (g : Program) (d : Link → Option View) (l : Link) (xs : List Item) → AllFine g d xs → (on l xs ≡ 0) ⊎ ((s : Side) × Toward g d l s)
some_way g d l [] w = inl refl
some_way g d l (P p ∷ xs) w = pick (some_way g d l xs w.1)
  where
    pick : (on l xs ≡ 0) ⊎ ((s : Side) × Toward g d l s) → (0 + on l xs ≡ 0) ⊎ ((s : Side) × Toward g d l s)
    pick (inl z) = inl (omega (arith, z))
    pick (inr h) = inr h
some_way g d l (M m ∷ xs) w = pick (hit_cases l m.link) (some_way g d l xs w.1)
  where
    pick : (m.link ≡ l) ⊎ (hit l m.link ≡ 0) → (on l xs ≡ 0) ⊎ ((s : Side) × Toward g d l s) → (hit l m.link + on l xs ≡ 0) ⊎ ((s : Side) × Toward g d l s)
    pick (inl e) h = inr (m.toward, subst (λ y. Toward g d y m.toward) e (msg_toward g d m w.0))
    pick (inr z) (inl h) = inl (omega (arith, z, h))
    pick (inr z) (inr h) = inr h

at_most_one : (g : Program) (d : Link → Option View) (root : Link) (l : Link) (items : List Item) (s : Side) → AllFine g d items → IsConfig root items → Toward g d l s → on l items ≤ 1
at_most_one g d root l items Client w c t = omega (arith, on_client g d l items w t, c.once l)
at_most_one g d root l items Provider w c t = omega (arith, on_provider g d l items w t, c.matched l, c.once l)

-- no two messages have the same link
pub apart_fine : (g : Program) (d : Link → Option View) (root : Link) (items : List Item) → AllFine g d items → IsConfig root items → AreApart items
apart_fine g d root items w c l = pick (some_way g d l items w)
  where
    pick : (on l items ≡ 0) ⊎ ((s : Side) × Toward g d l s) → on l items ≤ 1
    pick (inl z) = omega (arith, z)
    pick (inr t) = at_most_one g d root l items t.0 w c t.1

-- ---- the link on which a step puts a message is free

-- a link toward the client that a process provides has no message
pub free_provided : (g : Program) (d : Link → Option View) (root : Link) (before after : List Item) (p : Proc) (l : Link) → AllFine g d (before ++ (P p ∷ after)) → IsConfig root (before ++ (P p ∷ after)) → p.own ≡ l → Toward g d l Client → on l (before ++ (P p ∷ after)) ≡ 0
free_provided g d root before after p l w c o t =
    omega (arith, on-append before (P p ∷ after) l, provided-append before (P p ∷ after) l, c.once l, hit_of l p.own o, on_client g d l before (fine_left g d before (P p ∷ after) w) t, on_client g d l after (fine_right g d before (P p ∷ after) w).1 t)

-- a link toward the provider that a process uses has no message
pub free_used : (g : Program) (d : Link → Option View) (root : Link) (before after : List Item) (p : Proc) (l : Link) → AllFine g d (before ++ (P p ∷ after)) → IsConfig root (before ++ (P p ∷ after)) → 1 ≤ held_by l p.uses → Toward g d l Provider → on l (before ++ (P p ∷ after)) ≡ 0
free_used g d root before after p l w c u t =
    omega (arith, on-append before (P p ∷ after) l, used-append before (P p ∷ after) l, c.matched l, c.once l, u, on_provider g d l before (fine_left g d before (P p ∷ after) w) t, on_provider g d l after (fine_right g d before (P p ∷ after) w).1 t)

pub free_put : (g : Program) (d : Link → Option View) (root : Link) (before after : List Item) (p : Proc) (m : Msg) (s : Side) (rest : Option Proc) → AllFine g d (before ++ (P p ∷ after)) → IsConfig root (before ++ (P p ∷ after)) → PutSound p m s rest → Toward g d m.link s → on m.link (before ++ (P p ∷ after)) ≡ 0
free_put g d root before after p m Client None w c h t = free_provided g d root before after p m.link w c (sym h.link) t
free_put g d root before after p m Client (Some q) w c h t = free_provided g d root before after p m.link w c (sym h.link) t
free_put g d root before after p m Provider None w c h t = absurd h
free_put g d root before after p m Provider (Some q) w c h t = free_used g d root before after p m.link w c (omega (arith, h.held m.link, h.has m.link, hit_self m.link)) t

-- the two links of a forward have one direction
pub forward_mine : (g : Program) (d : Link → Option View) (p : Proc) (other wait : Link) (s : Side) → Forwards g d p other wait → Toward g d other s → Toward g d p.own s
forward_mine g d p other wait s f t =
    let e : t.due ≡ f.yours = some_same (d other) t.is f.yours_is in
    let k : kind_of (head (defs g) f.yours).ty ≡ kind_of (head (defs g) f.mine).ty = (serves_same (defs g) f.yours f.mine f.yours_proper f.mine_proper f.serves).kind in
    record { due = f.mine; is = f.mine_is; toward = subst (λ o. IsToward o s) k (subst (λ v. IsToward (kind_of (head (defs g) v).ty) s) e t.toward) }

pub forward_yours : (g : Program) (d : Link → Option View) (p : Proc) (other wait : Link) (s : Side) → Forwards g d p other wait → Toward g d p.own s → Toward g d other s
forward_yours g d p other wait s f t =
    let e : t.due ≡ f.mine = some_same (d p.own) t.is f.mine_is in
    let k : kind_of (head (defs g) f.yours).ty ≡ kind_of (head (defs g) f.mine).ty = (serves_same (defs g) f.yours f.mine f.yours_proper f.mine_proper f.serves).kind in
    record { due = f.yours; is = f.yours_is; toward = subst (λ o. IsToward o s) (sym k) (subst (λ v. IsToward (kind_of (head (defs g) v).ty) s) e t.toward) }
