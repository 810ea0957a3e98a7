-- Where the values at links stand: each link is provided once, and later than it is used.
use Rattle.std.proofs.Common.{◌≡◌, ℕ, suc, ◌+◌, ◌≤◌, Bool, true, false, cond, ◌&&◌, ◌==◌, List, [], ◌∷◌, ◌++◌, Option, Some, None, length, drop, sym, ◌∙◌, ap, ap₂, refl, arith, if◌then◌else◌, subst, eqb-true, eq-eqb}
use Rattle.std.specs.Prelude.{is_some, IfSome}
use Rattle.std.specs.Option.{option_or}
use Rattle.std.specs.BTreeMap.{Updates}
use Rattle.rast_terms.specs.declared.program.Program.{Program}
use Rattle.rast_core.specs.Words.{Link, Pid, Item, P, M, Side, Client, Provider}
use Rattle.rast_core.specs.Shown.{Shown}
use Rattle.rast_core.specs.Handles.{Lies, rest, rest_of}
use Rattle.rast_core.specs.declared.handle.Handle.{Handle}
use Rattle.rast_items.specs.Links.{same_link, same_pid, pid_at, link_at}
use Rattle.rast_items.specs.Items.{provides, uses, hit, times, provided, UsedEarlier, IsConfig}
use Rattle.rast_report.specs.Amounts.{key, key_cmp}
use Rattle.rast_report.specs.Values.{value_from, is_client}
use Rattle.rast_report.specs.Providers.{offered, is_at, found, handle_on, FindsAll, Keeps, Notes}
use Rattle.rast_report.specs.Waiting.{value_at}
use Rattle.rast_report.specs.Printed.{IsLater}
use Rattle.rast_report.specs.declared.providers.Providers.{Providers}
use Rattle.rast_report.proofs.TraceLemmas.{same_keys}

-- ---- one link more

and_both : (a b : Bool) → a && b ≡ true → (a ≡ true) × (b ≡ true)
and_both true b h = (refl, h)
and_both false b h = cc

pub link_is : (a b : Link) → same_link a b ≡ true → a ≡ b
link_is a b h =
    let k = and_both (same_pid a.session b.session) (a.index == b.index) h in
    let s : a.session ≡ b.session = ap pid_at (eqb-true a.session.0 b.session.0 k.0) in
    ap₂ (λ (x : Pid) (y : ℕ). let l : Link = record { session = x; index = y } in l) s (eqb-true a.index b.index k.1)

or_none : (o : Option Handle) → option_or o None ≡ o
or_none None = refl
or_none (Some h) = refl

some_or : (o p : Option Handle) → is_some o ≡ true → option_or o p ≡ o
some_or None p h = cc
some_or (Some k) p h = refl

none_or : (o p : Option Handle) → is_some o ≡ false → option_or o p ≡ p
none_or None p h = refl
none_or (Some k) p h = cc

-- a handle was kept for the link before
pub kept_before : (t : Providers) (at : Link) (handle : Handle) → is_some (handle_on t at) ≡ true → Keeps t t at handle
kept_before t at handle h = λ l. by l (same_link at l) refl
  where
    by : (l : Link) (b : Bool) → same_link at l ≡ b → handle_on t l ≡ option_or (handle_on t l) (if b then Some handle else None)
    by l true e = sym (some_or (handle_on t l) (Some handle) (subst (λ (k : Link). is_some (handle_on t k) ≡ true) (link_is at l e) h))
    by l false e = sym (or_none (handle_on t l))

-- none was
pub kept_now : (old new : Providers) (at : Link) (handle : Handle) → is_some (handle_on old at) ≡ false → Updates key_cmp old.handles new.handles (key at) (Some handle) → Keeps old new at handle
kept_now old new at handle h u = λ l. u.0 (key l) ∙ (ap (λ (b : Bool). cond b (Some handle) (handle_on old l)) (same_keys at l) ∙ by l (same_link at l) refl)
  where
    by : (l : Link) (b : Bool) → same_link at l ≡ b → cond b (Some handle) (handle_on old l) ≡ option_or (handle_on old l) (if b then Some handle else None)
    by l true e = sym (none_or (handle_on old l) (Some handle) (subst (λ (k : Link). is_some (handle_on old k) ≡ false) (link_is at l e) h))
    by l false e = sym (or_none (handle_on old l))

-- ---- the pass

-- the rest of the list from a handle on, or from where the link is found in these items
abbrev or_found : Shown → Option Handle → List Item → List Item
or_found v None items = items
or_found v (Some h) items = rest v h

-- what is kept for the link, and else what is found in the items that are left, is what is found in the list
pub record FindsWith (t : Providers) (v : Shown) (items : List Item) : Type 0 where
  pub finds : (l : Link) → or_found v (handle_on t l) (found items l) ≡ found v.items l
  pub lies : (l : Link) → IfSome (handle_on t l) (λ h. Lies v h)

pub pass_begins : (t : Providers) (v : Shown) (items : List Item) → ((l : Link) → handle_on t l ≡ None) → items ≡ v.items → FindsWith t v items
pass_begins t v items n e = record {
  finds = λ l. ap (λ (o : Option Handle). or_found v o (found items l)) (n l) ∙ ap (λ (is : List Item). found is l) e;
  lies = λ l. subst (λ (o : Option Handle). IfSome o (λ h. Lies v h)) (sym (n l)) tt;
}

module _ (v : Shown) where
  found_by : (o : Option Handle) (h : Handle) (i : Item) (is : List Item) (l : Link) (b : Bool) → is_at (offered i) l ≡ b → rest v h ≡ i ∷ is →
      or_found v (option_or o (if b then Some h else None)) (found is l) ≡ or_found v o (if b then i ∷ is else found is l)
  found_by None h i is l true e r = r
  found_by None h i is l false e r = refl
  found_by (Some k) h i is l b e r = refl

  lies_by : (o : Option Handle) (h : Handle) (b : Bool) → Lies v h → IfSome o (λ k. Lies v k) → IfSome (option_or o (if b then Some h else None)) (λ k. Lies v k)
  lies_by None h true l k = l
  lies_by None h false l k = tt
  lies_by (Some q) h b l k = k

  pub pass_goes_on : (old new : Providers) (h : Handle) (i : Item) (more : List Item) → Lies v h → rest v h ≡ i ∷ drop 1 (rest v h) → more ≡ drop 1 (rest v h) → Notes old new i h → FindsWith old v (rest v h) → FindsWith new v more
  pass_goes_on old new h i more lies r m n f =
      let r2 : rest v h ≡ i ∷ more = r ∙ ap (λ (is : List Item). i ∷ is) (sym m) in record {
        finds = λ l.
            ap (λ (o : Option Handle). or_found v o (found more l)) (n l)
            ∙ (found_by (handle_on old l) h i more l (is_at (offered i) l) refl r2
            ∙ (ap (λ (is : List Item). or_found v (handle_on old l) (found is l)) (sym r2) ∙ f.finds l));
        lies = λ l. subst (λ (o : Option Handle). IfSome o (λ k. Lies v k)) (sym (n l)) (lies_by (handle_on old l) h (is_at (offered i) l) lies (f.lies l));
      }

  end_by : (o : Option Handle) → or_found v o [] ≡ rest_of v o
  end_by None = refl
  end_by (Some h) = refl

  pub pass_ends : (t : Providers) (items : List Item) → items ≡ [] → FindsWith t v items → FindsAll t v
  pass_ends t items e f = λ l. (sym (end_by (handle_on t l)) ∙ (ap (λ (is : List Item). or_found v (handle_on t l) (found is l)) (sym e) ∙ f.finds l), f.lies l)

-- ---- what is found

-- the first that is found offers the link
pub found_offers : (xs : List Item) (l : Link) (i : Item) (is : List Item) → found xs l ≡ i ∷ is → is_at (offered i) l ≡ true
found_offers [] l i is e = cc
found_offers (x ∷ xs) l i is e = by (is_at (offered x) l) (found_offers xs l i is) refl e
  where
    by : (b : Bool) → (found xs l ≡ i ∷ is → is_at (offered i) l ≡ true) → is_at (offered x) l ≡ b → (if b then x ∷ xs else found xs l) ≡ i ∷ is → is_at (offered i) l ≡ true
    by true f h e = let same : x ≡ i = cc in subst (λ (y : Item). is_at (offered y) l ≡ true) same h
    by false f h e = f e

-- the list is cut there
pub found_cut : (xs : List Item) (l : Link) (i : Item) (is : List Item) → found xs l ≡ i ∷ is → (before : List Item) × (xs ≡ before ++ i ∷ is)
found_cut [] l i is e = cc
found_cut (x ∷ xs) l i is e = by (is_at (offered x) l) (found_cut xs l i is) e
  where
    by : (b : Bool) → (found xs l ≡ i ∷ is → (before : List Item) × (xs ≡ before ++ i ∷ is)) → (if b then x ∷ xs else found xs l) ≡ i ∷ is → (before : List Item) × (x ∷ xs ≡ before ++ i ∷ is)
    by true f e = ([], e)
    by false f e = let r = f e in (x ∷ r.0, ap (λ (ys : List Item). x ∷ ys) r.1)

found_less : (xs : List Item) (l : Link) → length (found xs l) ≤ length xs
found_less [] l = omega arith
found_less (x ∷ xs) l = by (is_at (offered x) l) (found_less xs l)
  where
    by : (b : Bool) → length (found xs l) ≤ length xs → length (if b then x ∷ xs else found xs l) ≤ length (x ∷ xs)
    by true h = omega arith
    by false h = omega (arith, h)

-- ---- links that are provided

self_link : (l : Link) → same_link l l ≡ true
self_link l = rw (eq-eqb l.session.0 l.session.0 refl, eq-eqb l.index l.index refl) refl

pub hit_self : (l : Link) → hit l l ≡ 1
hit_self l = ap (λ (b : Bool). cond b 1 0) (self_link l)

-- what offers a link provides it
hit_offered : (i : Item) (l : Link) → is_at (offered i) l ≡ true → hit l (provides i) ≡ 1
hit_offered (P p) l h = subst (λ (k : Link). hit k p.own ≡ 1) (link_is p.own l h) (hit_self p.own)
hit_offered (M m) l h = by m.toward refl h
  where
    by : (s : Side) → m.toward ≡ s → is_at (if is_client s then Some m.link else None) l ≡ true → hit l (provides (M m)) ≡ 1
    by Client e h = rw e (subst (λ (k : Link). hit k m.link ≡ 1) (link_is m.link l h) (hit_self m.link))
    by Provider e h = cc

no_offer : (i : Item) (l : Link) → hit l (provides i) ≡ 0 → is_at (offered i) l ≡ false
no_offer i l h = by (is_at (offered i) l) refl
  where
    by : (b : Bool) → is_at (offered i) l ≡ b → b ≡ false
    by true e = let k : hit l (provides i) ≡ 1 = hit_offered i l e in absurd (omega (arith, h, k))
    by false e = refl

-- a link that isn't provided by some items is found behind them
found_past : (before after : List Item) (l : Link) → provided l before ≡ 0 → found (before ++ after) l ≡ found after l
found_past [] after l h = refl
found_past (i ∷ is) after l h =
    let a : hit l (provides i) ≡ 0 = omega (arith, h) in
    let b : provided l is ≡ 0 = omega (arith, h) in
    ap (λ (c : Bool). if c then (i ∷ (is ++ after)) else found (is ++ after) l) (no_offer i l a) ∙ found_past is after l b

provided_both : (before after : List Item) (l : Link) → provided l (before ++ after) ≡ provided l before + provided l after
provided_both [] after l = omega arith
provided_both (i ∷ is) after l = let h : provided l (is ++ after) ≡ provided l is + provided l after = provided_both is after l in omega (arith, h)

earlier_rest : (before after : List Item) → UsedEarlier (before ++ after) → UsedEarlier after
earlier_rest [] after h = h
earlier_rest (i ∷ is) after h = earlier_rest is after h.1

-- a link that an item uses is found behind it
found_behind : (root : Link) (before is : List Item) (i : Item) (k : Link) → IsConfig root (before ++ i ∷ is) → 1 ≤ times k (uses i) → found (before ++ i ∷ is) k ≡ found is k
found_behind root before is i k c u =
    let e : times k (uses i) ≤ provided k is = (earlier_rest before (i ∷ is) c.earlier).0 k in
    let o : provided k (before ++ i ∷ is) ≤ 1 = c.once k in
    let b : provided k (before ++ i ∷ is) ≡ provided k before + (hit k (provides i) + provided k is) = provided_both before (i ∷ is) k in
    let none : provided k before ≡ 0 = omega (arith, e, o, b, u) in
    let here : hit k (provides i) ≡ 0 = omega (arith, e, o, b, u) in
    found_past before (i ∷ is) k none ∙ ap (λ (b : Bool). if b then (i ∷ is) else found is k) (no_offer i k here)

-- ---- values

module _ (g : Program) (v : Shown) where
  -- an item that doesn't offer the link is passed
  passed : (i : Item) (is : List Item) (l : Link) → is_at (offered i) l ≡ false → value_from g v (i ∷ is) l ≡ value_from g v is l
  passed (P p) is l e = rw e refl
  passed (M m) is l e = by m.toward (same_link m.link l) refl refl
    where
      by : (s : Side) (b : Bool) → m.toward ≡ s → same_link m.link l ≡ b → value_from g v (M m ∷ is) l ≡ value_from g v is l
      by Client true t h = let k : is_at (offered (M m)) l ≡ true = rw (t, h) refl in let none : ⊥ = cc in absurd none
      by Client false t h = rw (t, h) refl
      by Provider true t h = rw (t, h) refl
      by Provider false t h = rw (t, h) refl

  -- the value is that which is found
  pub value_found : (xs : List Item) (l : Link) → value_from g v xs l ≡ value_from g v (found xs l) l
  value_found [] l = refl
  value_found (i ∷ is) l = by (is_at (offered i) l) (value_found is l) refl
    where
      by : (b : Bool) → value_from g v is l ≡ value_from g v (found is l) l → is_at (offered i) l ≡ b → value_from g v (i ∷ is) l ≡ value_from g v (if b then i ∷ is else found is l) l
      by true h e = refl
      by false h e = passed i is l e ∙ h

  -- the value at a link that an item uses is the one behind it
  pub record IsBehind (l k : Link) (is : List Item) : Type 0 where
    pub same : value_from g v is k ≡ value_at g v k
    pub later : IsLater v l k

  pub used_behind : (l k : Link) (i : Item) (is : List Item) → IsConfig (link_at 0 0) v.items → found v.items l ≡ i ∷ is → 1 ≤ times k (uses i) → IsBehind l k is
  used_behind l k i is c f u =
      let cut = found_cut v.items l i is f in
      let c2 : IsConfig (link_at 0 0) (cut.0 ++ i ∷ is) = subst (IsConfig (link_at 0 0)) cut.1 c in
      let e : found v.items k ≡ found is k = ap (λ (xs : List Item). found xs k) cut.1 ∙ found_behind (link_at 0 0) cut.0 is i k c2 u in
      let a : length (found v.items k) ≡ length (found is k) = ap length e in
      let b : length (found v.items l) ≡ suc (length is) = ap length f in
      let d : length (found is k) ≤ length is = found_less is k in record {
        same = value_found is k ∙ (ap (λ (xs : List Item). value_from g v xs k) (sym e) ∙ sym (value_found v.items k));
        later = omega (arith, a, b, d);
      }
