-- Where the values at links stand in a list of items.
use Rattle.std.specs.Prelude.{◌≡◌, Bool, false, List, [], ◌∷◌, Option, Some, None, IfSome}
use Rattle.std.specs.Prelude.{if◌then◌else◌}
use Rattle.std.specs.Option.{option_or}
use Rattle.std.specs.BTreeMap.{get}
use Rattle.rast_core.specs.Words.{Link, Item, P, M}
use Rattle.rast_core.specs.Shown.{Shown}
use Rattle.rast_core.specs.Handles.{Lies, rest_of}
use Rattle.rast_core.specs.declared.handle.Handle.{Handle}
use Rattle.rast_items.specs.Links.{same_link}
use Rattle.rast_report.specs.Values.{is_client}
use Rattle.rast_report.specs.Amounts.{key, key_cmp}
use Rattle.rast_report.specs.declared.providers.Providers.{Providers}

-- the link at which the item stands for a client
abbrev pub offered : Item → Option Link
offered (P p) = Some p.own
offered (M m) = if is_client m.toward then Some m.link else None

abbrev pub is_at : Option Link → Link → Bool
is_at None l = false
is_at (Some k) l = same_link k l

-- the items from the first on at which the value at a link stands
abbrev pub found : List Item → Link → List Item
found [] l = []
found (i ∷ is) l = if is_at (offered i) l then i ∷ is else found is l

-- the handle that is kept for a link
abbrev pub handle_on : Providers → Link → Option Handle
handle_on t l = get key_cmp t.handles (key l)

-- the table tells for each link where the first item lies that offers it
abbrev pub FindsAll : Providers → Shown → Type 0
FindsAll t v =
    (l : Link) → (rest_of v (handle_on t l) ≡ found v.items l) × IfSome (handle_on t l) (λ h. Lies v h)

-- a handle is kept for one link more, where there was none
abbrev pub Keeps : Providers → Providers → Link → Handle → Type 0
Keeps old new at h =
    (l : Link) → handle_on new l ≡ option_or (handle_on old l) (if same_link at l then Some h else None)

-- so it is for the link that an item offers
abbrev pub Notes : Providers → Providers → Item → Handle → Type 0
Notes old new item h =
    (l : Link)
    → handle_on new l ≡ option_or (handle_on old l) (if is_at (offered item) l then Some h else None)
