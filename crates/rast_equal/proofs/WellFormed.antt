-- A valid type is well formed at each valuation at which its premises are true.
use Rattle.std.proofs.Common.{◌≡◌, ℕ, ℤ, zero, suc, pos, ◌+◌, ◌≤◌, Bool, true, false, not, ◌&&◌, ◌==◌, List, [], ◌∷◌, ◌++◌, map, flat_map, length, Option, Some, None, slice_get, refl, sym, ap, ap₂, ◌∙◌, subst, arith, if◌then◌else◌, cond, eqb-true, ltb-false, length-append}
use Rattle.std.specs.Prelude.{nat_lt, All}
use Rattle.std.specs.List.{list_all, AllByRecursion}
use Rattle.rast_index.specs.Keys.{find_key}
use Rattle.rast_index.specs.Linear.{Linear, value, whole, is_closed}
use Rattle.rast_index.specs.Truth.{truth, is_closed_formula}
use Rattle.rast_index.proofs.Scope.{both_true}
use Rattle.rast_index.specs.declared.formula.Formula.{Formula}
use Rattle.rast_types.specs.declared.table.TypeDef.{TypeDef}
use Rattle.rast_types.specs.declared.ty.Kind.{Kind}
use Rattle.rast_types.specs.declared.ty.Kind.TheVariants as kind
use Rattle.rast_types.specs.declared.ty.Ty.{Ty, out-Ty, roll-Ty, roll-out-Ty}
use Rattle.rast_types.specs.declared.ty.Ty.TheOpen.{Ty-F, One, Plus, With, Tensor, Lolli, Named, Ex, All as Each, Assert, Assume, Pays, Gets, Next}
use Rattle.rast_types.specs.declared.ty.Ty.TheFolds.{fold-Ty, map-Ty, fold-roll-Ty, ind-Ty}
use Rattle.rast_types.specs.Closed.{Closed, closed, Table, Layer, Way, Label as ByLabel, First, Second, Inner, At, part_layer, part_of, kind_layer, figure_layer, figure_of, close_some, Exposed, exposed_layer, body_or, unfold_layer}
use Rattle.rast_types.specs.Symbolic.{is_scoped, is_name, is_name_layer, is_next, is_next_layer}
use Rattle.rast_equal.specs.Sound.{IsDefined}
use Rattle.rast_equal.specs.WellMadeTypes.{is_named, named_step, takes_so_many}
use Rattle.rast_equal.specs.Valid.{Asks, Over, IsTrueClaim, Claimed, claimed_step, claims_of, own_claims, claims_below, nonneg, leads_to_next, next_layer, next_def, IsValidTable, def_claims}
use Rattle.rast_equal.proofs.Equals.{HasKind}
use Rattle.rast_equal.proofs.Proper.{ProperTo, Proper}
use Rattle.rast_equal.proofs.Scoped.{scoped_out, scoped_layer}
use Rattle.rast_equal.proofs.Substitution.{whole-append}
use Rattle.rast_equal.proofs.Steady.{AreSteady, steady_closed, steady_more, steady_append, true_still}
use Rattle.rast_equal.proofs.Truths.{nonneg_true}
use Rattle.rast_equal.proofs.Exposing.{Unnamed}
use Rattle.rast_equal.proofs.Every.{all_get, every_get, every_left, every_right}
use Rattle.std.proofs.lemmas.List.Elements.{recursion_from_All}

-- ---- a type with its claims is the type

abbrev claimed : Table → Ty → Claimed
claimed t a = fold-Ty Claimed (claimed_step t) a

abbrev Such : (Ty → Type 0) → Type 0
Such P = (a : Ty) × P a

Kept : Table → Ty → Type 0
Kept t a = (claimed t a).tree ≡ a

abbrev bare_entry : (t : Table) → (ℕ × Such (Kept t)) → ℕ × Ty
bare_entry t e = (e.0, e.1.0)

abbrev tree_entry : Table → (ℕ × Ty) → ℕ × Ty
tree_entry t e = (e.0, (claimed t e.1).tree)

abbrev claimed_entry : Table → (ℕ × Ty) → ℕ × Claimed
claimed_entry t e = (e.0, claimed t e.1)

abbrev tree_of_entry : (ℕ × Claimed) → ℕ × Ty
tree_of_entry e = (e.0, e.1.tree)

entries_kept : (t : Table) (ys : List (ℕ × Such (Kept t))) → map tree_of_entry (map (claimed_entry t) (map (bare_entry t) ys)) ≡ map (bare_entry t) ys
unfolding Kept
entries_kept t [] = refl
entries_kept t (y ∷ ys) = ap₂ (λ (a : Ty) (xs : List (ℕ × Ty)). (y.0, a) ∷ xs) y.1.1 (entries_kept t ys)

tree_at : (t : Table) (x : Layer) → map-Ty Claimed Ty (λ a. a.tree) (map-Ty Ty Claimed (claimed t) x) ≡ x → Kept t (roll-Ty x)
unfolding Kept
tree_at t x h = ap (λ c. c.tree) (fold-roll-Ty Claimed (claimed_step t) x) ∙ ap roll-Ty h

kept_step : (t : Table) (y : Ty-F (Such (Kept t))) → Kept t (roll-Ty (map-Ty (Such (Kept t)) Ty (λ e. e.0) y))
unfolding Kept
kept_step t One = tree_at t One refl
kept_step t (Plus ts) = tree_at t (Plus (map (bare_entry t) ts)) (ap Plus (entries_kept t ts))
kept_step t (With ts) = tree_at t (With (map (bare_entry t) ts)) (ap With (entries_kept t ts))
kept_step t (Tensor a b) = tree_at t (Tensor a.0 b.0) (ap₂ (λ (x y : Ty). let l : Layer = Tensor x y in l) a.1 b.1)
kept_step t (Lolli a b) = tree_at t (Lolli a.0 b.0) (ap₂ (λ (x y : Ty). let l : Layer = Lolli x y in l) a.1 b.1)
kept_step t (Named k es) = tree_at t (Named k es) refl
kept_step t (Ex a) = tree_at t (Ex a.0) (ap (λ (x : Ty). let l : Layer = Ex x in l) a.1)
kept_step t (Each a) = tree_at t (Each a.0) (ap (λ (x : Ty). let l : Layer = Each x in l) a.1)
kept_step t (Assert f a) = tree_at t (Assert f a.0) (ap (λ (x : Ty). let l : Layer = Assert f x in l) a.1)
kept_step t (Assume f a) = tree_at t (Assume f a.0) (ap (λ (x : Ty). let l : Layer = Assume f x in l) a.1)
kept_step t (Pays p a) = tree_at t (Pays p a.0) (ap (λ (x : Ty). let l : Layer = Pays p x in l) a.1)
kept_step t (Gets p a) = tree_at t (Gets p a.0) (ap (λ (x : Ty). let l : Layer = Gets p x in l) a.1)
kept_step t (Next n a) = tree_at t (Next n a.0) (ap (λ (x : Ty). let l : Layer = Next n x in l) a.1)

tree_kept : (t : Table) (a : Ty) → (claimed t a).tree ≡ a
unfolding Kept
tree_kept t = ind-Ty (Kept t) (λ x y e. subst (λ z. Kept t (roll-Ty z)) e (kept_step t y))

-- ---- claims of a layer

abbrev pub ValidAt : Table → ℕ → List Formula → Ty → Type 0
ValidAt t n ps a = AllByRecursion IsTrueClaim (claims_of t n ps a)

abbrev claimed_layer : Table → Layer → Ty-F Claimed
claimed_layer t x = map-Ty Ty Claimed (claimed t) x

claims_out : (t : Table) (n : ℕ) (ps : List Formula) (a : Ty) → claims_of t n ps a ≡ (if nat_lt 16 n then Over ∷ [] else own_claims t (claimed_layer t (out-Ty a)) n ps ++ claims_below (claimed_layer t (out-Ty a)) n ps)
claims_out t n ps a = ap (λ b. claims_of t n ps b) (sym (roll-out-Ty a)) ∙ ap (λ c. c.claims n ps) (fold-roll-Ty Claimed (claimed_step t) (out-Ty a))

record ValidLayer (t : Table) (n : ℕ) (ps : List Formula) (x : Layer) : Type 0 where
  few : n ≤ 16
  own : AllByRecursion IsTrueClaim (own_claims t (claimed_layer t x) n ps)
  below : AllByRecursion IsTrueClaim (claims_below (claimed_layer t x) n ps)

layer_facts : (t : Table) (n : ℕ) (ps : List Formula) (x : Layer) (b : Bool) → nat_lt 16 n ≡ b → AllByRecursion IsTrueClaim (if b then Over ∷ [] else own_claims t (claimed_layer t x) n ps ++ claims_below (claimed_layer t x) n ps) → ValidLayer t n ps x
layer_facts t n ps x true e h = absurd h.0
layer_facts t n ps x false e h = record {
  few = ltb-false 16 n e;
  own = every_left IsTrueClaim (own_claims t (claimed_layer t x) n ps) (claims_below (claimed_layer t x) n ps) h;
  below = every_right IsTrueClaim (own_claims t (claimed_layer t x) n ps) (claims_below (claimed_layer t x) n ps) h;
}

valid_layer : (t : Table) (n : ℕ) (ps : List Formula) (a : Ty) (x : Layer) → out-Ty a ≡ x → ValidAt t n ps a → ValidLayer t n ps x
valid_layer t n ps a x o h =
    layer_facts t n ps x (nat_lt 16 n) refl (subst (λ y. AllByRecursion IsTrueClaim (if nat_lt 16 n then Over ∷ [] else own_claims t (claimed_layer t y) n ps ++ claims_below (claimed_layer t y) n ps)) o (subst (AllByRecursion IsTrueClaim) (claims_out t n ps a) h))

-- ---- names that are defined

abbrev pub named_layer : Table → Layer → Bool
named_layer t One = true
named_layer t (Plus ts) = list_all (λ e. is_named t e.1) ts
named_layer t (With ts) = list_all (λ e. is_named t e.1) ts
named_layer t (Tensor a b) = is_named t a && is_named t b
named_layer t (Lolli a b) = is_named t a && is_named t b
named_layer t (Named k es) = takes_so_many (slice_get t k) (length es)
named_layer t (Ex a) = is_named t a
named_layer t (Each a) = is_named t a
named_layer t (Assert f a) = is_named t a
named_layer t (Assume f a) = is_named t a
named_layer t (Pays p a) = is_named t a
named_layer t (Gets p a) = is_named t a
named_layer t (Next l a) = is_named t a

abbrev named_entry : Table → (ℕ × Ty) → ℕ × Bool
named_entry t e = (e.0, is_named t e.1)

entries_named : (t : Table) (ts : List (ℕ × Ty)) → list_all (λ e. e.1) (map (named_entry t) ts) ≡ list_all (λ e. is_named t e.1) ts
entries_named t [] = refl
entries_named t (e ∷ ts) = ap (λ (b : Bool). is_named t e.1 && b) (entries_named t ts)

layer_named : (t : Table) (x : Layer) → named_step t (map-Ty Ty Bool (is_named t) x) ≡ named_layer t x
layer_named t One = refl
layer_named t (Plus ts) = entries_named t ts
layer_named t (With ts) = entries_named t ts
layer_named t (Tensor a b) = refl
layer_named t (Lolli a b) = refl
layer_named t (Named k es) = refl
layer_named t (Ex a) = refl
layer_named t (Each a) = refl
layer_named t (Assert f a) = refl
layer_named t (Assume f a) = refl
layer_named t (Pays p a) = refl
layer_named t (Gets p a) = refl
layer_named t (Next l a) = refl

pub named_out : (t : Table) (a : Ty) → is_named t a ≡ named_layer t (out-Ty a)
named_out t a = ap (is_named t) (sym (roll-out-Ty a)) ∙ (fold-roll-Ty Bool (named_step t) (out-Ty a) ∙ layer_named t (out-Ty a))

pub named_at : (t : Table) (a : Ty) (x : Layer) → out-Ty a ≡ x → is_named t a ≡ true → named_layer t x ≡ true
named_at t a x o h = ap (named_layer t) (sym o) ∙ (sym (named_out t a) ∙ h)

pub scoped_at : (n : ℕ) (a : Ty) (x : Layer) → out-Ty a ≡ x → is_scoped n a ≡ true → scoped_layer n x ≡ true
scoped_at n a x o h = ap (scoped_layer n) (sym o) ∙ (sym (scoped_out n a) ∙ h)

-- ---- tables

-- each definition stands for a valid type that is no name
pub record ValidDef (t : Table) (d : TypeDef) : Type 0 where
  pub unnamed : is_name d.body ≡ false
  pub valid : ValidAt t d.params [] d.body
  pub named : is_named t d.body ≡ true
  pub scoped : is_scoped d.params d.body ≡ true

abbrev pub ValidDefs : Table → Type 0
ValidDefs t = (k : ℕ) (d : TypeDef) → slice_get t k ≡ Some d → ValidDef t d

-- what is known of a type that is to be well formed
record Known (t : Table) (n : ℕ) (ps : List Formula) (a : Ty) (vs : List ℕ) : Type 0 where
  valid : ValidAt t n ps a
  named : is_named t a ≡ true
  scoped : is_scoped n a ≡ true
  steady : AreSteady n ps
  sized : length vs ≡ n
  holds : list_all (λ f. truth f (whole vs)) ps ≡ true

abbrev Claim' : Table → ℕ → Type 0
Claim' t k = (n : ℕ) (ps : List Formula) (a : Ty) (vs : List ℕ) → Known t n ps a vs → ProperTo t k (closed a (whole vs))

-- ---- parts of a head

found_valid : (t : Table) (n : ℕ) (ps : List Formula) (ts : List (ℕ × Ty)) (l : ℕ) (x : Ty) → AllByRecursion IsTrueClaim (flat_map (λ e. e.1.claims n ps) (map (claimed_entry t) ts)) → find_key l ts ≡ Some x → ValidAt t n ps x
found_valid t n ps [] l x h e = cc
found_valid t n ps (y ∷ ts) l x h e = pick (y.0 == l) e (λ q. found_valid t n ps ts l x (every_right IsTrueClaim ((claimed t y.1).claims n ps) (flat_map (λ e. e.1.claims n ps) (map (claimed_entry t) ts)) h) q)
  where
    pick : (b : Bool) → (if b then Some y.1 else find_key l ts) ≡ Some x → (find_key l ts ≡ Some x → ValidAt t n ps x) → ValidAt t n ps x
    pick true q r = let s : y.1 ≡ x = cc in subst (ValidAt t n ps) s (every_left IsTrueClaim ((claimed t y.1).claims n ps) (flat_map (λ e. e.1.claims n ps) (map (claimed_entry t) ts)) h)
    pick false q r = r q

pub found_true : (f : Ty → Bool) (ts : List (ℕ × Ty)) (l : ℕ) (x : Ty) → list_all (λ e. f e.1) ts ≡ true → find_key l ts ≡ Some x → f x ≡ true
found_true f [] l x h e = cc
found_true f (y ∷ ts) l x h e = let r = both_true (f y.1) (list_all (λ e. f e.1) ts) h in pick (y.0 == l) e r.0 (λ q. found_true f ts l x r.1 q)
  where
    pick : (b : Bool) → (if b then Some y.1 else find_key l ts) ≡ Some x → f y.1 ≡ true → (find_key l ts ≡ Some x → f x ≡ true) → f x ≡ true
    pick true q h r = let s : y.1 ≡ x = cc in subst (λ z. f z ≡ true) s h
    pick false q h r = r q

closed_known : (t : Table) (k n : ℕ) (ps : List Formula) (vs : List ℕ) (o : Option Ty) (x : Closed) → Claim' t k → ((a : Ty) → o ≡ Some a → Known t n ps a vs) → close_some (whole vs) o ≡ Some x → ProperTo t k x
closed_known t k n ps vs None x c h e = cc
closed_known t k n ps vs (Some a) x c h e = let s : closed a (whole vs) ≡ x = cc in subst (ProperTo t k) s (c n ps a vs (h a refl))

one_proper : (t : Table) (k : ℕ) (a b : Closed) → Some a ≡ Some b → ProperTo t k a → ProperTo t k b
one_proper t k a b e h = let s : a ≡ b = cc in subst (ProperTo t k) s h

under_proper : (t : Table) (k n m : ℕ) (ps : List Formula) (a : Ty) (vs : List ℕ) → Claim' t k → n ≤ 16 → ValidAt t (n + 1) ps a → is_named t a ≡ true → is_scoped (n + 1) a ≡ true → AreSteady n ps → length vs ≡ n → list_all (λ f. truth f (whole vs)) ps ≡ true → ProperTo t k (closed a (whole vs ++ pos m ∷ []))
under_proper t k n m ps a vs c few v nm sc st e h =
    let deep = valid_layer t (n + 1) ps a (out-Ty a) refl v in
    subst (λ xs. ProperTo t k (closed a xs)) (whole-append vs (m ∷ []))
    (c (n + 1) ps a (vs ++ m ∷ []) (record { valid = v; named = nm; scoped = sc; steady = steady_more n ps st; sized = length-append vs (m ∷ []) ∙ ap (λ (i : ℕ). i + 1) e; holds = true_still n ps vs (m ∷ []) st (omega (arith, e)) (omega (arith, e, deep.few)) h }))

if_proper : (t : Table) (k : ℕ) (b : Bool) (a x : Closed) → (b ≡ true → ProperTo t k a) → (if b then Some a else None) ≡ Some x → ProperTo t k x
if_proper t k true a x h e = one_proper t k a x e (h refl)
if_proper t k false a x h e = cc

pub all_and : (fs : List Formula) (f : Formula) (vs : List ℤ) → list_all (λ g. truth g vs) fs ≡ true → truth f vs ≡ true → list_all (λ g. truth g vs) (fs ++ f ∷ []) ≡ true
all_and [] f vs h e = ap (λ (b : Bool). b && true) e
all_and (g ∷ fs) f vs h e = let r = both_true (truth g vs) (list_all (λ g. truth g vs) fs) h in ap₂ (λ (x y : Bool). x && y) r.0 (all_and fs f vs r.1 e)

constrained : (t : Table) (k n : ℕ) (ps : List Formula) (f : Formula) (a : Ty) (vs : List ℕ) → Claim' t k → ValidAt t n (ps ++ f ∷ []) a → is_named t a ≡ true → is_closed_formula n f && is_scoped n a ≡ true → AreSteady n ps → length vs ≡ n → list_all (λ g. truth g (whole vs)) ps ≡ true → truth f (whole vs) ≡ true → ProperTo t k (closed a (whole vs))
constrained t k n ps f a vs c v nm sc st e h q =
    let s = both_true (is_closed_formula n f) (is_scoped n a) sc in
    c n (ps ++ f ∷ []) a vs (record { valid = v; named = nm; scoped = s.1; steady = steady_append n ps (f ∷ []) st (steady_closed n f s.0, tt); sized = e; holds = all_and ps f (whole vs) h q })

layer_parts : (t : Table) (k n : ℕ) (ps : List Formula) (vs : List ℕ) (x : Layer) → Claim' t k → ValidLayer t n ps x → named_layer t x ≡ true → scoped_layer n x ≡ true → AreSteady n ps → length vs ≡ n → list_all (λ f. truth f (whole vs)) ps ≡ true → (w : Way) (y : Closed) → part_layer x (whole vs) w ≡ Some y → ProperTo t k y
layer_parts t k n ps vs (Plus ts) c v nm sc st e h (ByLabel l) y q = closed_known t k n ps vs (find_key l ts) y c (λ a f. record { valid = found_valid t n ps ts l a v.below f; named = found_true (is_named t) ts l a nm f; scoped = found_true (is_scoped n) ts l a sc f; steady = st; sized = e; holds = h }) q
layer_parts t k n ps vs (With ts) c v nm sc st e h (ByLabel l) y q = closed_known t k n ps vs (find_key l ts) y c (λ a f. record { valid = found_valid t n ps ts l a v.below f; named = found_true (is_named t) ts l a nm f; scoped = found_true (is_scoped n) ts l a sc f; steady = st; sized = e; holds = h }) q
layer_parts t k n ps vs (Tensor a b) c v nm sc st e h First y q = one_proper t k _ y q (c n ps a vs (record { valid = every_left IsTrueClaim (claims_of t n ps a) (claims_of t n ps b) v.below; named = (both_true (is_named t a) (is_named t b) nm).0; scoped = (both_true (is_scoped n a) (is_scoped n b) sc).0; steady = st; sized = e; holds = h }))
layer_parts t k n ps vs (Tensor a b) c v nm sc st e h Second y q = one_proper t k _ y q (c n ps b vs (record { valid = every_right IsTrueClaim (claims_of t n ps a) (claims_of t n ps b) v.below; named = (both_true (is_named t a) (is_named t b) nm).1; scoped = (both_true (is_scoped n a) (is_scoped n b) sc).1; steady = st; sized = e; holds = h }))
layer_parts t k n ps vs (Lolli a b) c v nm sc st e h First y q = one_proper t k _ y q (c n ps a vs (record { valid = every_left IsTrueClaim (claims_of t n ps a) (claims_of t n ps b) v.below; named = (both_true (is_named t a) (is_named t b) nm).0; scoped = (both_true (is_scoped n a) (is_scoped n b) sc).0; steady = st; sized = e; holds = h }))
layer_parts t k n ps vs (Lolli a b) c v nm sc st e h Second y q = one_proper t k _ y q (c n ps b vs (record { valid = every_right IsTrueClaim (claims_of t n ps a) (claims_of t n ps b) v.below; named = (both_true (is_named t a) (is_named t b) nm).1; scoped = (both_true (is_scoped n a) (is_scoped n b) sc).1; steady = st; sized = e; holds = h }))
layer_parts t k n ps vs (Ex a) c v nm sc st e h (At m) y q = one_proper t k _ y q (under_proper t k n m ps a vs c v.few v.below nm sc st e h)
layer_parts t k n ps vs (Each a) c v nm sc st e h (At m) y q = one_proper t k _ y q (under_proper t k n m ps a vs c v.few v.below nm sc st e h)
layer_parts t k n ps vs (Assert f a) c v nm sc st e h Inner y q = if_proper t k (truth f (whole vs)) (closed a (whole vs)) y (λ b. constrained t k n ps f a vs c v.below nm sc st e h b) q
layer_parts t k n ps vs (Assume f a) c v nm sc st e h Inner y q = if_proper t k (truth f (whole vs)) (closed a (whole vs)) y (λ b. constrained t k n ps f a vs c v.below nm sc st e h b) q
layer_parts t k n ps vs (Pays p a) c v nm sc st e h Inner y q = one_proper t k _ y q (c n ps a vs (record { valid = v.below; named = nm; scoped = (both_true (is_closed n p) (is_scoped n a) sc).1; steady = st; sized = e; holds = h }))
layer_parts t k n ps vs (Gets p a) c v nm sc st e h Inner y q = one_proper t k _ y q (c n ps a vs (record { valid = v.below; named = nm; scoped = (both_true (is_closed n p) (is_scoped n a) sc).1; steady = st; sized = e; holds = h }))
layer_parts t k n ps vs x c v nm sc st e h w y q = cc

-- ---- the head

-- a head has a kind and a figure that isn't negative, and its parts are well formed to the depth
abbrev FineHead : Table → ℕ → Closed → Type 0
FineHead t k h = HasKind h × ((n : ℕ) × (figure_of h ≡ pos n)) × ((w : Way) (x : Closed) → part_of h w ≡ Some x → ProperTo t k x)

layer_figure : (t : Table) (n : ℕ) (ps : List Formula) (vs : List ℕ) (x : Layer) → ValidLayer t n ps x → length vs ≡ n → list_all (λ f. truth f (whole vs)) ps ≡ true → (m : ℕ) × (figure_layer x (whole vs) ≡ pos m)
layer_figure t n ps vs (Assert f a) v e h = (cond (truth f (whole vs)) 1 0, refl)
layer_figure t n ps vs (Assume f a) v e h = (cond (truth f (whole vs)) 1 0, refl)
layer_figure t n ps vs (Pays p a) v e h = nonneg_true p (whole vs) (v.own.0 vs e h)
layer_figure t n ps vs (Gets p a) v e h = nonneg_true p (whole vs) (v.own.0 vs e h)
layer_figure t n ps vs x v e h = (0, refl)

head_fine : (t : Table) (k n : ℕ) (ps : List Formula) (a : Ty) (vs : List ℕ) (kd : Kind) → Claim' t k → Known t n ps a vs → kind_layer (out-Ty a) ≡ Some kd → FineHead t k (closed a (whole vs))
head_fine t k n ps a vs kd c h e =
    let v : ValidLayer t n ps (out-Ty a) = valid_layer t n ps a (out-Ty a) refl h.valid in
    ((kd, e), layer_figure t n ps vs (out-Ty a) v h.sized h.holds, λ w x q. layer_parts t k n ps vs (out-Ty a) c v (named_at t a (out-Ty a) refl h.named) (scoped_at n a (out-Ty a) refl h.scoped) h.steady h.sized h.holds w x q)

-- the arguments of a name are naturals
argument_naturals : (n : ℕ) (ps : List Formula) (vs : List ℕ) (es : List Linear) → AllByRecursion IsTrueClaim (map (λ e. Asks 2 n ps (nonneg e)) es) → length vs ≡ n → list_all (λ f. truth f (whole vs)) ps ≡ true → (ws : List ℕ) × (map (λ e. value e (whole vs)) es ≡ whole ws) × (length ws ≡ length es)
argument_naturals n ps vs [] h e t = ([], refl, refl)
argument_naturals n ps vs (l ∷ es) h e t =
    let r = nonneg_true l (whole vs) (h.0 vs e t) in
    let s = argument_naturals n ps vs es h.1 e t in
    (r.0 ∷ s.0, ap₂ (λ x xs. x ∷ xs) r.1 s.1, ap suc s.2)

-- a name's definition, and the body at the arguments' values
record Opens (t : Table) (k : ℕ) (es : List Linear) (vs : List ℕ) : Type 0 where
  def : TypeDef
  is : slice_get t k ≡ Some def
  ws : List ℕ
  values : map (λ e. value e (whole vs)) es ≡ whole ws
  known : Known t def.params [] def.body ws

so_many : (t : Table) (k m : ℕ) (o : Option TypeDef) → slice_get t k ≡ o → takes_so_many o m ≡ true → (d : TypeDef) × (slice_get t k ≡ Some d) × (d.params ≡ m)
so_many t k m None q h = cc
so_many t k m (Some d) q h = (d, q, eqb-true d.params m h)

opens : (t : Table) (n : ℕ) (ps : List Formula) (a : Ty) (vs : List ℕ) (k : ℕ) (es : List Linear) → ValidDefs t → out-Ty a ≡ Named k es → Known t n ps a vs → Opens t k es vs
opens t n ps a vs k es ds o h =
    let s = so_many t k (length es) (slice_get t k) refl (named_at t a (Named k es) o h.named) in
    let v : ValidLayer t n ps (Named k es) = valid_layer t n ps a (Named k es) o h.valid in
    let r = argument_naturals n ps vs es v.own h.sized h.holds in
    let d : ValidDef t s.0 = ds k s.0 s.1 in
    record { def = s.0; is = s.1; ws = r.0; values = r.1; known = record { valid = d.valid; named = d.named; scoped = d.scoped; steady = tt; sized = r.2 ∙ sym s.2; holds = refl } }

-- a type that leads to no next: its closed form unfolds to a head
not_named_next : (x : Layer) → is_name_layer x ≡ false → is_next_layer x ≡ false → (k : Kind) × (kind_layer x ≡ Some k)
not_named_next One a b = (kind.One, refl)
not_named_next (Plus ts) a b = (kind.Plus, refl)
not_named_next (With ts) a b = (kind.With, refl)
not_named_next (Tensor c d) a b = (kind.Tensor, refl)
not_named_next (Lolli c d) a b = (kind.Lolli, refl)
not_named_next (Named k es) a b = cc
not_named_next (Ex c) a b = (kind.Ex, refl)
not_named_next (Each c) a b = (kind.All, refl)
not_named_next (Assert f c) a b = (kind.Assert, refl)
not_named_next (Assume f c) a b = (kind.Assume, refl)
not_named_next (Pays p c) a b = (kind.Pays, refl)
not_named_next (Gets p c) a b = (kind.Gets, refl)
not_named_next (Next l c) a b = cc

unfold_fine : (t : Table) (k n : ℕ) (ps : List Formula) (a : Ty) (vs : List ℕ) (x : Layer) → ValidDefs t → Claim' t k → out-Ty a ≡ x → Known t n ps a vs → next_layer t x ≡ false → FineHead t k (unfold_layer t (closed a (whole vs)) x)
unfold_fine t k n ps a vs (Named j es) ds c o h nx =
    let r : Opens t j es vs = opens t n ps a vs j es ds o h in
    let d : ValidDef t r.def = ds j r.def r.is in
    let body_next : is_next r.def.body ≡ false = sym (ap next_def r.is) ∙ nx in
    let kd = not_named_next (out-Ty r.def.body) d.unnamed body_next in
    subst (FineHead t k) (sym (ap (λ y. body_or (closed a (whole vs)) y (map (λ e. value e (whole vs)) es)) r.is ∙ ap (closed r.def.body) r.values)) (head_fine t k r.def.params [] r.def.body r.ws kd.0 c r.known kd.1)
unfold_fine t k n ps a vs One ds c o h nx = head_fine t k n ps a vs kind.One c h (ap kind_layer o)
unfold_fine t k n ps a vs (Plus ts) ds c o h nx = head_fine t k n ps a vs kind.Plus c h (ap kind_layer o)
unfold_fine t k n ps a vs (With ts) ds c o h nx = head_fine t k n ps a vs kind.With c h (ap kind_layer o)
unfold_fine t k n ps a vs (Tensor x y) ds c o h nx = head_fine t k n ps a vs kind.Tensor c h (ap kind_layer o)
unfold_fine t k n ps a vs (Lolli x y) ds c o h nx = head_fine t k n ps a vs kind.Lolli c h (ap kind_layer o)
unfold_fine t k n ps a vs (Ex x) ds c o h nx = head_fine t k n ps a vs kind.Ex c h (ap kind_layer o)
unfold_fine t k n ps a vs (Each x) ds c o h nx = head_fine t k n ps a vs kind.All c h (ap kind_layer o)
unfold_fine t k n ps a vs (Assert f x) ds c o h nx = head_fine t k n ps a vs kind.Assert c h (ap kind_layer o)
unfold_fine t k n ps a vs (Assume f x) ds c o h nx = head_fine t k n ps a vs kind.Assume c h (ap kind_layer o)
unfold_fine t k n ps a vs (Pays p x) ds c o h nx = head_fine t k n ps a vs kind.Pays c h (ap kind_layer o)
unfold_fine t k n ps a vs (Gets p x) ds c o h nx = head_fine t k n ps a vs kind.Gets c h (ap kind_layer o)
unfold_fine t k n ps a vs (Next l x) ds c o h nx = let z : true ≡ false = nx in cc

-- the body of a next
next_known : (t : Table) (n : ℕ) (ps : List Formula) (a : Ty) (vs : List ℕ) (l : Linear) (b : Ty) → out-Ty a ≡ Next l b → Known t n ps a vs → Known t n ps b vs × (next_layer t (out-Ty b) ≡ false)
next_known t n ps a vs l b o h =
    let v : ValidLayer t n ps (Next l b) = valid_layer t n ps a (Next l b) o h.valid in
    let shape : not (leads_to_next t (claimed t b).tree) ≡ true = v.own.1.0 in (
      record { valid = v.below; named = named_at t a (Next l b) o h.named; scoped = (both_true (is_closed n l) (is_scoped n b) (scoped_at n a (Next l b) o h.scoped)).1; steady = h.steady; sized = h.sized; holds = h.holds },
      not_not (leads_to_next t b) (subst (λ y. not (leads_to_next t y) ≡ true) (tree_kept t b) shape),
    )
  where
    not_not : (b : Bool) → not b ≡ true → b ≡ false
    not_not true e = cc
    not_not false e = refl

-- a type that is no name, exposed
plain_fine : (t : Table) (k n : ℕ) (ps : List Formula) (a : Ty) (vs : List ℕ) (x : Layer) → ValidDefs t → Claim' t k → out-Ty a ≡ x → Known t n ps a vs → is_name_layer x ≡ false → FineHead t k (exposed_layer t (closed a (whole vs)) x).head
plain_fine t k n ps a vs (Named j es) ds c o h nm = cc
plain_fine t k n ps a vs (Next l b) ds c o h nm = let r = next_known t n ps a vs l b o h in unfold_fine t k n ps b vs (out-Ty b) ds c refl r.0 r.1
plain_fine t k n ps a vs One ds c o h nm = head_fine t k n ps a vs kind.One c h (ap kind_layer o)
plain_fine t k n ps a vs (Plus ts) ds c o h nm = head_fine t k n ps a vs kind.Plus c h (ap kind_layer o)
plain_fine t k n ps a vs (With ts) ds c o h nm = head_fine t k n ps a vs kind.With c h (ap kind_layer o)
plain_fine t k n ps a vs (Tensor x y) ds c o h nm = head_fine t k n ps a vs kind.Tensor c h (ap kind_layer o)
plain_fine t k n ps a vs (Lolli x y) ds c o h nm = head_fine t k n ps a vs kind.Lolli c h (ap kind_layer o)
plain_fine t k n ps a vs (Ex x) ds c o h nm = head_fine t k n ps a vs kind.Ex c h (ap kind_layer o)
plain_fine t k n ps a vs (Each x) ds c o h nm = head_fine t k n ps a vs kind.All c h (ap kind_layer o)
plain_fine t k n ps a vs (Assert f x) ds c o h nm = head_fine t k n ps a vs kind.Assert c h (ap kind_layer o)
plain_fine t k n ps a vs (Assume f x) ds c o h nm = head_fine t k n ps a vs kind.Assume c h (ap kind_layer o)
plain_fine t k n ps a vs (Pays p x) ds c o h nm = head_fine t k n ps a vs kind.Pays c h (ap kind_layer o)
plain_fine t k n ps a vs (Gets p x) ds c o h nm = head_fine t k n ps a vs kind.Gets c h (ap kind_layer o)

abbrev expose_at : Table → Closed → Exposed
expose_at t c = exposed_layer t c (out-Ty c.ty)

exposed_fine : (t : Table) (k n : ℕ) (ps : List Formula) (a : Ty) (vs : List ℕ) (x : Layer) → ValidDefs t → Claim' t k → out-Ty a ≡ x → Known t n ps a vs → FineHead t k (expose_at t (unfold_layer t (closed a (whole vs)) x)).head
exposed_fine t k n ps a vs (Named j es) ds c o h =
    let r : Opens t j es vs = opens t n ps a vs j es ds o h in
    subst (λ y. FineHead t k (expose_at t y).head) (sym (ap (λ y. body_or (closed a (whole vs)) y (map (λ e. value e (whole vs)) es)) r.is ∙ ap (closed r.def.body) r.values)) (plain_fine t k r.def.params [] r.def.body r.ws (out-Ty r.def.body) ds c refl r.known (ds j r.def r.is).unnamed)
exposed_fine t k n ps a vs One ds c o h = plain_fine t k n ps a vs (out-Ty a) ds c refl h (ap is_name_layer o)
exposed_fine t k n ps a vs (Plus ts) ds c o h = plain_fine t k n ps a vs (out-Ty a) ds c refl h (ap is_name_layer o)
exposed_fine t k n ps a vs (With ts) ds c o h = plain_fine t k n ps a vs (out-Ty a) ds c refl h (ap is_name_layer o)
exposed_fine t k n ps a vs (Tensor x y) ds c o h = plain_fine t k n ps a vs (out-Ty a) ds c refl h (ap is_name_layer o)
exposed_fine t k n ps a vs (Lolli x y) ds c o h = plain_fine t k n ps a vs (out-Ty a) ds c refl h (ap is_name_layer o)
exposed_fine t k n ps a vs (Ex x) ds c o h = plain_fine t k n ps a vs (out-Ty a) ds c refl h (ap is_name_layer o)
exposed_fine t k n ps a vs (Each x) ds c o h = plain_fine t k n ps a vs (out-Ty a) ds c refl h (ap is_name_layer o)
exposed_fine t k n ps a vs (Assert f x) ds c o h = plain_fine t k n ps a vs (out-Ty a) ds c refl h (ap is_name_layer o)
exposed_fine t k n ps a vs (Assume f x) ds c o h = plain_fine t k n ps a vs (out-Ty a) ds c refl h (ap is_name_layer o)
exposed_fine t k n ps a vs (Pays p x) ds c o h = plain_fine t k n ps a vs (out-Ty a) ds c refl h (ap is_name_layer o)
exposed_fine t k n ps a vs (Gets p x) ds c o h = plain_fine t k n ps a vs (out-Ty a) ds c refl h (ap is_name_layer o)
exposed_fine t k n ps a vs (Next l x) ds c o h = plain_fine t k n ps a vs (out-Ty a) ds c refl h (ap is_name_layer o)

proper_claim : (t : Table) (k : ℕ) → ValidDefs t → Claim' t k
proper_claim t zero ds = λ n ps a vs h. tt
proper_claim t (suc k) ds = λ n ps a vs h. let r = exposed_fine t k n ps a vs (out-Ty a) ds (proper_claim t k ds) refl h in (r.0, r.1, r.2)

-- a valid type is well formed at all naturals at which its premises are true
pub proper_under : (t : Table) (n : ℕ) (ps : List Formula) (a : Ty) (vs : List ℕ) → ValidDefs t → ValidAt t n ps a → is_named t a ≡ true → is_scoped n a ≡ true → AreSteady n ps → length vs ≡ n → list_all (λ f. truth f (whole vs)) ps ≡ true → Proper t (closed a (whole vs))
proper_under t n ps a vs ds v nm sc st e h = λ k. proper_claim t k ds n ps a vs (record { valid = v; named = nm; scoped = sc; steady = st; sized = e; holds = h })

-- a valid type is well formed at all naturals
pub valid_proper : (t : Table) (n : ℕ) (a : Ty) (vs : List ℕ) → ValidDefs t → ValidAt t n [] a → is_named t a ≡ true → is_scoped n a ≡ true → length vs ≡ n → Proper t (closed a (whole vs))
valid_proper t n a vs ds v nm sc e = proper_under t n [] a vs ds v nm sc tt e refl

-- ---- tables that are valid

-- no definition of a valid table stands for a name
unnamed_defs : (t u : Table) (k : ℕ) (d : TypeDef) → AllByRecursion (λ e. All IsTrueClaim (def_claims t e)) u → slice_get u k ≡ Some d → is_name d.body ≡ false
unnamed_defs t u k d h e =
    let r : AllByRecursion IsTrueClaim (def_claims t d) = recursion_from_All IsTrueClaim (def_claims t d) (every_get (λ e. All IsTrueClaim (def_claims t e)) u k d h e) in
    flipped (is_name d.body) r.0
  where
    flipped : (b : Bool) → not b ≡ true → b ≡ false
    flipped true h = cc
    flipped false h = refl

pub table_unnamed : (t : Table) → IsValidTable t → Unnamed t
table_unnamed t v = λ k d e. unnamed_defs t t k d (recursion_from_All (λ e. All IsTrueClaim (def_claims t e)) t v) e

-- definitions that are defined and valid
pub table_valid : (t : Table) → All (λ d. IsDefined t d.params d.body) t → IsValidTable t → ValidDefs t
table_valid t n v k d e =
    let h : AllByRecursion IsTrueClaim (def_claims t d) = recursion_from_All IsTrueClaim (def_claims t d) (all_get (λ d. All IsTrueClaim (def_claims t d)) t k d v e) in
    let m : IsDefined t d.params d.body = all_get (λ d. IsDefined t d.params d.body) t k d n e in
    record { unnamed = table_unnamed t v k d e; valid = h.1; named = m.named; scoped = m.scoped }
