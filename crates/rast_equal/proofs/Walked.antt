-- Types whose walk is good are equal, where those are of which one is a name.
use Rattle.std.proofs.Common.{◌≡◌, ℕ, suc, ℤ, pos, ◌≤◌, Bool, true, false, ◌||◌, List, [], ◌∷◌, map, length, Option, Some, None, slice_get, refl, sym, ap, ap₂, ◌∙◌, subst, subst₂, eqb-true, ltb-false}
use Rattle.std.specs.Prelude.{nat_lt, ◌==◌, if◌then◌else◌}
use Rattle.std.specs.List.{AllByRecursion}
use Rattle.rast_index.specs.Linear.{Linear, value, whole, fixed, is_closed}
use Rattle.rast_index.specs.Truth.{is_equal}
use Rattle.rast_index.proofs.Scope.{both_true}
use Rattle.rast_index.proofs.Values.{value_fixed}
use Rattle.rast_types.specs.declared.table.TypeDef.{TypeDef}
use Rattle.rast_types.specs.declared.ty.Ty.{Ty, out-Ty}
use Rattle.rast_types.specs.declared.ty.Ty.TheOpen.{One, Plus, With, Tensor, Lolli, Named, Ex, All as Each, Assert, Assume, Pays, Gets, Next}
use Rattle.rast_types.specs.Closed.{Closed, closed, Table, Layer, part_of, kind_layer, Agree, EqualTo, Exposed, exposed, body_or, unfold_layer, unfolded}
use Rattle.rast_types.specs.Symbolic.{is_name, is_name_layer, is_next, is_next_layer, is_scoped, timed, timed_layer, Timed}
use Rattle.rast_equal.specs.WellMadeTypes.{takes_so_many}
use Rattle.rast_equal.specs.declared.place.Place.{Place}
use Rattle.rast_equal.specs.declared.met.Met.TheVariants.{Wants}
use Rattle.rast_equal.specs.Walk.{IsTruePoint, Wanted, meets, names_layer, equal_points}
use Rattle.rast_equal.proofs.Walks.{meets_over, meets_name, meets_left, meets_right, meets_heads}
use Rattle.rast_equal.proofs.Equals.{SameHeads, HasKind}
use Rattle.rast_equal.proofs.Unfolds.{unfolds_equal, unfolds_plain, next_exposes, unfolds_exposes, plain_unfolds}
use Rattle.rast_equal.proofs.Proper.{Proper, proper_head, proper_heads, proper_part}
use Rattle.rast_equal.proofs.Exposing.{heads_refl}
use Rattle.rast_equal.proofs.Truths.{equal_true}
use Rattle.rast_equal.proofs.WellFormed.{named_layer, named_at, scoped_at}
use Rattle.rast_equal.proofs.Good.{AllGood, ByName}
use Rattle.rast_equal.proofs.Agreeing.{Valued, Fit, Claim, HeadFit, heads_agree}

-- two types of which one is a name are equal to the depth, where R says that they are the same
abbrev pub NamesClaim : (Place → Ty → Ty → Type 0) → Table → ℕ → Type 0
NamesClaim R t k = (p : Place) (a b : Ty) (vs : List ℕ) → Valued p vs → Fit t p.vars vs a → Fit t p.vars vs b → p.vars ≤ 16 → R p a b → EqualTo t k (closed a (whole vs)) (closed b (whole vs))

-- ---- names with equal arguments

equal_values : (p : Place) (vs : List ℕ) (xs ys : List Linear) → Valued p vs → length xs ≡ length ys → AllByRecursion IsTruePoint (equal_points p xs ys) → map (λ e. value e (whole vs)) xs ≡ map (λ e. value e (whole vs)) ys
equal_values p vs [] [] v e h = refl
equal_values p vs [] (y ∷ ys) v e h = cc
equal_values p vs (x ∷ xs) [] v e h = cc
equal_values p vs (x ∷ xs) (y ∷ ys) v e h = ap₂ (λ z zs. z ∷ zs) (equal_true x y (whole vs) (h.0 vs v.sized v.holds)) (equal_values p vs xs ys v (let s : length xs ≡ length ys = cc in s) h.1)

same_length : (o : Option TypeDef) (m n : ℕ) → takes_so_many o m ≡ true → takes_so_many o n ≡ true → m ≡ n
same_length None m n h k = cc
same_length (Some d) m n h k = sym (eqb-true d.params m h) ∙ eqb-true d.params n k

named_unfolds : (t : Table) (a b : Closed) (xs ys : List Linear) (o : Option TypeDef) → takes_so_many o (length xs) ≡ true → map (λ e. value e a.at) xs ≡ map (λ e. value e b.at) ys → body_or a o (map (λ e. value e a.at) xs) ≡ body_or b o (map (λ e. value e b.at) ys)
named_unfolds t a b xs ys None h e = cc
named_unfolds t a b xs ys (Some d) h e = ap (closed d.body) e

name_layers : (t : Table) (k : ℕ) (p : Place) (a b : Ty) (vs : List ℕ) (x y : Layer) → Valued p vs → out-Ty a ≡ x → out-Ty b ≡ y → named_layer t x ≡ true → named_layer t y ≡ true → AllByRecursion IsTruePoint (names_layer p x y) → EqualTo t k (closed a (whole vs)) (closed b (whole vs))
name_layers t k p a b vs (Named i xs) (Named j ys) v o u f g h = pick (i == j) refl h
  where
    pick : (q : Bool) → (i == j) ≡ q → AllByRecursion IsTruePoint (if q then equal_points p xs ys else Wanted p.path ∷ []) → EqualTo t k (closed a (whole vs)) (closed b (whole vs))
    pick false e h = absurd h.0
    pick true e h =
        let s : i ≡ j = eqb-true i j e in
        let g' : takes_so_many (slice_get t i) (length ys) ≡ true = ap (λ n. takes_so_many (slice_get t n) (length ys)) s ∙ g in
        let l : length xs ≡ length ys = same_length (slice_get t i) (length xs) (length ys) f g' in
        let z : map (λ e. value e (whole vs)) xs ≡ map (λ e. value e (whole vs)) ys = equal_values p vs xs ys v l h in
        let w : unfold_layer t (closed a (whole vs)) (Named i xs) ≡ unfold_layer t (closed b (whole vs)) (Named i ys) = named_unfolds t (closed a (whole vs)) (closed b (whole vs)) xs ys (slice_get t i) f z in
        unfolds_equal t k (closed a (whole vs)) (closed b (whole vs)) (ap (unfold_layer t (closed a (whole vs))) o ∙ (w ∙ (ap (λ n. unfold_layer t (closed b (whole vs)) (Named n ys)) s ∙ ap (unfold_layer t (closed b (whole vs))) (sym u))))
name_layers t k p a b vs x y v o u f g h = absurd h.0

pub by_name_equal : (t : Table) (k : ℕ) → NamesClaim ByName t k
by_name_equal t k p a b vs v f g few h = name_layers t k p a b vs (out-Ty a) (out-Ty b) v refl refl (named_at t a (out-Ty a) refl f.named) (named_at t b (out-Ty b) refl g.named) h

-- ---- types that unfold to a head

kind_no_next : (x : Layer) → is_next_layer x ≡ true → kind_layer x ≡ None
kind_no_next (Next l a) h = refl
kind_no_next One h = cc
kind_no_next (Plus ts) h = cc
kind_no_next (With ts) h = cc
kind_no_next (Tensor a b) h = cc
kind_no_next (Lolli a b) h = cc
kind_no_next (Named k es) h = cc
kind_no_next (Ex a) h = cc
kind_no_next (Each a) h = cc
kind_no_next (Assert f a) h = cc
kind_no_next (Assume f a) h = cc
kind_no_next (Pays p a) h = cc
kind_no_next (Gets p a) h = cc

-- what has a kind is no next
kind_plain : (c : Closed) → HasKind c → is_next c.ty ≡ false
kind_plain c h = pick (is_next c.ty) refl
  where
    pick : (b : Bool) → is_next c.ty ≡ b → is_next c.ty ≡ false
    pick false e = e
    pick true e = let z : None ≡ Some h.0 = sym (kind_no_next (out-Ty c.ty) e) ∙ h.1 in cc

-- a head that is well formed
head_fit : (t : Table) (n : ℕ) (vs : List ℕ) (a : Ty) → Fit t n vs a → exposed t (closed a (whole vs)) ≡ record { ticks = pos 0; head = closed a (whole vs) } → HeadFit t n vs (out-Ty a)
head_fit t n vs a f e = record {
  named = named_at t a (out-Ty a) refl f.named;
  scoped = scoped_at n a (out-Ty a) refl f.scoped;
  parts = λ w c q. proper_part t (closed a (whole vs)) w c f.proper (ap (λ x. part_of x.head w) e ∙ q);
}

-- the unfolded types agree
flat_agree : (R : Place → Ty → Ty → Type 0) (t : Table) (k : ℕ) → Claim R t k → NamesClaim R t (suc k) → (p : Place) (a b : Ty) (vs : List ℕ) → Valued p vs → Fit t p.vars vs a → Fit t p.vars vs b → HasKind (unfolded t (closed a (whole vs))) → HasKind (unfolded t (closed b (whole vs))) → AllGood R (meets a b p) → Agree (EqualTo t k) (unfolded t (closed a (whole vs))) (unfolded t (closed b (whole vs)))
flat_agree R t k c names p a b vs v f g ka kb h = over (nat_lt 16 p.vars) refl
  where
    plain : (m n : Bool) → is_name a ≡ m → is_name b ≡ n → m || n ≡ false → nat_lt 16 p.vars ≡ false → Agree (EqualTo t k) (unfolded t (closed a (whole vs))) (unfolded t (closed b (whole vs)))
    plain true n x y z e = cc
    plain false true x y z e = cc
    plain false false x y z e =
        let ua : unfolded t (closed a (whole vs)) ≡ closed a (whole vs) = unfolds_plain t (closed a (whole vs)) x in
        let ub : unfolded t (closed b (whole vs)) ≡ closed b (whole vs) = unfolds_plain t (closed b (whole vs)) y in
        let na : is_next a ≡ false = kind_plain (closed a (whole vs)) (subst HasKind ua ka) in
        let nb : is_next b ≡ false = kind_plain (closed b (whole vs)) (subst HasKind ub kb) in
        let i : exposed t (closed a (whole vs)) ≡ record { ticks = pos 0; head = closed a (whole vs) } = unfolds_exposes t (closed a (whole vs)) ka ∙ ap (λ u. let r : Exposed = record { ticks = pos 0; head = u } in r) ua in
        let j : exposed t (closed b (whole vs)) ≡ record { ticks = pos 0; head = closed b (whole vs) } = unfolds_exposes t (closed b (whole vs)) kb ∙ ap (λ u. let r : Exposed = record { ticks = pos 0; head = u } in r) ub in
        subst₂ (Agree (EqualTo t k)) (sym ua) (sym ub) (heads_agree R t k c p vs v a b (head_fit t p.vars vs a f i) (head_fit t p.vars vs b g j) (subst (AllGood R) (meets_heads a b p e x y na nb) h).1)

    name : (m : Bool) → (is_name a || is_name b) ≡ m → nat_lt 16 p.vars ≡ false → Agree (EqualTo t k) (unfolded t (closed a (whole vs))) (unfolded t (closed b (whole vs)))
    name true z e =
        let r : EqualTo t (suc k) (closed a (whole vs)) (closed b (whole vs)) = names p a b vs v f g (ltb-false 16 p.vars e) (subst (AllGood R) (meets_name a b p e z) h).0 in
        subst₂ (λ x y. Agree (EqualTo t k) x.head y.head) (unfolds_exposes t (closed a (whole vs)) ka) (unfolds_exposes t (closed b (whole vs)) kb) r.1
    name false z e = plain (is_name a) (is_name b) refl refl z e

    over : (o : Bool) → nat_lt 16 p.vars ≡ o → Agree (EqualTo t k) (unfolded t (closed a (whole vs))) (unfolded t (closed b (whole vs)))
    over true e = absurd (subst (AllGood R) (meets_over a b p e) h).0
    over false e = name (is_name a || is_name b) refl e

-- ---- ticks

-- ticks and body of a type that is no name: its ticks when closed, and the head to which the body unfolds
record TimedFit (t : Table) (n : ℕ) (vs : List ℕ) (a : Ty) (e : Timed) : Type 0 where
  exposes : exposed t (closed a (whole vs)) ≡ record { ticks = value e.ticks (whole vs); head = unfolded t (closed e.body (whole vs)) }
  flat : HasKind (unfolded t (closed e.body (whole vs)))
  body : Fit t n vs e.body

flat_fit : (t : Table) (n : ℕ) (vs : List ℕ) (a b : Ty) (z : ℤ) → exposed t (closed a (whole vs)) ≡ record { ticks = z; head = unfolded t (closed b (whole vs)) } → Proper t (closed a (whole vs)) → HasKind (unfolded t (closed b (whole vs))) × Proper t (closed b (whole vs))
flat_fit t n vs a b z e h =
    let k : HasKind (unfolded t (closed b (whole vs))) = subst (λ x. HasKind x.head) e (proper_head t (closed a (whole vs)) h) in
    let s : SameHeads t (exposed t (closed a (whole vs))).head (exposed t (closed b (whole vs))).head = subst₂ (λ x y. SameHeads t x.head y.head) (sym e) (sym (unfolds_exposes t (closed b (whole vs)) k)) (heads_refl t (unfolded t (closed b (whole vs)))) in
    (k, proper_heads t (closed a (whole vs)) (closed b (whole vs)) s h)

timed_next : (t : Table) (n : ℕ) (vs : List ℕ) (a : Ty) (l : Linear) (b : Ty) → out-Ty a ≡ Next l b → Fit t n vs a → TimedFit t n vs a (record { ticks = l; body = b })
timed_next t n vs a l b o f =
    let e : exposed t (closed a (whole vs)) ≡ record { ticks = value l (whole vs); head = unfolded t (closed b (whole vs)) } = next_exposes t (closed a (whole vs)) l b o in
    let r = flat_fit t n vs a b (value l (whole vs)) e f.proper in
    record { exposes = e; flat = r.0; body = record { named = named_at t a (Next l b) o f.named; scoped = (both_true (is_closed n l) (is_scoped n b) (scoped_at n a (Next l b) o f.scoped)).1; proper = r.1 } }

timed_plain : (t : Table) (n : ℕ) (vs : List ℕ) (a : Ty) → is_name a ≡ false → is_next a ≡ false → Fit t n vs a → TimedFit t n vs a (record { ticks = fixed (pos 0); body = a })
timed_plain t n vs a m x f =
    let u : unfolded t (closed a (whole vs)) ≡ closed a (whole vs) = unfolds_plain t (closed a (whole vs)) m in
    let e : exposed t (closed a (whole vs)) ≡ record { ticks = value (fixed (pos 0)) (whole vs); head = unfolded t (closed a (whole vs)) } = plain_unfolds t (closed a (whole vs)) (ap (λ c. is_next c.ty) u ∙ x) ∙ ap (λ z. let r : Exposed = record { ticks = z; head = unfolded t (closed a (whole vs)) } in r) (sym (value_fixed (pos 0) (whole vs))) in
    record { exposes = e; flat = (flat_fit t n vs a a (value (fixed (pos 0)) (whole vs)) e f.proper).0; body = f }

timed_layers : (t : Table) (n : ℕ) (vs : List ℕ) (a : Ty) (x : Layer) → out-Ty a ≡ x → is_name_layer x ≡ false → Fit t n vs a → TimedFit t n vs a (timed_layer a x)
timed_layers t n vs a (Next l b) o m f = timed_next t n vs a l b o f
timed_layers t n vs a (Named k es) o m f = cc
timed_layers t n vs a One o m f = timed_plain t n vs a (ap is_name_layer o) (ap is_next_layer o) f
timed_layers t n vs a (Plus ts) o m f = timed_plain t n vs a (ap is_name_layer o) (ap is_next_layer o) f
timed_layers t n vs a (With ts) o m f = timed_plain t n vs a (ap is_name_layer o) (ap is_next_layer o) f
timed_layers t n vs a (Tensor b d) o m f = timed_plain t n vs a (ap is_name_layer o) (ap is_next_layer o) f
timed_layers t n vs a (Lolli b d) o m f = timed_plain t n vs a (ap is_name_layer o) (ap is_next_layer o) f
timed_layers t n vs a (Ex b) o m f = timed_plain t n vs a (ap is_name_layer o) (ap is_next_layer o) f
timed_layers t n vs a (Each b) o m f = timed_plain t n vs a (ap is_name_layer o) (ap is_next_layer o) f
timed_layers t n vs a (Assert g b) o m f = timed_plain t n vs a (ap is_name_layer o) (ap is_next_layer o) f
timed_layers t n vs a (Assume g b) o m f = timed_plain t n vs a (ap is_name_layer o) (ap is_next_layer o) f
timed_layers t n vs a (Pays p b) o m f = timed_plain t n vs a (ap is_name_layer o) (ap is_next_layer o) f
timed_layers t n vs a (Gets p b) o m f = timed_plain t n vs a (ap is_name_layer o) (ap is_next_layer o) f

-- types that are no names, whose ticks are equal and the walk of whose bodies is good
ticked : (R : Place → Ty → Ty → Type 0) (t : Table) (k : ℕ) → Claim R t k → NamesClaim R t (suc k) → (p : Place) (a b : Ty) (e f : Timed) (vs : List ℕ) → Valued p vs → TimedFit t p.vars vs a e → TimedFit t p.vars vs b f → value e.ticks (whole vs) ≡ value f.ticks (whole vs) → AllGood R (meets e.body f.body p) → EqualTo t (suc k) (closed a (whole vs)) (closed b (whole vs))
ticked R t k c names p a b e f vs v x y q h =
    let r : Agree (EqualTo t k) (unfolded t (closed e.body (whole vs))) (unfolded t (closed f.body (whole vs))) = flat_agree R t k c names p e.body f.body vs v x.body y.body x.flat y.flat h in
    subst₂ (λ u w. (let m : Exposed = u in let n : Exposed = w in (m.ticks ≡ n.ticks) × Agree (EqualTo t k) m.head n.head)) (sym x.exposes) (sym y.exposes) (q, r)

-- one depth further
pub claim_step : (R : Place → Ty → Ty → Type 0) (t : Table) (k : ℕ) → Claim R t k → NamesClaim R t (suc k) → Claim R t (suc k)
claim_step R t k c names p a b vs v f g h = over (nat_lt 16 p.vars) refl
  where
    both : is_name a ≡ false → is_name b ≡ false → (AllGood R (meets a b p) → AllGood R (Wants p (is_equal (timed a).ticks (timed b).ticks) ∷ meets (timed a).body (timed b).body p)) → EqualTo t (suc k) (closed a (whole vs)) (closed b (whole vs))
    both x y s =
        let r = s h in
        ticked R t k c names p a b (timed a) (timed b) vs v (timed_layers t p.vars vs a (out-Ty a) refl x f) (timed_layers t p.vars vs b (out-Ty b) refl y g) (equal_true (timed a).ticks (timed b).ticks (whole vs) (r.0 vs v.sized v.holds)) r.1

    nexts : (m n : Bool) → is_next a ≡ m → is_next b ≡ n → nat_lt 16 p.vars ≡ false → is_name a ≡ false → is_name b ≡ false → EqualTo t (suc k) (closed a (whole vs)) (closed b (whole vs))
    nexts true n i j e x y = both x y (subst (AllGood R) (meets_left a b p e x y i))
    nexts false true i j e x y = both x y (subst (AllGood R) (meets_right a b p e x y i j))
    nexts false false i j e x y =
        let ta = timed_plain t p.vars vs a x i f in
        let tb = timed_plain t p.vars vs b y j g in
        ticked R t k c names p a b (record { ticks = fixed (pos 0); body = a }) (record { ticks = fixed (pos 0); body = b }) vs v ta tb refl h

    names_of : (m n : Bool) → is_name a ≡ m → is_name b ≡ n → m || n ≡ false → nat_lt 16 p.vars ≡ false → EqualTo t (suc k) (closed a (whole vs)) (closed b (whole vs))
    names_of true n x y z e = cc
    names_of false true x y z e = cc
    names_of false false x y z e = nexts (is_next a) (is_next b) refl refl e x y

    name : (m : Bool) → (is_name a || is_name b) ≡ m → nat_lt 16 p.vars ≡ false → EqualTo t (suc k) (closed a (whole vs)) (closed b (whole vs))
    name true z e = names p a b vs v f g (ltb-false 16 p.vars e) (subst (AllGood R) (meets_name a b p e z) h).0
    name false z e = names_of (is_name a) (is_name b) refl refl z e

    over : (o : Bool) → nat_lt 16 p.vars ≡ o → EqualTo t (suc k) (closed a (whole vs)) (closed b (whole vs))
    over true e = absurd (subst (AllGood R) (meets_over a b p e) h).0
    over false e = name (is_name a || is_name b) refl e
