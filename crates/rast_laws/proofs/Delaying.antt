-- A type before and after a delay.
use Rattle.std.proofs.Common.{◌≡◌, ℕ, ℤ, pos, Bool, true, false, ◌&&◌, refl, sym, ap, ap₂, ◌∙◌, if◌then◌else◌}
use Rattle.rast_index.specs.Linear.{Linear, fixed, less, is_closed, is_nought}
use Rattle.rast_index.proofs.Scope.{both_true}
use Rattle.rast_types.specs.declared.ty.Ty.{Ty, out-Ty}
use Rattle.rast_types.specs.declared.ty.Ty.TheOpen.{Next}
use Rattle.rast_types.specs.declared.ty.Ty.TheVariants as ty
use Rattle.rast_types.specs.Closed.{Table, Layer}
use Rattle.rast_types.specs.Symbolic.{is_scoped, opened, timed, timed_layer, Timed, before_delay, after_delay, is_next}
use Rattle.rast_equal.proofs.Within.{Within, within_closed, closed_less, closed_from, tab_zero}
use Rattle.rast_equal.proofs.Scoped.{scoped_out, scoped_layer, opened_scoped}

pub closed_fixed : (n : ℕ) (z : ℤ) → is_closed n (fixed z) ≡ true
closed_fixed n z = closed_from n (fixed z) (λ j a. tab_zero (λ i. pos 0) 0 16 j (λ b. refl))

pub scoped_next : (n : ℕ) (l : Linear) (a : Ty) → is_closed n l ≡ true → is_scoped n a ≡ true → is_scoped n (ty.Next l a) ≡ true
scoped_next n l a c s = scoped_out n (ty.Next l a) ∙ (ap (scoped_layer n) (ty.outs-Next l a) ∙ ap₂ (λ (x y : Bool). x && y) c s)

next_parts : (n : ℕ) (a : Ty) (x : Layer) → out-Ty a ≡ x → is_scoped n a ≡ true → (is_closed n (timed_layer a x).ticks ≡ true) × (is_scoped n (timed_layer a x).body ≡ true)
next_parts n a (Next l b) o s = both_true (is_closed n l) (is_scoped n b) (ap (scoped_layer n) (sym o) ∙ (sym (scoped_out n a) ∙ s))
next_parts n a x o s = (closed_fixed n (pos 0), s)

before_parts : (n : ℕ) (a u : Ty) (b : Bool) → is_scoped n a ≡ true → is_scoped n u ≡ true → let e : Timed = (if b then timed u else record { ticks = fixed (pos 0); body = a }) in (is_closed n e.ticks ≡ true) × (is_scoped n e.body ≡ true)
before_parts n a u true s r = next_parts n u (out-Ty u) refl r
before_parts n a u false s r = (closed_fixed n (pos 0), s)

-- ticks and body are in scope
pub before_scoped : (t : Table) (n : ℕ) (a : Ty) → is_scoped n a ≡ true → (is_closed n (before_delay t n a).ticks ≡ true) × (is_scoped n (before_delay t n a).body ≡ true)
before_scoped t n a s = before_parts n a (opened t n a) (is_next (opened t n a)) s (opened_scoped t n a s)

timed_type_scoped : (n : ℕ) (e : Timed) (b : Bool) → is_closed n e.ticks ≡ true → is_scoped n e.body ≡ true → is_scoped n (if b then e.body else ty.Next e.ticks e.body) ≡ true
timed_type_scoped n e true c s = s
timed_type_scoped n e false c s = scoped_next n e.ticks e.body c s

pub after_scoped : (t : Table) (n : ℕ) (by : Linear) (provided : Bool) (a : Ty) → Within n by → is_scoped n a ≡ true → is_scoped n (after_delay t n by provided a) ≡ true
after_scoped t n by provided a h s =
    let e : Timed = before_delay t n a in
    let p = before_scoped t n a s in
    let r : Timed = record e { ticks = less e.ticks by } in
    timed_type_scoped n r (is_nought r.ticks) (closed_less n e.ticks by (within_closed n e.ticks p.0) h) p.1
