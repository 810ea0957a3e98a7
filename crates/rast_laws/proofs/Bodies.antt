-- Which bodies fit a head of each kind.
use Rattle.std.proofs.Common.{◌≡◌, ℕ, ℤ, pos, Some, refl}
use Rattle.rast_types.specs.declared.ty.Kind.TheVariants as kind
use Rattle.rast_laws.specs.Typed.{FitsKind}
use Rattle.rast_order.proofs.Words.{Link, Body, Label, End, Chan, Nat, Assert, Pay}

abbrev pub BringsLabel : Body → ℕ → Type 0
BringsLabel b q = (l : ℕ) × (b ≡ Label l) × (q ≡ 0)

abbrev pub BringsChan : Body → ℕ → Type 0
BringsChan b q = (l : Link) × (b ≡ Chan l) × (q ≡ 0)

abbrev pub BringsNat : Body → ℕ → Type 0
BringsNat b q = (n : ℕ) × (b ≡ Nat n) × (q ≡ 0)

pub plus_fits : (z : ℤ) (b : Body) (q : ℕ) → FitsKind (Some kind.Plus) z b q → BringsLabel b q
plus_fits z (Label l) q h = (l, refl, h)
plus_fits z End q h = absurd h
plus_fits z (Chan c) q h = absurd h
plus_fits z (Nat n) q h = absurd h
plus_fits z Assert q h = absurd h
plus_fits z Pay q h = absurd h

pub with_fits : (z : ℤ) (b : Body) (q : ℕ) → FitsKind (Some kind.With) z b q → BringsLabel b q
with_fits z (Label l) q h = (l, refl, h)
with_fits z End q h = absurd h
with_fits z (Chan c) q h = absurd h
with_fits z (Nat n) q h = absurd h
with_fits z Assert q h = absurd h
with_fits z Pay q h = absurd h

pub one_fits : (z : ℤ) (b : Body) (q : ℕ) → FitsKind (Some kind.One) z b q → (b ≡ End) × (q ≡ 0)
one_fits z (Label l) q h = absurd h
one_fits z End q h = (refl, h)
one_fits z (Chan c) q h = absurd h
one_fits z (Nat n) q h = absurd h
one_fits z Assert q h = absurd h
one_fits z Pay q h = absurd h

pub tensor_fits : (z : ℤ) (b : Body) (q : ℕ) → FitsKind (Some kind.Tensor) z b q → BringsChan b q
tensor_fits z (Label l) q h = absurd h
tensor_fits z End q h = absurd h
tensor_fits z (Chan c) q h = (c, refl, h)
tensor_fits z (Nat n) q h = absurd h
tensor_fits z Assert q h = absurd h
tensor_fits z Pay q h = absurd h

pub lolli_fits : (z : ℤ) (b : Body) (q : ℕ) → FitsKind (Some kind.Lolli) z b q → BringsChan b q
lolli_fits z (Label l) q h = absurd h
lolli_fits z End q h = absurd h
lolli_fits z (Chan c) q h = (c, refl, h)
lolli_fits z (Nat n) q h = absurd h
lolli_fits z Assert q h = absurd h
lolli_fits z Pay q h = absurd h

pub ex_fits : (z : ℤ) (b : Body) (q : ℕ) → FitsKind (Some kind.Ex) z b q → BringsNat b q
ex_fits z (Label l) q h = absurd h
ex_fits z End q h = absurd h
ex_fits z (Chan c) q h = absurd h
ex_fits z (Nat n) q h = (n, refl, h)
ex_fits z Assert q h = absurd h
ex_fits z Pay q h = absurd h

pub all_fits : (z : ℤ) (b : Body) (q : ℕ) → FitsKind (Some kind.All) z b q → BringsNat b q
all_fits z (Label l) q h = absurd h
all_fits z End q h = absurd h
all_fits z (Chan c) q h = absurd h
all_fits z (Nat n) q h = (n, refl, h)
all_fits z Assert q h = absurd h
all_fits z Pay q h = absurd h

pub assert_fits : (z : ℤ) (b : Body) (q : ℕ) → FitsKind (Some kind.Assert) z b q → (b ≡ Assert) × (q ≡ 0) × (z ≡ pos 1)
assert_fits z (Label l) q h = absurd h
assert_fits z End q h = absurd h
assert_fits z (Chan c) q h = absurd h
assert_fits z (Nat n) q h = absurd h
assert_fits z Assert q h = (refl, h.0, h.1)
assert_fits z Pay q h = absurd h

pub assume_fits : (z : ℤ) (b : Body) (q : ℕ) → FitsKind (Some kind.Assume) z b q → (b ≡ Assert) × (q ≡ 0) × (z ≡ pos 1)
assume_fits z (Label l) q h = absurd h
assume_fits z End q h = absurd h
assume_fits z (Chan c) q h = absurd h
assume_fits z (Nat n) q h = absurd h
assume_fits z Assert q h = (refl, h.0, h.1)
assume_fits z Pay q h = absurd h

pub pays_fits : (z : ℤ) (b : Body) (q : ℕ) → FitsKind (Some kind.Pays) z b q → (b ≡ Pay) × (z ≡ pos q)
pays_fits z (Label l) q h = absurd h
pays_fits z End q h = absurd h
pays_fits z (Chan c) q h = absurd h
pays_fits z (Nat n) q h = absurd h
pays_fits z Assert q h = absurd h
pays_fits z Pay q h = (refl, h)

pub gets_fits : (z : ℤ) (b : Body) (q : ℕ) → FitsKind (Some kind.Gets) z b q → (b ≡ Pay) × (z ≡ pos q)
gets_fits z (Label l) q h = absurd h
gets_fits z End q h = absurd h
gets_fits z (Chan c) q h = absurd h
gets_fits z (Nat n) q h = absurd h
gets_fits z Assert q h = absurd h
gets_fits z Pay q h = (refl, h)
