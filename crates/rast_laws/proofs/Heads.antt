-- The parts of a head, as types with its values.
use Rattle.std.proofs.Common.{◌≡◌, ℕ, ℤ, pos, cond, Bool, true, false, List, [], ◌∷◌, ◌++◌, Option, Some, None, refl, ap, if◌then◌else◌}
use Rattle.rast_index.specs.Keys.{find_key}
use Rattle.rast_index.specs.Linear.{value}
use Rattle.rast_index.specs.Truth.{truth}
use Rattle.rast_types.specs.declared.ty.Ty.{Ty, out-Ty}
use Rattle.rast_types.specs.declared.ty.Ty.TheOpen.{Plus, With, Tensor, Lolli, Ex, All, Assert, Assume, Pays, Gets}
use Rattle.rast_types.specs.declared.ty.Kind.TheVariants as kind
use Rattle.rast_types.specs.Closed.{Closed, closed, Layer, Label, First, Second, Inner, At, close_some, part_of, part_layer, kind_of, kind_layer, figure_of, figure_layer}
use Rattle.rast_rules.specs.Rules.{or_one, choices_of, choices_layer, pair_layer, first_or, second_or, first_of_pair, second_of_pair, inner_layer, inner_of, formula_layer, formula_of, amount_layer, amount_of}

some_closed : (vs : List ℤ) (o : Option Ty) (y : Closed) → close_some vs o ≡ Some y → (a : Ty) × (o ≡ Some a) × (y ≡ closed a vs)
some_closed vs None y e = cc
some_closed vs (Some a) y e = (a, refl, cc)

label_layer : (x : Layer) (vs : List ℤ) (l : ℕ) (y : Closed) → part_layer x vs (Label l) ≡ Some y → (a : Ty) × (find_key l (choices_layer x) ≡ Some a) × (y ≡ closed a vs)
label_layer (Plus ts) vs l y e = some_closed vs (find_key l ts) y e
label_layer (With ts) vs l y e = some_closed vs (find_key l ts) y e
label_layer x vs l y e = cc

-- the part at a label
pub part_label : (h : Ty) (vs : List ℤ) (l : ℕ) (y : Closed) → part_of (closed h vs) (Label l) ≡ Some y → (a : Ty) × (find_key l (choices_of h) ≡ Some a) × (y ≡ closed a vs)
part_label h vs l y e = label_layer (out-Ty h) vs l y e

first_layer : (x : Layer) (vs : List ℤ) (y : Closed) → part_layer x vs First ≡ Some y → y ≡ closed (first_or (pair_layer x)) vs
first_layer (Tensor a b) vs y e = cc
first_layer (Lolli a b) vs y e = cc
first_layer x vs y e = cc

second_layer : (x : Layer) (vs : List ℤ) (y : Closed) → part_layer x vs Second ≡ Some y → y ≡ closed (second_or (pair_layer x)) vs
second_layer (Tensor a b) vs y e = cc
second_layer (Lolli a b) vs y e = cc
second_layer x vs y e = cc

-- the parts of a pair
pub part_first : (h : Ty) (vs : List ℤ) (y : Closed) → part_of (closed h vs) First ≡ Some y → y ≡ closed (first_of_pair h) vs
part_first h vs y e = first_layer (out-Ty h) vs y e

pub part_second : (h : Ty) (vs : List ℤ) (y : Closed) → part_of (closed h vs) Second ≡ Some y → y ≡ closed (second_of_pair h) vs
part_second h vs y e = second_layer (out-Ty h) vs y e

at_layer : (x : Layer) (vs : List ℤ) (n : ℕ) (y : Closed) → part_layer x vs (At n) ≡ Some y → y ≡ closed (or_one (inner_layer x)) (vs ++ pos n ∷ [])
at_layer (Ex a) vs n y e = cc
at_layer (All a) vs n y e = cc
at_layer x vs n y e = cc

-- the part at a natural
pub part_at : (h : Ty) (vs : List ℤ) (n : ℕ) (y : Closed) → part_of (closed h vs) (At n) ≡ Some y → y ≡ closed (inner_of h) (vs ++ pos n ∷ [])
part_at h vs n y e = at_layer (out-Ty h) vs n y e

where_true : (b : Bool) (a : Ty) (vs : List ℤ) (y : Closed) → (if b then Some (closed a vs) else None) ≡ Some y → y ≡ closed a vs
where_true true a vs y e = cc
where_true false a vs y e = cc

inside_layer : (x : Layer) (vs : List ℤ) (y : Closed) → part_layer x vs Inner ≡ Some y → y ≡ closed (or_one (inner_layer x)) vs
inside_layer (Assert f a) vs y e = where_true (truth f vs) a vs y e
inside_layer (Assume f a) vs y e = where_true (truth f vs) a vs y e
inside_layer (Pays p a) vs y e = cc
inside_layer (Gets p a) vs y e = cc
inside_layer x vs y e = cc

-- the part below a constraint or a potential
pub part_inner : (h : Ty) (vs : List ℤ) (y : Closed) → part_of (closed h vs) Inner ≡ Some y → y ≡ closed (inner_of h) vs
part_inner h vs y e = inside_layer (out-Ty h) vs y e

-- ---- figures

one_true : (b : Bool) → pos (cond b 1 0) ≡ pos 1 → b ≡ true
one_true true e = refl
one_true false e = cc

assert_layer : (x : Layer) (vs : List ℤ) → kind_layer x ≡ Some kind.Assert → figure_layer x vs ≡ pos 1 → truth (formula_layer x) vs ≡ true
assert_layer (Assert f a) vs k e = one_true (truth f vs) e
assert_layer x vs k e = cc

assume_layer : (x : Layer) (vs : List ℤ) → kind_layer x ≡ Some kind.Assume → figure_layer x vs ≡ pos 1 → truth (formula_layer x) vs ≡ true
assume_layer (Assume f a) vs k e = one_true (truth f vs) e
assume_layer x vs k e = cc

-- the formula of a constraint is true where its figure is 1
pub assert_true : (h : Ty) (vs : List ℤ) → kind_of h ≡ Some kind.Assert → figure_of (closed h vs) ≡ pos 1 → truth (formula_of h) vs ≡ true
assert_true h vs k e = assert_layer (out-Ty h) vs k e

pub assume_true : (h : Ty) (vs : List ℤ) → kind_of h ≡ Some kind.Assume → figure_of (closed h vs) ≡ pos 1 → truth (formula_of h) vs ≡ true
assume_true h vs k e = assume_layer (out-Ty h) vs k e

pays_layer : (x : Layer) (vs : List ℤ) → kind_layer x ≡ Some kind.Pays → figure_layer x vs ≡ value (amount_layer x) vs
pays_layer (Pays p a) vs k = refl
pays_layer x vs k = cc

gets_layer : (x : Layer) (vs : List ℤ) → kind_layer x ≡ Some kind.Gets → figure_layer x vs ≡ value (amount_layer x) vs
gets_layer (Gets p a) vs k = refl
gets_layer x vs k = cc

-- the figure of a potential is its value
pub pays_value : (h : Ty) (vs : List ℤ) → kind_of h ≡ Some kind.Pays → figure_of (closed h vs) ≡ value (amount_of h) vs
pays_value h vs k = pays_layer (out-Ty h) vs k

pub gets_value : (h : Ty) (vs : List ℤ) → kind_of h ≡ Some kind.Gets → figure_of (closed h vs) ≡ value (amount_of h) vs
gets_value h vs k = gets_layer (out-Ty h) vs k

-- ---- the part that a body selects is there

label_there : (x : Layer) (vs : List ℤ) (l : ℕ) (a : Ty) → find_key l (choices_layer x) ≡ Some a → part_layer x vs (Label l) ≡ Some (closed a vs)
label_there (Plus ts) vs l a e = ap (close_some vs) e
label_there (With ts) vs l a e = ap (close_some vs) e
label_there x vs l a e = cc

pub label_part : (h : Ty) (vs : List ℤ) (l : ℕ) (a : Ty) → find_key l (choices_of h) ≡ Some a → part_of (closed h vs) (Label l) ≡ Some (closed a vs)
label_part h vs l a e = label_there (out-Ty h) vs l a e

ex_there : (x : Layer) (vs : List ℤ) (n : ℕ) → kind_layer x ≡ Some kind.Ex → part_layer x vs (At n) ≡ Some (closed (or_one (inner_layer x)) (vs ++ pos n ∷ []))
ex_there (Ex a) vs n k = refl
ex_there x vs n k = cc

all_there : (x : Layer) (vs : List ℤ) (n : ℕ) → kind_layer x ≡ Some kind.All → part_layer x vs (At n) ≡ Some (closed (or_one (inner_layer x)) (vs ++ pos n ∷ []))
all_there (All a) vs n k = refl
all_there x vs n k = cc

pub ex_part : (h : Ty) (vs : List ℤ) (n : ℕ) → kind_of h ≡ Some kind.Ex → part_of (closed h vs) (At n) ≡ Some (closed (inner_of h) (vs ++ pos n ∷ []))
ex_part h vs n k = ex_there (out-Ty h) vs n k

pub all_part : (h : Ty) (vs : List ℤ) (n : ℕ) → kind_of h ≡ Some kind.All → part_of (closed h vs) (At n) ≡ Some (closed (inner_of h) (vs ++ pos n ∷ []))
all_part h vs n k = all_there (out-Ty h) vs n k

tensor_there : (x : Layer) (vs : List ℤ) → kind_layer x ≡ Some kind.Tensor → (part_layer x vs First ≡ Some (closed (first_or (pair_layer x)) vs)) × (part_layer x vs Second ≡ Some (closed (second_or (pair_layer x)) vs))
tensor_there (Tensor a b) vs k = (refl, refl)
tensor_there x vs k = cc

lolli_there : (x : Layer) (vs : List ℤ) → kind_layer x ≡ Some kind.Lolli → (part_layer x vs First ≡ Some (closed (first_or (pair_layer x)) vs)) × (part_layer x vs Second ≡ Some (closed (second_or (pair_layer x)) vs))
lolli_there (Lolli a b) vs k = (refl, refl)
lolli_there x vs k = cc

pub tensor_parts : (h : Ty) (vs : List ℤ) → kind_of h ≡ Some kind.Tensor → (part_of (closed h vs) First ≡ Some (closed (first_of_pair h) vs)) × (part_of (closed h vs) Second ≡ Some (closed (second_of_pair h) vs))
tensor_parts h vs k = tensor_there (out-Ty h) vs k

pub lolli_parts : (h : Ty) (vs : List ℤ) → kind_of h ≡ Some kind.Lolli → (part_of (closed h vs) First ≡ Some (closed (first_of_pair h) vs)) × (part_of (closed h vs) Second ≡ Some (closed (second_of_pair h) vs))
lolli_parts h vs k = lolli_there (out-Ty h) vs k

-- below a constraint whose formula is true
abbrev TruePart : Layer → List ℤ → Type 0
TruePart x vs = (part_layer x vs Inner ≡ Some (closed (or_one (inner_layer x)) vs)) × (figure_layer x vs ≡ pos 1)

assert_there : (x : Layer) (vs : List ℤ) → kind_layer x ≡ Some kind.Assert → truth (formula_layer x) vs ≡ true → TruePart x vs
assert_there (Assert f a) vs k t = (ap (λ (b : Bool). if b then Some (closed a vs) else None) t, ap (λ b. pos (cond b 1 0)) t)
assert_there x vs k t = cc

assume_there : (x : Layer) (vs : List ℤ) → kind_layer x ≡ Some kind.Assume → truth (formula_layer x) vs ≡ true → TruePart x vs
assume_there (Assume f a) vs k t = (ap (λ (b : Bool). if b then Some (closed a vs) else None) t, ap (λ b. pos (cond b 1 0)) t)
assume_there x vs k t = cc

pub assert_part : (h : Ty) (vs : List ℤ) → kind_of h ≡ Some kind.Assert → truth (formula_of h) vs ≡ true → (part_of (closed h vs) Inner ≡ Some (closed (inner_of h) vs)) × (figure_of (closed h vs) ≡ pos 1)
assert_part h vs k t = assert_there (out-Ty h) vs k t

pub assume_part : (h : Ty) (vs : List ℤ) → kind_of h ≡ Some kind.Assume → truth (formula_of h) vs ≡ true → (part_of (closed h vs) Inner ≡ Some (closed (inner_of h) vs)) × (figure_of (closed h vs) ≡ pos 1)
assume_part h vs k t = assume_there (out-Ty h) vs k t

pays_there : (x : Layer) (vs : List ℤ) → kind_layer x ≡ Some kind.Pays → part_layer x vs Inner ≡ Some (closed (or_one (inner_layer x)) vs)
pays_there (Pays p a) vs k = refl
pays_there x vs k = cc

gets_there : (x : Layer) (vs : List ℤ) → kind_layer x ≡ Some kind.Gets → part_layer x vs Inner ≡ Some (closed (or_one (inner_layer x)) vs)
gets_there (Gets p a) vs k = refl
gets_there x vs k = cc

pub pays_part : (h : Ty) (vs : List ℤ) → kind_of h ≡ Some kind.Pays → part_of (closed h vs) Inner ≡ Some (closed (inner_of h) vs)
pays_part h vs k = pays_there (out-Ty h) vs k

pub gets_part : (h : Ty) (vs : List ℤ) → kind_of h ≡ Some kind.Gets → part_of (closed h vs) Inner ≡ Some (closed (inner_of h) vs)
gets_part h vs k = gets_there (out-Ty h) vs k
