-- Linear terms: their values, their numbers, and the terms that are made from others.
use Rattle.std.specs.Prelude.{ℕ, zero, suc, map, slice_index_or as get_or, ℤ, pos, negsuc, ◌+ℤ◌, ◌*ℤ◌, ◌^◌, ◌==◌, Bool, ◌&&◌, not, nat_lt, int_lt, List, [], ◌∷◌, if◌then◌else◌}
use Rattle.std.specs.List.{list_all}

-- a linear term: a constant, and a coefficient for each variable
pub record Linear : Type 0 where
  pub constant : ℤ
  pub coefficients : List ℤ

abbrev pub magnitude : ℤ → ℕ
magnitude (pos n) = n
magnitude (negsuc n) = suc n

-- its magnitude is below 2 ^ 32
abbrev pub small : ℤ → Bool
small z = nat_lt (magnitude z) (2 ^ 32)

abbrev pub int_eq : ℤ → ℤ → Bool
int_eq a b = not (int_lt a b) && not (int_lt b a)

-- the sum of each coefficient times its variable's number
abbrev pub weighted : List ℤ → List ℤ → ℤ
weighted [] vs = pos 0
weighted (c ∷ cs) [] = pos 0
weighted (c ∷ cs) (v ∷ vs) = (c *ℤ v) +ℤ weighted cs vs

-- the value of a linear term at whole numbers
abbrev pub value : Linear → List ℤ → ℤ
value l vs = l.constant +ℤ weighted l.coefficients vs

-- naturals as whole numbers
abbrev pub whole : List ℕ → List ℤ
whole vs = map pos vs

-- whether each number of a linear term is small
abbrev pub is_small : Linear → Bool
is_small l = small l.constant && list_all small l.coefficients

-- f at i, i + 1, .. , n of them
abbrev pub tabulate : {X : Type 0} → (ℕ → X) → ℕ → ℕ → List X
tabulate f i zero = []
tabulate f i (suc n) = f i ∷ tabulate f (suc i) n

-- a constant, and a variable by its number
abbrev pub fixed : ℤ → Linear
fixed z = record { constant = z; coefficients = tabulate (λ j. pos 0) 0 16 }

abbrev pub nought : Linear
nought = fixed (pos 0)

abbrev pub variable : ℕ → Linear
variable i = record { constant = pos 0; coefficients = tabulate (λ j. if j == i then pos 1 else pos 0) 0 16 }

-- the constant, and then each coefficient
abbrev pub part : Linear → ℕ → ℤ
part l zero = l.constant
part l (suc j) = get_or l.coefficients j (pos 0)

unfoldable pub from_parts : (ℕ → ℤ) → Linear
from_parts f = record { constant = f 0; coefficients = tabulate f 1 16 }

-- the difference, and the sum
abbrev pub less : Linear → Linear → Linear
less a b = from_parts (λ j. part a j +ℤ (negsuc 0 *ℤ part b j))

abbrev pub plus : Linear → Linear → Linear
plus a b = from_parts (λ j. part a j +ℤ part b j)

-- k times the term
abbrev pub times : ℕ → Linear → Linear
times k a = from_parts (λ j. pos k *ℤ part a j)

-- the term with these numbers, the constant first
abbrev pub from_numbers : List ℤ → Linear
from_numbers [] = record { constant = pos 0; coefficients = [] }
from_numbers (c ∷ cs) = record { constant = c; coefficients = cs }

abbrev pub base_part : Linear → ℕ → ℤ
base_part l zero = l.constant
base_part l (suc j) = pos 0

-- one part of a term whose variables are replaced: its own, and what each argument brings
abbrev pub mixed : Linear → List Linear → ℕ → ℤ
mixed l args j = base_part l j +ℤ weighted l.coefficients (map (λ a. part a j) args)

-- a term with each variable replaced by an argument
abbrev pub replaced : List Linear → Linear → Linear
replaced args l = from_parts (mixed l args)

-- the variables 0, 1, .. , n of them
abbrev pub variables : ℕ → List Linear
variables n = tabulate variable 0 n

-- whether it is the constant 0
abbrev pub is_nought : Linear → Bool
is_nought l = int_eq l.constant (pos 0) && list_all (λ c. int_eq c (pos 0)) l.coefficients

-- whether no variable from the number n on occurs
abbrev pub is_closed : ℕ → Linear → Bool
is_closed n l = list_all (λ c. int_eq c (pos 0)) (tabulate (λ j. part l (suc j)) n 16)
