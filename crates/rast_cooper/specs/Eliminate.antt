-- How a variable is tested: each literal is multiplied, and test points come in its place.
use Rattle.std.specs.Prelude.{◌≡◌, ◌<◌, ℕ, zero, suc, ◌*◌, ◌/◌, ◌%◌, ℤ, pos, negsuc, unsigned_abs, Bool, true, false, not, ◌&&◌, if◌then◌else◌, List, [], ◌∷◌, ◌++◌, map}
use Rattle.rast_cooper.specs.declared.literal.Sort.{Sort}
use Rattle.rast_cooper.specs.declared.literal.Sort.TheVariants.{AtLeast, Equals, Multiple, NotMultiple}
use Rattle.rast_cooper.specs.declared.literal.Literal.{Literal}
use Rattle.rast_cooper.specs.Arithmetic.{Linear, coefficient, put, times, shifted, exchanged, variable}
use Rattle.rast_cooper.specs.Meaning.{literal}

abbrev pub sign : ℤ → ℤ
sign (pos zero) = pos 0
sign (pos (suc n)) = pos 1
sign (negsuc n) = negsuc 0

abbrev pub is_zero : ℤ → Bool
is_zero (pos zero) = true
is_zero (pos (suc n)) = false
is_zero (negsuc n) = false

-- whether a term has the variable x
abbrev pub has : ℕ → Literal → Bool
has x lit = not (is_zero (coefficient lit.term x))

-- a literal with t in the place of x
abbrev pub substituted : ℕ → Linear → Literal → Literal
substituted x t lit = if has x lit then literal lit.sort lit.divisor (exchanged x t lit.term) else lit

-- a literal multiplied by k, in which x then stands for as many times itself as its coefficient says
abbrev pub multiplied : ℕ → ℕ → Literal → Literal
multiplied x k lit = literal lit.sort (k * lit.divisor) (put x (sign (coefficient lit.term x)) (times (pos k) lit.term))

-- so that x stands for l times itself
abbrev pub scaled : ℕ → ℕ → Literal → Literal
scaled x l lit = if has x lit then multiplied x (l / unsigned_abs (coefficient lit.term x)) lit else lit

-- an equation with x becomes two bounds
abbrev pub halves : Literal → List Literal
halves lit = literal AtLeast 0 lit.term ∷ literal AtLeast 0 (times (negsuc 0) lit.term) ∷ []

abbrev pub is_equation : Sort → Bool
is_equation AtLeast = false
is_equation Equals = true
is_equation Multiple = false
is_equation NotMultiple = false

abbrev pub is_bound : Sort → Bool
is_bound AtLeast = true
is_bound Equals = false
is_bound Multiple = false
is_bound NotMultiple = false

-- a literal with a divisor
abbrev pub is_divided : Sort → Bool
is_divided AtLeast = false
is_divided Equals = false
is_divided Multiple = true
is_divided NotMultiple = true

-- what stands in the place of a literal where x is tested
abbrev pub parts : ℕ → Literal → List Literal
parts x lit = if is_equation lit.sort && has x lit then halves lit else lit ∷ []

abbrev pub without_equations : ℕ → List Literal → List Literal
without_equations x [] = []
without_equations x (lit ∷ ls) = parts x lit ++ without_equations x ls

abbrev pub gcd_by : ℕ → ℕ → ℕ → ℕ
gcd_by zero a b = a
gcd_by (suc n) a zero = a
gcd_by (suc n) a (suc b) = gcd_by n (suc b) (a % suc b)

unfoldable pub gcd : ℕ → ℕ → ℕ
gcd a b = gcd_by b a b

-- the least common multiple
unfoldable pub lcm : ℕ → ℕ → ℕ
lcm a b = a / gcd a b * b

-- of the magnitudes of x's coefficients, and of another number
abbrev pub common_over : ℕ → List Literal → ℕ → ℕ
common_over x [] s = s
common_over x (lit ∷ ls) s = if has x lit then lcm (unsigned_abs (coefficient lit.term x)) (common_over x ls s) else common_over x ls s

-- of the magnitudes of x's coefficients
abbrev pub common : ℕ → List Literal → ℕ
common x ls = common_over x ls 1

-- of the divisors of the literals with x
abbrev pub period : ℕ → List Literal → ℕ
period x [] = 1
period x (lit ∷ ls) = if has x lit && is_divided lit.sort then lcm lit.divisor (period x ls) else period x ls

abbrev pub is_one : ℤ → Bool
is_one (pos zero) = false
is_one (pos (suc zero)) = true
is_one (pos (suc (suc n))) = false
is_one (negsuc n) = false

abbrev pub is_lower : ℕ → Literal → Bool
is_lower x lit = is_bound lit.sort && is_one (coefficient lit.term x)

-- 0 <= x + r says that x is at least -r
abbrev pub bound : ℕ → Literal → Linear
bound x lit = times (negsuc 0) (put x (pos 0) lit.term)

abbrev pub bounds : ℕ → List Literal → List Linear
bounds x [] = []
bounds x (lit ∷ ls) = if is_lower x lit then bound x lit ∷ bounds x ls else bounds x ls

-- the literals with x multiplied, x called l * x, and the demand that it is a multiple of l
abbrev pub prepared_by : ℕ → ℕ → List Literal → List Literal
prepared_by x l ls = map (scaled x l) ls ++ literal Multiple l (variable x) ∷ []

-- the literals at a test point
abbrev pub at_point : ℕ → Linear → ℕ → List Literal → List Literal
at_point x b j ls = map (substituted x (shifted j b)) ls

-- each divisor is at least 1
abbrev pub Positive : List Literal → Type 0
Positive [] = Unit {0}
Positive (lit ∷ ls) = (is_divided lit.sort ≡ true → 0 < lit.divisor) × Positive ls

abbrev pub AllAbove : List Literal → Type 0
AllAbove [] = Unit {0}
AllAbove (lit ∷ ls) = (0 < lit.divisor) × AllAbove ls
