-- Sums, multiples and replacements of linear terms.
use Rattle.std.specs.Prelude.{ℕ, ◌^◌, ◌&&◌, nat_le, Bool, map, slice_index_or as get_or, slice_set as set, unsigned_abs, ℤ, pos, negsuc, ◌+ℤ◌, ◌*ℤ◌, List, [], ◌∷◌}
use Rattle.std.specs.List.{list_all}
pub use Rattle.rast_index.specs.Linear.{Linear, weighted, value, variable}

abbrev pub coefficient : Linear → ℕ → ℤ
coefficient l x = get_or l.coefficients x (pos 0)

-- a term with another coefficient at x
abbrev pub put : ℕ → ℤ → Linear → Linear
put x c l = record { constant = l.constant; coefficients = set l.coefficients x c }

abbrev pub times : ℤ → Linear → Linear
times k l = record { constant = k *ℤ l.constant; coefficients = map (λ c. k *ℤ c) l.coefficients }

-- two lists added place by place
abbrev pub both : List ℤ → List ℤ → List ℤ
both [] ds = ds
both (c ∷ cs) [] = c ∷ cs
both (c ∷ cs) (d ∷ ds) = (c +ℤ d) ∷ both cs ds

-- numbers, and k times others, added place by place
unfoldable pub sums : List ℤ → ℤ → List ℤ → List ℤ
sums base k cs = both base (map (λ c. k *ℤ c) cs)

abbrev pub added : Linear → Linear → Linear
added a b = record { constant = a.constant +ℤ b.constant; coefficients = both a.coefficients b.coefficients }

abbrev pub minus : Linear → Linear → Linear
minus a b = added a (times (negsuc 0) b)

-- one less, and j more
abbrev pub less_one : Linear → Linear
less_one l = record { constant = l.constant +ℤ negsuc 0; coefficients = l.coefficients }

abbrev pub shifted : ℕ → Linear → Linear
shifted j l = record { constant = l.constant +ℤ pos j; coefficients = l.coefficients }

-- a term with t in the place of x
abbrev pub exchanged : ℕ → Linear → Linear → Linear
exchanged x t l = added (put x (pos 0) l) (times (coefficient l x) t)

-- whether a natural is at most 2 ^ 120
abbrev pub at_most : ℕ → Bool
at_most n = nat_le n (2 ^ 120)

-- whether a number's magnitude is
abbrev pub bounded : ℤ → Bool
bounded z = at_most (unsigned_abs z)

abbrev pub is_bounded : Linear → Bool
is_bounded l = bounded l.constant && list_all bounded l.coefficients
