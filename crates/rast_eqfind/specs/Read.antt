-- The arguments at which two types are an instance of an equation, read off.
use Rattle.std.specs.Prelude.{ℕ, Bool, true, false, ◌&&◌, ◌==◌, ◌+◌, if◌then◌else◌, nat_lt, max, List, [], ◌∷◌, ◌++◌, map, zip, Option, Some, None}
use Rattle.rast_index.specs.Linear.{Linear, nought, variable, less, is_small, is_closed, tabulate}
use Rattle.rast_types.specs.Closed.{Layer}
use Rattle.rast_types.specs.Symbolic.{is_name, timed}
use Rattle.rast_types.specs.declared.equation.Equation.{Equation}
use Rattle.rast_types.specs.declared.ty.Ty.{Ty, out-Ty}
use Rattle.rast_types.specs.declared.ty.Ty.TheOpen.{Ty-F, One, Plus, With, Tensor, Lolli, Named, Ex, All as Each, Assert, Assume, Pays, Gets, Next}
use Rattle.rast_types.specs.declared.ty.Ty.TheFolds.{fold-Ty, map-Ty}
use Rattle.rast_equal.specs.Walk.{labels, same_list}
use Rattle.rast_equal.specs.declared.place.Place.{Place}

-- the terms of a side of an equation, each with the term at its place in a type, and whether the two were alike up to the end
pub record Seen : Type 0 where
  pub terms : List (Linear × Linear)
  pub alike : Bool

abbrev pub saw : List (Linear × Linear) → Seen
saw xs = record { terms = xs; alike = true }

abbrev pub differs : Seen
differs = record { terms = []; alike = false }

-- what is seen first, and then what is seen next, where no difference was met
abbrev pub and_then : Seen → Seen → Seen
and_then r s = if r.alike then record { terms = r.terms ++ s.terms; alike = s.alike } else r

-- how a part of a side is read beside a type, where so many variables are in scope
abbrev pub Reader : Type 0
Reader = Ty → ℕ → Seen

abbrev pub names_read : ℕ → List Linear → Layer → Seen
names_read k xs (Named j ys) = if k == j then saw (zip xs ys) else differs
names_read k xs layer = differs

abbrev pub each_read : List (ℕ × Reader) → List (ℕ × Ty) → ℕ → Seen
each_read [] us n = saw []
each_read (t ∷ ts) [] n = saw []
each_read (t ∷ ts) (u ∷ us) n = and_then (t.1 u.1 n) (each_read ts us n)

-- the labels have to stand in the same order
abbrev pub choices_read : List (ℕ × Reader) → List (ℕ × Ty) → ℕ → Seen
choices_read ts us n = if same_list (labels ts) (labels us) then each_read ts us n else differs

abbrev pub number_read : Linear → Linear → Seen → Seen
number_read l m s = and_then (saw ((l, m) ∷ [])) s

-- formulas have no terms that are read
abbrev pub heads_read : Ty-F Reader → Layer → ℕ → Seen
heads_read One One n = saw []
heads_read (Plus ts) (Plus us) n = choices_read ts us n
heads_read (With ts) (With us) n = choices_read ts us n
heads_read (Tensor a b) (Tensor c d) n = and_then (a c n) (b d n)
heads_read (Lolli a b) (Lolli c d) n = and_then (a c n) (b d n)
heads_read (Ex a) (Ex b) n = a b (n + 1)
heads_read (Each a) (Each b) n = a b (n + 1)
heads_read (Assert f a) (Assert g b) n = a b n
heads_read (Assume f a) (Assume g b) n = a b n
heads_read (Pays l a) (Pays m b) n = number_read l m (a b n)
heads_read (Gets l a) (Gets m b) n = number_read l m (a b n)
heads_read a b n = differs

-- Ticks are met before the body; where only the type has some, no term of the side stands there.
abbrev pub layer_read : Ty-F Reader → Ty → ℕ → Seen
layer_read (Named k xs) b n = names_read k xs (out-Ty b)
layer_read (Next l a) b n = if is_name b then differs else (let e = timed b in number_read l e.ticks (a e.body n))
layer_read x b n = heads_read x (out-Ty (timed b).body) n

-- beyond 16 variables nothing is read
abbrev pub reader_step : Ty-F Reader → Reader
reader_step x b n = if nat_lt 16 n then differs else layer_read x b n

abbrev pub reading : Ty → Reader
reading = fold-Ty Reader reader_step

-- the readers of the parts of a side
abbrev pub readers : Ty → Ty-F Reader
readers a = map-Ty Ty Reader reading (out-Ty a)

abbrev pub readers_each : List (ℕ × Ty) → List (ℕ × Reader)
readers_each ts = map (λ e. (e.0, reading e.1)) ts

-- the terms of both sides, each with the term at its place in the pair
abbrev pub all_terms : Equation → Place → Ty → Ty → List (Linear × Linear)
all_terms e p a b =
    let n = max e.vars p.vars in (reading e.left a n).terms ++ (reading e.right b n).terms

abbrev pub is_constant : Linear → Bool
is_constant l = is_small l && is_closed 0 l

-- where the equation's term is first the variable and a constant: the pair's term less the constant
abbrev pub first_read : ℕ → List (Linear × Linear) → Option Linear
first_read i [] = None
first_read i (x ∷ xs) =
    let c = less x.0 (variable i) in if is_constant c then Some (less x.1 c) else first_read i xs

-- else the place's own variable of this number, or 0 where it has none
abbrev pub or_own : ℕ → ℕ → Option Linear → Linear
or_own n i None = if nat_lt i n then variable i else nought
or_own n i (Some l) = l

abbrev pub argument_of : ℕ → List (Linear × Linear) → ℕ → Linear
argument_of n terms i = or_own n i (first_read i terms)

abbrev pub arguments : Equation → Place → Ty → Ty → List Linear
arguments e p a b = tabulate (argument_of p.vars (all_terms e p a b)) 0 e.vars
