-- The list of a solution's numbers, filled place by place.
use Rattle.std.proofs.Common.{◌≡◌, ℕ, zero, suc, ◌+◌, ◌-◌, ◌<◌, ◌≤◌, List, [], ◌∷◌, ◌++◌, length, get_or, take, map, set, replicate, sym, ◌∙◌, ap, refl, arith, append_assoc, add-one}
use Rattle.std.proofs.Math.Seq.{take-suc}
use Rattle.std.proofs.lemmas.List.{take_all, length-map}
use Rattle.rast_cooper.specs.declared.literal.Literal.{Literal}
use Rattle.rast_cooper.specs.Eliminate.{AllAbove}
use Rattle.rast_cooper.specs.Rows.{number_of, numbers}
use Rattle.rast_cooper.proofs.Frames.{length-take'}

set_after : (us more : List ℕ) (i v : ℕ) → length us ≡ i → set (us ++ 0 ∷ more) i v ≡ us ++ v ∷ more
set_after [] more zero v e = refl
set_after [] more (suc i) v e = absurd (omega (arith, e))
set_after (u ∷ us) more zero v e = absurd (omega (arith, e))
set_after (u ∷ us) more (suc i) v e = ap (λ t. u ∷ t) (set_after us more i v (omega (arith, e)))

map_append : (ls ms : List Literal) → map number_of (ls ++ ms) ≡ map number_of ls ++ map number_of ms
map_append [] ms = refl
map_append (l ∷ ls) ms = ap (λ t. number_of l ∷ t) (map_append ls ms)

pub numbers_more : (rows : List Literal) (values : List ℕ) (i v : ℕ) (r : Literal) → i < length rows → length rows ≤ 16 → r ≡ get_or rows i r → v ≡ number_of r →
    values ≡ map number_of (take i rows) ++ replicate (16 - i) 0 → set values i v ≡ map number_of (take (i + 1) rows) ++ replicate (16 - (i + 1)) 0
numbers_more rows values i v r h few e f g =
    let n = length-take' rows i (omega arith) in
    let m = length-map (take i rows) number_of in
    let z : 16 - i ≡ suc (16 - (i + 1)) = omega arith in
    ap (λ t. set t i v) (g ∙ ap (λ k. map number_of (take i rows) ++ replicate k 0) z)
    ∙ set_after (map number_of (take i rows)) (replicate (16 - (i + 1)) 0) i v (m ∙ n)
    ∙ ap (λ u. map number_of (take i rows) ++ u ∷ replicate (16 - (i + 1)) 0) f
    ∙ sym (append_assoc (map number_of (take i rows)) (number_of r ∷ []) (replicate (16 - (i + 1)) 0))
    ∙ ap (λ t. t ++ replicate (16 - (i + 1)) 0) (sym (ap (λ k. map number_of (take k rows)) (add-one i) ∙ ap (map number_of) (take-suc rows i r h ∙ ap (λ (l : Literal). take i rows ++ l ∷ []) (sym e)) ∙ map_append (take i rows) (r ∷ [])))

pub numbers_all : (rows : List Literal) (values : List ℕ) (i : ℕ) → length rows ≤ i → i ≤ length rows → values ≡ map number_of (take i rows) ++ replicate (16 - i) 0 → values ≡ numbers rows
numbers_all rows values i h k e =
    let same : i ≡ length rows = omega arith in
    e ∙ ap (λ j. map number_of (take j rows) ++ replicate (16 - j) 0) same ∙ ap (λ ls. map number_of ls ++ replicate (16 - length rows) 0) (take_all (length rows) rows (omega arith))

pub above_at : (rows : List Literal) (i : ℕ) (r : Literal) → i < length rows → r ≡ get_or rows i r → AllAbove rows → 0 < r.divisor
above_at [] i r h e a = absurd (omega arith)
above_at (l ∷ ls) zero r h e a = let f = a.0 in let g = ap (λ (m : Literal). m.divisor) e in omega (arith, f, g)
above_at (l ∷ ls) (suc i) r h e a = above_at ls i r (omega arith) e a.1
