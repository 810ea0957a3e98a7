-- A process's fields, from what contracts see of it.
use Rattle.std.proofs.Common.{◌≡◌, ℕ, ◌+◌, ◌-◌, ◌≤◌, List, [], ◌∷◌, ◌++◌, length, take, drop, replicate, ap, ap₂, sym, ◌∙◌, arith, suc, zero}
use Rattle.std.proofs.lemmas.List.{length-take, take-append-drop}
use Rattle.rast_items.specs.declared.link.Link.{Link}
use Rattle.rast_items.specs.Process.{no_link, own_of, uses_of, first_is_own}
use Rattle.rast_items.specs.declared.link.Pid.{Pid}
use Rattle.rast_items.specs.declared.process.Proc.TheInside.{Inside}

-- the first part of an array, and what fills the rest, is the array
pub filled : {A : Type 0} (a : A) (n m : ℕ) (xs : List A) → (m ≤ n) → length xs ≡ n → drop m xs ≡ replicate (n - m) a → take m xs ++ replicate (n - length (take m xs)) a ≡ xs
filled {A} a n m xs h l d =
    let k : length (take m xs) ≡ m = omega (arith, length-take m xs, h, l) in
    ap (λ (j : ℕ). take m xs ++ replicate (n - j) a) k ∙ (ap (λ (ys : List A). take m xs ++ ys) (sym d) ∙ take-append-drop m xs)

pub links_again : (c : ℕ) (links : List (ℕ × Link)) → 1 ≤ c → c ≤ 16 → length links ≡ 16 → first_is_own links → drop c links ≡ replicate (16 - c) no_link → (0, own_of links) ∷ (uses_of c links ++ replicate (15 - length (uses_of c links)) no_link) ≡ links
links_again c [] a b l f d = absurd f
links_again zero (e ∷ es) a b l f d = absurd (omega (arith, a))
links_again (suc c) (e ∷ es) a b l f d =
    let k : 16 - suc c ≡ 15 - c = omega (arith, b) in
    let r : take c es ++ replicate (15 - length (take c es)) no_link ≡ es = filled no_link 15 c es (omega (arith, b)) (omega (arith, l)) (d ∙ ap (λ (j : ℕ). replicate j no_link) k) in
    ap₂ (λ (x : ℕ × Link) (xs : List (ℕ × Link)). x ∷ xs) (sym f) r

pub count_again : (c : ℕ) (links : List (ℕ × Link)) → 1 ≤ c → c ≤ 16 → length links ≡ 16 → length (uses_of c links) + 1 ≡ c
count_again c [] a b l = absurd (omega (arith, l))
count_again zero (e ∷ es) a b l = absurd (omega (arith, a))
count_again (suc c) (e ∷ es) a b l = omega (arith, length-take c es, b, l)

abbrev pub inside_of : Pid → ℕ → ℕ → ℕ → ℕ → ℕ → ℕ → ℕ → List ℕ → List (ℕ × Link) → ℕ → Inside
inside_of pid node fresh moment potential spawned steps vars values links count = record { pid = pid; node = node; vars = vars; values = values; count = count; links = links; fresh = fresh; moment = moment; potential = potential; spawned = spawned; steps = steps }

pub fields_again : (p : Inside) → (p.vars ≤ 16) × (length p.values ≡ 16) × (drop p.vars p.values ≡ replicate (16 - p.vars) 0) × (1 ≤ p.count) × (p.count ≤ 16) × (length p.links ≡ 16) × first_is_own p.links × (drop p.count p.links ≡ replicate (16 - p.count) no_link) →
    inside_of p.pid p.node p.fresh p.moment p.potential p.spawned p.steps (length (take p.vars p.values)) (take p.vars p.values ++ replicate (16 - length (take p.vars p.values)) 0) ((0, own_of p.links) ∷ (uses_of p.count p.links ++ replicate (15 - length (uses_of p.count p.links)) no_link)) (length (uses_of p.count p.links) + 1) ≡ p
fields_again p h =
    let a : length (take p.vars p.values) ≡ p.vars = omega (arith, length-take p.vars p.values, h.0, h.1) in
    ap₂ (λ (n : ℕ) (xs : List ℕ). inside_of p.pid p.node p.fresh p.moment p.potential p.spawned p.steps n xs ((0, own_of p.links) ∷ (uses_of p.count p.links ++ replicate (15 - length (uses_of p.count p.links)) no_link)) (length (uses_of p.count p.links) + 1)) a (filled 0 16 p.vars p.values h.0 h.1 h.2)
    ∙ ap₂ (λ (xs : List (ℕ × Link)) (n : ℕ). inside_of p.pid p.node p.fresh p.moment p.potential p.spawned p.steps p.vars p.values xs n) (links_again p.count p.links h.3 h.4 h.5 h.6 h.7) (count_again p.count p.links h.3 h.4 h.5)
