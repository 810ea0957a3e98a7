-- What an answer that is a value says of the answers that it was made from.
use Rattle.std.proofs.Common.{◌≡◌, Bool, true, false, if◌then◌else◌, List, [], ◌∷◌, map, length, Result, Ok, Err, suc, refl, ap, subst}
use Rattle.std.specs.List.{AllByRecursion}
use Rattle.rast_resolve.specs.Answers.{Answer, ◌>>=◌, each}

-- an answer is this value
abbrev pub Gave : {X E : Type 0} → Result X E → X → Type 0
Gave {X} {E} a x = a ≡ Ok x

pub no_value : {X E : Type 0} (e : E) (x : X) → Gave (Err e) x → ⊥
no_value {X} {E} e x h = cc

pub same : {X E : Type 0} (x y : X) → Gave {X = X} {E = E} (Ok x) y → x ≡ y
same {X} {E} x y h = cc

-- a value of both is one of each
pub both : {X Y : Type 0} (a : Answer X) (f : X → Answer Y) (y : Y) → Gave (a >>= f) y → (x : X) × Gave a x × Gave (f x) y
both {X} {Y} (Ok x) f y h = (x, refl, h)
both {X} {Y} (Err e) f y h = absurd (no_value e y h)

-- a value that is made from one
pub made : {X Y : Type 0} (a : Answer X) (f : X → Y) (y : Y) → Gave (a >>= λ x. Ok (f x)) y → (x : X) × Gave a x × (f x ≡ y)
made {X} {Y} (Ok x) f y h = (x, refl, same (f x) y h)
made {X} {Y} (Err e) f y h = absurd (no_value e y h)

-- where a test that holds is a fault, it doesn't hold
pub unless : {X E : Type 0} (b : Bool) (e : E) (a : Result X E) (x : X) → Gave (if b then Err e else a) x → (b ≡ false) × Gave a x
unless {X} {E} true e a x h = absurd (no_value e x h)
unless {X} {E} false e a x h = (refl, h)

-- where a test that doesn't hold is a fault, it holds
pub where_true : {X E : Type 0} (b : Bool) (e : E) (a : Result X E) (x : X) → Gave (if b then a else Err e) x → (b ≡ true) × Gave a x
where_true {X} {E} true e a x h = (refl, h)
where_true {X} {E} false e a x h = absurd (no_value e x h)

-- the values of a list of answers
pub each_gave : {X Y : Type 0} (P : Y → Type 0) (f : X → Answer Y) (xs : List X) (ys : List Y) → ((x : X) (y : Y) → Gave (f x) y → P y) → Gave (each (map f xs)) ys → AllByRecursion P ys × (length ys ≡ length xs)
each_gave {X} {Y} P f [] ys h g = by ys (same [] ys g)
  where
    by : (ys : List Y) → [] ≡ ys → AllByRecursion P ys × (length ys ≡ 0)
    by [] e = (tt, refl)
    by (y ∷ ys) e = absurd (cc e)
each_gave {X} {Y} P f (x ∷ xs) ys h g =
    let a = both (f x) (λ z. each (map f xs) >>= λ zs. Ok (z ∷ zs)) ys g in
    let b = made (each (map f xs)) (λ zs. a.0 ∷ zs) ys a.2 in
    let c = each_gave P f xs b.0 h b.1 in
    by ys a.0 b.0 b.2 (h x a.0 a.1) c
  where
    by : (ys : List Y) (z : Y) (zs : List Y) → z ∷ zs ≡ ys → P z → AllByRecursion P zs × (length zs ≡ length xs) → AllByRecursion P ys × (length ys ≡ length (x ∷ xs))
    by ys z zs e p c = subst (λ ws. AllByRecursion P ws × (length ws ≡ length (x ∷ xs))) e ((p, c.0), ap suc c.1)
