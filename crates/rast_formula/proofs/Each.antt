-- Answers that are gathered one after another, and places in lists.
use Rattle.std.proofs.Common.{◌≡◌, ℕ, zero, suc, ◌+◌, ◌<◌, Bool, true, false, ◌&&◌, List, [], ◌∷◌, ◌++◌, length, drop, get_or, map, refl, sym, ap, ap₂, ◌∙◌, arith, add-one, drop-cons, append_assoc, Ok, Err}
use Rattle.std.specs.List.{list_all}
use Rattle.rast_formula.specs.declared.refusal.ScopeErr.{ScopeErr}
use Rattle.rast_formula.specs.declared.refusal.ScopeErr.TheVariants as refusal
use Rattle.rast_formula.specs.Answers.{Answer, ◌>>=◌, each, gathered, Gives}
use Rattle.rast_index.specs.declared.formula.Formula.{Formula}
use Rattle.rast_formula.specs.Formulas.{joined, all_joined}

-- an element at a place begins what is dropped there
pub drop_at_item : {X : Type 0} (xs : List X) (i : ℕ) (x : X) → x ≡ get_or xs i x → i < length xs → drop i xs ≡ x ∷ drop (i + 1) xs
drop_at_item xs i x e lt = rw add-one (drop-cons xs i x lt ∙ ap (λ y. y ∷ drop (suc i) xs) (sym e))

pub all_at : {X : Type 0} (p : X → Bool) (xs : List X) (i : ℕ) (x : X) → x ≡ get_or xs i x → i < length xs → list_all p xs ≡ true → p x ≡ true
all_at p [] i x e lt h = absurd (omega arith)
all_at p (y ∷ ys) zero x e lt h = rw e (two (p y) _ h).0
  where
    two : (a b : Bool) → (a && b) ≡ true → (a ≡ true) × (b ≡ true)
    two true b e = (refl, e)
    two false b e = absurd (cc)
all_at p (y ∷ ys) (suc i) x e lt h = all_at p ys i x e (omega arith) (two (p y) _ h).1
  where
    two : (a b : Bool) → (a && b) ≡ true → (a ≡ true) × (b ≡ true)
    two true b e = (refl, e)
    two false b e = absurd (cc)

-- an answer that fails, fails the whole
pub stops : {X Y : Type 0} (said : Answer X) (f : X → Answer Y) (e : ScopeErr) → Gives said (Err e) → Gives (said >>= f) (Err e)
stops said f refusal.Memory h = tt
stops said f (refusal.Unknown n) h = rw h refl
stops said f refusal.Limit h = rw h refl

-- an answer that is there goes on
pub goes_on : {X Y : Type 0} (said : Answer X) (f : X → Answer Y) (x : X) (r : Answer Y) → Gives said (Ok x) → Gives (f x) r → Gives (said >>= f) r
goes_on said f x r h g = rw h g

after : {X : Type 0} (xs : List X) (x : X) (m : Answer (List X)) → ((m >>= λ ys. Ok (x ∷ ys)) >>= λ zs. Ok (xs ++ zs)) ≡ (m >>= λ ys. Ok ((xs ++ x ∷ []) ++ ys))
after xs x (Ok ys) = ap Ok (sym (append_assoc xs (x ∷ []) ys))
after xs x (Err e) = refl

-- one more is gathered
pub gathers : {X Y : Type 0} (f : Y → Answer X) (xs : List X) (ys : List Y) (i : ℕ) (y : Y) (x : X) → y ≡ get_or ys i y → i < length ys → Gives (f y) (Ok x)
    → gathered (xs ++ x ∷ []) (map f (drop (i + 1) ys)) ≡ gathered xs (map f (drop i ys))
gathers f xs ys i y x e lt h = rw (drop_at_item ys i y e lt, h) (sym (after xs x (each (map f (drop (i + 1) ys)))))

-- one fails
pub fails_there : {X Y : Type 0} (f : Y → Answer X) (xs : List X) (ys : List Y) (i : ℕ) (y : Y) (whole : Answer (List X)) (e : ScopeErr) → y ≡ get_or ys i y → i < length ys
    → gathered xs (map f (drop i ys)) ≡ whole → Gives (f y) (Err e) → Gives whole (Err e)
fails_there {X} f xs ys i y whole refusal.Memory is lt same h = tt
fails_there {X} f xs ys i y whole (refusal.Unknown n) is lt same h = sym same ∙ rw (drop_at_item ys i y is lt, h) refl
fails_there {X} f xs ys i y whole refusal.Limit is lt same h = sym same ∙ rw (drop_at_item ys i y is lt, h) refl

-- nothing is gathered at first
pub gathered_none : {X : Type 0} (m : List (Answer X)) → gathered [] m ≡ each m
gathered_none {X} m = by (each m)
  where
    by : (a : Answer (List X)) → (a >>= λ ys. Ok ([] ++ ys)) ≡ a
    by (Ok ys) = refl
    by (Err e) = refl

pub joined_gives : (join : List Formula → Formula) (said : Answer Formula) (rest : List (Answer Formula)) (f : Formula) (fs : List Formula) → Gives said (Ok f) → Gives (each rest) (Ok fs) → all_joined join said rest ≡ Ok (joined join f fs)
joined_gives join said rest f fs h g = rw (h, g) refl

pub joined_stops : (join : List Formula → Formula) (said : Answer Formula) (rest : List (Answer Formula)) (f : Formula) (e : ScopeErr) → Gives said (Ok f) → Gives (each rest) (Err e) → Gives (all_joined join said rest) (Err e)
joined_stops join said rest f e h g = goes_on said (λ f. each rest >>= λ fs. Ok (joined join f fs)) f (Err e) h (stops (each rest) (λ fs. Ok (joined join f fs)) e g)

pub all_push : {X : Type 0} (p : X → Bool) (xs : List X) (x : X) → list_all p xs ≡ true → p x ≡ true → list_all p (xs ++ x ∷ []) ≡ true
all_push p [] x h e = ap (λ b. b && true) e
all_push p (y ∷ ys) x h e = let g = both (p y) _ h in ap₂ (λ a b. a && b) g.0 (all_push p ys x g.1 e)
  where
    both : (a b : Bool) → (a && b) ≡ true → (a ≡ true) × (b ≡ true)
    both true b e = (refl, e)
    both false b e = absurd (cc)
