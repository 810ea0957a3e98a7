-- Answers one after another, and answers of a list in its order.
use Rattle.std.proofs.Common.{◌≡◌, ℕ, ◌+◌, ◌<◌, List, [], ◌∷◌, ◌++◌, length, get_or, drop, map, sym, ◌∙◌, ap, subst, refl, Ok, Err, add-one, append_assoc}
use Rattle.std.proofs.Math.Seq.{drop-cons}
use Rattle.rast_resolve.specs.declared.fault.NameErr.{NameErr}
use Rattle.rast_resolve.specs.declared.fault.NameErr.TheVariants.{Unknown, Twice, Arity, BadMain, Limit, Memory}
use Rattle.rast_resolve.specs.Answers.{Answer, ◌>>=◌, each, Fails, FailsWith}

-- a fault that is made is that of the answer
pub fails : {X : Type 0} (said : Answer X) (f e : NameErr) → said ≡ Err f → FailsWith f e → Fails said e
fails said f Memory is h = tt
fails said f (Unknown n) is h = is ∙ ap (λ x. Err x) h
fails said f (Twice n) is h = is ∙ ap (λ x. Err x) h
fails said f (Arity n) is h = is ∙ ap (λ x. Err x) h
fails said f (BadMain n) is h = is ∙ ap (λ x. Err x) h
fails said f (Limit n) is h = is ∙ ap (λ x. Err x) h

-- a fault of the first is that of both
pub passes : {X Y : Type 0} (a : Answer X) (k : X → Answer Y) (e : NameErr) → Fails a e → Fails (a >>= k) e
passes a k Memory h = tt
passes a k (Unknown n) h = rw h refl
passes a k (Twice n) h = rw h refl
passes a k (Arity n) h = rw h refl
passes a k (BadMain n) h = rw h refl
passes a k (Limit n) h = rw h refl

-- a fault of an equal answer
pub same_fault : {X : Type 0} (a b : Answer X) (e : NameErr) → a ≡ b → Fails a e → Fails b e
same_fault a b e is h = subst (λ x. Fails x e) is h

-- the rest of a list, from its first element on
pub opened : {A : Type 0} (xs : List A) (i : ℕ) (x : A) → i < length xs → x ≡ get_or xs i x → drop i xs ≡ x ∷ drop (i + 1) xs
opened xs i x h here = rw (drop-cons xs i x h, add-one, ← here) refl

-- a list of answers behind those that are there
abbrev pub behind : {X : Type 0} → List X → Answer (List X) → Answer (List X)
behind out a = a >>= λ xs. Ok (out ++ xs)

module _ {A X : Type 0} (f : A → Answer X) (ws : List A) (i : ℕ) (out : List X) (whole : Answer (List X)) (e : behind out (each (map f (drop i ws))) ≡ whole) where
  module _ (w : A) (h : i < length ws) (here : w ≡ get_or ws i w) where
    pub each_step : (y : X) → f w ≡ Ok y → behind (out ++ y ∷ []) (each (map f (drop (i + 1) ws))) ≡ whole
    each_step y is = regroup (each (map f (drop (i + 1) ws))) ∙ sym (rw (opened ws i w h here, is) refl) ∙ e
      where
        regroup : (a : Answer (List X)) → behind (out ++ y ∷ []) a ≡ behind out (a >>= λ xs. Ok (y ∷ xs))
        regroup (Ok xs) = ap (λ zs. Ok zs) (append_assoc out (y ∷ []) xs)
        regroup (Err e) = refl

-- an answer that is made from another
pub made_ok : {X Y : Type 0} (whole : Answer Y) (a : Answer X) (k : X → Y) (x : X) (y : Y) → whole ≡ (a >>= λ z. Ok (k z)) → a ≡ Ok x → y ≡ k x → whole ≡ Ok y
made_ok whole a k x y e is f = e ∙ rw is (ap (λ z. Ok z) (sym f))

pub made_fails : {X Y : Type 0} (whole : Answer Y) (a : Answer X) (k : X → Y) (g : NameErr) → whole ≡ (a >>= λ z. Ok (k z)) → Fails a g → Fails whole g
made_fails whole a k g e h = same_fault _ _ g (sym e) (passes a (λ z. Ok (k z)) g h)

-- what is made of each step of an answer is what is made of the whole
pub chained : {X Y Z : Type 0} (a : Answer X) (f : X → Answer Y) (k : Y → Answer Z) (g : X → Answer Z) → ((x : X) → g x ≡ (f x >>= k)) → (a >>= g) ≡ ((a >>= f) >>= k)
chained (Ok x) f k g h = h x
chained (Err e) f k g h = refl
