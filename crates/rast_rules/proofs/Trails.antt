-- Premises one behind another: how lists of them follow on one another, and how a loop adds them.
use Rattle.std.proofs.Common.{◌≡◌, ℕ, suc, ◌+◌, ◌<◌, ◌≤◌, Bool, true, false, ◌||◌, if◌then◌else◌, List, [], ◌∷◌, ◌++◌, length, get_or, drop, sym, ◌∙◌, ap, refl, append_assoc, add-one, Result, Ok, Err}
use Rattle.std.specs.Prelude.{OnOk}
use Rattle.std.proofs.Math.Seq.{drop-cons}
use Rattle.std.proofs.lemmas.List.{drop_all, append-nil}
use Rattle.std.proofs.lemmas.List.Folds.{list_any-append}
use Rattle.rast_rules.specs.declared.premise.Premise.{Premise}
use Rattle.rast_rules.specs.Rules.{stops, until_stop}
use Rattle.rast_rules.specs.Trail.{any_stops, and_then}

abbrev pub Found : Type 0
Found = List (ℕ × Premise)

-- one premise before others, by whether it stops
abbrev before : Bool → (ℕ × Premise) → Found → Found
before b p ps = if b then p ∷ [] else p ∷ ps

any_until_one : (b : Bool) (p : ℕ × Premise) (ps : Found) → stops p.1 ≡ b → any_stops (until_stop ps) ≡ any_stops ps → any_stops (until_stop (p ∷ ps)) ≡ any_stops (p ∷ ps)
any_until_one true p ps e h = ap (λ b. any_stops (before b p (until_stop ps))) e ∙ ap (λ b. b || false) e ∙ sym (ap (λ b. b || any_stops ps) e)
any_until_one false p ps e h = ap (λ b. any_stops (before b p (until_stop ps))) e ∙ ap (λ b. stops p.1 || b) h

pub any_until : (ps : Found) → any_stops (until_stop ps) ≡ any_stops ps
any_until [] = refl
any_until (p ∷ ps) = any_until_one (stops p.1) p ps refl (any_until ps)

push_if : (c : Bool) (p : ℕ × Premise) (xs ys : Found) → (p ∷ (if c then xs else ys)) ≡ (if c then p ∷ xs else p ∷ ys)
push_if true p xs ys = refl
push_if false p xs ys = refl

until_one : (b : Bool) (p : ℕ × Premise) (ps qs : Found) → stops p.1 ≡ b → until_stop (ps ++ qs) ≡ and_then (until_stop ps) qs → until_stop (p ∷ (ps ++ qs)) ≡ and_then (until_stop (p ∷ ps)) qs
until_one true p ps qs e h =
    ap (λ b. before b p (until_stop (ps ++ qs))) e
    ∙ sym (ap (λ b. and_then (before b p (until_stop ps)) qs) e ∙ ap (λ b. if b || false then p ∷ [] else p ∷ until_stop qs) e)
until_one false p ps qs e h =
    ap (λ b. before b p (until_stop (ps ++ qs))) e ∙ ap (λ xs. p ∷ xs) h ∙ push_if (any_stops (until_stop ps)) p (until_stop ps) (until_stop ps ++ until_stop qs)
    ∙ sym (ap (λ b. and_then (before b p (until_stop ps)) qs) e ∙ ap (λ b. if b || any_stops (until_stop ps) then p ∷ until_stop ps else p ∷ (until_stop ps ++ until_stop qs)) e)

pub until_append : (ps qs : Found) → until_stop (ps ++ qs) ≡ and_then (until_stop ps) qs
until_append [] qs = refl
until_append (p ∷ ps) qs = until_one (stops p.1) p ps qs refl (until_append ps qs)

-- nothing comes behind a premise that stops
pub then_closed : (ps qs : Found) → any_stops ps ≡ true → and_then ps qs ≡ ps
then_closed ps qs e = ap (λ b. if b then ps else ps ++ until_stop qs) e

pub then_open : (ps qs : Found) → any_stops ps ≡ false → and_then ps qs ≡ ps ++ until_stop qs
then_open ps qs e = ap (λ b. if b then ps else ps ++ until_stop qs) e

pub then_nil : (ps : Found) → and_then ps [] ≡ ps
then_nil ps = either (any_stops ps)
  where
    either : (b : Bool) → (if b then ps else ps ++ []) ≡ ps
    either true = refl
    either false = append-nil ps

joined : (c : Bool) (ps us vs : Found) → (if c then ps ++ us else (ps ++ us) ++ vs) ≡ ps ++ (if c then us else us ++ vs)
joined true ps us vs = refl
joined false ps us vs = append_assoc ps us vs

then_by : (b : Bool) (ps qs rs : Found) → any_stops ps ≡ b → and_then (and_then ps qs) rs ≡ and_then ps (qs ++ rs)
then_by true ps qs rs e = ap (λ xs. and_then xs rs) (then_closed ps qs e) ∙ then_closed ps rs e ∙ sym (then_closed ps (qs ++ rs) e)
then_by false ps qs rs e =
    let us = until_stop qs in
    let open' : any_stops (ps ++ us) ≡ any_stops us = list_any-append (λ p. stops p.1) ps us ∙ ap (λ b. b || any_stops us) e in
    ap (λ xs. and_then xs rs) (then_open ps qs e)
    ∙ ap (λ b. if b then ps ++ us else (ps ++ us) ++ until_stop rs) open'
    ∙ joined (any_stops us) ps us (until_stop rs)
    ∙ ap (λ xs. ps ++ xs) (sym (until_append qs rs))
    ∙ sym (then_open ps (qs ++ rs) e)

pub then_then : (ps qs rs : Found) → and_then (and_then ps qs) rs ≡ and_then ps (qs ++ rs)
then_then ps qs rs = then_by (any_stops ps) ps qs rs refl

-- one more premise behind an open list
until_single : (p : ℕ × Premise) → until_stop (p ∷ []) ≡ p ∷ []
until_single p = either (stops p.1)
  where
    either : (b : Bool) → (if b then p ∷ [] else p ∷ []) ≡ p ∷ []
    either true = refl
    either false = refl

pub then_one : (ps : Found) (p : ℕ × Premise) → any_stops ps ≡ false → and_then ps (p ∷ []) ≡ ps ++ p ∷ []
then_one ps p e = then_open ps (p ∷ []) e ∙ ap (λ xs. ps ++ xs) (until_single p)

pub any_one : (ps : Found) (p : ℕ × Premise) → any_stops ps ≡ false → any_stops (ps ++ p ∷ []) ≡ stops p.1
any_one ps p e = list_any-append (λ q. stops q.1) ps (p ∷ []) ∙ ap (λ b. b || (stops p.1 || false)) e ∙ or_none (stops p.1)
  where
    or_none : (b : Bool) → (b || false) ≡ b
    or_none true = refl
    or_none false = refl

-- a closed list stays closed
pub any_after : (ps : Found) (p : ℕ × Premise) → stops p.1 ≡ true → any_stops (and_then ps (p ∷ [])) ≡ true
any_after ps p e = by_case (any_stops ps) refl
  where
    by_case : (b : Bool) → any_stops ps ≡ b → any_stops (and_then ps (p ∷ [])) ≡ true
    by_case true h = ap any_stops (then_closed ps (p ∷ []) h) ∙ h
    by_case false h = ap any_stops (then_one ps p h) ∙ any_one ps p h ∙ e

module _ (old mid new A B : Found) where
  pub two_then : mid ≡ and_then old A → new ≡ and_then mid B → new ≡ and_then old (A ++ B)
  two_then e f = f ∙ ap (λ ps. and_then ps B) e ∙ then_then old A B

-- ---- answers

pub on_ok : {T E P Q : Type 0} (r : Result T E) → (P → Q) → OnOk r P → OnOk r Q
on_ok {T} {E} {P} {Q} (Ok x) f h = f h
on_ok {T} {E} {P} {Q} (Err e) f h = tt

-- ---- a loop that adds premises

module _ {X : Type 0} (F : List X → Found) (one : X → ℕ × Premise) (steps : (x : X) (xs : List X) → F (x ∷ xs) ≡ one x ∷ F xs) where
  pub turn : (G now new : Found) (xs : List X) (i : ℕ) (x : X) → and_then now (F (drop i xs)) ≡ G → i < length xs → x ≡ get_or xs i x → new ≡ and_then now (one x ∷ []) →
      and_then new (F (drop (i + 1) xs)) ≡ G
  turn G now new xs i x inv below is step =
      let next : F (drop i xs) ≡ one x ∷ F (drop (suc i) xs) = ap F (drop-cons xs i x below ∙ ap (λ y. y ∷ drop (suc i) xs) (sym is)) ∙ steps x (drop (suc i) xs) in
      ap (λ j. and_then new (F (drop j xs))) (add-one i)
      ∙ ap (λ ps. and_then ps (F (drop (suc i) xs))) step
      ∙ then_then now (one x ∷ []) (F (drop (suc i) xs))
      ∙ ap (and_then now) (sym next) ∙ inv

pub closes : (G now qs : Found) → and_then now qs ≡ G → any_stops now ≡ true → now ≡ G
closes G now qs inv e = sym (then_closed now qs e) ∙ inv

pub ends : {X : Type 0} (F : List X → Found) (G now : Found) (xs : List X) (i : ℕ) → F [] ≡ [] → and_then now (F (drop i xs)) ≡ G → length xs ≤ i → now ≡ G
ends F G now xs i none inv past = sym (then_nil now) ∙ ap (and_then now) (sym (ap F (drop_all i xs past) ∙ none)) ∙ inv
