-- Lists of files, and a file that is read on.
use Rattle.std.proofs.Common.{◌≡◌, ℕ, zero, suc, List, [], ◌∷◌, ◌++◌, ◌<◌, ◌+◌, if◌then◌else◌, None, Some, refl, sym, ap, ◌∙◌, length, get_or, take, drop, min, add-one, arith, string_bytes, true, false, Bool}
use Rattle.std.specs.Option.{ForSome, option_map}
use Rattle.std.proofs.lemmas.List.{drop-drop, take-append-drop}
use Rattle.std.proofs.lemmas.Grind.{common_steps}
use Rattle.std.specs.Str.{bytes_eq}
use Rattle.std.specs.declared.option.Option.{Option}
use Rattle.std.specs.Io.KnownBytes.{Consumes}
use Rattle.rast_io.specs.declared.mem_files.File.{File}
use Rattle.rast_io.specs.declared.mem_files.Open.{Open}
use Rattle.rast_io.specs.Held.{newest_from, bytes_at, IsPlaced, left_of}

pub bytes_at_is : (fs : List File) (i : ℕ) (f : File) → f ≡ get_or fs i f → i < length fs → bytes_at fs i ≡ f.bytes.items
bytes_at_is [] i f e lt = let none : ⊥ = omega arith in absurd none
bytes_at_is (g ∷ fs) zero f e lt = ap (λ (h : File). h.bytes.items) (sym e)
bytes_at_is (g ∷ fs) (suc i) f e lt = bytes_at_is fs i f e (omega arith)

pub newest_step : (fs : List File) (i : ℕ) (f : File) (found : Option (List ℕ)) (name : List ℕ) → f ≡ get_or fs i f → i < length fs
    → newest_from found (drop i fs) name ≡ newest_from (if bytes_eq (string_bytes f.name) name then Some f.bytes.items else found) (drop (suc i) fs) name
newest_step [] i f found name e lt = let none : ⊥ = omega arith in absurd none
newest_step (g ∷ fs) zero f found name e lt = ap (λ (h : File). newest_from (if bytes_eq (string_bytes h.name) name then Some h.bytes.items else found) fs name) (sym e)
newest_step (g ∷ fs) (suc i) f found name e lt = newest_step fs i f found name e (omega arith)

pub newest_append : (fs : List File) (found : Option (List ℕ)) (f : File) (name : List ℕ)
    → newest_from found (fs ++ f ∷ []) name ≡ (if bytes_eq (string_bytes f.name) name then Some f.bytes.items else newest_from found fs name)
newest_append [] found f name = refl
newest_append (g ∷ fs) found f name = newest_append fs _ f name

pub bytes_at_append : (fs gs : List File) (i : ℕ) → i < length fs → bytes_at (fs ++ gs) i ≡ bytes_at fs i
bytes_at_append [] gs i lt = let none : ⊥ = omega arith in absurd none
bytes_at_append (g ∷ fs) gs zero lt = refl
bytes_at_append (g ∷ fs) gs (suc i) lt = bytes_at_append fs gs i (omega arith)

pub placed_append : (fs gs : List File) (o : Open) → IsPlaced fs o → IsPlaced (fs ++ gs) o
placed_append fs gs o p = (grind (arith, common_steps, p.0), rw (bytes_at_append fs gs o.place p.0) p.1)

pub read_on : (whole part : List ℕ) (read n : ℕ) → take n part ≡ take n (drop read whole) → Consumes (Some (drop read whole)) (Some (drop (read + n) whole)) (take n part)
read_on whole part read n e = rw (e, ← drop-drop n read whole) (sym (take-append-drop n (drop read whole)))

-- where a file is open, what is left of it
pub left_when : (fs : List File) (current : Option Open) (o : Open) → current ≡ Some o → left_of fs current ≡ Some (drop o.read (bytes_at fs o.place))
left_when fs current o e = rw e refl

pub placed_on : (fs : List File) (o : Open) (n len : ℕ) → IsPlaced fs o → n ≡ min (length (drop o.read (bytes_at fs o.place))) len → IsPlaced fs (record { place = o.place; read = o.read + n })
placed_on fs o n len p e = (p.0, grind (arith, common_steps, e, p.1))

-- a new file leaves what is left of an open one
pub left_append : (fs gs : List File) (current : Option Open) → ForSome current (IsPlaced fs) → left_of (fs ++ gs) current ≡ left_of fs current
left_append fs gs None p = refl
left_append fs gs (Some o) p = rw (bytes_at_append fs gs o.place (p o refl).0) refl

-- one step of the search: this file has the name, or not
pub step_found : (fs : List File) (i : ℕ) (f : File) (found : Option ℕ) (name : List ℕ) → f ≡ get_or fs i f → i < length fs → true ≡ bytes_eq (string_bytes f.name) name
    → newest_from None fs name ≡ newest_from (option_map (bytes_at fs) found) (drop i fs) name
    → newest_from None fs name ≡ newest_from (Some (bytes_at fs i)) (drop (i + 1) fs) name
step_found fs i f found name e lt t h =
    let s = newest_step fs i f (option_map (bytes_at fs) found) name e lt in
    rw (bytes_at_is fs i f e lt, add-one) (h ∙ (rw (← t) at s))

pub step_other : (fs : List File) (i : ℕ) (f : File) (found : Option ℕ) (name : List ℕ) → f ≡ get_or fs i f → i < length fs → false ≡ bytes_eq (string_bytes f.name) name
    → newest_from None fs name ≡ newest_from (option_map (bytes_at fs) found) (drop i fs) name
    → newest_from None fs name ≡ newest_from (option_map (bytes_at fs) found) (drop (i + 1) fs) name
step_other fs i f found name e lt t h =
    let s = newest_step fs i f (option_map (bytes_at fs) found) name e lt in
    rw add-one (h ∙ (rw (← t) at s))

-- a push that may fail
pub placed_pushed : (b : Bool) (fs gs now : List File) (current : Option Open) → now ≡ (if b then fs ++ gs else fs) → ForSome current (IsPlaced fs) → ForSome current (IsPlaced now)
placed_pushed true fs gs now current e p = λ o is. rw e (placed_append fs gs o (p o is))
placed_pushed false fs gs now current e p = rw e p

pub left_pushed : (b : Bool) (fs gs now : List File) (current : Option Open) → now ≡ (if b then fs ++ gs else fs) → ForSome current (IsPlaced fs) → left_of now current ≡ left_of fs current
left_pushed true fs gs now current e p = rw e (left_append fs gs current p)
left_pushed false fs gs now current e p = rw e refl

-- what a read took of an open file
pub took : (fs : List File) (current : Option Open) (o : Open) (rest part : List ℕ) (n : ℕ) → current ≡ Some o → rest ≡ drop o.read (bytes_at fs o.place)
    → n ≡ min (length rest) (length part) → take n part ≡ take n rest
    → Consumes (left_of fs current) (Some (drop (o.read + n) (bytes_at fs o.place))) (take n part) × (n ≡ 0 → 0 < length part → drop (o.read + n) (bytes_at fs o.place) ≡ [])
took fs current o rest part n is e m t = (
  rw (left_when fs current o is) (read_on (bytes_at fs o.place) part o.read n (rw e at t)),
  λ none some. let empty : length (drop o.read (bytes_at fs o.place)) ≡ 0 = (let f : length rest ≡ length (drop o.read (bytes_at fs o.place)) = ap length e in omega (arith, f, m, none, some)) in grind (arith, common_steps, empty, none),
)
