-- The premises on ticks, heads and parts of an equation whose walk is served.
use Rattle.std.proofs.Common.{◌≡◌, ℕ, Bool, true, false, List, [], ◌∷◌, ◌++◌, sym, ◌∙◌, ap, ap₂, refl, Option, Some, None, cond}
use Rattle.rast_index.specs.Truth.{is_equal}
use Rattle.rast_index.specs.declared.formula.Formula.TheVariants as form
use Rattle.rast_types.specs.Closed.{Table, Layer}
use Rattle.rast_types.specs.Symbolic.{exposed_type}
use Rattle.rast_types.specs.declared.equation.Equation.{Equation}
use Rattle.rast_types.specs.declared.equation.Ref.{Ref}
use Rattle.rast_types.specs.declared.ty.Ty.{Ty, out-Ty}
use Rattle.rast_types.specs.declared.ty.Ty.TheFolds.{map-Ty}
use Rattle.rast_types.specs.declared.ty.Ty.TheOpen.{Ty-F, One, Plus, With, Tensor, Lolli, Named, Ex, All as Each, Assert, Assume, Pays, Gets, Next}
use Rattle.rast_types.proofs.Heads.{within_ok}
use Rattle.rast_equal.specs.declared.answer.SameErr.{SameErr}
use Rattle.rast_equal.specs.declared.met.Met.{Met}
use Rattle.rast_equal.specs.declared.met.Met.TheVariants.{Wants, Names, Differs, Shuffled, Over}
use Rattle.rast_equal.specs.declared.place.Place.{Place}
use Rattle.rast_equal.specs.Equated.{are_small_both, first_premise, is_deep_either, or_premise}
use Rattle.rast_equal.specs.Fault.{first_fault, or_next as or_fault, point_fault}
use Rattle.std.specs.Prelude.{flat_map, map, ◌&&◌}
use Rattle.std.specs.List.{list_all}
use Rattle.rast_index.specs.Keys.{find_key}
use Rattle.rast_equal.specs.Walk.{at_label, is_among, same_list, Heads, Point, Asks, Walker, all_of, choices, head_layers, heads, if_made, is_some_met, or_refl, part_points, parts_served, serve, tagged, top, walker}
use Rattle.rast_eqfind.specs.Found.{opened_points}
use Rattle.rast_eqfind.proofs.Sames.{Walked, refs_serve, serve_wants, serve_differs, serve_shuffled}

-- ---- what is met at heads is no name

abbrev pub IsPlain : List Met → Type 0
IsPlain [] = Unit {0}
IsPlain (Wants p goal ∷ ms) = IsPlain ms
IsPlain (Names p a b ∷ ms) = ⊥
IsPlain (Differs p ∷ ms) = IsPlain ms
IsPlain (Shuffled p ∷ ms) = IsPlain ms
IsPlain (Over ∷ ms) = ⊥

abbrev heads_own : Heads → List Met
heads_own h = h.own

plain_either : (b c : Bool) (p : Place) (xs ys : List Met) → IsPlain (heads_own (cond {A = Heads} b (record { own = cond c [] (Shuffled p ∷ []); parts = xs }) (record { own = Differs p ∷ []; parts = ys })))
plain_either true true p xs ys = tt
plain_either true false p xs ys = tt
plain_either false c p xs ys = tt

choices_plain : (ts : List (ℕ × Walker)) (us : List (ℕ × Ty)) (p : Place) → IsPlain (choices ts us p).own
choices_plain ts us p = plain_either (list_all (is_among us) ts && list_all (is_among ts) us) (same_list (map (λ e. e.0) ts) (map (λ e. e.0) us)) p (flat_map (λ e. at_label p e (find_key e.0 us)) ts) []

heads_plain : (x : Ty-F Walker) (y : Layer) (p : Place) → IsPlain (heads x y p).own
heads_plain One One p = tt
heads_plain One (Plus c) p = tt
heads_plain One (With c) p = tt
heads_plain One (Tensor c d) p = tt
heads_plain One (Lolli c d) p = tt
heads_plain One (Named c d) p = tt
heads_plain One (Ex c) p = tt
heads_plain One (Each c) p = tt
heads_plain One (Assert c d) p = tt
heads_plain One (Assume c d) p = tt
heads_plain One (Pays c d) p = tt
heads_plain One (Gets c d) p = tt
heads_plain One (Next c d) p = tt
heads_plain (Plus a) One p = tt
heads_plain (Plus a) (Plus c) p = choices_plain a c p
heads_plain (Plus a) (With c) p = tt
heads_plain (Plus a) (Tensor c d) p = tt
heads_plain (Plus a) (Lolli c d) p = tt
heads_plain (Plus a) (Named c d) p = tt
heads_plain (Plus a) (Ex c) p = tt
heads_plain (Plus a) (Each c) p = tt
heads_plain (Plus a) (Assert c d) p = tt
heads_plain (Plus a) (Assume c d) p = tt
heads_plain (Plus a) (Pays c d) p = tt
heads_plain (Plus a) (Gets c d) p = tt
heads_plain (Plus a) (Next c d) p = tt
heads_plain (With a) One p = tt
heads_plain (With a) (Plus c) p = tt
heads_plain (With a) (With c) p = choices_plain a c p
heads_plain (With a) (Tensor c d) p = tt
heads_plain (With a) (Lolli c d) p = tt
heads_plain (With a) (Named c d) p = tt
heads_plain (With a) (Ex c) p = tt
heads_plain (With a) (Each c) p = tt
heads_plain (With a) (Assert c d) p = tt
heads_plain (With a) (Assume c d) p = tt
heads_plain (With a) (Pays c d) p = tt
heads_plain (With a) (Gets c d) p = tt
heads_plain (With a) (Next c d) p = tt
heads_plain (Tensor a b) One p = tt
heads_plain (Tensor a b) (Plus c) p = tt
heads_plain (Tensor a b) (With c) p = tt
heads_plain (Tensor a b) (Tensor c d) p = tt
heads_plain (Tensor a b) (Lolli c d) p = tt
heads_plain (Tensor a b) (Named c d) p = tt
heads_plain (Tensor a b) (Ex c) p = tt
heads_plain (Tensor a b) (Each c) p = tt
heads_plain (Tensor a b) (Assert c d) p = tt
heads_plain (Tensor a b) (Assume c d) p = tt
heads_plain (Tensor a b) (Pays c d) p = tt
heads_plain (Tensor a b) (Gets c d) p = tt
heads_plain (Tensor a b) (Next c d) p = tt
heads_plain (Lolli a b) One p = tt
heads_plain (Lolli a b) (Plus c) p = tt
heads_plain (Lolli a b) (With c) p = tt
heads_plain (Lolli a b) (Tensor c d) p = tt
heads_plain (Lolli a b) (Lolli c d) p = tt
heads_plain (Lolli a b) (Named c d) p = tt
heads_plain (Lolli a b) (Ex c) p = tt
heads_plain (Lolli a b) (Each c) p = tt
heads_plain (Lolli a b) (Assert c d) p = tt
heads_plain (Lolli a b) (Assume c d) p = tt
heads_plain (Lolli a b) (Pays c d) p = tt
heads_plain (Lolli a b) (Gets c d) p = tt
heads_plain (Lolli a b) (Next c d) p = tt
heads_plain (Named a b) One p = tt
heads_plain (Named a b) (Plus c) p = tt
heads_plain (Named a b) (With c) p = tt
heads_plain (Named a b) (Tensor c d) p = tt
heads_plain (Named a b) (Lolli c d) p = tt
heads_plain (Named a b) (Named c d) p = tt
heads_plain (Named a b) (Ex c) p = tt
heads_plain (Named a b) (Each c) p = tt
heads_plain (Named a b) (Assert c d) p = tt
heads_plain (Named a b) (Assume c d) p = tt
heads_plain (Named a b) (Pays c d) p = tt
heads_plain (Named a b) (Gets c d) p = tt
heads_plain (Named a b) (Next c d) p = tt
heads_plain (Ex a) One p = tt
heads_plain (Ex a) (Plus c) p = tt
heads_plain (Ex a) (With c) p = tt
heads_plain (Ex a) (Tensor c d) p = tt
heads_plain (Ex a) (Lolli c d) p = tt
heads_plain (Ex a) (Named c d) p = tt
heads_plain (Ex a) (Ex c) p = tt
heads_plain (Ex a) (Each c) p = tt
heads_plain (Ex a) (Assert c d) p = tt
heads_plain (Ex a) (Assume c d) p = tt
heads_plain (Ex a) (Pays c d) p = tt
heads_plain (Ex a) (Gets c d) p = tt
heads_plain (Ex a) (Next c d) p = tt
heads_plain (Each a) One p = tt
heads_plain (Each a) (Plus c) p = tt
heads_plain (Each a) (With c) p = tt
heads_plain (Each a) (Tensor c d) p = tt
heads_plain (Each a) (Lolli c d) p = tt
heads_plain (Each a) (Named c d) p = tt
heads_plain (Each a) (Ex c) p = tt
heads_plain (Each a) (Each c) p = tt
heads_plain (Each a) (Assert c d) p = tt
heads_plain (Each a) (Assume c d) p = tt
heads_plain (Each a) (Pays c d) p = tt
heads_plain (Each a) (Gets c d) p = tt
heads_plain (Each a) (Next c d) p = tt
heads_plain (Assert a b) One p = tt
heads_plain (Assert a b) (Plus c) p = tt
heads_plain (Assert a b) (With c) p = tt
heads_plain (Assert a b) (Tensor c d) p = tt
heads_plain (Assert a b) (Lolli c d) p = tt
heads_plain (Assert a b) (Named c d) p = tt
heads_plain (Assert a b) (Ex c) p = tt
heads_plain (Assert a b) (Each c) p = tt
heads_plain (Assert a b) (Assert c d) p = tt
heads_plain (Assert a b) (Assume c d) p = tt
heads_plain (Assert a b) (Pays c d) p = tt
heads_plain (Assert a b) (Gets c d) p = tt
heads_plain (Assert a b) (Next c d) p = tt
heads_plain (Assume a b) One p = tt
heads_plain (Assume a b) (Plus c) p = tt
heads_plain (Assume a b) (With c) p = tt
heads_plain (Assume a b) (Tensor c d) p = tt
heads_plain (Assume a b) (Lolli c d) p = tt
heads_plain (Assume a b) (Named c d) p = tt
heads_plain (Assume a b) (Ex c) p = tt
heads_plain (Assume a b) (Each c) p = tt
heads_plain (Assume a b) (Assert c d) p = tt
heads_plain (Assume a b) (Assume c d) p = tt
heads_plain (Assume a b) (Pays c d) p = tt
heads_plain (Assume a b) (Gets c d) p = tt
heads_plain (Assume a b) (Next c d) p = tt
heads_plain (Pays a b) One p = tt
heads_plain (Pays a b) (Plus c) p = tt
heads_plain (Pays a b) (With c) p = tt
heads_plain (Pays a b) (Tensor c d) p = tt
heads_plain (Pays a b) (Lolli c d) p = tt
heads_plain (Pays a b) (Named c d) p = tt
heads_plain (Pays a b) (Ex c) p = tt
heads_plain (Pays a b) (Each c) p = tt
heads_plain (Pays a b) (Assert c d) p = tt
heads_plain (Pays a b) (Assume c d) p = tt
heads_plain (Pays a b) (Pays c d) p = tt
heads_plain (Pays a b) (Gets c d) p = tt
heads_plain (Pays a b) (Next c d) p = tt
heads_plain (Gets a b) One p = tt
heads_plain (Gets a b) (Plus c) p = tt
heads_plain (Gets a b) (With c) p = tt
heads_plain (Gets a b) (Tensor c d) p = tt
heads_plain (Gets a b) (Lolli c d) p = tt
heads_plain (Gets a b) (Named c d) p = tt
heads_plain (Gets a b) (Ex c) p = tt
heads_plain (Gets a b) (Each c) p = tt
heads_plain (Gets a b) (Assert c d) p = tt
heads_plain (Gets a b) (Assume c d) p = tt
heads_plain (Gets a b) (Pays c d) p = tt
heads_plain (Gets a b) (Gets c d) p = tt
heads_plain (Gets a b) (Next c d) p = tt
heads_plain (Next a b) One p = tt
heads_plain (Next a b) (Plus c) p = tt
heads_plain (Next a b) (With c) p = tt
heads_plain (Next a b) (Tensor c d) p = tt
heads_plain (Next a b) (Lolli c d) p = tt
heads_plain (Next a b) (Named c d) p = tt
heads_plain (Next a b) (Ex c) p = tt
heads_plain (Next a b) (Each c) p = tt
heads_plain (Next a b) (Assert c d) p = tt
heads_plain (Next a b) (Assume c d) p = tt
heads_plain (Next a b) (Pays c d) p = tt
heads_plain (Next a b) (Gets c d) p = tt
heads_plain (Next a b) (Next c d) p = tt

both_none : (o q : Option SameErr) → or_fault o q ≡ None → (o ≡ None) × (q ≡ None)
both_none None q h = (refl, h)
both_none (Some e) q h = absurd (cc)

serve_plain : (es : List Equation) (rs : List Ref) (own parts : List Met) → IsPlain own → first_fault (serve es rs (own ++ parts)) ≡ None → (first_fault (serve es [] own) ≡ None) × (first_fault (serve es rs parts) ≡ None)
serve_plain es rs [] parts plain h = (refl, h)
serve_plain es rs (Wants p g ∷ ms) parts plain h =
    let w = both_none (point_fault (Asks p g)) (first_fault (serve es rs (ms ++ parts))) (sym (ap first_fault (serve_wants es rs p g (ms ++ parts))) ∙ h) in
    let k = serve_plain es rs ms parts plain w.1 in
    (ap₂ or_fault w.0 k.0, k.1)
serve_plain es rs (Names p a b ∷ ms) parts plain h = absurd plain
serve_plain es rs (Differs p ∷ ms) parts plain h =
    let w = both_none (point_fault (Asks p form.False)) (first_fault (serve es rs (ms ++ parts))) (sym (ap first_fault (serve_differs es rs p (ms ++ parts))) ∙ h) in
    let k = serve_plain es rs ms parts plain w.1 in
    (ap₂ or_fault w.0 k.0, k.1)
serve_plain es rs (Shuffled p ∷ ms) parts plain h =
    let k = serve_plain es rs ms parts plain (sym (ap first_fault (serve_shuffled es rs p (ms ++ parts))) ∙ h) in
    (k.0, k.1)
serve_plain es rs (Over ∷ ms) parts plain h = absurd plain

-- ---- premises

tagged_none : (k : ℕ) (xs : List Point) (more : List (ℕ × Point)) → first_fault xs ≡ None → first_premise (tagged k xs ++ more) ≡ first_premise more
tagged_none k [] more h = refl
tagged_none k (x ∷ xs) more h =
    let w = both_none (point_fault x) (first_fault xs) h in
    ap (λ o. or_premise k o (first_premise (tagged k xs ++ more))) w.0 ∙ tagged_none k xs more w.1

tagged_last : (k : ℕ) (xs : List Point) → first_fault xs ≡ None → first_premise (tagged k xs) ≡ None
tagged_last k [] h = refl
tagged_last k (x ∷ xs) h =
    let w = both_none (point_fault x) (first_fault xs) h in
    ap (λ o. or_premise k o (first_premise (tagged k xs))) w.0 ∙ tagged_last k xs w.1

parts_none : (es : List Equation) (rs : List Ref) (ms : List Met) → first_fault (serve es rs ms) ≡ None → first_fault (parts_served es rs ms) ≡ None
parts_none es rs ms h = by (is_some_met ms)
  where
    by : (b : Bool) → first_fault (cond b (serve es (or_refl rs ms) ms) []) ≡ None
    by true = refs_serve es rs ms h
    by false = refl

made_none : (deep small : Bool) (xs : List Point) → deep ≡ false → small ≡ true → first_fault xs ≡ None → first_fault (if_made deep small xs) ≡ None
made_none deep small xs e f h = ap₂ (λ d s. first_fault (if_made d s xs)) e f ∙ h

pub walked_premises : (t : Table) (es : List Equation) (e : Equation) → Walked t es e → first_premise (opened_points t es e) ≡ None
walked_premises t es e w =
    let p = top e.vars (e.premise ∷ []) in
    let a = exposed_type t e.vars e.left in
    let b = exposed_type t e.vars e.right in
    let h = head_layers a b p in
    let g = is_equal a.ticks b.ticks in
    let o = within_ok (is_deep_either e.vars a b) (are_small_both a b) (Wants p g ∷ all_of h) w.0 w.1 in
    let all : first_fault (serve es e.refs (Wants p g ∷ all_of h)) ≡ None = ap (λ ms. first_fault (serve es e.refs ms)) o.is ∙ w.2 in
    let u = both_none (point_fault (Asks p g)) (first_fault (serve es e.refs (all_of h))) (sym (ap first_fault (serve_wants es e.refs p g (all_of h))) ∙ all) in
    let v = serve_plain es e.refs h.own h.parts (heads_plain (map-Ty Ty Walker walker (out-Ty a.body)) (out-Ty b.body) p) u.1 in
    tagged_none 3 (if_made (is_deep_either e.vars a b) (are_small_both a b) (Asks p g ∷ [])) _ (made_none (is_deep_either e.vars a b) (are_small_both a b) (Asks p g ∷ []) o.shallow o.fits (ap (λ x. or_fault x None) u.0))
    ∙ tagged_none 4 (serve es [] h.own) _ v.0
    ∙ tagged_last 5 (part_points es e.refs h) (parts_none es e.refs h.parts v.1)
