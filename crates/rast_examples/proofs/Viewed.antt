-- Which types are equal, which views serve one another, and which moments suit one, row by row.
use Rattle.std.proofs.Common.{◌≡◌, ℕ, zero, suc, ℤ, pos, ◌+ℤ◌, true, false, List, [], ◌∷◌, Option, Some, is_some, refl, sym, ap, ◌∙◌, subst, subst₂}
use Rattle.rast_index.specs.Linear.{fixed}
use Rattle.rast_types.specs.Closed.{Closed, Table, closed, part_of, exposed, EqualTo, Equal, Way, Label, First, Second, Inner, At, part_layer, arrival, head, Serves, Suits}
use Rattle.rast_types.specs.declared.ty.Ty.TheVariants as ty
use Rattle.rast_types.specs.declared.ty.Kind.TheVariants as kind
use Rattle.rast_examples.specs.Views.{none, choice, one, plain, after, pays, gets, at}
use Rattle.rast_examples.proofs.Heads.{Form, Head, of_form, of_next, to, from, one_to}
use Rattle.rast_examples.proofs.Heads as form

apart : false ≡ true → ⊥
apart e = cc

abbrev choosing : Form
choosing = form.plus ((2, one) ∷ [])

-- ---- equality

some_same : {A : Type 0} {x y : A} (o : Option A) → o ≡ Some x → o ≡ Some y → x ≡ y
some_same {A} o p q = cc

to_itself : (t : Table) (k : ℕ) (a : Closed) → EqualTo t k a a
to_itself t zero a = tt
to_itself t (suc k) a = (
  refl,
  record {
    kind = refl;
    figure = refl;
    ways = λ w. refl;
    parts = λ w x y p q. subst (λ z. EqualTo t k x z) (some_same (part_of (exposed t a).head w) p q) (to_itself t k x);
  },
)

pub type_equals_itself : Equal none (plain (after 2 choice)) (plain (after 2 choice))
type_equals_itself = λ k. to_itself none k (plain (after 2 choice))

pub one_is_equal_at_any_numbers : (xs ys : List ℤ) → Equal none (closed one xs) (closed one ys)
one_is_equal_at_any_numbers xs ys = λ k. one_to none k xs ys

one_is_no_choice : EqualTo none 1 (plain one) (plain choice) → ⊥
one_is_no_choice h = let e : Some kind.One ≡ Some kind.Plus = (to none 0 (plain one) (plain choice) (of_form none form.one []) (of_form none choosing []) h).1.kind in absurd (cc)

pub other_ticks_are_not_equal : Equal none (plain (after 2 one)) (plain (after 3 one)) → ⊥
other_ticks_are_not_equal h = let e : pos 2 ≡ pos 3 = (to none 0 (plain (after 2 one)) (plain (after 3 one)) (of_next none (fixed (pos 2)) form.one []) (of_next none (fixed (pos 3)) form.one []) (h 1)).0 in absurd (cc)

pub ticks_before_it_are_not_equal : Equal none (plain (after 1 one)) (plain one) → ⊥
ticks_before_it_are_not_equal h = let e : pos 1 ≡ pos 0 = (to none 0 (plain (after 1 one)) (plain one) (of_next none (fixed (pos 1)) form.one []) (of_form none form.one []) (h 1)).0 in absurd (cc)

pub plus_and_with_are_not_equal : Equal none (plain choice) (plain (ty.With ((2, one) ∷ []))) → ⊥
plus_and_with_are_not_equal h = let e : Some kind.Plus ≡ Some kind.With = (to none 0 (plain choice) (plain (ty.With ((2, one) ∷ []))) (of_form none choosing []) (of_form none (form.with' ((2, one) ∷ [])) []) (h 1)).1.kind in absurd (cc)

pub pays_and_gets_are_not_equal : Equal none (plain (pays 1 one)) (plain (gets 1 one)) → ⊥
pays_and_gets_are_not_equal h = let e : Some kind.Pays ≡ Some kind.Gets = (to none 0 (plain (pays 1 one)) (plain (gets 1 one)) (of_form none (form.pays (fixed (pos 1)) one) []) (of_form none (form.gets (fixed (pos 1)) one) []) (h 1)).1.kind in absurd (cc)

pub other_amounts_are_not_equal : Equal none (plain (pays 1 one)) (plain (pays 2 one)) → ⊥
other_amounts_are_not_equal h = let e : pos 1 ≡ pos 2 = (to none 0 (plain (pays 1 one)) (plain (pays 2 one)) (of_form none (form.pays (fixed (pos 1)) one) []) (of_form none (form.pays (fixed (pos 2)) one) []) (h 1)).1.figure in absurd (cc)

pub other_labels_are_not_equal : Equal none (plain choice) (plain (ty.Plus ((3, one) ∷ []))) → ⊥
other_labels_are_not_equal h = apart (sym ((to none 0 (plain choice) (plain (ty.Plus ((3, one) ∷ []))) (of_form none choosing []) (of_form none (form.plus ((3, one) ∷ [])) []) (h 1)).1.ways (Label 2)))

pub fewer_labels_are_not_equal : Equal none (plain (ty.Plus ((2, one) ∷ (3, one) ∷ []))) (plain choice) → ⊥
fewer_labels_are_not_equal h = apart (sym ((to none 0 (plain (ty.Plus ((2, one) ∷ (3, one) ∷ []))) (plain choice) (of_form none (form.plus ((2, one) ∷ (3, one) ∷ [])) []) (of_form none choosing []) (h 1)).1.ways (Label 3)))

pub more_labels_are_not_equal : Equal none (plain choice) (plain (ty.Plus ((2, one) ∷ (3, one) ∷ []))) → ⊥
more_labels_are_not_equal h = apart ((to none 0 (plain choice) (plain (ty.Plus ((2, one) ∷ (3, one) ∷ []))) (of_form none choosing []) (of_form none (form.plus ((2, one) ∷ (3, one) ∷ [])) []) (h 1)).1.ways (Label 3))

pub other_inner_types_are_not_equal : Equal none (plain (pays 1 one)) (plain (pays 1 choice)) → ⊥
other_inner_types_are_not_equal h = one_is_no_choice ((to none 1 (plain (pays 1 one)) (plain (pays 1 choice)) (of_form none (form.pays (fixed (pos 1)) one) []) (of_form none (form.pays (fixed (pos 1)) choice) []) (h 2)).1.parts Inner (plain one) (plain choice) refl refl)

pub other_branches_are_not_equal : Equal none (plain choice) (plain (ty.Plus ((2, choice) ∷ []))) → ⊥
other_branches_are_not_equal h = one_is_no_choice ((to none 1 (plain choice) (plain (ty.Plus ((2, choice) ∷ []))) (of_form none choosing []) (of_form none (form.plus ((2, choice) ∷ [])) []) (h 2)).1.parts (Label 2) (plain one) (plain choice) refl refl)

pub other_first_parts_are_not_equal : Equal none (plain (ty.Tensor one one)) (plain (ty.Tensor choice one)) → ⊥
other_first_parts_are_not_equal h = one_is_no_choice ((to none 1 (plain (ty.Tensor one one)) (plain (ty.Tensor choice one)) (of_form none (form.tensor one one) []) (of_form none (form.tensor choice one) []) (h 2)).1.parts First (plain one) (plain choice) refl refl)

pub other_second_parts_are_not_equal : Equal none (plain (ty.Tensor one one)) (plain (ty.Tensor one choice)) → ⊥
other_second_parts_are_not_equal h = one_is_no_choice ((to none 1 (plain (ty.Tensor one one)) (plain (ty.Tensor one choice)) (of_form none (form.tensor one one) []) (of_form none (form.tensor one choice) []) (h 2)).1.parts Second (plain one) (plain choice) refl refl)

-- ---- to a depth

pays_ways : (w : Way) → is_some (part_layer (form.pays (fixed (pos 1)) one).layer [] w) ≡ is_some (part_layer (form.pays (fixed (pos 1)) choice).layer [] w)
pays_ways (Label l) = refl
pays_ways First = refl
pays_ways Second = refl
pays_ways Inner = refl
pays_ways (At n) = refl

pub equal_to_depth_one : EqualTo none 1 (plain (pays 1 one)) (plain (pays 1 choice))
equal_to_depth_one = from none 0 (plain (pays 1 one)) (plain (pays 1 choice)) (of_form none (form.pays (fixed (pos 1)) one) []) (of_form none (form.pays (fixed (pos 1)) choice) []) (refl, record { kind = refl; figure = refl; ways = pays_ways; parts = λ w x y p q. tt })

pub not_equal_to_depth_two : EqualTo none 2 (plain (pays 1 one)) (plain (pays 1 choice)) → ⊥
not_equal_to_depth_two h = one_is_no_choice ((to none 1 (plain (pays 1 one)) (plain (pays 1 choice)) (of_form none (form.pays (fixed (pos 1)) one) []) (of_form none (form.pays (fixed (pos 1)) choice) []) h).1.parts Inner (plain one) (plain choice) refl refl)

-- ---- views

arrives_after : (m n : ℕ) (f : Form) → arrival none (at m (after n f.type)) ≡ pos m +ℤ (of_next none (fixed (pos n)) f []).ticks
arrives_after m n f = ap (λ e. pos m +ℤ e.ticks) (of_next none (fixed (pos n)) f []).shows

arrives_at : (m : ℕ) (f : Form) → arrival none (at m f.type) ≡ pos m +ℤ pos 0
arrives_at m f = ap (λ e. pos m +ℤ e.ticks) (of_form none f []).shows

heads_after : (m n : ℕ) (f : Form) → head none (at m (after n f.type)) ≡ plain f.type
heads_after m n f = ap (λ e. e.head) (of_next none (fixed (pos n)) f []).shows

heads_at : (m : ℕ) (f : Form) → head none (at m f.type) ≡ plain f.type
heads_at m f = ap (λ e. e.head) (of_form none f []).shows

itself : (a : Closed) → Equal none a a
itself a = λ k. to_itself none k a

pub ticks_before_head_serve : Serves none (at 3 (after 2 choice)) (at 5 choice)
ticks_before_head_serve = record {
  arrivals = arrives_after 3 2 choosing ∙ sym (arrives_at 5 choosing);
  heads = subst₂ (Equal none) (sym (heads_after 3 2 choosing)) (sym (heads_at 5 choosing)) (itself (plain choice));
}

pub head_serves_ticks_before_it : Serves none (at 5 choice) (at 3 (after 2 choice))
head_serves_ticks_before_it = record {
  arrivals = arrives_at 5 choosing ∙ sym (arrives_after 3 2 choosing);
  heads = subst₂ (Equal none) (sym (heads_at 5 choosing)) (sym (heads_after 3 2 choosing)) (itself (plain choice));
}

pub other_moment_does_not_serve : Serves none (at 3 choice) (at 4 choice) → ⊥
other_moment_does_not_serve h = let e : pos 3 ≡ pos 4 = sym (arrives_at 3 choosing) ∙ (h.arrivals ∙ arrives_at 4 choosing) in absurd (cc)

pub later_provider_does_not_serve : Serves none (at 4 (after 2 choice)) (at 5 choice) → ⊥
later_provider_does_not_serve h = let e : pos 6 ≡ pos 5 = sym (arrives_after 4 2 choosing) ∙ (h.arrivals ∙ arrives_at 5 choosing) in absurd (cc)

pub earlier_provider_does_not_serve : Serves none (at 3 (after 1 choice)) (at 5 choice) → ⊥
earlier_provider_does_not_serve h = let e : pos 4 ≡ pos 5 = sym (arrives_after 3 1 choosing) ∙ (h.arrivals ∙ arrives_at 5 choosing) in absurd (cc)

pub other_ticks_do_not_serve : Serves none (at 3 (after 1 choice)) (at 3 (after 2 choice)) → ⊥
other_ticks_do_not_serve h = let e : pos 4 ≡ pos 5 = sym (arrives_after 3 1 choosing) ∙ (h.arrivals ∙ arrives_after 3 2 choosing) in absurd (cc)

pub other_head_does_not_serve : Serves none (at 3 (after 2 choice)) (at 5 one) → ⊥
other_head_does_not_serve h =
    let e : Equal none (plain choice) (plain one) = subst₂ (Equal none) (heads_after 3 2 choosing) (heads_at 5 form.one) h.heads in
    let k : Some kind.Plus ≡ Some kind.One = (to none 0 (plain choice) (plain one) (of_form none choosing []) (of_form none form.one []) (e 1)).1.kind in absurd (cc)

pub other_inner_type_does_not_serve : Serves none (at 5 (pays 1 one)) (at 5 (pays 1 choice)) → ⊥
other_inner_type_does_not_serve h = other_inner_types_are_not_equal (subst₂ (Equal none) (heads_at 5 (form.pays (fixed (pos 1)) one)) (heads_at 5 (form.pays (fixed (pos 1)) choice)) h.heads)

-- ---- moments

pub time_of_arrival_suits : Suits none (at 3 (after 2 choice)) 5
time_of_arrival_suits = arrives_after 3 2 choosing

pub later_moment_does_not_suit : Suits none (at 3 (after 2 choice)) 6 → ⊥
later_moment_does_not_suit h = let e : pos 5 ≡ pos 6 = sym (arrives_after 3 2 choosing) ∙ h in absurd (cc)

pub earlier_moment_does_not_suit : Suits none (at 3 (after 2 choice)) 4 → ⊥
earlier_moment_does_not_suit h = let e : pos 5 ≡ pos 4 = sym (arrives_after 3 2 choosing) ∙ h in absurd (cc)

pub moment_of_view_does_not_suit : Suits none (at 3 (after 2 choice)) 3 → ⊥
moment_of_view_does_not_suit h = let e : pos 5 ≡ pos 3 = sym (arrives_after 3 2 choosing) ∙ h in absurd (cc)
