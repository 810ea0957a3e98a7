-- A choice that is there only if a flag says so.
use Rattle.std.proofs.Common.{◌≡◌, ℕ, Bool, true, false, ◌&&◌, List, [], ◌∷◌, ◌++◌, ap, sym, ◌∙◌, refl, subst, ◌⊎◌, inl, inr}
use Rattle.rast_forms.specs.Words.{Word, is_in, is_apart, is_within}
use Rattle.rast_forms.specs.Marks.{Mark}
use Rattle.rast_forms.specs.Reading.{Read, Done, Bad, Reader, ◌>>=◌, alt_read, as_read, guarded_read, never_inl}
use Rattle.rast_forms.proofs.Sets.{and_right, within_refl, within_append, within_second}
use Rattle.rast_forms.proofs.Forms.{Form, Exact, Right, goes_on_both}
use Rattle.rast_forms.proofs.Either.{alt, alt_mark, alt_exact}
use Rattle.rast_forms.proofs.Shapes.{shape_exact}

abbrev pub guarded_fits : {X Y : Type 0} → Bool → Form X → Form Y → X ⊎ Y → Bool
guarded_fits b P Q (inl x) = b && P.fits x
guarded_fits b P Q (inr y) = Q.fits y

abbrev pub guarded : {X Y : Type 0} → Bool → Form X → Form Y → Form (X ⊎ Y)
guarded b P Q = record {
  mark = alt_mark P Q;
  fits = guarded_fits b P Q;
  first = P.first ++ Q.first;
  is_empty = Q.is_empty;
  goes_on = P.goes_on ++ goes_on_both P.first Q.is_empty Q.goes_on;
  some = inr Q.some;
}

module _ {X Y : Type 0} (bar : List ℕ) (d : ℕ) (P : Form X) (Q : Form Y) (p : Reader X) (q : Reader Y) (E : Exact bar d P p) (F : Exact bar d Q q)
    (solid : P.is_empty ≡ false) (apart : is_apart P.first Q.first ≡ true) where
  same_fits : (s : X ⊎ Y) → guarded_fits true P Q s ≡ (alt P Q).fits s
  same_fits (inl x) = refl
  same_fits (inr y) = refl

  as_guarded : (ts : List Word) (m : Read (X ⊎ Y)) → Right bar d (alt P Q) (alt_read P.first p q) ts m → Right bar d (guarded true P Q) (alt_read P.first p q) ts m
  as_guarded ts (Done s r) h = record { split = h.split; fits = same_fits s ∙ h.fits; low = h.low; local = h.local }
  as_guarded ts (Bad why r) h = record {
    used = h.used;
    split = h.split;
    local = h.local;
    tree = h.tree;
    fits = same_fits h.tree ∙ h.fits;
    seen = h.seen;
    more = h.more;
    seen_is = h.seen_is;
    viable = h.viable;
    shallow = h.shallow;
    deep = h.deep;
  }

  with_it : Exact bar d (guarded true P Q) (alt_read P.first p q)
  with_it = let A : Exact bar d (alt P Q) (alt_read P.first p q) = alt_exact bar d P Q p q E F solid apart in record {
    complete = λ s r f g. A.complete s r (sym (same_fits s) ∙ f) g;
    sound = λ ts. as_guarded ts (alt_read P.first p q ts) (A.sound ts);
    begins = λ s f. A.begins s (sym (same_fits s) ∙ f);
    some_fits = F.some_fits;
  }

  from_right : X ⊎ Y → Y
  from_right (inl x) = Q.some
  from_right (inr y) = y

  right_there : (s : X ⊎ Y) → guarded_fits false P Q s ≡ true → inr (from_right s) ≡ s
  unfolding from_right
  right_there (inl x) f = absurd (cc)
  right_there (inr y) f = refl

  goes_on_in : is_within Q.goes_on (P.goes_on ++ goes_on_both P.first Q.is_empty Q.goes_on) ≡ true
  goes_on_in = within_second P.goes_on Q.goes_on _ (at Q.is_empty)
    where
      at : (b : Bool) → is_within Q.goes_on (goes_on_both P.first b Q.goes_on) ≡ true
      at true = within_append P.first Q.goes_on
      at false = within_refl Q.goes_on

  without : Exact bar d (guarded false P Q) (never_inl q)
  without = shape_exact bar d Q q F (guarded false P Q) inr from_right right_there (λ y. refl) (λ y. refl) (within_append P.first Q.first) refl goes_on_in F.some_fits

  pub guarded_exact : (b : Bool) → Exact bar d (guarded b P Q) (guarded_read b P.first p q)
  guarded_exact true = with_it
  guarded_exact false = without
