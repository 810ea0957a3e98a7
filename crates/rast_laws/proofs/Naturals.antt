-- What is done with index values that are naturals.
use Rattle.std.proofs.Common.{◌≡◌, ℕ, ℤ, pos, List, [], ◌∷◌, Option, Some, None, refl, sym, ap, subst}
use Rattle.rast_index.specs.Linear.{whole}
use Rattle.rast_types.specs.Closed.{View}
use Rattle.rast_items.specs.Deeds.{Code, Deed, large_in, naturals, more_natural, unless_large, with_values}
use Rattle.rast_order.proofs.Words.{Link, Proc}
use Rattle.rast_laws.proofs.Lawful.{DeedFine}

naturals_whole : (ns : List ℕ) → naturals (whole ns) ≡ Some ns
naturals_whole [] = refl
naturals_whole (n ∷ ns) = ap (more_natural n) (naturals_whole ns)

unless : (c : Code) (d : Link → Option View) (p : Proc) (o : Option ℕ) (ns : List ℕ) (f : List ℕ → Deed) → DeedFine c d p (f ns) → DeedFine c d p (unless_large o (Some ns) f)
unless c d p None ns f h = h
unless c d p (Some n) ns f h = tt

-- what is done with naturals is fine where it halts, and where it goes on with them
pub naturals_fine : (c : Code) (d : Link → Option View) (p : Proc) (zs : List ℤ) (ns : List ℕ) (f : List ℕ → Deed) → zs ≡ whole ns → DeedFine c d p (f ns) → DeedFine c d p (with_values zs f)
naturals_fine c d p zs ns f e h =
    subst (λ ys. DeedFine c d p (with_values ys f)) (sym e)
    (subst (λ o. DeedFine c d p (unless_large (large_in (whole ns)) o f)) (sym (naturals_whole ns)) (unless c d p (large_in (whole ns)) ns f h))

-- the same of one value
pub natural_fine : (c : Code) (d : Link → Option View) (p : Proc) (z : ℤ) (n : ℕ) (f : List ℕ → Deed) → z ≡ pos n → DeedFine c d p (f (n ∷ [])) → DeedFine c d p (with_values (z ∷ []) f)
natural_fine c d p z n f e h = naturals_fine c d p (z ∷ []) (n ∷ []) f (ap (λ x. x ∷ []) e) h
