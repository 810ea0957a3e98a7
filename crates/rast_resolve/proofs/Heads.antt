-- Names bound in the head of an item.
use Rattle.std.proofs.Common.{◌≡◌, ℕ, Bool, true, false, if◌then◌else◌, [], ◌∷◌, ◌++◌, length, nat_le, sym, ◌∙◌, ap, Ok, Err, append_assoc}
use Rattle.std.proofs.lemmas.List.{append-nil}
use Rattle.rast_resolve.specs.declared.fault.NameErr.TheVariants as fault
use Rattle.rast_resolve.specs.Answers.{Answer}
use Rattle.rast_resolve.specs.Scopes.{Text, Texts, is_among}
use Rattle.rast_resolve.specs.Programs.{bound_names, params_of}

names_or_none : Answer Texts → Texts
names_or_none (Ok ns) = ns
names_or_none (Err e) = []

-- a fault where the first is so, another where the second is, and else the answer
abbrev chosen : Bool → Bool → Text → Text → Answer Texts → Answer Texts
chosen b c n whose a = if b then Err (fault.Twice n) else (if c then Err (fault.Limit whose) else a)

chosen_last : (b c : Bool) (n whose : Text) (a : Answer Texts) (all : Texts) → chosen b c n whose a ≡ Ok all → a ≡ Ok all
chosen_last true c n whose a all e = absurd (cc)
chosen_last false true n whose a all e = absurd (cc)
chosen_last false false n whose a all e = e

module _ (whose : Text) (most : ℕ) where
  -- all names are bound where none is a fault
  pub bound_all : (seen ns all : Texts) → bound_names whose most seen ns ≡ Ok all → all ≡ seen ++ ns
  unfolding names_or_none
  bound_all seen [] all is = sym (ap names_or_none is) ∙ sym (append-nil seen)
  bound_all seen (n ∷ ns) all is =
      bound_all (seen ++ n ∷ []) ns all (chosen_last (is_among n seen) (nat_le most (length seen)) n whose (bound_names whose most (seen ++ n ∷ []) ns) all is) ∙ append_assoc seen (n ∷ []) ns

-- as many variables as parameters
pub params_counted : (whose : Text) (ps vars : Texts) → params_of whose ps ≡ Ok vars → length vars ≡ length ps
params_counted whose ps vars is = ap length (bound_all whose 16 [] ps vars is)
