-- What a test of two terms tells.
use Rattle.std.proofs.Common.{◌≡◌, Bool, List, ℤ, sym, ◌∙◌, ap, ap₂}
use Rattle.std.specs.Bool.{Decides}
use lib.Pointwise.{pointwise}
use Rattle.std.specs.Ordering.{int_eq}
use Rattle.std.specs.Cmp.Rules.{signed_items}
use Rattle.rast_index.specs.Linear.{Linear}

-- terms of one constant are the same where their coefficients are
pub same_term : (a b : Linear) (r : Bool) → a.constant ≡ b.constant → r ≡ pointwise int_eq a.coefficients b.coefficients → Decides r (a ≡ b)
same_term a b r e t =
    let d = signed_items a.coefficients b.coefficients in (
      λ h. ap₂ (λ (c : ℤ) (cs : List ℤ). record { constant = c; coefficients = cs }) e (d.0 (sym t ∙ h)),
      λ h. t ∙ d.1 (ap (λ (l : Linear). l.coefficients) h),
    )
