-- The numbers of obligations.
use Rattle.std.specs.Prelude.{◌≡◌, ℕ, ℤ, List, [], ◌∷◌, ◌++◌, length, map, take, slice_get, Some, ◌⊎◌}
use Rattle.std.specs.BTreeMap.{BTreeMap, get}
use Rattle.std.specs.Cmp.Lexicographic.{slice_cmp}
use Rattle.std.specs.Option.{option_map}
use Rattle.std.specs.Ordering.{int_cmp}
use Rattle.std.specs.declared.alloc.Global.{Global}
use Rattle.std.specs.declared.cmp.Ordering.{Ordering}
use Rattle.std.specs.declared.vec.Vec.{Vec}
use Rattle.rast_cooper.specs.declared.verdict.Verdict.{Verdict}
use Rattle.rast_memo.specs.Codes.{obligation_code}
use Rattle.rast_memo.specs.Obligations.{verdict_on}
use Rattle.rast_memo.specs.declared.obligation.Obligation.{Obligation}

-- the verdicts on the first of these obligations, so many
abbrev pub verdicts_on : ℕ → List Obligation → List Verdict
verdicts_on n os = map verdict_on (take n os)

-- more verdicts may follow, and none is changed
pub record IsContinued (before after : List Verdict) : Type 0 where
  pub more : List Verdict
  pub is : after ≡ before ++ more

-- none of these obligations is this one
abbrev pub IsNew : Obligation → List Obligation → Type 0
IsNew o os = (i : ℕ) → slice_get os i ≡ Some o → ⊥

-- n is the number of the obligation: that of an equal one, or else the next
pub record IsNumbered (o : Obligation) (before after : List Obligation) (n : ℕ) : Type 0 where
  pub there : slice_get after n ≡ Some o
  pub only : (i : ℕ) → slice_get after i ≡ Some o → i ≡ n
  pub grown : (after ≡ before) ⊎ (IsNew o before × (n ≡ length before) × (after ≡ before ++ o ∷ []))

-- ---- codes and the numbers that stand beside them

abbrev pub code_cmp : Vec ℤ Global → Vec ℤ Global → Ordering
code_cmp x y = slice_cmp int_cmp x.items y.items

abbrev pub Numbers : Type 0
Numbers = BTreeMap (Vec ℤ Global) ℕ

-- beside the code of each obligation stands its number
abbrev pub AreKnown : List Obligation → Numbers → Type 0
AreKnown os numbers = (i : ℕ) (o : Obligation) (c : Vec ℤ Global) → slice_get os i ≡ Some o → c.items ≡ obligation_code o → get code_cmp numbers c ≡ Some i

-- and no other number stands beside a code
abbrev pub AreAsked : List Obligation → Numbers → Type 0
AreAsked os numbers = (c : Vec ℤ Global) (n : ℕ) → get code_cmp numbers c ≡ Some n → option_map obligation_code (slice_get os n) ≡ Some c.items
