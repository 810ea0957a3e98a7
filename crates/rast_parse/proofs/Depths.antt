-- Where one more may open.
use Rattle.std.proofs.Common.{◌≡◌, ℕ, zero, suc, ◌-◌, true, false, refl, arith}
use Rattle.rast_parse.specs.LinearReading.{lin_read}
use Rattle.rast_parse.specs.FormulaReading.{literal_by, literal_read, form_read}
use Rattle.rast_parse.specs.TypeReading.{type_by, type_read}

pub literal_deeper : (d : ℕ) → (d ≡ 0 → ⊥) → literal_by (lin_read true (d - 1)) (literal_read (d - 1)) (form_read (d - 1)) ≡ literal_read d
literal_deeper zero e = absurd (e refl)
literal_deeper (suc d) e = let s : suc d - 1 ≡ d = omega arith in rw s refl

pub type_deeper : (d : ℕ) → (d ≡ 0 → ⊥) → type_by (lin_read false (d - 1)) (form_read (d - 1)) (type_read (d - 1)) ≡ type_read d
type_deeper zero e = absurd (e refl)
type_deeper (suc d) e = let s : suc d - 1 ≡ d = omega arith in rw s refl
