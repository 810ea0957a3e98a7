-- The points that the premises of an equation ask are in scope.
use Rattle.std.proofs.Common.{ℕ, true, false, List, [], ◌∷◌, refl}
use Rattle.std.specs.Prelude.{All}
use Rattle.rast_equal.proofs.Exposes.{equation_scope, premise_within}
use Rattle.rast_equal.proofs.Fits.{equal_within}
use Rattle.rast_equal.proofs.Premises.{exposed_fit}
use Rattle.rast_equal.specs.Equated.{IsFitExposed, are_small_both, is_deep_either}
use Rattle.rast_equal.specs.Fit.{IsFitEquation, IsFitMet, IsFitTypeDef, IsWithinType}
use Rattle.rast_equal.specs.Valid.{Claim, Asks as CAsks, Shape as CShape, Over as COver, claims_of}
use Rattle.rast_equal.specs.Walk.{Point, Asks, claim_points, equation_points, head_layers, if_made, part_points, parts_served, or_refl, serve, side_points, tagged, top}
use Rattle.rast_equal.specs.declared.met.Met.{Met}
use Rattle.rast_index.specs.Truth.{is_equal}
use Rattle.rast_types.specs.Closed.{Table}
use Rattle.rast_types.specs.Symbolic.{Timed, exposed_type}
use Rattle.rast_types.specs.declared.equation.Equation.{Equation}
use Rattle.rast_types.specs.declared.equation.Ref.{Ref}
use Rattle.rast_types.specs.declared.head.Exposed.{Exposed}
use Rattle.rast_types.specs.declared.ty.Ty.{Ty}
use Rattle.rast_check.proofs.Claiming.{InScope, claims_scoped}
use Rattle.rast_check.proofs.Every.{every_append, every_flat, every_map, every_to}
use Rattle.std.specs.List.{AllByRecursion}
use Rattle.rast_equal.proofs.Every.{every_left, every_right}
use Rattle.rast_check.proofs.Meeting.{heads_of_fit}
use Rattle.rast_check.proofs.Pointing.{PointIn, asked_in, made_in, serve_in}

abbrev pub PremiseIn : ℕ × Point → Type 0
PremiseIn x = PointIn x.1

tagged_in : (k : ℕ) (xs : List Point) → AllByRecursion PointIn xs → AllByRecursion PremiseIn (tagged k xs)
tagged_in k xs h = every_map PremiseIn (λ (x : Point). (k, x)) xs h

claim_in : (c : Claim) → InScope c → AllByRecursion PointIn (claim_points c)
claim_in (CAsks rule n ps goal) h = (h, tt)
claim_in (CShape rule n true) h = tt
claim_in (CShape rule n false) h = (tt, tt)
claim_in COver h = (tt, tt)

side_in : (t : Table) (e : Equation) (a : Ty) → IsFitEquation e → IsWithinType e.vars a → AllByRecursion PointIn (side_points t e.vars (e.premise ∷ []) a)
side_in t e a f h =
    every_flat PointIn claim_points (claims_of t e.vars (e.premise ∷ []) a)
    (every_to InScope (λ c. AllByRecursion PointIn (claim_points c)) claim_in (claims_of t e.vars (e.premise ∷ []) a)
    (claims_scoped t e.vars (e.premise ∷ []) a f.few (premise_within e.vars e.premise (e.premise ∷ []) refl f.premise) h))

parts_in : (es : List Equation) (rs : List Ref) (ms : List Met) → All IsFitEquation es → AllByRecursion IsFitMet ms → AllByRecursion PointIn (parts_served es rs ms)
parts_in es rs [] f h = tt
parts_in es rs (m ∷ ms) f h = serve_in es (or_refl rs (m ∷ ms)) (m ∷ ms) f h

exposed : Timed → Exposed
exposed a = record { ticks = a.ticks; head = a.body }

side_exposed : (t : Table) (n : ℕ) (a : Ty) → All IsFitTypeDef t → IsWithinType n a → IsFitExposed n (exposed (exposed_type t n a))
unfolding exposed
side_exposed t n a d h = exposed_fit t n a (exposed (exposed_type t n a)) d h refl

-- all that the premises of an equation in scope ask
pub equation_in : (t : Table) (es : List Equation) (e : Equation) → All IsFitTypeDef t → All IsFitEquation es → IsFitEquation e → AllByRecursion PremiseIn (equation_points t es e)
unfolding exposed
equation_in t es e d fs f =
    let p = top e.vars (e.premise ∷ []) in
    let a = exposed_type t e.vars e.left in
    let b = exposed_type t e.vars e.right in
    let u = side_exposed t e.vars e.left d f.left in
    let v = side_exposed t e.vars e.right d f.right in
    let s = equation_scope e p refl f in
    let h = head_layers a b p in
    let fit = heads_of_fit a.body b.body p s u.head v.head in
    let ticks = if_made (is_deep_either e.vars a b) (are_small_both a b) (Asks p (is_equal a.ticks b.ticks) ∷ []) in
    every_append PremiseIn (tagged 1 (side_points t e.vars (e.premise ∷ []) e.left)) _ (tagged_in 1 (side_points t e.vars (e.premise ∷ []) e.left) (side_in t e e.left f f.left))
    (every_append PremiseIn (tagged 2 (side_points t e.vars (e.premise ∷ []) e.right)) _ (tagged_in 2 (side_points t e.vars (e.premise ∷ []) e.right) (side_in t e e.right f f.right))
    (every_append PremiseIn (tagged 3 ticks) _ (tagged_in 3 ticks (made_in (is_deep_either e.vars a b) (are_small_both a b) (Asks p (is_equal a.ticks b.ticks) ∷ []) (asked_in p (is_equal a.ticks b.ticks) (record { scope = s; within = equal_within e.vars a.ticks b.ticks u.ticks v.ticks }), tt)))
    (every_append PremiseIn (tagged 4 (serve es [] h.own)) _ (tagged_in 4 (serve es [] h.own) (serve_in es [] h.own fs (every_left IsFitMet h.own h.parts fit)))
    (tagged_in 5 (part_points es e.refs h) (parts_in es e.refs h.parts fs (every_right IsFitMet h.own h.parts fit))))))
