-- A process that stands at the body of a declaration, and main's process at the beginning.
use Rattle.std.proofs.Common.{◌≡◌, ℕ, ℤ, pos, ◌+◌, List, [], ◌∷◌, length, Option, Some, None, slice_get, refl, sym, ap, ◌∙◌, subst}
use Rattle.std.proofs.lemmas.List.Elements.{All-weaker, recursion_from_All}
use Rattle.rast_index.specs.Keys.{numbered}
use Rattle.rast_index.specs.Linear.{value, whole}
use Rattle.rast_types.specs.declared.ty.Ty.{Ty}
use Rattle.rast_types.specs.Closed.{closed, View, view}
use Rattle.rast_equal.specs.Sound.{IsDefined, IsDefinedEquation, AreDefined}
use Rattle.rast_equal.specs.Valid.{IsTrueClaim, IsValidType, claims_of}
use Rattle.rast_made.specs.WellMade.{IsWellMade, IsMadeType, IsMadeDef, IsMadeDecl, IsMadeEquation, IsMadeMain}
use Rattle.rast_terms.specs.declared.program.Program.{Program}
use Rattle.rast_terms.specs.declared.program.Decl.{Decl}
use Rattle.rast_rules.specs.Rules.{IsAccepted, IsValidDecl, IsJudgement, at_root, defs, root}
use Rattle.rast_items.specs.Items.{link_at, pid_at}
use Rattle.rast_items.specs.Deeds.{Code, process_at}
use Rattle.rast_items.specs.Run.{State, Birth, start, start_decl, start_main}
use Rattle.rast_laws.specs.Typed.{due, born_view}
use Rattle.rast_laws.specs.Sound.{IsReady}
use Rattle.rast_order.proofs.Words.{Link, P, Proc, Provider}
use Rattle.rast_equal.proofs.Equals.{equal_refl}
use Rattle.rast_equal.proofs.Proper.{Proper}
use Rattle.rast_laws.proofs.Channels.{SeenAt, AreSeen}
use Rattle.rast_laws.proofs.Fine.{ProcFine, AllFine}
use Rattle.rast_laws.proofs.Judged.{made_is}
use Rattle.rast_equal.proofs.Every.{all_get}
use Rattle.rast_laws.proofs.Sending.{seen_same}
use Rattle.rast_equal.proofs.Sames.{Grounds, grounds}
use Rattle.rast_equal.proofs.WellFormed.{ValidDefs, valid_proper}
use Rattle.rast_laws.proofs.Theorem.{MainLaw}
use Rattle.rast_equal.proofs.Truths.{nonneg_true}

-- ---- definitions and declarations

-- in a well made program each definition's body and each equation's sides are defined
program_defined : (g : Program) → IsWellMade g → AreDefined (defs g) g.equations
program_defined g w = record {
  defs = All-weaker (IsMadeDef g) (λ d. IsDefined (defs g) d.params d.body) (λ d m. record { scoped = m.body.scoped; named = m.body.named }) (defs g) w.types;
  equations = All-weaker (IsMadeEquation g) (IsDefinedEquation (defs g)) (λ e m. record { premise = m.premise; left = record { scoped = m.left.scoped; named = m.left.named }; right = record { scoped = m.right.scoped; named = m.right.named } }) g.equations w.equations;
}

-- and where it is accepted, its definitions are valid and its equations a good table
pub program_grounds : (g : Program) → IsWellMade g → IsAccepted g → Grounds (defs g) g.equations
program_grounds g w a = grounds (defs g) g.equations (program_defined g w) a.types a.equations

pub valid_defs : (g : Program) → IsWellMade g → IsAccepted g → ValidDefs (defs g)
valid_defs g w a = (program_grounds g w a).defs

-- a valid type of a declaration is well formed at all arguments
pub type_proper : (g : Program) → IsWellMade g → IsAccepted g → (n : ℕ) (a : Ty) (vs : List ℕ) → IsMadeType g n a → IsValidType (defs g) n [] a → length vs ≡ n → Proper (defs g) (closed a (whole vs))
type_proper g w a n b vs m v e = valid_proper (defs g) n b vs (valid_defs g w a) (recursion_from_All IsTrueClaim (claims_of (defs g) n [] b) v) m.named m.scoped e

pub gives_proper : (g : Program) → IsWellMade g → IsAccepted g → (k : ℕ) (d : Decl) → slice_get g.decls k ≡ Some d → (vs : List ℕ) → length vs ≡ d.params → Proper (defs g) (closed d.gives (whole vs))
gives_proper g w a k d s vs e = type_proper g w a d.params d.gives vs (all_get (IsMadeDecl g) g.decls k d w.decls s).gives (all_get (IsValidDecl g) g.decls k d a.decls s).gives e

-- the potential of a declaration is a natural at all arguments
pub decl_potential : (g : Program) → IsAccepted g → (k : ℕ) (d : Decl) → slice_get g.decls k ≡ Some d → (vs : List ℕ) → length vs ≡ d.params → (q : ℕ) × (value d.potential (whole vs) ≡ pos q)
decl_potential g a k d s vs e = nonneg_true d.potential (whole vs) ((all_get (IsValidDecl g) g.decls k d a.decls s).potential vs e refl)

-- ---- at the body

pub root_judged : (g : Program) → IsAccepted g → (k : ℕ) (d : Decl) → slice_get g.decls k ≡ Some d → IsJudgement g d.body (root k d)
root_judged g a k d s = at_root k d (root k d) s (made_is (root k d) (a.roots k d s))

-- a process at the body, with so many values, the potential at them, and its channels at the declared types
pub record AtBody (g : Program) (d : Link → Option View) (decl : Decl) (p : Proc) : Type 0 where
  pub node : p.node ≡ decl.body
  pub vars : length p.values ≡ decl.params
  pub potential : value decl.potential (whole p.values) ≡ pos p.potential
  pub fresh : p.fresh ≡ length decl.uses + 1
  pub gives : SeenAt (defs g) d p.moment Provider p.own (closed decl.gives (whole p.values))
  pub uses : AreSeen (defs g) d p.moment (whole p.values) p.uses (numbered 1 decl.uses)

pub body_fine : (g : Program) → IsAccepted g → (d : Link → Option View) (k : ℕ) (decl : Decl) (p : Proc) → slice_get g.decls k ≡ Some decl → AtBody g d decl p → ProcFine g d p
body_fine g a d k decl p s b =
    (root k decl, subst (λ n. IsJudgement g n (root k decl)) (sym b.node) (root_judged g a k decl s), record { vars = b.vars; premises = refl; potential = b.potential; fresh = b.fresh; provided = refl; gives = b.gives; uses = b.uses })

-- ---- main

abbrev first_state : ℕ → Decl → ℕ → State
first_state k d q = record { items = P (process_at 0 d [] [] 0 q) ∷ []; births = record { parent = pid_at 0; ordinal = 0; decl = k; values = []; moment = 0 } ∷ [] }

main_begins : (g : Program) → IsWellMade g → IsAccepted g → (k : ℕ) (d : Decl) (q : ℕ) → slice_get g.decls k ≡ Some d → d.params ≡ 0 → d.uses ≡ [] → value d.potential [] ≡ pos q → AllFine g (due g [] (first_state k d q).births) (first_state k d q).items
main_begins g w a k d q s n u v =
    let b : Birth = record { parent = pid_at 0; ordinal = 0; decl = k; values = []; moment = 0 } in
    let now : Link → Option View = due g [] (first_state k d q).births in
    let is : now (link_at 0 0) ≡ Some (view 0 (closed d.gives (whole []))) = ap (born_view b) s in (
      body_fine g a now k d (process_at 0 d [] [] 0 q) s (record {
        node = refl;
        vars = sym n;
        potential = v;
        fresh = ap (λ us. length us + 1) (sym u);
        gives = seen_same (defs g) now 0 Provider (link_at 0 0) (closed d.gives (whole [])) (closed d.gives (whole [])) is (gives_proper g w a k d s [] (sym n)) (equal_refl (defs g) (closed d.gives (whole [])));
        uses = subst (λ us. AreSeen (defs g) now 0 (whole []) [] (numbered 1 us)) (sym u) tt;
      }),
      tt,
    )

start_is : (g : Program) (k : ℕ) (d : Decl) (q : ℕ) (z : ℤ) (begin : State) → z ≡ pos q → start k d z ≡ Some begin → begin ≡ first_state k d q
start_is g k d q z begin e h =
    let x : Some (first_state k d q) ≡ Some begin = sym (ap (start k d) e) ∙ h in cc

main_at : (g : Program) → IsWellMade g → IsAccepted g → (o : Option ℕ) → IsMadeMain g o → (begin : State) → start_main g o ≡ Some begin → AllFine g (due g [] begin.births) begin.items
main_at g w a None m begin e = cc
main_at g w a (Some k) m begin e =
    let d : Decl = m.0 in
    let v = decl_potential g a k d m.1 [] (sym m.2) in
    let is : begin ≡ first_state k d v.0 = start_is g k d v.0 (value d.potential []) begin v.1 (sym (ap (start_decl k) m.1) ∙ e) in
    subst (λ x. AllFine g (due g [] x.births) x.items) (sym is) (main_begins g w a k d v.0 m.1 m.2 m.3 v.1)

-- main's process fits at the beginning
pub main_law : (c : Code) → IsReady c → MainLaw c
main_law c r begin e = main_at c.program r.made r.accepted c.program.main r.made.main begin e
