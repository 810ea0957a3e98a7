-- The process with which a run begins.
use Rattle.std.proofs.Common.{◌≡◌, true, false, ℕ, ℤ, pos, negsuc, List, [], ◌∷◌, Option, Some, None, refl, sym, ap, ◌∙◌, subst, arith}
use Rattle.std.specs.Prelude.{slice_get, IsSome}
use Rattle.std.proofs.lemmas.Int.{ints}
use Rattle.rast_index.specs.Linear.{Linear, value, weighted}
use Rattle.rast_terms.specs.declared.program.Program.{Program}
use Rattle.rast_terms.specs.declared.program.Decl.{Decl}
use Rattle.rast_core.specs.Words.{P, Proc}
use Rattle.rast_items.specs.Items.{pid_at}
use Rattle.rast_items.specs.Deeds.{process_at}
use Rattle.rast_items.specs.Run.{State, start, start_decl, start_main, start_of}
use Rattle.rast_core.specs.Promises.{IsNatural, CanStart, BeginsWith}

no_weight : (cs : List ℤ) → weighted cs [] ≡ pos 0
no_weight [] = refl
no_weight (c ∷ cs) = refl

value_none : (l : Linear) → value l [] ≡ l.constant
value_none l = let h = no_weight l.coefficients in omega (arith, ints, h)

abbrev begun : ℕ → Decl → ℕ → State
begun k d q = record { items = P (process_at 0 d [] [] 0 q) ∷ []; births = record { parent = pid_at 0; ordinal = 0; decl = k; values = []; moment = 0 } ∷ [] }

natural_start : (k : ℕ) (d : Decl) (z : ℤ) → IsSome (start k d z) → IsNatural z
natural_start k d (pos q) h = (q, refl)
natural_start k d (negsuc q) h = cc

main_start : (g : Program) (k : ℕ) (d : Decl) → g.main ≡ Some k → slice_get g.decls k ≡ Some d → start_of g ≡ start k d (value d.potential [])
main_start g k d m h = ap (start_main g) m ∙ ap (start_decl k) h

pub main_natural : (g : Program) (k : ℕ) (d : Decl) → g.main ≡ Some k → slice_get g.decls k ≡ Some d → CanStart g → IsNatural d.potential.constant
main_natural g k d m h c = subst IsNatural (value_none d.potential) (natural_start k d (value d.potential []) (subst (λ (o : Option State). IsSome o) (main_start g k d m h) c))

begins_from : (g : Program) (k : ℕ) (d : Decl) (p : Proc) (n : IsNatural d.potential.constant) → g.main ≡ Some k → slice_get g.decls k ≡ Some d → ((q : ℕ) → d.potential.constant ≡ pos q → p ≡ process_at 0 d [] [] 0 q) → BeginsWith g p
begins_from g k d p n m h f =
    let e : start_of g ≡ Some (begun k d n.0) = main_start g k d m h ∙ ap (start k d) (value_none d.potential ∙ n.1) in
    (begun k d n.0, e, ap (λ (r : Proc). P r ∷ []) (sym (f n.0 n.1)))

pub main_begins : (g : Program) (k : ℕ) (d : Decl) (p : Proc) → g.main ≡ Some k → slice_get g.decls k ≡ Some d → CanStart g → ((q : ℕ) → d.potential.constant ≡ pos q → p ≡ process_at 0 d [] [] 0 q) → BeginsWith g p
main_begins g k d p m h c f = begins_from g k d p (main_natural g k d m h c) m h f

none_some : false ≡ true → ⊥
none_some h = cc

-- there is such a declaration
pub main_missing : (g : Program) → g.main ≡ None → CanStart g → ⊥
main_missing g m c = none_some (subst (λ (o : Option State). IsSome o) (ap (start_main g) m) c)

pub decl_missing : (g : Program) (k : ℕ) → g.main ≡ Some k → slice_get g.decls k ≡ None → CanStart g → ⊥
decl_missing g k m h c = none_some (subst (λ (o : Option State). IsSome o) (ap (start_main g) m ∙ ap (start_decl k) h) c)

-- a declaration with a natural potential begins
pub natural_starts : (k : ℕ) (o : Option Decl) (d : Decl) (q : ℕ) → o ≡ Some d → d.potential.constant ≡ pos q → IsSome (start_decl k o)
natural_starts k o d q h n = subst (λ (s : Option State). IsSome s) (sym (ap (start_decl k) h ∙ ap (start k d) (value_none d.potential ∙ n))) refl
