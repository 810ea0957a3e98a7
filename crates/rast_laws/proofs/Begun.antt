-- A program that may be run begins with main's process.
use Rattle.std.proofs.Common.{◌∙◌, ℕ, [], Option, Some, None, IsSome, refl, sym, ap, subst}
use Rattle.rast_terms.specs.declared.program.Program.{Program}
use Rattle.rast_terms.specs.declared.program.Decl.{Decl}
use Rattle.rast_rules.specs.Rules.{IsAccepted}
use Rattle.rast_made.specs.WellMade.{IsMadeMain}
use Rattle.rast_items.specs.Deeds.{Code}
use Rattle.rast_items.specs.Run.{State, start, start_decl, start_main, start_of}
use Rattle.rast_laws.specs.Sound.{IsReady}
use Rattle.rast_laws.proofs.Callee.{decl_potential}

starts_at : (g : Program) → IsAccepted g → (o : Option ℕ) → IsMadeMain g o → IsSome o → IsSome (start_main g o)
starts_at g a None m h = cc
starts_at g a (Some k) m h =
    let d : Decl = m.0 in
    let v = decl_potential g a k d m.1 [] (sym m.2) in
    subst (λ (o : Option State). IsSome o) (sym (ap (start_decl k) m.1 ∙ ap (start k d) v.1)) refl

pub ready_starts : (c : Code) → IsReady c → IsSome (start_of c.program)
ready_starts c r = starts_at c.program r.accepted c.program.main r.made.main r.main
