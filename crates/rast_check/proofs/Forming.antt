-- What is known of a formed program.
use Rattle.std.proofs.Common.{◌≡◌, ◌∙◌, ◌+◌, ◌<◌, ◌^◌, Bool, true, false, true≢false, ◌&&◌, nat_lt, length, sym}
use Rattle.std.proofs.lemmas.Bool.{ltb-true}
use Rattle.rast_cooper.proofs.Closed.{and_true}
use Rattle.rast_made.specs.Made.{is_well_made}
use Rattle.rast_made.specs.WellMade.{IsWellMade, IsMadeDecl}
use Rattle.rast_made.proofs.Making.{well_made_is}
use Rattle.rast_rules.specs.Rules.{Program, Decl, defs}
use Rattle.rast_check.specs.Formed.{is_counted, is_formed, is_scoped, IsCounted, IsFormed, IsScoped}
use Rattle.rast_check.specs.Questions.{IsForward}
use Rattle.rast_check.proofs.Every.{every_to}
use Rattle.rast_check.proofs.Forests.{forest_is}
use Rattle.std.proofs.lemmas.List.Elements.{All-from_recursion, recursion_from_All}

pub forward_is : (g : Program) → IsWellMade g → IsForward g
forward_is g w = record {
  kids = w.forward;
  bodies = All-from_recursion (λ (d : Decl). d.body < length g.nodes) g.decls (every_to (IsMadeDecl g) (λ (d : Decl). d.body < length g.nodes) (λ d m. m.body) g.decls (recursion_from_All (IsMadeDecl g) g.decls w.decls));
}

pub counted_is : (g : Program) → is_counted g ≡ true → IsCounted g
counted_is g h =
    let b = and_true (nat_lt (length (defs g)) (2 ^ 32)) _ h in
    let c = and_true (nat_lt (length g.decls) (2 ^ 32)) (nat_lt (length g.equations + 1) (2 ^ 32)) b.1 in
    record {
      defs = ltb-true (length (defs g)) (2 ^ 32) b.0;
      decls = ltb-true (length g.decls) (2 ^ 32) c.0;
      equations = ltb-true (length g.equations + 1) (2 ^ 32) c.1;
    }

-- ---- what the test of a program says

module _ (g : Program) (h : is_formed g ≡ true) where
  -- each part of the test is passed
  parts : (is_counted g ≡ true) × (is_scoped g ≡ true) × (is_well_made g ≡ true)
  parts =
      let a = and_true (is_counted g) (is_scoped g && is_well_made g) h in
      let b = and_true (is_scoped g) (is_well_made g) a.1 in
      (a.0, b.0, b.1)

  pub formed_made : IsWellMade g
  formed_made = well_made_is g parts.2

  pub formed_is : IsScoped g → IsFormed g
  formed_is scoped = record {
    counted = counted_is g parts.0;
    scoped = scoped;
    made = formed_made;
    forward = forward_is g formed_made;
    forest = forest_is g formed_made;
  }

  -- the scopes aren't found otherwise
  pub never_unscoped : (t : Bool) → t ≡ is_scoped g → t ≡ false → ⊥
  never_unscoped t is not_so = true≢false (sym parts.1 ∙ sym is ∙ not_so)
