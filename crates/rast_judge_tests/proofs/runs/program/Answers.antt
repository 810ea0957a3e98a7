use Rattle.std.proofs.Common.{◌≡◌, List, [], ◌∷◌, ◌++◌, ap, ◌∙◌}
use Rattle.std.specs.Prelude.{slice_get}
use Rattle.rast_terms.specs.declared.program.Decl.{Decl}
use Rattle.rast_core.proofs.Beginning.{natural_starts}
use Rattle.rast_judge_tests.proofs.runs.program.Goals as goal

pub returns : goal.returns
returns c =
    let a = c.decl.result in
    let all : c.push-2.new.self ≡ a ∷ [] = c.in_ok-push-2.ensures.ok ∙ ap (λ (xs : List Decl). xs ++ a ∷ []) c.new-decls.ensures in
    natural_starts 0 (slice_get c.push-2.new.self 0) a c.args.potential (ap (λ (xs : List Decl). slice_get xs 0) all) c.decl.ensures
