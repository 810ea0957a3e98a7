use Rattle.std.proofs.Common.{◌≡◌, All, drop, take}
use Rattle.std.specs.List.{list_all}
use Rattle.rast_check.specs.Formed.{is_fit_decl, IsFitDecl}
use Rattle.rast_check.proofs.formed.are_decls_fit.Given as goal

abbrev pub invariant-loop-decl : goal.invariant-loop-decl
invariant-loop-decl l = record {
  is : list_all is_fit_decl (drop l.decl-index l.decls) ≡ list_all is_fit_decl l.decls;
  more : All IsFitDecl (take l.decl-index l.decls);
}
