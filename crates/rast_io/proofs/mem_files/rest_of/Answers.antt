use Rattle.std.proofs.Common.{drop, sym, ap, ◌∙◌}
use Rattle.std.proofs.lemmas.List.{take_rest}
use Rattle.rast_io.specs.declared.mem_files.File.{File}
use Rattle.rast_io.proofs.Stored.{bytes_at_is}
use Rattle.rast_io.proofs.mem_files.rest_of.Goals as goal

pub returns-clause-rest : goal.returns-clause-rest
returns-clause-rest c =
    let at = bytes_at_is _ _ _ c.index-files-file.is c.requires.0 in
    rw take_rest (ap (drop c.args.file.read) (c.deref.ensures.value ∙ ap (λ (f : File). f.bytes.items) (sym c.index-files-file.is) ∙ sym at))
