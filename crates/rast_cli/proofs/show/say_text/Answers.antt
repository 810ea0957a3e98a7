use Rattle.std.proofs.Common.{◌≡◌, rules}
use Rattle.rast_cli.proofs.SayLemmas.{refused_file}
use Rattle.rast_cli.proofs.show.say_text.Goals as goal

pub returns-in-Err-NoFile : goal.returns-in-Err-NoFile
returns-in-Err-NoFile g c =
    let bytes = c.in-Ok.ensures.bytes in
    let none = rw (c.in-Err-NoFile.field-0-is, c.deref.ensures.value) at c.in-Err-NoFile.ensures.refused in
    let still : g.F.Files.faults c.read_all.new.files ≡ g.F.Files.faults c.args.files.now = search rules in
    refused_file _ _ _ _ c.args.name.now c.say_line-in-Err-NoFile.result c.in-Ok.bytes.items c.in-Err-NoFile.fault bytes.0 bytes.1 none still
    c.say_line-in-Err-NoFile.ensures.answer c.say_line-in-Err-NoFile.ensures.line
