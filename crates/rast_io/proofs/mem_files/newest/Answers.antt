use Rattle.std.proofs.Common.{rules, arith, ◌≡◌, true, false}
use Rattle.std.specs.Str.{bytes_eq}
use Rattle.std.specs.String.{string_bytes}
use Rattle.rast_io.proofs.Stored.{step_found, step_other}
use Rattle.rast_io.proofs.mem_files.newest.Goals as goal
use Rattle.rast_io.proofs.mem_files.newest.Goals.{then-eq, else-eq}

pub loop-i-preserved : goal.loop-i-preserved
loop-i-preserved c =
    let rest = c.loop-i.invariant.rest in
    elim c.if-eq.branch [
      | then-eq w ↦
          let t : true ≡ bytes_eq (string_bytes c.index-files-i.result.name) c.args.name.now = search rules in
          rw w.found-is (record { rest = step_found _ _ _ _ _ c.index-files-i.is c.loop-i-test.true t rest; below = omega arith })
      | else-eq w ↦
          let t : false ≡ bytes_eq (string_bytes c.index-files-i.result.name) c.args.name.now = search rules in
          rw w.found-is (record { rest = step_other _ _ _ _ _ c.index-files-i.is c.loop-i-test.true t rest; below = search rules })
    ]
