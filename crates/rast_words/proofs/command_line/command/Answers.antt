use Rattle.std.proofs.Common.{map, refl, string_bytes}
use Rattle.clap.specs.Words.{app_of, found_of, kind_of, rows_of}
use Rattle.rast_words.proofs.SubcommandLemmas.{asks_for, found_by, parsed, refused}
use Rattle.rast_words.proofs.command_line.command.Goals as goal

pub returns-in-Err-clause-usage : goal.returns-in-Err-clause-usage
returns-in-Err-clause-usage c = λ is. refused (app_of c.in-Ok.line) (map string_bytes c.args.words.now) c.refusal.result (kind_of c.in-Err.error) c.in-Ok.ensures c.refusal.ensures c.in-Err.ensures.passes is

pub returns-clause-asks : goal.returns-clause-asks
returns-clause-asks c =
    let words = map string_bytes c.args.words.now in
    let m = c.in-Ok-try_get_matches_from.matches in
    let facts = parsed (app_of c.in-Ok.line) words m c.in-Ok.ensures c.in-Ok-try_get_matches_from.ensures.kinds c.in-Ok-try_get_matches_from.ensures.matches in
    asks_for words m facts.0 facts.1 c.in-Some.name.now (rows_of (found_of c.in-Some.found.now)) c.in-Some-of_subcommand.command c.in-Some.ensures.name c.in-Some.ensures.rows
    c.in-Some-of_subcommand.ensures.some

pub returns-in_default-of_subcommand-clause-usage : goal.returns-in_default-of_subcommand-clause-usage
returns-in_default-of_subcommand-clause-usage c =
    let words = map string_bytes c.args.words.now in
    let m = c.in-Ok-try_get_matches_from.matches in
    let facts = parsed (app_of c.in-Ok.line) words m c.in-Ok.ensures c.in-Ok-try_get_matches_from.ensures.kinds c.in-Ok-try_get_matches_from.ensures.matches in
    λ is. absurd (c.in_default-of_subcommand.ensures.none refl
    (found_by words m facts.0 facts.1 c.in-Some.name.now (rows_of (found_of c.in-Some.found.now)) c.in-Some.ensures.name c.in-Some.ensures.rows).1)
