use Rattle.rast_parse.specs.FileReading.{file_read}
use Rattle.rast_parse.proofs.FilesExact.{file_form, file_exact}
use Rattle.rast_parse.proofs.Good.{good_tokens}
use Rattle.rast_parse.proofs.Parsed.{answer_ok, answer_err, only_ok, only_err}
use Rattle.rast_parse.proofs.outcome.file_within.Goals as goal

pub invariant_of-start : goal.invariant_of-start
invariant_of-start c = record { good = good_tokens c.args.text.now c.args.tokens.now c.requires.tokens }

pub returns-in-Ok-clause-exact : goal.returns-in-Ok-clause-exact
returns-in-Ok-clause-exact c = answer_ok c.args.depth file_form (file_read c.args.depth) (file_exact c.args.depth) c.args.text.now c.args.tokens.now c.in-Ok.file c.in-Ok.ensures

pub returns-in-Ok-clause-only : goal.returns-in-Ok-clause-only
returns-in-Ok-clause-only c = only_ok c.args.depth file_form (file_read c.args.depth) (file_exact c.args.depth) c.args.text.now c.args.tokens.now c.in-Ok.file c.in-Ok.ensures

pub returns-in-Err-clause-exact : goal.returns-in-Err-clause-exact
returns-in-Err-clause-exact c = answer_err c.args.depth file_form (file_read c.args.depth) (file_exact c.args.depth) c.args.text.now c.args.tokens.now c.in-Err.fault c.placed.result c.in-Err.ensures c.placed.ensures

pub returns-in-Err-clause-only : goal.returns-in-Err-clause-only
returns-in-Err-clause-only c = only_err c.args.depth file_form (file_read c.args.depth) (file_exact c.args.depth) c.args.text.now c.args.tokens.now c.in-Err.fault c.placed.result c.in-Err.ensures c.placed.ensures
