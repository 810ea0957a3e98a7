use Rattle.std.proofs.Common.{◌∙◌, Global, Vec}
use Rattle.rast_lex.specs.declared.token.Token.{Token}
use Rattle.rast_load.proofs.Refusals.{one_file, refused_lexing, refused_parsing}
use Rattle.rast_load.proofs.text_file.read_tokens.Goals as goal

pub returns-in-Err-clause-refused : goal.returns-in-Err-clause-refused
returns-in-Err-clause-refused c = rw c.lexical.ensures (refused_lexing (λ (v : Vec Token Global). v.items) c.args.text.now c.in-Err.fault c.in-Err.ensures.exact c.in-Err.ensures.only)

pub returns-in-Err-parse-clause-refused : goal.returns-in-Err-parse-clause-refused
returns-in-Err-parse-clause-refused c = rw c.syntactic.ensures
    (refused_parsing c.args.text.now c.deref.result.now c.in-Err-parse.fault (rw c.deref.ensures.value c.in-Ok.ensures.exact)
    (λ others are. c.deref.ensures.value ∙ c.in-Ok.ensures.only others are) c.in-Err-parse.ensures.exact c.in-Err-parse.ensures.only)

pub returns-in-Ok-parse-clause-only : goal.returns-in-Ok-parse-clause-only
returns-in-Ok-parse-clause-only c = one_file c.args.text.now c.deref.result.now c.in-Ok-parse.file (λ others are. c.deref.ensures.value ∙ c.in-Ok.ensures.only others are) c.in-Ok-parse.ensures.only
