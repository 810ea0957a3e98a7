-- The canonical text of a file is read again as the file, and no other file has it.
use Rattle.std.proofs.Common.{◌≡◌, ℕ, max, ◌≤◌, List, [], subst, ap, sym, ◌∙◌, arith}
use Rattle.rast_forms.specs.Marks.{highest}
use Rattle.rast_forms.specs.Reading.{Done, whole_read}
use Rattle.rast_ast.specs.declared.file.File.{File}
use Rattle.rast_ast.specs.Files.{file_marks, file_fits, spelled}
use Rattle.rast_lex.specs.declared.token.Token.{Token}
use Rattle.rast_lex.specs.Tokens.{AreTokens}
use Rattle.rast_lex.specs.Meaning.{words}
use Rattle.rast_parse.specs.Parses.{AreRead}
use Rattle.rast_parse.specs.FileReading.{file_read}
use Rattle.rast_parse.proofs.LinearExact.{bars}
use Rattle.rast_parse.proofs.FilesExact.{file_form, file_exact}
use Rattle.rast_parse.proofs.Whole.{whole_done}
use Rattle.rast_print.specs.FileText.{canonical}
use Rattle.rast_print.specs.Readable.{IsReadable, IsReadAs}
use Rattle.rast_print.proofs.FileCut.{read_as}

pub read_again : (f : File) (tokens : List Token) (depth : ℕ) → IsReadable f → highest (file_marks f) ≤ depth → AreTokens (canonical f) tokens → AreRead file_marks file_fits depth (words (canonical f) tokens) f
read_again f tokens depth h low are =
    let a : IsReadAs (canonical f) f = read_as f h in
    record { in_grammar = h.fits; are = ap (words (canonical f)) (a.only tokens are) ∙ a.reads.are; shallow = low }

module _ (f g : File) (h : IsReadable f) (k : IsReadable g) where
  same_tokens : canonical f ≡ canonical g → spelled f ≡ spelled g
  same_tokens e =
      let a : IsReadAs (canonical f) f = read_as f h in
      let b : IsReadAs (canonical f) g = subst (λ z. IsReadAs z g) (sym e) (read_as g k) in
      sym a.reads.are ∙ ap (words (canonical f)) (b.only a.tokens a.are) ∙ b.reads.are

  read_at : (d : ℕ) → highest (file_marks f) ≤ d → highest (file_marks g) ≤ d → spelled f ≡ spelled g → f ≡ g
  read_at d low high e =
      let both : Done f [] ≡ Done g [] = sym (whole_done bars d file_form (file_read d) (file_exact d) f h.fits low) ∙ ap (whole_read (file_read d)) e ∙ whole_done bars d file_form (file_read d) (file_exact d) g k.fits high in cc

  pub one_file : canonical f ≡ canonical g → f ≡ g
  one_file e = read_at (max (highest (file_marks f)) (highest (file_marks g))) (omega arith) (omega arith) (same_tokens e)
