-- The canonical text of a file is cut into its tokens, and so is read as the file.
use Rattle.std.proofs.Common.{◌≡◌, ℕ, Bool, true, false, List, [], ◌∷◌, ◌++◌, codes, Option, Some, None, ap, sym, ◌∙◌, refl, subst, append_assoc, append-nil}
use Rattle.rast_forms.specs.Marks.{Mark, bare}
use Rattle.rast_ast.specs.declared.kind.Kind.TheVariants as kind
use Rattle.rast_ast.specs.declared.term.Lin.{Lin}
use Rattle.rast_ast.specs.declared.form.Form.{Form}
use Rattle.rast_ast.specs.declared.file.File.{File}
use Rattle.rast_ast.specs.declared.file.Item.{Item}
use Rattle.rast_ast.specs.declared.file.Item.TheVariants as item
use Rattle.rast_ast.specs.declared.file.Channel.{Channel}
use Rattle.rast_ast.specs.Written.{fixed, name}
use Rattle.rast_ast.specs.Files as grammar
use Rattle.rast_lex.specs.Pieces.{texts}
use Rattle.rast_lex.specs.declared.token.Token.{Token}
use Rattle.rast_lex.specs.Tokens.{AreTokens}
use Rattle.rast_lex.specs.Meaning.{word_of, words}
use Rattle.rast_lex.specs.Seen.{words as seen_words, piece_words}
use Rattle.rast_lex.proofs.SeenLaws.{pieces_seen}
use Rattle.rast_lex.proofs.Unique.{one_list}
use Rattle.rast_print.specs.Joined as joining
use Rattle.rast_print.specs.TypeText.{type_text}
use Rattle.rast_print.specs.ProcessText.{names_text, optional_by_text, proc_text}
use Rattle.rast_print.specs.FileText.{params_text, channel_text, spaced_channel, used_text, potential_text, premise_text, offer_text, item_text, item_line, explicit_text, canonical}
use Rattle.rast_print.specs.Readable.{IsReadable, IsReadAs}
use Rattle.rast_print.proofs.Cutting.{MayFollow, Pieced, Cut, next, ◌▷◌, weaker, as_is, none_cut, list_cut}
use Rattle.rast_print.proofs.Tokens as text
use Rattle.rast_print.proofs.LinearCut.{braced_cut}
use Rattle.rast_print.proofs.FormulaCut.{form_cut}
use Rattle.rast_print.proofs.TypeCut.{type_cut}
use Rattle.rast_print.proofs.ProcessCut.{names_cut, optional_by_cut, optional_by_begins, proc_cut, line_after}

param_cut : (n : List ℕ) → Cut true (joining.braced n) (fixed kind.OpenBrace ++ (name n ++ fixed kind.CloseBrace))
param_cut n = text.open_brace ▷ next (text.name_cut n) (λ r h. refl) text.close_brace

params_cut : (ps : List (List ℕ)) → Cut true (params_text ps) (grammar.params_marks ps)
params_cut = list_cut true joining.braced (λ n. fixed kind.OpenBrace ++ (name n ++ fixed kind.CloseBrace)) param_cut (λ a z. tt)

-- parameters, before what no name goes on with
params_begin : (ps : List (List ℕ)) (y r : List ℕ) → MayFollow false (y ++ r) → MayFollow false ((params_text ps ++ y) ++ r)
params_begin [] y r h = h
params_begin (p ∷ ps) y r h = refl

channel_cut : (c : Channel) → Cut true (channel_text c) (grammar.channel_marks c)
channel_cut c = text.open_paren ▷ next (text.name_cut c.name) (λ r h. refl) (text.spaced_colon ▷ next (type_cut c.body) (λ r h. refl) text.close_paren)

spaced_channel_cut : (c : Channel) → Cut true (spaced_channel c) (grammar.channel_marks c)
spaced_channel_cut c = as_is refl (sym (append-nil (grammar.channel_marks c))) (channel_cut c ▷ text.blank_cut 32 refl)

used_cut : (cs : List Channel) → Cut true (used_text cs) (grammar.uses_marks cs)
used_cut [] = text.dot_space
used_cut (c ∷ cs) = list_cut true spaced_channel grammar.channel_marks spaced_channel_cut (λ a z. tt) (c ∷ cs)

potential_cut : (o : Option Lin) → Cut true (potential_text o) (grammar.potential_marks o)
potential_cut None = none_cut true
potential_cut (Some l) = braced_cut l

premise_cut : (o : Option Form) → Cut false (premise_text o) (grammar.premise_marks o)
premise_cut None = none_cut false
premise_cut (Some f) = text.blank_cut 32 refl ▷ (text.if_space ▷ form_cut f)

-- a premise, before what no name goes on with
premise_begins : (o : Option Form) (y r : List ℕ) → MayFollow false (y ++ r) → MayFollow false ((premise_text o ++ y) ++ r)
premise_begins None y r h = h
premise_begins (Some f) y r h = refl

offer_cut : (o : Option Lin) (c : Channel) → Cut true (offer_text o c) (fixed kind.Bar ++ (grammar.potential_marks o ++ (fixed kind.Minus ++ grammar.channel_marks c)))
offer_cut o c = text.bar ▷ (potential_cut o ▷ (text.minus_space ▷ channel_cut c))

-- a name with parameters, before what no name goes on with
head_cut : {c : Bool} (n : List ℕ) (ps : List (List ℕ)) {y : List ℕ} {ns : List Mark} → ((r : List ℕ) → MayFollow c r → MayFollow false (y ++ r)) → Cut c y ns → Cut c ((n ++ params_text ps) ++ y) (name n ++ (grammar.params_marks ps ++ ns))
head_cut n ps {y = y} f p = as_is (append_assoc n (params_text ps) y) refl (next (text.name_cut n) (λ r h. params_begin ps y r (f r h)) (params_cut ps ▷ p))

names_before_equal : (ys : List (List ℕ)) (y r : List ℕ) → MayFollow false ((names_text ys ++ (codes " =\n" ++ y)) ++ r)
names_before_equal [] y r = refl
names_before_equal (n ∷ ys) y r = refl

item_cut : (i : Item) → Cut false (item_text i) (grammar.item_marks i)
item_cut (item.Def n ps a) = text.type_space ▷ head_cut n ps (λ r h. refl) (text.spaced_equal ▷ type_cut a)
item_cut (item.Decl n ps us q c) = text.decl_space ▷ head_cut n ps (λ r h. refl) (text.spaced_colon ▷ (used_cut us ▷ weaker (offer_cut q c)))
item_cut (item.Proc x n ps ys p) = text.proc_space ▷ next (text.name_cut x) (λ r h. refl) (text.spaced_left_arrow ▷ head_cut n ps (λ r h. names_before_equal ys (proc_text p (codes "  ")) r) (next (names_cut ys) (λ r h. refl) (text.equal_line ▷ proc_cut p (codes "  ") (record { all = refl }))))
item_cut (item.Eq ps f a b o) = next text.eq_word (λ r h. params_begin ps (premise_text f ++ (codes " : " ++ (type_text a ++ (codes " = " ++ (type_text b ++ optional_by_text o))))) r (premise_begins f (codes " : " ++ (type_text a ++ (codes " = " ++ (type_text b ++ optional_by_text o)))) r refl))
    (params_cut ps ▷ next (premise_cut f) (λ r h. refl) (text.spaced_colon ▷ next (type_cut a) (λ r h. refl) (text.spaced_equal ▷ next (type_cut b) (optional_by_begins o) (optional_by_cut o))))
item_cut (item.Exec n) = text.exec_space ▷ text.name_cut n

item_line_cut : (i : Item) → Cut true (item_line i) (grammar.item_marks i)
item_line_cut i = line_after (item_cut i)

explicit_cut : (b : Bool) → Cut true (explicit_text b) (grammar.explicit_marks b)
explicit_cut true = text.explicit_line
explicit_cut false = none_cut true

pub file_cut : (f : File) → Cut true (canonical f) (grammar.file_marks f)
file_cut f = explicit_cut f.explicit ▷ list_cut true item_line grammar.item_marks item_line_cut (λ a z. tt) f.items

same_words : (text : List ℕ) (ts : List Token) → words text ts ≡ seen_words text ts
same_words text [] = refl
same_words text (t ∷ ts) = ap (λ z. word_of text t ∷ z) (same_words text ts)

by_pieces : (f : File) → IsReadable f → (p : Pieced true (canonical f) (bare (grammar.file_marks f))) → ((ts : List Token) × AreTokens (texts p.pieces) ts × (seen_words (texts p.pieces) ts ≡ piece_words p.pieces)) → IsReadAs (canonical f) f
by_pieces f h p s = record {
  tokens = s.0;
  are = subst (λ z. AreTokens z s.0) p.texts_are s.1;
  only = λ ts k. one_list (canonical f) ts s.0 k (subst (λ z. AreTokens z s.0) p.texts_are s.1);
  reads = record { fits = h.fits; are = ap (λ z. words z s.0) (sym p.texts_are) ∙ same_words (texts p.pieces) s.0 ∙ s.2 ∙ p.tokens_are };
}

-- the canonical text of a file is read as the file
pub read_as : (f : File) → IsReadable f → IsReadAs (canonical f) f
read_as f h =
    let p : Pieced true (canonical f) (bare (grammar.file_marks f)) = (file_cut f).cut h.words in
    by_pieces f h p (pieces_seen p.pieces (p.are [] tt))
