-- What reading all tokens of a text says of them.
use Rattle.std.proofs.Common.{◌≡◌, ℕ, suc, ◌-◌, List, [], ◌∷◌, ◌++◌, length, drop, Ok, Err, ap, sym, ◌∙◌, refl, subst, arith, length-append}
use Rattle.rast_forms.specs.Words.{Word}
use Rattle.rast_forms.specs.Marks.{IsShallow}
use Rattle.rast_forms.specs.Reading.{Syntax, TooDeep, Read, Done, Bad, Reader, whole_read}
use Rattle.rast_forms.proofs.Forms.{Form, Exact, Fails}
use Rattle.rast_lex.specs.declared.token.Token.{Token}
use Rattle.rast_lex.specs.Meaning.{word_of, words}
use Rattle.rast_parse.specs.declared.cursor.Fault.{Fault}
use Rattle.rast_parse.specs.declared.cursor.Fault.TheVariants as fault
use Rattle.rast_parse.specs.declared.outcome.ParseErr.{ParseErr}
use Rattle.rast_parse.specs.declared.outcome.ParseErr.TheVariants as error
use Rattle.rast_parse.specs.Answer.{FailsAs, Places}
use Rattle.rast_parse.specs.Parses.{place_of, AreRead, IsFirstWrong, IsFirstDeep, Answers, IsOnly}
use Rattle.rast_parse.proofs.LinearExact.{bars}
use Rattle.rast_parse.proofs.Words.{length-words}
use Rattle.rast_parse.proofs.Whole.{RightWhole, whole_sound, whole_done, not_whole, not_begun}

-- tokens whose words are cut in two
record Cut (text : List ℕ) (tokens : List Token) (used r : List Word) : Type 0 where
  before : List Token
  rest : List Token
  split : tokens ≡ before ++ rest
  first : words text before ≡ used
  second : words text rest ≡ r
  place : rest ≡ drop (length tokens - length r) tokens

cut : (text : List ℕ) (tokens : List Token) (used r : List Word) → words text tokens ≡ used ++ r → Cut text tokens used r
cut text tokens [] r e = record {
  before = [];
  rest = tokens;
  split = refl;
  first = refl;
  second = e;
  place = let none : length tokens - length r ≡ 0 = omega (arith, ap length e, length-words text tokens) in rw none refl;
}
cut text [] (u ∷ used) r e = absurd (cc)
cut text (t ∷ tokens) (u ∷ used) r e = let h : words text tokens ≡ used ++ r = cc in let head : word_of text t ≡ u = cc in let c : Cut text tokens used r = cut text tokens used r h in record {
  before = t ∷ c.before;
  rest = c.rest;
  split = ap (λ z. t ∷ z) c.split;
  first = rw (head, c.first) refl;
  second = c.second;
  place = let one : suc (length tokens) - length r ≡ suc (length tokens - length r) = omega (arith, ap length h, length-words text tokens, length-append used r) in rw one c.place;
}

words-append : (text : List ℕ) (a b : List Token) → words text (a ++ b) ≡ words text a ++ words text b
words-append text [] b = refl
words-append text (t ∷ a) b = ap (λ z. word_of text t ∷ z) (words-append text a b)

module _ {X : Type 0} (d : ℕ) (F : Form X) (p : Reader X) (E : Exact bars d F p) (text : List ℕ) (tokens : List Token) where
  answer_wrong : (r : List Word) → whole_read p (words text tokens) ≡ Bad Syntax r → Fails bars d Syntax F (whole_read p) (words text tokens) r →
      IsFirstWrong F.mark F.fits d text tokens (place_of text (drop (length tokens - length r) tokens))
  answer_wrong r e h = let c : Cut text tokens h.used r = cut text tokens h.used r h.split in record {
    before = c.before;
    rest = c.rest;
    split = c.split;
    place = ap (place_of text) (sym c.place);
    begin = record { part = h.tree; in_grammar = h.fits; passed = h.seen; more = h.more; goes_on = sym h.viable; are = c.first ∙ sym h.seen_is; shallow = rw c.second h.shallow };
    wrong = λ t others f part further fits are. not_begun bars d F p E (words text tokens) r (word_of text t) (words text others) h (sym c.second ∙ ap (words text) f) part further fits
        (ap (λ z. z ++ further) (ap (λ z. z ++ word_of text t ∷ []) (sym c.first) ∙ sym (words-append text c.before (t ∷ []))) ∙ are);
    none = λ part fits are. not_whole bars d F p E (words text tokens) r part fits are e;
  }

  answer_deep : (r : List Word) → Fails bars d TooDeep F (whole_read p) (words text tokens) r → IsFirstDeep F.mark F.fits d text tokens (place_of text (drop (length tokens - length r) tokens))
  answer_deep r h = let c : Cut text tokens h.used r = cut text tokens h.used r h.split in at c c.rest refl
    where
      at : (c : Cut text tokens h.used r) (rest : List Token) → c.rest ≡ rest → IsFirstDeep F.mark F.fits d text tokens (place_of text (drop (length tokens - length r) tokens))
      at c [] e = absurd (let none : [] ≡ r = ap (words text) (sym e) ∙ c.second in let some : r ≡ h.deep.0.word ∷ h.deep.2 = h.deep.4 in cc)
      at c (t ∷ others) e = let all : word_of text t ∷ words text others ≡ h.deep.0.word ∷ h.deep.2 = ap (words text) (sym e) ∙ c.second ∙ h.deep.4 in
          let here : word_of text t ≡ h.deep.0.word = cc in let behind : words text others ≡ h.deep.2 = cc in record {
            before = c.before;
            deep = t;
            others = others;
            split = c.split ∙ ap (λ z. c.before ++ z) e;
            place = ap (place_of text) (sym c.place ∙ e);
            part = h.tree;
            in_grammar = h.fits;
            passed = h.seen;
            mark = h.deep.0;
            more = h.deep.1;
            goes_on = sym h.viable ∙ ap (λ z. h.seen ++ z) h.deep.3;
            are = c.first ∙ sym h.seen_is;
            is = here;
            shallow = subst (IsShallow bars d h.seen) (sym c.second ∙ ap (words text) e) h.shallow;
            open_there = rw behind h.deep.5;
          }

  answers_by : (m : Read X) → whole_read p (words text tokens) ≡ m → RightWhole bars d F p (words text tokens) m → (f : Fault) (e : ParseErr) → FailsAs f m → Places text tokens f e →
      Answers F.mark F.fits d text tokens (Err e)
  answers_by m g h fault.Memory e k l = rw l tt
  answers_by m g h (fault.Syntax left) e (r, i, j) l = rw l (rw j (answer_wrong r (g ∙ i) (subst (RightWhole bars d F p (words text tokens)) i h)))
  answers_by m g h (fault.TooDeep left) e (r, i, j) l = rw l (rw j (answer_deep r (subst (RightWhole bars d F p (words text tokens)) i h)))

  pub answer_err : (f : Fault) (e : ParseErr) → FailsAs f (whole_read p (words text tokens)) → Places text tokens f e → Answers F.mark F.fits d text tokens (Err e)
  answer_err f e h g = answers_by (whole_read p (words text tokens)) refl (whole_sound bars d F p E (words text tokens)) f e h g

  read_by : (x : X) (m : Read X) → RightWhole bars d F p (words text tokens) m → m ≡ Done x [] → AreRead F.mark F.fits d (words text tokens) x
  read_by x (Bad why r) h e = absurd (cc)
  read_by x (Done y r) h e = let same : y ≡ x = cc in subst (AreRead F.mark F.fits d (words text tokens)) same (record { in_grammar = h.fits; are = h.split; shallow = h.low })

  pub answer_ok : (x : X) → whole_read p (words text tokens) ≡ Done x [] → AreRead F.mark F.fits d (words text tokens) x
  answer_ok x e = read_by x (whole_read p (words text tokens)) (whole_sound bars d F p E (words text tokens)) e

  all_read : (x : X) → AreRead F.mark F.fits d (words text tokens) x → whole_read p (words text tokens) ≡ Done x []
  all_read x a = ap (whole_read p) a.are ∙ whole_done bars d F p E x a.in_grammar a.shallow

  pub only_ok : (x : X) → whole_read p (words text tokens) ≡ Done x [] → IsOnly F.mark F.fits d (words text tokens) (Ok x)
  only_ok x e y a = let both : Done x [] ≡ Done y [] = sym e ∙ all_read y a in cc

  fails_none : (x : X) (f : Fault) (e : ParseErr) (m : Read X) → m ≡ Done x [] → FailsAs f m → Places text tokens f e → e ≡ error.Memory
  fails_none x fault.Memory e m g h k = k
  fails_none x (fault.Syntax left) e m g (r, i, j) k = absurd (let both : Done x [] ≡ Bad Syntax r = sym g ∙ i in cc)
  fails_none x (fault.TooDeep left) e m g (r, i, j) k = absurd (let both : Done x [] ≡ Bad TooDeep r = sym g ∙ i in cc)

  pub only_err : (f : Fault) (e : ParseErr) → FailsAs f (whole_read p (words text tokens)) → Places text tokens f e → IsOnly F.mark F.fits d (words text tokens) (Err e)
  only_err f e h k y a = fails_none y f e (whole_read p (words text tokens)) (all_read y a) h k
