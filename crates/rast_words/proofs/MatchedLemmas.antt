-- Texts and numbers that are read from matches.
use Rattle.std.proofs.Common.{◌≡◌, ◌∙◌, ◌<◌, ◌≤◌, ◌^◌, ℕ, Bool, true, false, List, [], Option, Some, None, Result, Ok, Err, refl, ap, option_map, unwrap_or, arith, Bor}
use Rattle.std.specs.Str.Parse.{ParsesUnsigned}
use Rattle.clap.specs.Words.{Text, first_value, one_text, rows_of, ReadsOne}
use Rattle.clap.specs.ValueTests.{is_unsigned_in}
use Rattle.clap.specs.declared.parser.matches.Found.{Found}
use Rattle.clap.specs.declared.builder.value_parser.ValueParser.TheVariants as parser
use Rattle.clap.proofs.ValueTestLemmas.{accepts-Accepts, Accepts-accepts}
use Rattle.clap.proofs.WalkLemmas.{first_value-rows, one_text-rows}
use Rattle.rast_words.specs.Matched.{text_at, number_at, number_in}

pub text_of : (f : Found) (id : Text) (o : Option (Bor Text)) (d r : Bor Text) → option_map (λ s. s.now) o ≡ first_value f id → d.now ≡ [] → r ≡ unwrap_or o d → r.now ≡ text_at id (rows_of f)
text_of f id o d r found empty is = ap (λ (s : Bor Text). s.now) is ∙ (go o ∙ ap (λ (x : Option Text). unwrap_or x []) (found ∙ first_value-rows f id))
  where
    go : (o : Option (Bor Text)) → (unwrap_or o d).now ≡ unwrap_or (option_map (λ s. s.now) o) []
    go None = empty
    go (Some s) = refl

module _ (E : Type 0) (G : List ℕ → Result ℕ E → Type 0) (only : (u : List ℕ) (x : Result ℕ E) → G u x → ParsesUnsigned 32 10 u x) (fallback : ℕ) where
  reads : (o : Option ℕ) (t : Text) → ReadsOne G t o → unwrap_or o fallback ≡ number_in fallback (Some t)
  reads (Some v) t h =
      let parsed = only t (Ok v) h in
      let fits = parsed.0.1 in
      let yes : is_unsigned_in 0 4294967295 t ≡ true = Accepts-accepts false (parser.Unsigned 0 4294967295) t (parsed.0.0, omega arith, omega arith, omega arith) in
      rw yes parsed.1
  reads None t h = go (is_unsigned_in 0 4294967295 t) refl
    where
      go : (b : Bool) → is_unsigned_in 0 4294967295 t ≡ b → fallback ≡ number_in fallback (Some t)
      go true e =
          let accepted = accepts-Accepts false (parser.Unsigned 0 4294967295) t e in
          let most = accepted.3 in
          absurd (only t (Err h.0) h.1 (accepted.0, omega arith))
      go false e = rw e refl

  pub number_of : (f : Found) (id : Text) (o : Option ℕ) → (one_text f id ≡ None → o ≡ None) → ((t : List ℕ) → one_text f id ≡ Some t → ReadsOne G t o)
      → unwrap_or o fallback ≡ number_at fallback id (rows_of f)
  number_of f id o none value = go (one_text f id) refl ∙ ap (number_in fallback) (one_text-rows f id)
    where
      go : (x : Option Text) → one_text f id ≡ x → unwrap_or o fallback ≡ number_in fallback x
      go None e = ap (λ (y : Option ℕ). unwrap_or y fallback) (none e)
      go (Some t) e = reads o t (value t e)
