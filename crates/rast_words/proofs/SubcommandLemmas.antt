-- Words that are taken name a subcommand.
use Rattle.std.proofs.Common.{◌≡◌, ◌∙◌, ◌⊎◌, ◌&&◌, ◌||◌, Bool, true, false, cond, not, List, [], ◌∷◌, Option, Some, None, Box, find, option_map, is_some, inl, inr, refl, sym, ap, ap₂, subst, ⊎_elim, unwrap_or, Global, true≢false}
use Rattle.std.specs.List.{list_all}
use Rattle.std.specs.Box.{box_value}
use Rattle.std.proofs.lemmas.Bool.{and_parts}
use Rattle.clap.specs.Words.{App, Row, Shape, Text, built, is_simple, subcommand_of, takes, subcommand_rows, HasMatchesOf, subcommand_rows_of, subcommand_name_of, has_subcommand}
use Rattle.clap.specs.declared.parser.matches.ArgMatches.{ArgMatches}
use Rattle.clap.specs.declared.parser.matches.ArgMatches.TheViews.{out-ArgMatches, out-SubCommand}
use Rattle.clap.specs.declared.parser.matches.SubCommand.{SubCommand}
use Rattle.clap.specs.declared.error.kind.ErrorKind.{ErrorKind}
use Rattle.clap.specs.declared.error.kind.ErrorKind.TheVariants.{OutOfMemory}
use Rattle.clap.specs.Faults.{fault_of, is_simple_and_free}
use Rattle.clap.specs.Simple.{argument_words, entered, label_of, names_of, rows_at}
use Rattle.clap.specs.Takes.{built_takes, entered_passes, level_passes, settle_passes, walk_passes, default_passes, is_valid}
use Rattle.clap.specs.Walk.{Held, Names, answers_to, finished, nothing_held, walk, walk_from}
use Rattle.clap.specs.Facts.{explicit_source}
use Rattle.std.specs.List.{list_any}
use Rattle.clap.proofs.OnLiterals.{clap_on_literals}
use Rattle.rast_words.specs.CommandLine.{rast}
use Rattle.rast_words.specs.Asks.{Asks, AsksBy, IsSubcommand, Means}
use Rattle.rast_words.specs.declared.asked.Command.{Command}
use Rattle.rast_words.specs.declared.asked.Command.TheVariants.{Run, Check, Show, Decide}
use Rattle.rast_words.specs.declared.command_line.WordsErr.{WordsErr}
use Rattle.rast_words.specs.declared.command_line.WordsErr.TheVariants.{Usage}
use Rattle.rast_words.proofs.Faultless.{faultless_takes, has_only_good_defaults}

pub rast_is_simple : is_simple_and_free rast ≡ true
unfolding clap_on_literals
rast_is_simple = refl

rast_has_good_defaults : has_only_good_defaults (built rast) ≡ true
unfolding clap_on_literals
rast_has_good_defaults = refl

-- words without a fault are taken
pub are_taken : (words : List Text) → fault_of rast words ≡ [] → takes rast words ≡ true
are_taken words e = faultless_takes rast words rast_is_simple rast_has_good_defaults e

-- a level that wants a subcommand has one
wanted : (s : Shape) (rows : List Row) (has : Bool) → s.subcommand_required ≡ true → is_valid s rows has ≡ true → has ≡ true
wanted s rows has required e =
    let first = and_parts (not s.arg_required_else_help || (has || list_any (λ (r : Row). explicit_source r.source) rows)) _ e in
    let second = and_parts (not s.subcommand_required || has) _ first.1 in
    rw required at second.0

level_has : (s : Shape) (names : Names) (h : Held) (words : List Text) (has : Bool) → s.subcommand_required ≡ true → level_passes s names h words has ≡ true → has ≡ true
level_has s names h words has required e =
    let end = (walk s.rules names h words).held in
    let first = and_parts (walk_passes s names (walk_from h) words) _ e in
    let second = and_parts (settle_passes s.rules s.args_override_self end) _ first.1 in
    let third = and_parts (list_all default_passes s.rules) _ second.1 in
    wanted s (finished s.rules end) has required third.1

built_has : (a : App) (h : Held) (words : List Text) → a.top.subcommand_required ≡ true → built_takes a h words ≡ true → is_some (entered a (walk a.top.rules (names_of a) h words).stopped) ≡ true
built_has a h words required e =
    let stop = (walk a.top.rules (names_of a) h words).stopped in
    let parts = and_parts (entered_passes a stop) _ e in
    level_has a.top (names_of a) h words (is_some (entered a stop)) required parts.1

-- the name is that of one of the subcommands
abbrev pub IsNameIn : List Shape → Text → Type 0
IsNameIn [] name = ⊥
IsNameIn (s ∷ ss) name = (name ≡ s.name) ⊎ IsNameIn ss name

found_named : (subs : List Shape) (p : Text × List Text) → is_some (option_map (λ s. rows_at s p.1) (find (λ s. answers_to p.0 (label_of s)) subs)) ≡ true
    → (name : Text) × (rows : List Row) × (option_map (λ s. rows_at s p.1) (find (λ s. answers_to p.0 (label_of s)) subs) ≡ Some (name, rows)) × IsNameIn subs name
found_named [] p e = cc
found_named (s ∷ ss) p e = go (answers_to p.0 (label_of s)) (found_named ss p) e
  where
    go : (b : Bool) → (is_some (option_map (λ s. rows_at s p.1) (find (λ s. answers_to p.0 (label_of s)) ss)) ≡ true
        → (name : Text) × (rows : List Row) × (option_map (λ s. rows_at s p.1) (find (λ s. answers_to p.0 (label_of s)) ss) ≡ Some (name, rows)) × IsNameIn ss name)
        → is_some (option_map (λ s. rows_at s p.1) (cond b (Some s) (find (λ s. answers_to p.0 (label_of s)) ss))) ≡ true
        → (name : Text) × (rows : List Row) × (option_map (λ s. rows_at s p.1) (cond b (Some s) (find (λ s. answers_to p.0 (label_of s)) ss)) ≡ Some (name, rows)) × IsNameIn (s ∷ ss) name
    go true others e = ((rows_at s p.1).0, (rows_at s p.1).1, refl, inl refl)
    go false others e =
        let rest = others e in
        (rest.0, rest.1, rest.2, inr rest.3)

entered_named : (a : App) (stop : Option (Text × List Text)) → is_some (entered a stop) ≡ true
    → (name : Text) × (rows : List Row) × (entered a stop ≡ Some (name, rows)) × IsNameIn a.subs name
entered_named a None e = cc
entered_named a (Some p) e = found_named a.subs p e

some_row : (m : ArgMatches) → has_subcommand m ≡ is_some (subcommand_rows_of m)
some_row m = go (out-ArgMatches m).subcommand
  where
    go : (o : Option (Box SubCommand Global)) → is_some o ≡ is_some (subcommand_rows o)
    go None = refl
    go (Some b) = refl

rast_wants : (built rast).top.subcommand_required ≡ true
rast_wants = refl

-- the subcommand that taken words name
pub named : (words : List Text) → takes rast words ≡ true → (name : Text) × (rows : List Row) × (subcommand_of rast words ≡ Some (name, rows)) × IsNameIn (built rast).subs name
named words e =
    let parts = and_parts (is_simple rast) _ e in
    entered_named (built rast) (walk (built rast).top.rules (names_of (built rast)) nothing_held (argument_words rast words)).stopped (built_has (built rast) nothing_held (argument_words rast words) rast_wants parts.1)

-- the subcommand of a parse has a name where it has matches
name_row : (m : ArgMatches) → subcommand_name_of m ≡ option_map (λ p. p.0) (subcommand_rows_of m)
name_row m = go (out-ArgMatches m).subcommand
  where
    go : (o : Option (Box SubCommand Global)) → option_map (λ b. (out-SubCommand (box_value b)).name.now) o ≡ option_map (λ p. p.0) (subcommand_rows o)
    go None = refl
    go (Some b) = refl

-- what a parse says, where it is one of this command line
pub parsed : (a : App) (words : List Text) (m : ArgMatches) → a ≡ rast → (is_simple_and_free a ≡ true → fault_of a words ≡ []) → HasMatchesOf a words m
    → (fault_of rast words ≡ []) × (subcommand_rows_of m ≡ subcommand_of rast words)
parsed a words m same clean matches =
    let simple : is_simple_and_free a ≡ true = ap is_simple_and_free same ∙ rast_is_simple in (
      ap (λ x. fault_of x words) (sym same) ∙ clean simple,
      (matches (and_parts (is_simple a) _ simple).0).1 ∙ ap (λ x. subcommand_of x words) same,
    )

-- what a parse of taken words found
module _ (words : List Text) (m : ArgMatches) (clean : fault_of rast words ≡ []) (rows : subcommand_rows_of m ≡ subcommand_of rast words) where
  found : (name : Text) × (rows : List Row) × (subcommand_of rast words ≡ Some (name, rows)) × IsNameIn (built rast).subs name
  found = named words (are_taken words clean)

  pub no_none : false ≡ has_subcommand m → ⊥
  no_none none =
      let known = found in
      true≢false (sym (none ∙ (some_row m ∙ ap is_some (rows ∙ known.2))))

  pub found_by : (name : Text) (matches : List Row) → Some name ≡ subcommand_name_of m → Some matches ≡ option_map (λ p. p.1) (subcommand_rows_of m)
      → AsksBy words name matches × IsSubcommand name
  found_by name matches is_name is_rows =
      let known = found in
      let of_row = rows ∙ known.2 in
      let same_name : name ≡ known.0 = ap (λ o. unwrap_or o name) (is_name ∙ (name_row m ∙ ap (option_map (λ p. p.0)) of_row)) in
      let same_rows : matches ≡ known.1 = ap (λ o. unwrap_or o matches) (is_rows ∙ ap (option_map (λ p. p.1)) of_row) in (
        record { taken = are_taken words clean; subcommand = known.2 ∙ ap₂ (λ x y. Some (x, y)) (sym same_name) (sym same_rows) },
        ⊎_elim (λ run. inl (same_name ∙ run)) (λ others. inr (⊎_elim (λ check. inl (same_name ∙ check)) (λ more. inr (⊎_elim (λ show. inl (same_name ∙ show)) (λ last. inr (⊎_elim (λ decide. same_name ∙ decide) (λ none. absurd none) last)) more)) others)) known.3,
      )

  pub asks_for : (name : Text) (matches : List Row) (c : Command) → Some name ≡ subcommand_name_of m → Some matches ≡ option_map (λ p. p.1) (subcommand_rows_of m) → Means name matches c → Asks words c
  asks_for name matches (Run file budget trace) is_name is_rows means =
      let by = found_by name matches is_name is_rows in
      (matches, subst (λ (n : Text). AsksBy words n matches) means.0 by.0, means.1)
  asks_for name matches (Check file) is_name is_rows means =
      let by = found_by name matches is_name is_rows in
      (matches, subst (λ (n : Text). AsksBy words n matches) means.0 by.0, means.1)
  asks_for name matches (Show file) is_name is_rows means =
      let by = found_by name matches is_name is_rows in
      (matches, subst (λ (n : Text). AsksBy words n matches) means.0 by.0, means.1)
  asks_for name matches (Decide formula) is_name is_rows means =
      let by = found_by name matches is_name is_rows in
      (matches, subst (λ (n : Text). AsksBy words n matches) means.0 by.0, means.1)

-- words that clap refuses
pub refused : (a : App) (words : List Text) (r : WordsErr) (k : ErrorKind) → a ≡ rast → (r ≡ Usage → k ≡ OutOfMemory → ⊥) → (takes a words ≡ true → k ≡ OutOfMemory) → r ≡ Usage → takes rast words ≡ false
refused a words r k same other memory is = go (takes rast words) refl
  where
    go : (b : Bool) → takes rast words ≡ b → takes rast words ≡ false
    go true e = absurd (other is (memory (ap (λ x. takes x words) same ∙ e)))
    go false e = e

-- a command of plain fields has no global argument
pub third_fails : (a b c d : Bool) → (a && (b && (not c && d))) ≡ true → c ≡ false
third_fails a b c d e = not_true c (and_parts (not c) d (and_parts b (not c && d) (and_parts a (b && (not c && d)) e).1).1).0
  where
    not_true : (c : Bool) → not c ≡ true → c ≡ false
    not_true true e = absurd (true≢false (sym e))
    not_true false e = refl
