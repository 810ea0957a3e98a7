-- A command without faults at words takes them, where each default passes and no argument has a rule on another.
use Rattle.std.proofs.Common.{◌≡◌, ◌&&◌, ◌||◌, ◌+◌, ◌==◌, ℕ, zero, suc, Bool, true, false, cond, not, List, [], ◌∷◌, Option, Some, None, length, drop, refl, ◌∙◌, is_some, nat_lt, nat_le, true≢false, codes, find, chars, ◌⊎◌, inl, inr, ⊎_elim, arith, encode_utf8, slice_get, bytes_eq}
use Rattle.std.specs.List.{list_all, list_any}
use Rattle.std.specs.Option.{option_map_or}
use Rattle.std.proofs.lemmas.Bool.{and_from, and_parts, eqb-true, ltb-false, le-leb}
use Rattle.clap.specs.Facts.{explicit_source, unwrap_or_range, parser_of_value}
use Rattle.clap.specs.Kinds.{Kinds, or_else, value_kinds, values_kinds, range_kinds}
use Rattle.clap.specs.Values.{refused_kind}
use Rattle.clap.specs.ValueTests.{accepts}
use Rattle.clap.specs.Lexer.{long_of, short_of}
use Rattle.clap.specs.Walk.{Held, Names, Row, Rule, Step, Text, Waiting, Walk, action_of, answers_to, arg_by_id, arg_by_index, arg_by_long, arg_by_short, attached_value, finished, has_row, is_pending, most_values, nothing_held, reacted, settled, subcommand_met, takes_several, takes_values, values_or_missing, walk, walk_from, walked, word_met, next, trailing, subcommand, value}
use Rattle.clap.specs.Simple.{App, Shape, argument_words, built, entered, is_simple, label_of, names_of}
use Rattle.clap.specs.Takes.{action_passes, bundle_passes, bundle_step_passes, built_takes, count_passes, default_passes, entered_passes, flag_word_passes, flags_pass, is_given, is_valid, level_passes, long_passes, option_passes, other_passes, positional_passes, react_passes, set_passes, settle_passes, short_passes, step_passes, takes, turn_passes, use_passes, values_pass, walk_passes, word_passes}
use Rattle.clap.specs.Faults.{action_fault, bundle_fault, bundle_step_fault, built_fault, check_fault, count_fault, entered_fault, fault_of, flag_word_fault, flags_fault, has_free_rules, is_free_app, is_simple_and_free, level_fault, long_fault, option_fault, other_fault, positional_fault, react_fault, repeat_fault, set_fault, settle_fault, short_fault, step_fault, stray_fault, turn_fault, use_fault, values_fault, walk_fault, word_fault, defaults_fault}
use Rattle.clap.specs.declared.builder.action.ArgAction.{ArgAction}
use Rattle.clap.specs.declared.builder.action.ArgAction.TheVariants as action
use Rattle.clap.specs.declared.builder.value_parser.ValueParser.{ValueParser}
use Rattle.clap.specs.declared.error.kind.ErrorKind.{ErrorKind}

-- ---- steps

-- no kind comes of either step
none : (a b : Kinds) → or_else a b ≡ [] → (a ≡ []) × (b ≡ [])
none [] b e = (refl, e)
none (k ∷ ks) b e = cc

-- a test that refuses where it holds, and one that refuses where it fails
calm : (b : Bool) (ks : Kinds) (k : ErrorKind) → cond b (k ∷ ks) [] ≡ [] → b ≡ false
calm true ks k e = cc
calm false ks k e = refl

kept : (b : Bool) (k : ErrorKind) → cond b [] (k ∷ []) ≡ [] → b ≡ true
kept true k e = refl
kept false k e = cc

-- two steps, a step that a test passes over, and a test with a step behind it
pair_ok : (x y : Kinds) (p q : Bool) → (x ≡ [] → p ≡ true) → (y ≡ [] → q ≡ true) → or_else x y ≡ [] → (p && q) ≡ true
pair_ok x y p q f g e =
    let parts = none x y e in
    and_from p q (f parts.0) (g parts.1)

or_ok : (b p : Bool) (x : Kinds) → (x ≡ [] → p ≡ true) → cond b [] x ≡ [] → (b || p) ≡ true
or_ok true p x f e = refl
or_ok false p x f e = f e

cond_ok : (b p q : Bool) (x y : Kinds) → (x ≡ [] → p ≡ true) → (y ≡ [] → q ≡ true) → cond b x y ≡ [] → cond b p q ≡ true
cond_ok true p q x y f g e = f e
cond_ok false p q x y f g e = g e

refuse_ok : (b p : Bool) (k : ErrorKind) (x : Kinds) → (x ≡ [] → p ≡ true) → cond b (k ∷ []) x ≡ [] → (not b && p) ≡ true
refuse_ok true p k x f e = cc
refuse_ok false p k x f e = f e

-- ---- one use of an argument

values_ok : (i : Bool) (p : ValueParser) (vs : List Text) → values_kinds i p vs ≡ [] → list_all (accepts i p) vs ≡ true
values_ok i p [] e = refl
values_ok i p (v ∷ vs) e =
    let parts = none (value_kinds i p v) (values_kinds i p vs) e in
    and_from (accepts i p v) (list_all (accepts i p) vs) (kept (accepts i p v) (refused_kind p) parts.0) (values_ok i p vs parts.1)

range_tests : (a b c d f : Bool) (j k l m : ErrorKind) → cond a (j ∷ []) (cond b (cond c [] (k ∷ [])) (cond d (l ∷ []) (cond f (m ∷ []) []))) ≡ []
    → ((b ≡ true) × (c ≡ true)) ⊎ ((d ≡ false) × (f ≡ false))
range_tests true b c d f j k l m e = cc
range_tests false true true d f j k l m e = inl (refl, refl)
range_tests false true false d f j k l m e = cc
range_tests false false c true f j k l m e = cc
range_tests false false c false true j k l m e = cc
range_tests false false c false false j k l m e = inr (refl, refl)

range_ok : (least most n : ℕ) → range_kinds least most n ≡ [] → (nat_le least n ≡ true) × (nat_le n most ≡ true)
range_ok least most n e = ⊎_elim
    (λ same.
    let one = eqb-true least most same.0 in
    let other = eqb-true least n same.1 in
    (le-leb least n (omega arith), le-leb n most (omega arith)))
    (λ between.
    let low = ltb-false n least between.0 in
    let high = ltb-false most n between.1 in
    (le-leb least n (omega arith), le-leb n most (omega arith)))
    (range_tests (nat_lt 0 least && n == 0) (least == most) (least == n) (nat_lt n least) (nat_lt most n) _ _ _ _ e)

repeat_ok : (again has : Bool) (k : ErrorKind) → cond (has && not again) (k ∷ []) [] ≡ [] → (not has || again) ≡ true
repeat_ok true true k e = refl
repeat_ok true false k e = refl
repeat_ok false false k e = refl
repeat_ok false true k e = cc

set_ok : (again : Bool) (a : Rule) (values : List Text) (rows : List Row) → set_fault again a values rows ≡ [] → set_passes again a values rows ≡ true
set_ok again a values rows e =
    let parts = none (repeat_fault again a.id rows) (values_fault a values) e in
    and_from (not (has_row a.id rows) || again) (values_pass a values) (repeat_ok again (has_row a.id rows) _ parts.0) (values_ok a.ignore_case (parser_of_value a.parser) values parts.1)

count_ok : (a : Rule) (values : List Text) (rows : List Row) → count_fault a values rows ≡ [] → count_passes a values rows ≡ true
count_ok a [] rows e = kept _ _ e
count_ok a (v ∷ vs) rows e = values_ok a.ignore_case (parser_of_value a.parser) (v ∷ vs) e

action_ok : (x : ArgAction) (again : Bool) (a : Rule) (values : List Text) (rows : List Row) → action_fault x again a values rows ≡ [] → action_passes x again a values rows ≡ true
action_ok action.Set again a values rows e = set_ok again a values rows e
action_ok action.SetTrue again a values rows e = set_ok again a values rows e
action_ok action.SetFalse again a values rows e = set_ok again a values rows e
action_ok action.Append again a values rows e = values_ok a.ignore_case (parser_of_value a.parser) values e
action_ok action.Count again a values rows e = count_ok a values rows e
action_ok action.Help again a values rows e = cc
action_ok action.HelpShort again a values rows e = cc
action_ok action.HelpLong again a values rows e = cc
action_ok action.Version again a values rows e = cc

use_ok : (again : Bool) (a : Rule) (values : List Text) (rows : List Row) → use_fault again a values rows ≡ [] → use_passes again a values rows ≡ true
use_ok again a values rows e =
    let least = (unwrap_or_range a.range).start_inclusive in
    let parts = none (range_kinds least (most_values a) (length values)) (action_fault (action_of a) again a (values_or_missing a values) rows) e in
    let range = range_ok least (most_values a) (length values) parts.0 in
    and_from (nat_le least (length values)) _ range.0
    (and_from (nat_le (length values) (most_values a)) _ range.1 (action_ok (action_of a) again a (values_or_missing a values) rows parts.1))

-- ---- the walk

module _ (c : List Rule) (again : Bool) where
  settle_ok : (h : Held) → settle_fault c again h ≡ [] → settle_passes c again h ≡ true
  settle_ok h e = go h.pending e
    where
      found : (p : Text × List Text) (o : Option Rule) → option_map_or (λ a. use_fault again a p.1 h.rows) o [] ≡ [] → option_map_or (λ a. use_passes again a p.1 h.rows) o true ≡ true
      found p None e = refl
      found p (Some a) e = use_ok again a p.1 h.rows e

      go : (o : Option (Text × List Text)) → option_map_or (λ p. option_map_or (λ a. use_fault again a p.1 h.rows) (arg_by_id c p.0) []) o [] ≡ []
          → option_map_or (λ p. option_map_or (λ a. use_passes again a p.1 h.rows) (arg_by_id c p.0) true) o true ≡ true
      go None e = refl
      go (Some p) e = found p (arg_by_id c p.0) e

  react_ok : (a : Rule) (values : List Text) (h : Held) → react_fault c again a values h ≡ [] → react_passes c again a values h ≡ true
  react_ok a values h = pair_ok (settle_fault c again h) (use_fault again a values (settled c h).rows) (settle_passes c again h) (use_passes again a values (settled c h).rows)
      (settle_ok h) (use_ok again a values (settled c h).rows)

  option_ok : (a : Rule) (v : Option Text) (h : Held) → option_fault c again a v h ≡ [] → option_passes c again a v h ≡ true
  option_ok a (Some v) h e = react_ok a (v ∷ []) h e
  option_ok a None h e = settle_ok h e

  long_ok : (o : Option Rule) (v : Option Text) (h : Held) → long_fault c again o v h ≡ [] → long_passes c again o v h ≡ true
  long_ok None v h e = cc
  long_ok (Some a) v h e = cond_ok (takes_values a) _ _ (option_fault c again a v h) _ (option_ok a v h)
      (refuse_ok (is_some v) (react_passes c again a [] h) _ (react_fault c again a [] h) (react_ok a [] h)) e

  short_ok : (o : Option Rule) (rest : Text) (h : Held) (fault : Held → Kinds) (passes : Held → Bool) → ((k : Held) → fault k ≡ [] → passes k ≡ true)
      → short_fault c again o rest h fault ≡ [] → short_passes c again o rest h passes ≡ true
  short_ok None rest h fault passes more e = cc
  short_ok (Some a) rest h fault passes more e = cond_ok (takes_values a) _ _ (option_fault c again a (attached_value rest) h) _ (option_ok a (attached_value rest) h)
      (pair_ok (react_fault c again a [] h) (fault (reacted c a [] h)) (react_passes c again a [] h) (passes (reacted c a [] h)) (react_ok a [] h) (more (reacted c a [] h))) e

  bundle_step_ok : (o : Option ℕ) (flags : Text) (skip : ℕ) (h : Held) (fault : Text → ℕ → Held → Kinds) (passes : Text → ℕ → Held → Bool)
      → ((t : Text) (n : ℕ) (k : Held) → fault t n k ≡ [] → passes t n k ≡ true)
      → bundle_step_fault c again o flags skip h fault ≡ [] → bundle_step_passes c again o flags skip h passes ≡ true
  bundle_step_ok None flags skip h fault passes more e = refl
  bundle_step_ok (Some x) flags zero h fault passes more e =
      let rest = drop (length (encode_utf8 x)) flags in
      short_ok (arg_by_short c x) rest h (fault rest 0) (passes rest 0) (more rest 0) e
  bundle_step_ok (Some x) flags (suc skip) h fault passes more e = more (drop (length (encode_utf8 x)) flags) skip h e

  flags_ok : (k : ℕ) (flags : Text) (skip : ℕ) (h : Held) → flags_fault c again k flags skip h ≡ [] → flags_pass c again k flags skip h ≡ true
  unfolding flags_fault flags_pass
  flags_ok zero flags skip h e = refl
  flags_ok (suc k) flags skip h e = bundle_step_ok (slice_get (chars flags) 0) flags skip h (flags_fault c again k) (flags_pass c again k) (flags_ok k) e

  bundle_ok : (o : Option Text) (h : Held) → option_map_or (λ flags. bundle_fault c again flags h) o [] ≡ [] → option_map_or (λ flags. bundle_passes c again flags h) o true ≡ true
  bundle_ok None h e = refl
  bundle_ok (Some flags) h e = flags_ok (length flags) flags h.skip (record h { skip = 0 }) e

  flag_word_ok : (o : Option (Text × Option Text)) (word : Text) (h : Held) → flag_word_fault c again o word h ≡ [] → flag_word_passes c again o word h ≡ true
  flag_word_ok (Some p) word h e = long_ok (arg_by_long c p.0) p.1 h e
  flag_word_ok None word h e = bundle_ok (short_of word) h e

  positional_ok : (a : Rule) (h : Held) → positional_fault c again a h ≡ [] → positional_passes c again a h ≡ true
  positional_ok a h e = or_ok (is_pending a h.pending && takes_several a) (settle_passes c again h) (settle_fault c again h) (settle_ok h) e

help_ok : (b off : Bool) (j k : ErrorKind) → cond (b && not off) (j ∷ k ∷ []) [] ≡ [] → (not b || off) ≡ true
help_ok true true j k e = refl
help_ok true false j k e = cc
help_ok false off j k e = refl

stray_some : (b : Bool) (i j k : ErrorKind) → cond b (i ∷ []) (j ∷ k ∷ []) ≡ [] → ⊥
stray_some true i j k e = cc
stray_some false i j k e = cc

module _ (s : Shape) where
  other_ok : (o : Option Text) (word : Text) (h : Held) → other_fault s o word h ≡ [] → other_passes s o word h ≡ true
  other_ok (Some name) word h e = help_ok (bytes_eq name (codes "help")) s.disable_help_subcommand _ _ e
  other_ok None word h e = or_ok (bytes_eq word (45 ∷ 45 ∷ [])) (flag_word_passes s.rules s.args_override_self (long_of word) word h)
      (flag_word_fault s.rules s.args_override_self (long_of word) word h) (flag_word_ok s.rules s.args_override_self (long_of word) word h) e

  word_ok : (names : Names) (is_trailing : Bool) (waiting : Waiting) (word : Text) (h : Held) → word_fault s names is_trailing waiting word h ≡ [] → word_passes s names is_trailing waiting word h ≡ true
  word_ok names is_trailing waiting word h e = or_ok is_trailing (other_passes s (subcommand_met names waiting word) word h) (other_fault s (subcommand_met names waiting word) word h)
      (other_ok (subcommand_met names waiting word) word h) e

  step_ok : (position : ℕ) (h : Held) (t : Step) → step_fault s position h t ≡ [] → step_passes s position h t ≡ true
  step_ok position h value e = go (arg_by_index s.rules position) e
    where
      go : (o : Option Rule) → option_map_or (λ a. positional_fault s.rules s.args_override_self a h) o (stray_fault s) ≡ []
          → option_map_or (λ a. positional_passes s.rules s.args_override_self a h) o false ≡ true
      go None e = absurd (stray_some s.is_leaf _ _ _ e)
      go (Some a) e = positional_ok s.rules s.args_override_self a h e
  step_ok position h (next w) e = refl
  step_ok position h (trailing n) e = refl
  step_ok position h (subcommand name) e = refl

  turn_ok : (names : Names) (w : Walk) (word : Text) → turn_fault s names w word ≡ [] → turn_passes s names w word ≡ true
  turn_ok names w word e =
      let met = word_met s.rules names w.is_trailing w.waiting w.position word w.held in
      or_ok (is_some w.stopped) _ _
      (pair_ok (word_fault s names w.is_trailing w.waiting word w.held) (step_fault s w.position met.0 met.1) (word_passes s names w.is_trailing w.waiting word w.held) (step_passes s w.position met.0 met.1)
      (word_ok names w.is_trailing w.waiting word w.held) (step_ok w.position met.0 met.1)) e

  walk_ok : (names : Names) (words : List Text) (w : Walk) → walk_fault s names w words ≡ [] → walk_passes s names w words ≡ true
  unfolding walk_fault walk_passes
  walk_ok names [] w e = refl
  walk_ok names (x ∷ xs) w e = pair_ok (turn_fault s names w x) (walk_fault s names (walked s.rules names w x) xs) (turn_passes s names w x) (walk_passes s names (walked s.rules names w x) xs)
      (turn_ok names w x) (walk_ok names xs (walked s.rules names w x)) e

-- ---- after the walk

checks : (a b c : Bool) (i j k : ErrorKind) → cond a (i ∷ []) (cond b (j ∷ []) (cond c (k ∷ []) [])) ≡ [] → (a ≡ false) × (b ≡ false) × (c ≡ false)
checks true b c i j k e = cc
checks false true c i j k e = cc
checks false false true i j k e = cc
checks false false false i j k e = (refl, refl, refl)

no_help : (has wants used : Bool) → (not has && (wants && not used)) ≡ false → (not wants || (has || used)) ≡ true
no_help true true used e = refl
no_help true false used e = refl
no_help false false used e = refl
no_help false true true e = refl
no_help false true false e = absurd (true≢false e)

no_want : (has wants : Bool) → (not has && wants) ≡ false → (not wants || has) ≡ true
no_want true true e = refl
no_want true false e = refl
no_want false false e = refl
no_want false true e = absurd (true≢false e)

no_lack : (lifted some all : Bool) → (some ≡ false → all ≡ true) → (not lifted && some) ≡ false → (lifted || all) ≡ true
no_lack true some all f e = refl
no_lack false some all f e = f e

given_step : (r g some all : Bool) → (some ≡ false → all ≡ true) → ((r && not g) || some) ≡ false → ((not r || g) && all) ≡ true
given_step true true some all f e = f e
given_step false true some all f e = f e
given_step false false some all f e = f e
given_step true false some all f e = absurd (true≢false e)

each_given : (rows : List Row) (rules : List Rule) → list_any (λ a. a.required && not (is_given a.id rows)) rules ≡ false → list_all (λ a. not a.required || is_given a.id rows) rules ≡ true
each_given rows [] e = refl
each_given rows (a ∷ others) e = given_step a.required (is_given a.id rows) _ _ (each_given rows others) e

valid_ok : (s : Shape) (rows : List Row) (has : Bool) → has_free_rules s ≡ true → check_fault s rows has ≡ [] → is_valid s rows has ≡ true
valid_ok s rows has free e =
    let used = list_any (λ (r : Row). explicit_source r.source) rows in
    let parts = checks (not has && (s.arg_required_else_help && not used)) (not has && s.subcommand_required)
    (not (s.subcommand_negates_reqs && has) && list_any (λ (a : Rule). a.required && not (is_given a.id rows)) s.rules) _ _ _ e in
    and_from (not s.arg_required_else_help || (has || used)) _ (no_help has s.arg_required_else_help used parts.0)
    (and_from (not s.subcommand_required || has) _ (no_want has s.subcommand_required parts.1)
    (and_from (has_free_rules s) _ free (no_lack (s.subcommand_negates_reqs && has) _ _ (each_given rows s.rules) parts.2)))

-- each default of the arguments passes
abbrev pub has_good_defaults : Shape → Bool
has_good_defaults s = list_all default_passes s.rules

level_ok : (s : Shape) (names : Names) (h : Held) (words : List Text) (has : Bool) (below : Kinds) → has_free_rules s ≡ true → has_good_defaults s ≡ true
    → level_fault s names h words has below ≡ [] → (below ≡ []) × (level_passes s names h words has ≡ true)
level_ok s names h words has below free good e =
    let end = (walk s.rules names h words).held in
    let first = none (walk_fault s names (walk_from h) words) _ e in
    let second = none below _ first.1 in
    let third = none (settle_fault s.rules s.args_override_self end) _ second.1 in
    let fourth = none (defaults_fault (settled s.rules end).rows s.rules) (check_fault s (finished s.rules end) has) third.1 in (
      second.0,
      and_from (walk_passes s names (walk_from h) words) _ (walk_ok s names words (walk_from h) first.0)
          (and_from (settle_passes s.rules s.args_override_self end) _ (settle_ok s.rules s.args_override_self end third.0)
          (and_from (has_good_defaults s) _ good (valid_ok s (finished s.rules end) has free fourth.1))),
    )

entered_ok : (a : App) (stop : Option (Text × List Text)) → list_all has_free_rules a.subs ≡ true → list_all has_good_defaults a.subs ≡ true → entered_fault a stop ≡ [] → entered_passes a stop ≡ true
entered_ok a None free good e = refl
entered_ok a (Some p) free good e = go a.subs free good e
  where
    go : (subs : List Shape) → list_all has_free_rules subs ≡ true → list_all has_good_defaults subs ≡ true
        → option_map_or (λ s. level_fault s [] nothing_held p.1 false []) (find (λ s. answers_to p.0 (label_of s)) subs) [] ≡ []
        → option_map_or (λ s. level_passes s [] nothing_held p.1 false) (find (λ s. answers_to p.0 (label_of s)) subs) true ≡ true
    go [] free good e = refl
    go (s ∷ ss) free good e =
        let frees = and_parts (has_free_rules s) (list_all has_free_rules ss) free in
        let goods = and_parts (has_good_defaults s) (list_all has_good_defaults ss) good in
        here (answers_to p.0 (label_of s)) (λ x. (level_ok s [] nothing_held p.1 false [] frees.0 goods.0 x).1) (go ss frees.1 goods.1) e
      where
        here : (b : Bool) → (level_fault s [] nothing_held p.1 false [] ≡ [] → level_passes s [] nothing_held p.1 false ≡ true)
            → (option_map_or (λ s. level_fault s [] nothing_held p.1 false []) (find (λ s. answers_to p.0 (label_of s)) ss) [] ≡ []
            → option_map_or (λ s. level_passes s [] nothing_held p.1 false) (find (λ s. answers_to p.0 (label_of s)) ss) true ≡ true)
            → option_map_or (λ s. level_fault s [] nothing_held p.1 false []) (cond b (Some s) (find (λ s. answers_to p.0 (label_of s)) ss)) [] ≡ []
            → option_map_or (λ s. level_passes s [] nothing_held p.1 false) (cond b (Some s) (find (λ s. answers_to p.0 (label_of s)) ss)) true ≡ true
        here true one others e = one e
        here false one others e = others e

abbrev pub has_only_good_defaults : App → Bool
has_only_good_defaults a = has_good_defaults a.top && list_all has_good_defaults a.subs

built_ok : (a : App) (h : Held) (words : List Text) → is_free_app a ≡ true → has_only_good_defaults a ≡ true → built_fault a h words ≡ [] → built_takes a h words ≡ true
built_ok a h words free good e =
    let stop = (walk a.top.rules (names_of a) h words).stopped in
    let frees = and_parts (has_free_rules a.top) (list_all has_free_rules a.subs) free in
    let goods = and_parts (has_good_defaults a.top) (list_all has_good_defaults a.subs) good in
    let level = level_ok a.top (names_of a) h words (is_some (entered a stop)) (entered_fault a stop) frees.0 goods.0 e in
    and_from (entered_passes a stop) _ (entered_ok a stop frees.1 goods.1 level.0) level.1

pub faultless_takes : (a : App) (words : List Text) → is_simple_and_free a ≡ true → has_only_good_defaults (built a) ≡ true → fault_of a words ≡ [] → takes a words ≡ true
faultless_takes a words simple good e =
    let parts = and_parts (is_simple a) (is_free_app (built a)) simple in
    and_from (is_simple a) _ parts.0 (built_ok (built a) nothing_held (argument_words a words) parts.1 good e)
