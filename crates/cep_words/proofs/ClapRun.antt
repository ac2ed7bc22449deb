-- clap's walk over the words, beside the rule.
use Rattle.std.proofs.Common.{◌≡◌, ◌∙◌, ℕ, Bool, true, false, cond, not, List, [], ◌∷◌, codes, Option, Some, None, is_some, option_map, refl, sym, ap, subst, ◌+◌}
use Rattle.std.proofs.Math.Bool.{and-false, or-false}
use Rattle.std.proofs.lemmas.Slice.Eq.{bytes_eq-Decides}
use Rattle.std.specs.Prelude.{◌&&◌, ◌||◌, nat_lt, option_and_then}
use Rattle.std.specs.Option.{option_map_or}
use Rattle.std.specs.Str.{IsUtf8, bytes_eq}
use Rattle.clap.specs.Kinds.{Kinds, or_else}
use Rattle.clap.specs.Lexer.{name_and_value}
use Rattle.clap.specs.Walk.{Text, Row, Rule, Held, Walk, Step, next, idle, option, value, after_flag, after_step, arg_by_id, arg_by_index, arg_by_long, finished, first_of, has_row, is_pending, long_met, option_word, pushed, settled, settled_rows, to_positional, used_by_id, walk, walk_from, nothing_held, walked, with_values, without, word_met}
use Rattle.clap.specs.Faults.{entered_fault, fault_of, level_fault, long_fault, step_fault, turn_fault, use_fault, walk_fault, word_fault}
use Rattle.clap.specs.Simple.{built, entered}
use Rattle.clap.specs.declared.error.kind.ErrorKind.TheVariants as kind
use Rattle.clap.specs.declared.builder.value_parser.Reading.{Reading}
use Rattle.clap.specs.declared.parser.matches.ValueSource.TheVariants.{CommandLine}
use Rattle.cep_words.specs.Reading.{Valued, Lag, Rows, Seed, Count}
use Rattle.cep_words.specs.Reading.{Said, name_in, value_in, nothing_said, with_first, with_header, with_named, with_option, with_position, with_value, with_valued}
use Rattle.cep_words.specs.Words.{command_in}
use Rattle.cep_words.specs.App.{cep_app}
use Rattle.cep_words.proofs.ClapApp.{header, position, rules, top, valued}
use Rattle.cep_words.proofs.ClapEnd.{after_fault, bool_reading, header_after, no_command, string, values_after, wanted_kinds}
use Rattle.cep_words.proofs.ClapLost.{AreTexts, lost_idle, lost_over, plain_turn, short_turn, short_value_turn}
use Rattle.cep_words.proofs.ClapRows.{Use, Shows, absent, added, has_row_used, lookup, marked, seen, shows_more}
use Rattle.cep_words.proofs.ClapRule.{id_of, said_from, said_with, with_any_word}
use Rattle.cep_words.proofs.ClapSteps.{at_walk, end_fault, fails, fails_first, faults, held, last, long_fails, plain_met, plain_value_fault, plain_value_met, settle, turn_fails, turn_goes_on}
use Rattle.cep_words.proofs.ClapWords.{IsOther, IsPlain, by_form, by_name}

-- the matches that a walk ends with are what the rule says
pub record Found (rows : List Row) (o : Option Said) : Type 0 where
  pub us : List Use
  pub over : Bool
  pub said : o ≡ Some (said_from us None over)
  pub mode : Text
  pub has_mode : lookup (codes "mode") us ≡ Some mode
  pub file : Text
  pub has_file : lookup (codes "file") us ≡ Some file
  pub values : (id : Text) → bytes_eq (codes "header") id ≡ false → seen id rows ≡ option_map marked (lookup id us)
  pub header : first_of (codes "header") rows ≡ Some (cond (is_some (lookup (codes "header") us)) (codes "true") (codes "false"))

-- both refuse, or both accept with the same values
pub data Judged (w : Walk) (words : List Text) (o : Option Said) : Type 0 where
  refuses : fails (faults w words) ≡ true → option_and_then command_in o ≡ None → Judged w words o
  accepts : faults w words ≡ [] → Found (finished rules (last w words).held) o → Judged w words o

-- what goes wrong at the word, and where the walk stands after it
abbrev Turn : Walk → Text → Kinds → Walk → Type 0
Turn w word fault later = (turn_fault top [] w word ≡ fault) × (walked rules [] w word ≡ later)

judged_on : {w later : Walk} {word : Text} {rest : List Text} {o : Option Said} → Turn w word [] later → Judged later rest o → Judged w (word ∷ rest) o
judged_on {w} {later} {word} {rest} turn (refuses fault none) = refuses (ap fails (turn_goes_on w later word rest turn.0 turn.1) ∙ fault) none
judged_on {w} {later} {word} {rest} {o} turn (accepts fine found) =
    accepts (turn_goes_on w later word rest turn.0 turn.1 ∙ fine) (subst (λ n. Found (finished rules (last n rest).held) o) (sym turn.1) found)

judged_no : {w : Walk} {word : Text} {rest : List Text} {o : Option Said}
    → fails (turn_fault top [] w word) ≡ true → option_and_then command_in o ≡ None → Judged w (word ∷ rest) o
judged_no {w} {word} {rest} fault none = refuses (turn_fails w word rest fault) none

-- ---- what is held between two words

-- the number of the next position
abbrev place_of : Option Text → Option Text → ℕ
place_of None file = 1
place_of (Some mode) None = 2
place_of (Some mode) (Some file) = 3

-- the header has its one value, no file comes before the mode, and the next position is the k-th
abbrev Kept : List Use → ℕ → Type 0
Kept us k = (lookup (codes "header") us ≡ cond (is_some (lookup (codes "header") us)) (Some (codes "true")) None)
    × (lookup (codes "mode") us ≡ None → lookup (codes "file") us ≡ None)
    × (place_of (lookup (codes "mode") us) (lookup (codes "file") us) ≡ k)

-- the rows show the uses, once what is pending is settled
record Holds (rows : List Row) (p : Option (Text × List Text)) (us : List Use) (k : ℕ) : Type 0 where
  settles : settle rows p ≡ []
  shows : Shows (settled_rows rules p rows) us
  kept : Kept us k

-- nothing waits for the next word
abbrev IdleRun : List Text → Type 0
IdleRun words = (rows : List Row) (p : Option (Text × List Text)) (us : List Use) (k : ℕ) (over : Bool) → Holds rows p us k
    → Judged (at_walk rows p idle k over) words (said_with words (said_from us None over))

-- an option waits for its value
abbrev waiting : Valued → List Row → ℕ → Bool → Walk
waiting o rows k over = at_walk rows (Some (id_of o, [])) (option (id_of o)) k over

abbrev WaitsRun : List Text → Type 0
WaitsRun words = (rows : List Row) (us : List Use) (k : ℕ) (o : Valued) → Holds rows None us k
    → Judged (waiting o rows k false) words (said_with words (said_from us (Some o) false))

-- ---- one more use of an argument

-- clap's fault, where the argument may have been used
abbrev conflict : Bool → Kinds
conflict b = or_else (cond (b && true) (kind.ArgumentConflict ∷ []) []) []

-- the rows after the use
abbrev with_row : Text → Text → Reading → List Row → List Row
with_row id v how rows = with_values id how CommandLine (v ∷ []) (without id rows)

-- the rule after the use, where it has this value so far
abbrev with_use : Option Text → Text → Text → List Use → Option Said
with_use before id v us = cond (is_some before) None (Some (said_from ((id, v) ∷ us) None false))

shows_use : (id v : Text) (how : Reading) (rows : List Row) (us : List Use) → Shows rows us → lookup id us ≡ None
    → Shows (with_row id v how rows) ((id, v) ∷ us)
shows_use id v how rows us shows unused =
    subst (λ r. Shows r ((id, v) ∷ us)) (sym (added id v how CommandLine rows (absent id rows us shows unused))) (shows_more id v how rows us shows unused)

-- the use is pending
holds_use : (id v : Text) (rows : List Row) (us : List Use) (k : ℕ)
    → settle rows (Some (id, v ∷ [])) ≡ conflict (has_row id rows) → settled_rows rules (Some (id, v ∷ [])) rows ≡ with_row id v string rows
    → Shows rows us → lookup id us ≡ None → Kept ((id, v) ∷ us) k → Holds rows (Some (id, v ∷ [])) ((id, v) ∷ us) k
holds_use id v rows us k settles row shows unused kept = record {
  settles = settles ∙ ap conflict (absent id rows us shows unused);
  shows = subst (λ r. Shows r ((id, v) ∷ us)) (sym row) (shows_use id v string rows us shows unused);
  kept = kept;
}

-- what the walk and the rule know of an option that has a value
record Known (o : Valued) : Type 0 where
  by_id : arg_by_id rules (id_of o) ≡ Some (valued (id_of o))
  once : (v : Text) (us : List Use) → with_value o v (said_from us None false) ≡ with_use (lookup (id_of o) us) (id_of o) v us
  kept : (v : Text) (us : List Use) (k : ℕ) → Kept us k → Kept ((id_of o, v) ∷ us) k

known : (o : Valued) → Known o
known Lag = record { by_id = refl; once = λ v us. refl; kept = λ v us k kept. kept }
known Rows = record { by_id = refl; once = λ v us. refl; kept = λ v us k kept. kept }
known Seed = record { by_id = refl; once = λ v us. refl; kept = λ v us k kept. kept }
known Count = record { by_id = refl; once = λ v us. refl; kept = λ v us k kept. kept }

option_settles : (o : Valued) (values : List Text) (rows : List Row) → settle rows (Some (id_of o, values)) ≡ use_fault false (valued (id_of o)) values rows
option_settles o values rows = ap (λ a. option_map_or (λ a. use_fault false a values rows) a []) (known o).by_id

empty_fails : (o : Valued) (rows : List Row) → fails (settle rows (Some (id_of o, []))) ≡ true
empty_fails o rows = ap fails (option_settles o [] rows)

-- a name that is no option's, to both
no_argument : (n : Text) → IsOther n → arg_by_long rules n ≡ None
no_argument n other = rw (other.lag.1, other.rows.1, other.header.1, other.seed.1, other.count.1)

no_option : (n : Text) (v : Option Text) (said : Said) → IsOther n → with_named n v said ≡ None
no_option n v said other = rw (other.header.0, other.lag.0, other.rows.0, other.seed.0, other.count.0)

-- ---- one more word, where both runs are known of the rest

module _ (rest : List Text) (texts : AreTexts rest) (idles : IdleRun rest) (waits : WaitsRun rest) where
  -- the rule has come to this before the rest
  abbrev Agree : Walk → List Text → Option Said → Type 0
  Agree w words said = Judged w words (option_and_then (said_with rest) said)

  agree_as : {w : Walk} {words : List Text} {a b : Option Said} → a ≡ b → Agree w words b → Agree w words a
  agree_as {w} {words} e = subst (Agree w words) (sym e)

  nothing_is : {a : Option Said} → a ≡ None → option_and_then command_in (option_and_then (said_with rest) a) ≡ None
  nothing_is e = ap (λ o. option_and_then command_in (option_and_then (said_with rest) o)) e

  -- the word is the value that the option waits for
  value_step : (o : Valued) (word : Text) (rows : List Row) (us : List Use) (k : ℕ) → Holds rows None us k → IsPlain word
      → Agree (waiting o rows k false) (word ∷ rest) (with_value o word (said_from us None false))
  unfolding walked
  value_step o word rows us k holds plain = judged_on turn (agree_as ((known o).once word us) (go (lookup (id_of o) us) refl))
    where
      before : Held
      before = held rows (Some (id_of o, []))

      later : Walk
      later = at_walk rows (Some (id_of o, word ∷ [])) idle k false

      taken : word_met rules [] false (option (id_of o)) k word before ≡ (later.held, next idle)
      taken = plain_value_met (id_of o) k word before plain
          ∙ ap (λ a. ((option_word a (id_of o) word before).0, next (option_word a (id_of o) word before).1)) (known o).by_id
          ∙ ap (λ b. (later.held, next (cond (nat_lt (cond b 1 0) 1) (option (id_of o)) idle))) ((bytes_eq-Decides (id_of o) (id_of o)).1 refl)

      turn : Turn (waiting o rows k false) word [] later
      turn = (
        (λ i. or_else (plain_value_fault (id_of o) word before plain i) (step_fault top k (taken i).0 (taken i).1)),
        ap (λ (m : Held × Step). after_step rules word (waiting o rows k false) m.0 m.1) taken,
      )

      settles : settle rows (Some (id_of o, word ∷ [])) ≡ conflict (has_row (id_of o) rows)
      settles = option_settles o (word ∷ []) rows

      go : (l : Option Text) → lookup (id_of o) us ≡ l → Agree later rest (with_use l (id_of o) word us)
      go None unused =
          idles _ _ ((id_of o, word) ∷ us) _ _ (holds_use (id_of o) word rows us k settles (ap (λ a. used_by_id a (word ∷ []) rows) (known o).by_id)
          holds.shows unused ((known o).kept word us k holds.kept))
      go (Some x) again = refuses (lost_idle rest texts rows (Some (id_of o, word ∷ [])) k
          (ap fails settles ∙ ap (λ b. fails (conflict b)) (has_row_used (id_of o) rows us holds.shows ∙ ap is_some again))) refl

  module _ (word : Text) (rows : List Row) (p : Option (Text × List Text)) (us : List Use) (k : ℕ) (holds : Holds rows p us k) where
    abbrev at : ℕ → Bool → Walk
    at j over = at_walk rows p idle j over

    -- the rows once what is pending is settled
    abbrev now : List Row
    now = settled_rows rules p rows

    -- an argument that is used in one word
    used_at_once : (id v : Text) (how : Reading) → Kept ((id, v) ∷ us) k
        → Turn (at k false) word (or_else (or_else (settle rows p) (conflict (has_row id now))) []) (at_walk (with_row id v how now) None idle k false)
        → Agree (at k false) (word ∷ rest) (with_use (lookup id us) id v us)
    used_at_once id v how kept turn = go (lookup id us) refl
      where
        fault : turn_fault top [] (at k false) word ≡ or_else (conflict (is_some (lookup id us))) []
        fault = turn.0 ∙ (λ i. or_else (or_else (holds.settles i) (conflict (has_row_used id now us holds.shows i))) [])

        go : (l : Option Text) → lookup id us ≡ l → Agree (at k false) (word ∷ rest) (with_use l id v us)
        go None unused = judged_on (fault ∙ ap (λ l. or_else (conflict (is_some l)) []) unused, turn.1)
            (idles _ _ ((id, v) ∷ us) _ _ (record { settles = refl; shows = shows_use id v how now us holds.shows unused; kept = kept }))
        go (Some x) again = judged_no (ap fails fault ∙ ap (λ l. fails (or_else (conflict (is_some l)) [])) again) refl

    -- what clap does at an option with two dashes, by the argument of its name
    abbrev long_step : Option Rule → Option Text → Held × Step
    long_step found v = after_flag rules idle word (long_met rules found v (held rows p)).0 (long_met rules found v (held rows p)).1

    abbrev long_kinds : Option Rule → Option Text → Kinds
    long_kinds found v = or_else (long_fault rules false found v (held rows p)) (step_fault top k (long_step found v).0 (long_step found v).1)

    -- what is to be shown of it, where the rule reads its value so
    abbrev Long : Option Rule → (Option Text → Option Said) → Type 0
    Long found read = (v : Option Text)
        → Turn (at k false) word (long_kinds found v) (after_step rules word (at k false) (long_step found v).0 (long_step found v).1)
        → Agree (at k false) (word ∷ rest) (read v)

    option_long : (o : Valued) → Long (Some (valued (id_of o))) (λ v. with_valued (Some o) v (said_from us None false))
    option_long o None turn =
        judged_on (turn.0 ∙ ap (λ s. or_else s []) holds.settles, turn.1) (waits now us k o (record { settles = refl; shows = holds.shows; kept = holds.kept }))
    option_long o (Some v) turn = agree_as ((known o).once v us) (used_at_once (id_of o) v string ((known o).kept v us k holds.kept) turn)

    header_long : Long (Some header) (λ v. with_header v (said_from us None false))
    header_long None turn = used_at_once (codes "header") (codes "true") bool_reading (refl, holds.kept.1, holds.kept.2) turn
    header_long (Some v) turn = judged_no (ap fails turn.0) refl

    other_long : (n : Text) → IsOther n → Long (arg_by_long rules n) (λ v. with_named n v (said_from us None false))
    other_long n other v turn =
        judged_no (ap fails turn.0 ∙ ap (λ found. fails (long_kinds found v)) (no_argument n other))
        (nothing_is (no_option n v (said_from us None false) other))

    any_long : (n : Text) → Long (arg_by_long rules n) (λ v. with_named n v (said_from us None false))
    any_long = by_name (λ n. Long (arg_by_long rules n) (λ v. with_named n v (said_from us None false)))
        (option_long Lag) (option_long Rows) header_long (option_long Seed) (option_long Count) other_long

    module _ (over : Bool) where
      abbrev to_position : ℕ → Text → Bool → Bool → Walk
      to_position j id again trailing =
          record (at (j + 1) trailing) { held = pushed id word (cond again (held rows p) (settled rules (held rows p))) }

      -- the word is the j-th position, and its argument is pending then
      position_used : (id : Text) (j : ℕ) → Holds now (Some (id, word ∷ [])) ((id, word) ∷ us) (j + 1)
          → with_position word (said_from us None over) ≡ Some (said_from ((id, word) ∷ us) None over)
          → Turn (at j over) word (cond (is_pending (position j id) p && false) [] (settle rows p))
          (to_position j id (is_pending (position j id) p && false) (over || false))
          → Agree (at j over) (word ∷ rest) (with_position word (said_from us None over))
      position_used id j after said turn = agree_as said (judged_on (
        turn.0 ∙ (λ i. cond (and-false (is_pending (position j id) p) i) [] (holds.settles i)),
        turn.1 ∙ (λ i. to_position j id (and-false (is_pending (position j id) p) i) (or-false over i)),
      ) (idles _ _ ((id, word) ∷ us) _ _ after))

      -- the rule at a position, by the mode and the file so far
      abbrev in_place : Option Text → Option Text → Option Said
      in_place mode file = cond (not (is_some mode)) (Some (said_from ((codes "mode", word) ∷ us) None over))
          (cond (not (is_some file)) (Some (said_from ((codes "file", word) ∷ us) None over)) None)

      -- what is to be shown of a word that is a position
      abbrev At : ℕ → Type 0
      At j = Turn (at j over) word (step_fault top j (held rows p) value) (to_positional rules (arg_by_index rules j) word (at j over) (held rows p))
          → Agree (at j over) (word ∷ rest) (with_position word (said_from us None over))

      positions : At k
      positions = subst At holds.kept.2 (go (lookup (codes "mode") us) (lookup (codes "file") us) refl refl)
        where
          go : (m f : Option Text) → lookup (codes "mode") us ≡ m → lookup (codes "file") us ≡ f → At (place_of m f)
          go None None no_mode no_file turn =
              let kept : Kept ((codes "mode", word) ∷ us) 2 = (holds.kept.0, (λ e. cc), ap (place_of (Some word)) no_file) in
              position_used (codes "mode") 1 (holds_use (codes "mode") word now us 2 refl refl holds.shows no_mode kept) (λ i. in_place (no_mode i) (no_file i)) turn
          go (Some m) None has_mode no_file turn =
              let kept : Kept ((codes "file", word) ∷ us) 3 = (holds.kept.0, (λ e. cc), ap (λ l. place_of l (Some word)) has_mode) in
              position_used (codes "file") 2 (holds_use (codes "file") word now us 3 refl refl holds.shows no_file kept) (λ i. in_place (has_mode i) (no_file i)) turn
          go (Some m) (Some f) has_mode has_file turn = judged_no (ap fails turn.0) (nothing_is (λ i. in_place (has_mode i) (has_file i)))
          go None (Some f) no_mode has_file turn = let bad : None ≡ Some f = sym (holds.kept.1 no_mode) ∙ has_file in cc

  idle_step : (word : Text) → IsUtf8 word → IdleRun (word ∷ rest)
  unfolding walked
  idle_step word valid rows p us k true holds = positions word rows p us k holds true (refl, refl)
  idle_step word valid rows p us k false holds =
      by_form (λ word. IsUtf8 word → Agree (at_walk rows p idle k false) (word ∷ rest) (with_first word (said_from us None false)))
      (λ valid. judged_on (refl, refl) (idles rows p us k true holds))
      (λ x xs valid. any_long (45 ∷ 45 ∷ x ∷ xs) rows p us k holds (name_in (x ∷ xs)) (value_in (x ∷ xs)) (refl, refl))
      (λ c xs apart valid. judged_no (short_turn c xs rows p k apart valid)
      (nothing_is (ap (λ t. cond (t && bytes_eq xs []) (Some (said_from us None true)) (with_option (cond t (Some xs) None) (said_from us None false))) apart)))
      (λ word plain valid. agree_as (plain_first word (said_from us None false) plain) (positions word rows p us k holds false (
        plain_turn rows p k word plain,
        ap (λ (m : Held × Step). after_step rules word (at_walk rows p idle k false) m.0 m.1) (plain_met k word (held rows p) plain),
      )))
      word valid
    where
      plain_first : (word : Text) (said : Said) → IsPlain word → with_first word said ≡ with_position word said
      plain_first word said plain = rw (plain.dashes, plain.option)

  waits_step : (word : Text) → IsUtf8 word → WaitsRun (word ∷ rest)
  unfolding walked
  waits_step word valid rows us k o holds =
      by_form (λ word. IsUtf8 word → Agree (waiting o rows k false) (word ∷ rest) (with_any_word word (said_from us (Some o) false)))
      (λ valid. judged_on {later = waiting o rows k true} (refl, refl)
      (refuses (lost_over rest rows (Some (id_of o, [])) (option (id_of o)) k (empty_fails o rows)) refl))
      (λ x xs valid. judged_no (fails_first (word_fault top [] false (option (id_of o)) (45 ∷ 45 ∷ x ∷ xs) (held rows (Some (id_of o, [])))) _
      (long_fails (arg_by_long rules (name_and_value (x ∷ xs)).0) (name_and_value (x ∷ xs)).1 rows (Some (id_of o, [])) (empty_fails o rows))) refl)
      (λ c xs apart valid. judged_no (short_value_turn (id_of o) c xs rows (Some (id_of o, [])) k apart valid) refl)
      (λ word plain valid. agree_as (ap (λ b. cond b None (with_value o word (said_from us None false))) plain.option)
      (value_step o word rows us k holds plain))
      word valid

-- ---- all words

idle_end : IdleRun []
unfolding walk_fault
idle_end rows p us k over holds = go (lookup (codes "mode") us) (lookup (codes "file") us) refl refl
  where
    ends : end_fault (at_walk rows p idle k over) ≡ wanted_kinds (lookup (codes "mode") us) (lookup (codes "file") us)
    ends = (λ i. or_else (holds.settles i) (after_fault (settled_rows rules p rows) us holds.shows i))

    go : (m f : Option Text) → lookup (codes "mode") us ≡ m → lookup (codes "file") us ≡ f → Judged (at_walk rows p idle k over) [] (Some (said_from us None over))
    go None f no_mode e = refuses (ap fails (ends ∙ ap (λ l. wanted_kinds l (lookup (codes "file") us)) no_mode)) (no_command us over (holds.kept.1 no_mode))
    go (Some m) None has_mode no_file = refuses (ap fails (ends ∙ (λ i. wanted_kinds (has_mode i) (no_file i)))) (no_command us over no_file)
    go (Some m) (Some f) has_mode has_file = accepts (ends ∙ (λ i. wanted_kinds (has_mode i) (has_file i))) (record {
      us = us;
      over = over;
      said = refl;
      mode = m;
      has_mode = has_mode;
      file = f;
      has_file = has_file;
      values = values_after (settled_rows rules p rows) us holds.shows;
      header = header_after (settled_rows rules p rows) us holds.shows holds.kept.0;
    })

waits_end : WaitsRun []
unfolding walk_fault
waits_end rows us k o holds = refuses (fails_first (settle rows (Some (id_of o, []))) _ (empty_fails o rows)) refl

runs : (words : List Text) → AreTexts words → IdleRun words × WaitsRun words
runs [] texts = (idle_end, waits_end)
runs (word ∷ rest) texts =
    let more = runs rest texts.1 in
    (idle_step rest texts.1 more.0 more.1 word texts.0, waits_step rest texts.1 more.0 more.1 word texts.0)

-- clap and the rule, of all words
pub judged : (words : List Text) → AreTexts words → Judged (walk_from nothing_held) words (said_with words nothing_said)
judged words texts = (runs words texts).0 [] None [] 1 false (record { settles = refl; shows = λ id. refl; kept = (refl, (λ e. refl), refl) })

-- the kinds of clap's fault are those of the walk, since no subcommand is met
pub fault_is : (words : List Text) → fault_of cep_app words ≡ faults (walk_from nothing_held) words
fault_is words = go (walk rules [] nothing_held words).stopped
  where
    go : (stop : Option (Text × List Text))
        → level_fault top [] nothing_held words (is_some (entered (built cep_app) stop)) (entered_fault (built cep_app) stop)
        ≡ faults (walk_from nothing_held) words
    go None = refl
    go (Some p) = refl
