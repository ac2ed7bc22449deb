-- A dash alone as a value comes to nothing, whether it is refused at once or as a number.
use Rattle.std.proofs.Common.{◌≡◌, ◌∙◌, ℕ, Bool, true, false, cond, not, List, [], ◌∷◌, codes, Option, Some, None, is_some, option_map, refl, sym, ap, subst, eqb-true}
use Rattle.std.specs.Prelude.{◌==◌, option_and_then, ⊤}
use Rattle.std.specs.Str.{bytes_eq}
use Rattle.cep_words.specs.declared.options.Mode.{Mode}
use Rattle.cep_words.specs.declared.options.Options.{Options}
use Rattle.cep_words.specs.Reading.{Valued, Lag, Rows, Seed, Count}
use Rattle.cep_words.specs.Reading.{Text, Said, begins_with_dash, is_option, name_in, option_named, said_by, value_in, with_first, with_header, with_named, with_next, with_option, with_position, with_value, with_valued, without_dashes}
use Rattle.cep_words.specs.Words.{command_in, count_of, lag_of, mode_named, options_in, options_with, rows_of, seed_of}
use Rattle.cep_words.proofs.ClapRule.{said_with, with_any_word, with_next_word}

abbrev value_of : Valued → Said → Option Text
value_of Lag said = said.lag
value_of Rows said = said.rows
value_of Seed said = said.seed
value_of Count said = said.count

-- the option keeps its text, if the word is accepted
abbrev Stays : Valued → Text → Option Said → Type 0
Stays o text None = ⊤
Stays o text (Some said) = value_of o said ≡ Some text

branch : (o : Valued) (text : Text) (b : Bool) (x y : Option Said) → Stays o text x → Stays o text y → Stays o text (cond b x y)
branch o text true x y a b = a
branch o text false x y a b = b

value_stays : (option o : Valued) (word text : Text) (said : Said) → value_of o said ≡ Some text → Stays o text (with_value option word said)
value_stays Lag Lag word text said e = subst (λ l. Stays Lag text (cond (is_some l) None (Some (record said { lag = Some word })))) (sym e) tt
value_stays Lag Rows word text said e = branch Rows text (is_some said.lag) None (Some (record said { lag = Some word })) tt e
value_stays Lag Seed word text said e = branch Seed text (is_some said.lag) None (Some (record said { lag = Some word })) tt e
value_stays Lag Count word text said e = branch Count text (is_some said.lag) None (Some (record said { lag = Some word })) tt e
value_stays Rows Lag word text said e = branch Lag text (is_some said.rows) None (Some (record said { rows = Some word })) tt e
value_stays Rows Rows word text said e = subst (λ l. Stays Rows text (cond (is_some l) None (Some (record said { rows = Some word })))) (sym e) tt
value_stays Rows Seed word text said e = branch Seed text (is_some said.rows) None (Some (record said { rows = Some word })) tt e
value_stays Rows Count word text said e = branch Count text (is_some said.rows) None (Some (record said { rows = Some word })) tt e
value_stays Seed Lag word text said e = branch Lag text (is_some said.seed) None (Some (record said { seed = Some word })) tt e
value_stays Seed Rows word text said e = branch Rows text (is_some said.seed) None (Some (record said { seed = Some word })) tt e
value_stays Seed Seed word text said e = subst (λ l. Stays Seed text (cond (is_some l) None (Some (record said { seed = Some word })))) (sym e) tt
value_stays Seed Count word text said e = branch Count text (is_some said.seed) None (Some (record said { seed = Some word })) tt e
value_stays Count Lag word text said e = branch Lag text (is_some said.count) None (Some (record said { count = Some word })) tt e
value_stays Count Rows word text said e = branch Rows text (is_some said.count) None (Some (record said { count = Some word })) tt e
value_stays Count Seed word text said e = branch Seed text (is_some said.count) None (Some (record said { count = Some word })) tt e
value_stays Count Count word text said e = subst (λ l. Stays Count text (cond (is_some l) None (Some (record said { count = Some word })))) (sym e) tt

-- what changes no value
other_mode : (o : Valued) (m : Option Text) (text : Text) (said : Said) → value_of o said ≡ Some text → value_of o (record said { mode = m }) ≡ Some text
other_mode Lag m text said e = e
other_mode Rows m text said e = e
other_mode Seed m text said e = e
other_mode Count m text said e = e

other_file : (o : Valued) (m : Option Text) (text : Text) (said : Said) → value_of o said ≡ Some text → value_of o (record said { file = m }) ≡ Some text
other_file Lag m text said e = e
other_file Rows m text said e = e
other_file Seed m text said e = e
other_file Count m text said e = e

other_header : (o : Valued) (m : Bool) (text : Text) (said : Said) → value_of o said ≡ Some text → value_of o (record said { header = m }) ≡ Some text
other_header Lag m text said e = e
other_header Rows m text said e = e
other_header Seed m text said e = e
other_header Count m text said e = e

other_waiting : (o : Valued) (m : Option Valued) (text : Text) (said : Said) → value_of o said ≡ Some text
    → value_of o (record said { waiting = m }) ≡ Some text
other_waiting Lag m text said e = e
other_waiting Rows m text said e = e
other_waiting Seed m text said e = e
other_waiting Count m text said e = e

other_over : (o : Valued) (m : Bool) (text : Text) (said : Said) → value_of o said ≡ Some text → value_of o (record said { is_over = m }) ≡ Some text
other_over Lag m text said e = e
other_over Rows m text said e = e
other_over Seed m text said e = e
other_over Count m text said e = e

position_stays : (o : Valued) (word text : Text) (said : Said) → value_of o said ≡ Some text → Stays o text (with_position word said)
position_stays o word text said e =
    branch o text (not (is_some said.mode)) (Some (record said { mode = Some word }))
    (cond (not (is_some said.file)) (Some (record said { file = Some word })) None)
    (other_mode o (Some word) text said e) (branch o text (not (is_some said.file)) (Some (record said { file = Some word })) None
    (other_file o (Some word) text said e) tt)

header_stays : (o : Valued) (v : Option Text) (text : Text) (said : Said) → value_of o said ≡ Some text → Stays o text (with_header v said)
header_stays o (Some v) text said e = tt
header_stays o None text said e = branch o text said.header None (Some (record said { header = true })) tt (other_header o true text said e)

valued_stays : (o : Valued) (option : Option Valued) (v : Option Text) (text : Text) (said : Said) → value_of o said ≡ Some text
    → Stays o text (with_valued option v said)
valued_stays o None v text said e = tt
valued_stays o (Some option) None text said e = other_waiting o (Some option) text said e
valued_stays o (Some option) (Some v) text said e = value_stays option o v text said e

named_stays : (o : Valued) (name : Text) (v : Option Text) (text : Text) (said : Said) → value_of o said ≡ Some text → Stays o text (with_named name v said)
named_stays o name v text said e =
    branch o text (bytes_eq name (codes "header")) (with_header v said) (with_valued (option_named name) v said) (header_stays o v text said e) (valued_stays o (option_named name) v text said e)

option_stays : (o : Valued) (v : Option Text) (text : Text) (said : Said) → value_of o said ≡ Some text → Stays o text (with_option v said)
option_stays o None text said e = tt
option_stays o (Some v) text said e = named_stays o (name_in v) (value_in v) text said e

first_stays : (o : Valued) (word text : Text) (said : Said) → value_of o said ≡ Some text → Stays o text (with_first word said)
first_stays o word text said e =
    branch o text (bytes_eq word (codes "--")) (Some (record said { is_over = true })) (cond (is_option word) (with_option (without_dashes word) said) (with_position word said))
    (other_over o true text said e)
    (branch o text (is_option word) (with_option (without_dashes word) said) (with_position word said)
    (option_stays o (without_dashes word) text said e) (position_stays o word text said e))

next_stays : (o : Valued) (waiting : Option Valued) (word text : Text) (said : Said) → value_of o said ≡ Some text
    → Stays o text (with_next_word waiting word said)
next_stays o None word text said e = first_stays o word text said e
next_stays o (Some option) word text said e =
    branch o text (is_option word) None (with_value option word (record said { waiting = None })) tt
    (value_stays option o word text (record said { waiting = None }) (other_waiting o None text said e))

word_stays : (o : Valued) (word text : Text) (said : Said) → value_of o said ≡ Some text → Stays o text (with_any_word word said)
word_stays o word text said e =
    branch o text said.is_over (with_position word said) (with_next_word said.waiting word said) (position_stays o word text said e)
    (next_stays o said.waiting word text said e)

-- ---- a dash is no number

abbrev dash : Text
dash = 45 ∷ []

no_lag : (m : Option Mode) (r : Option ℕ) (h : Bool) (s c : Option ℕ) → options_with m None r h s c ≡ None
no_lag None r h s c = refl
no_lag (Some m) r h s c = refl

no_rows : (m : Option Mode) (l : Option (Option ℕ)) (h : Bool) (s c : Option ℕ) → options_with m l None h s c ≡ None
no_rows None l h s c = refl
no_rows (Some m) None h s c = refl
no_rows (Some m) (Some l) h s c = refl

no_seed : (m : Option Mode) (l : Option (Option ℕ)) (r : Option ℕ) (h : Bool) (c : Option ℕ) → options_with m l r h None c ≡ None
no_seed None l r h c = refl
no_seed (Some m) None r h c = refl
no_seed (Some m) (Some l) None h c = refl
no_seed (Some m) (Some l) (Some r) h c = refl

no_count : (m : Option Mode) (l : Option (Option ℕ)) (r : Option ℕ) (h : Bool) (s : Option ℕ) → options_with m l r h s None ≡ None
no_count None l r h s = refl
no_count (Some m) None r h s = refl
no_count (Some m) (Some l) None h s = refl
no_count (Some m) (Some l) (Some r) h None = refl
no_count (Some m) (Some l) (Some r) h (Some s) = refl

no_options : (o : Valued) (said : Said) → value_of o said ≡ Some dash → options_in said ≡ None
no_options Lag said e =
    ap (λ l. options_with (option_and_then mode_named said.mode) (lag_of l) (rows_of said.rows) said.header (seed_of said.seed)
    (count_of said.count)) e ∙ no_lag _ _ _ _ _
no_options Rows said e =
    ap (λ l. options_with (option_and_then mode_named said.mode) (lag_of said.lag) (rows_of l) said.header (seed_of said.seed) (count_of said.count))
    e ∙ no_rows _ _ _ _ _
no_options Seed said e =
    ap (λ l. options_with (option_and_then mode_named said.mode) (lag_of said.lag) (rows_of said.rows) said.header (seed_of l) (count_of said.count))
    e ∙ no_seed _ _ _ _ _
no_options Count said e =
    ap (λ l. options_with (option_and_then mode_named said.mode) (lag_of said.lag) (rows_of said.rows) said.header (seed_of said.seed) (count_of l))
    e ∙ no_count _ _ _ _ _

abbrev Read : Type 0
Read = Options × Text

no_name : (o : Option Text) → option_and_then {U = Read} (λ (name : Text). option_map (λ (options : Options). (options, name)) None) o ≡ None
no_name None = refl
no_name (Some name) = refl

no_command : (o : Valued) (said : Said) → value_of o said ≡ Some dash → command_in said ≡ None
no_command o said e =
    ap (λ options. cond {A = Option Read} (is_some said.waiting) None
    (option_and_then {U = Read} (λ name. option_map (λ options. (options, name)) options) said.file)) (no_options o said e)
    ∙ go (is_some said.waiting)
  where
    go : (b : Bool)
        → cond {A =
        Option Read} b None (option_and_then {U = Read} (λ (name : Text). option_map (λ (options : Options). (options, name)) None) said.file) ≡ None
    go true = refl
    go false = no_name said.file

comes_to_nothing : (o : Valued) (words : List Text) (r : Option Said) → Stays o dash r → option_and_then command_in (option_and_then (said_with words) r) ≡ None
comes_to_nothing o words None stays = refl
comes_to_nothing o [] (Some said) e = no_command o said e
comes_to_nothing o (word ∷ words) (Some said) e = comes_to_nothing o words (with_any_word word said) (word_stays o word dash said e)

dash_given : (o : Valued) (said : Said) → Stays o dash (with_value o dash said)
dash_given Lag said = branch Lag dash (is_some said.lag) None (Some (record said { lag = Some dash })) tt refl
dash_given Rows said = branch Rows dash (is_some said.rows) None (Some (record said { rows = Some dash })) tt refl
dash_given Seed said = branch Seed dash (is_some said.seed) None (Some (record said { seed = Some dash })) tt refl
dash_given Count said = branch Count dash (is_some said.count) None (Some (record said { count = Some dash })) tt refl

-- ---- both rules come to the same

after : (words : List Text) → ((said : Said) → option_and_then command_in (said_by words said) ≡ option_and_then command_in (said_with words said))
    → (r : Option Said)
    → option_and_then command_in (option_and_then (said_by words) r) ≡ option_and_then command_in (option_and_then (said_with words) r)
after words same None = refl
after words same (Some said) = same said

value_same : (o : Valued) (word : Text) (words : List Text) (said : Said)
    → ((said : Said) → option_and_then command_in (said_by words said) ≡ option_and_then command_in (said_with words said))
    → option_and_then command_in (option_and_then (said_by words) (cond (begins_with_dash word) None (with_value o word said)))
    ≡ option_and_then command_in (option_and_then (said_with words) (cond (is_option word) None (with_value o word said)))
value_same o [] words said same = after words same (with_value o [] said)
value_same o (b ∷ c ∷ bytes) words said same = after words same (cond (b == 45) None (with_value o (b ∷ c ∷ bytes) said))
value_same o (b ∷ []) words said same = go (b == 45) refl
  where
    go : (t : Bool) → (b == 45) ≡ t
        → option_and_then command_in (option_and_then (said_by words) (cond t None (with_value o (b ∷ []) said)))
        ≡ option_and_then command_in (option_and_then (said_with words) (with_value o (b ∷ []) said))
    go false e = after words same (with_value o (b ∷ []) said)
    go true e =
        sym (subst (λ n. option_and_then command_in (option_and_then (said_with words) (with_value o (n ∷ []) said)) ≡ None) (sym (eqb-true b 45 e))
        (comes_to_nothing o words (with_value o dash said) (dash_given o said)))

pub same_command : (words : List Text) (said : Said) → option_and_then command_in (said_by words said) ≡ option_and_then command_in (said_with words said)
same_command [] said = refl
same_command (word ∷ words) said = go (same_command words) said.is_over said.waiting
  where
    go : ((said : Said) → option_and_then command_in (said_by words said) ≡ option_and_then command_in (said_with words said))
        → (over : Bool) (waiting : Option Valued)
        → option_and_then command_in (option_and_then (said_by words) (cond over (with_position word said) (with_next waiting word said)))
        ≡ option_and_then command_in (option_and_then (said_with words) (cond over (with_position word said) (with_next_word waiting word said)))
    go same true waiting = after words same (with_position word said)
    go same false None = after words same (with_first word said)
    go same false (Some o) = value_same o word words (record said { waiting = None }) same
