-- Turns of clap's walk, and what fails.
use Rattle.std.proofs.Common.{◌≡◌, ◌∙◌, ℕ, Bool, true, false, cond, List, [], ◌∷◌, length, Option, Some, None, is_some, refl, sym, ap, true≢false}
use Rattle.std.specs.Prelude.{fold}
use Rattle.std.specs.Option.{option_map_or}
use Rattle.std.specs.Str.{IsUtf8}
use Rattle.std.specs.Prelude.{slice_get}
use Rattle.clap.specs.Kinds.{Kinds, or_else}
use Rattle.clap.specs.Lexer.{long_of}
use Rattle.clap.specs.Walk.{Text, Row, Rule, Held, Walk, Waiting, idle, option, value, trailing, finished, long_or_other, short_or_plain, settled, takes_values, walked, word_met}
use Rattle.clap.specs.Faults.{bundle_fault, bundle_step_fault, check_fault, defaults_fault, flag_word_fault, flags_fault, long_fault, settle_fault, turn_fault, walk_fault, word_fault, option_fault, react_fault}
use Rattle.clap.specs.declared.error.kind.ErrorKind.TheVariants as kind
use Rattle.cep_words.proofs.ClapApp.{top, rules}
use Rattle.cep_words.proofs.ClapWords.{IsPlain, has_character}

abbrev pub held : List Row → Option (Text × List Text) → Held
held rows p = record { rows = rows; pending = p; skip = 0 }

abbrev pub at_walk : List Row → Option (Text × List Text) → Waiting → ℕ → Bool → Walk
at_walk rows p waiting k over = record { held = held rows p; waiting = waiting; position = k; is_trailing = over; stopped = None }

-- what may go wrong with what is pending
abbrev pub settle : List Row → Option (Text × List Text) → Kinds
settle rows p = settle_fault rules false (held rows p)

-- what may go wrong after the words
abbrev pub end_fault : Walk → Kinds
end_fault w =
    or_else (settle_fault rules false w.held) (or_else (defaults_fault (settled rules w.held).rows rules)
    (check_fault top (finished rules w.held) false))

abbrev pub last : Walk → List Text → Walk
last w words = fold (walked rules []) w words

-- what may go wrong from here on
abbrev pub faults : Walk → List Text → Kinds
faults w words = or_else (walk_fault top [] w words) (end_fault (last w words))

abbrev pub fails : Kinds → Bool
fails [] = false
fails (k ∷ ks) = true

pub fails_first : (a b : Kinds) → fails a ≡ true → fails (or_else a b) ≡ true
fails_first [] b e = absurd (true≢false (sym e))
fails_first (k ∷ ks) b e = refl

pub turn_fails : (w : Walk) (word : Text) (rest : List Text) → fails (turn_fault top [] w word) ≡ true → fails (faults w (word ∷ rest)) ≡ true
unfolding walk_fault
turn_fails w word rest e = fails_first _ _ (fails_first (turn_fault top [] w word) _ e)

pub turn_goes_on : (w next : Walk) (word : Text) (rest : List Text) → turn_fault top [] w word ≡ [] → walked rules [] w word ≡ next
    → faults w (word ∷ rest) ≡ faults next rest
unfolding walk_fault
turn_goes_on w next word rest e is =
    ap (λ t. or_else (or_else t (walk_fault top [] (walked rules [] w word) rest)) (end_fault (last (walked rules [] w word) rest))) e
    ∙ ap (λ n. faults n rest) is

-- ---- words that are no option

pub plain_word_fault : (k : ℕ) (word : Text) (h : Held) → IsPlain word → word_fault top [] false idle word h ≡ []
plain_word_fault k word h plain =
    ap (λ b. cond b [] (flag_word_fault rules false (long_of word) word h)) plain.dashes
    ∙ ap (λ l. flag_word_fault rules false l word h) plain.long
    ∙ ap (λ s. option_map_or (λ flags. bundle_fault rules false flags h) s []) plain.short

pub plain_value_fault : (id : Text) (word : Text) (h : Held) → IsPlain word → word_fault top [] false (option id) word h ≡ []
plain_value_fault id word h plain =
    ap (λ b. cond b [] (flag_word_fault rules false (long_of word) word h)) plain.dashes
    ∙ ap (λ l. flag_word_fault rules false l word h) plain.long
    ∙ ap (λ s. option_map_or (λ flags. bundle_fault rules false flags h) s []) plain.short

pub plain_met : (k : ℕ) (word : Text) (h : Held) → IsPlain word → word_met rules [] false idle k word h ≡ (h, value)
plain_met k word h plain =
    ap (λ b. cond b (h, trailing k) (long_or_other rules idle word (long_of word) h)) plain.dashes
    ∙ ap (λ l. long_or_other rules idle word l h) plain.long
    ∙ ap (λ s. short_or_plain rules idle word s h) plain.short

pub plain_value_met : (id : Text) (k : ℕ) (word : Text) (h : Held) → IsPlain word
    → word_met rules [] false (option id) k word h ≡ short_or_plain rules (option id) word None h
plain_value_met id k word h plain =
    ap (λ b. cond b (h, trailing k) (long_or_other rules (option id) word (long_of word) h)) plain.dashes
    ∙ ap (λ l. long_or_other rules (option id) word l h) plain.long
    ∙ ap (λ s. short_or_plain rules (option id) word s h) plain.short

-- ---- options that are refused

-- a short option
pub short_fails : (c : ℕ) (xs : Text) (rows : List Row) (p : Option (Text × List Text)) → IsUtf8 (45 ∷ c ∷ xs)
    → fails (bundle_fault rules false (c ∷ xs) (held rows p)) ≡ true
unfolding flags_fault
short_fails c xs rows p valid =
    let first = has_character c xs valid in
    ap (λ cs. fails (bundle_step_fault rules false (slice_get cs 0) (c ∷ xs) 0 (held rows p) (flags_fault rules false (length xs)))) first.2

-- an option while what is pending can't be used
pub long_fails : (found : Option Rule) (v : Option Text) (rows : List Row) (p : Option (Text × List Text)) → fails (settle rows p) ≡ true
    → fails (long_fault rules false found v (held rows p)) ≡ true
long_fails None v rows p e = refl
long_fails (Some a) v rows p e = go (takes_values a) v
  where
    go : (b : Bool) (v : Option Text)
        → fails (cond b (option_fault rules false a v (held rows p))
        (cond (is_some v) (kind.TooManyValues ∷ []) (react_fault rules false a [] (held rows p)))) ≡ true
    go true None = e
    go true (Some t) = fails_first (settle rows p) _ e
    go false None = fails_first (settle rows p) _ e
    go false (Some t) = refl
