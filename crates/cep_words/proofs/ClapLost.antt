-- A walk that can't end well any more.
use Rattle.std.proofs.Common.{◌≡◌, ◌∙◌, ℕ, Bool, true, false, cond, List, [], ◌∷◌, codes, Option, Some, None, refl, ap}
use Rattle.std.proofs.Math.Bool.{and-false}
use Rattle.std.specs.Prelude.{◌&&◌, ◌==◌, option_and_then, ⊤}
use Rattle.std.specs.Option.{option_map_or}
use Rattle.std.specs.Str.{IsUtf8, bytes_eq}
use Rattle.clap.specs.Kinds.{or_else}
use Rattle.clap.specs.Lexer.{long_of, long_of_rest, short_of}
use Rattle.clap.specs.Walk.{Text, Row, Held, Waiting, arg_by_long, idle, option, value, is_pending, trailing, walked, word_met}
use Rattle.clap.specs.Faults.{bundle_fault, flag_word_fault, positional_fault, step_fault, stray_fault, turn_fault, walk_fault, word_fault}
use Rattle.cep_words.proofs.ClapApp.{top, rules, position}
use Rattle.cep_words.proofs.ClapWords.{IsPlain, by_form}
use Rattle.cep_words.proofs.ClapSteps.{at_walk, fails, fails_first, faults, held, long_fails, plain_met, plain_word_fault, settle, short_fails, turn_fails, turn_goes_on}

abbrev pub AreTexts : List Text → Type 0
AreTexts [] = ⊤
AreTexts (word ∷ words) = IsUtf8 word × AreTexts words

stray : (k : ℕ) (rows : List Row) (p : Option (Text × List Text)) → fails (settle rows p) ≡ true → fails (step_fault top k (held rows p) value) ≡ true
stray k rows p e = go (1 == k) (2 == k)
  where
    go : (a b : Bool) → fails (option_map_or (λ r. positional_fault rules false r (held rows p))
        (cond a (Some (position 1 (codes "mode"))) (cond b (Some (position 2 (codes "file"))) None)) (stray_fault top)) ≡ true
    go true b = ap (λ again. fails (cond again [] (settle rows p))) (and-false (is_pending (position 1 (codes "mode")) p)) ∙ e
    go false true = ap (λ again. fails (cond again [] (settle rows p))) (and-false (is_pending (position 2 (codes "file")) p)) ∙ e
    go false false = refl

pub lost_over : (words : List Text) (rows : List Row) (p : Option (Text × List Text)) (waiting : Waiting) (k : ℕ)
    → fails (settle rows p) ≡ true → fails (faults (at_walk rows p waiting k true) words) ≡ true
unfolding walk_fault
lost_over [] rows p waiting k e = fails_first (settle rows p) _ e
lost_over (word ∷ rest) rows p waiting k e = turn_fails (at_walk rows p waiting k true) word rest (stray k rows p e)

-- the turn of a plain word where nothing waits
pub plain_turn : (rows : List Row) (p : Option (Text × List Text)) (k : ℕ) (word : Text) → IsPlain word
    → turn_fault top [] (at_walk rows p idle k false) word ≡ step_fault top k (held rows p) value
plain_turn rows p k word plain =
    let met = word_met rules [] false idle k word (held rows p) in
    ap (λ f. or_else f (step_fault top k met.0 met.1)) (plain_word_fault k word (held rows p) plain)
    ∙ ap (λ (m : Held × Rattle.clap.specs.Walk.Step). step_fault top k m.0 m.1) (plain_met k word (held rows p) plain)

short_word : (c : ℕ) (xs : Text) (h : Held) → (c == 45) ≡ false
    → flag_word_fault rules false (long_of (45 ∷ c ∷ xs)) (45 ∷ c ∷ xs) h ≡ bundle_fault rules false (c ∷ xs) h
short_word c xs h e =
    ap (λ t. flag_word_fault rules false (option_and_then long_of_rest (cond t (Some xs) None)) (45 ∷ c ∷ xs) h) e
    ∙ ap (λ t. option_map_or (λ flags. bundle_fault rules false flags h) (cond t None (Some (c ∷ xs))) []) e

-- a short option is refused, whatever waits
pub short_turn : (c : ℕ) (xs : Text) (rows : List Row) (p : Option (Text × List Text)) (k : ℕ) → (c == 45) ≡ false → IsUtf8 (45 ∷ c ∷ xs)
    → fails (turn_fault top [] (at_walk rows p idle k false) (45 ∷ c ∷ xs)) ≡ true
short_turn c xs rows p k e valid =
    fails_first (word_fault top [] false idle (45 ∷ c ∷ xs) (held rows p)) _
    (ap (λ t. fails (cond (t && bytes_eq xs []) [] (flag_word_fault rules false (long_of (45 ∷ c ∷ xs)) (45 ∷ c ∷ xs) (held rows p)))) e
    ∙ ap fails (short_word c xs (held rows p) e) ∙ short_fails c xs rows p valid)

pub short_value_turn : (id : Text) (c : ℕ) (xs : Text) (rows : List Row) (p : Option (Text × List Text)) (k : ℕ) → (c == 45) ≡ false → IsUtf8 (45 ∷ c ∷ xs)
    → fails (turn_fault top [] (at_walk rows p (option id) k false) (45 ∷ c ∷ xs)) ≡ true
short_value_turn id c xs rows p k e valid =
    fails_first (word_fault top [] false (option id) (45 ∷ c ∷ xs) (held rows p)) _
    (ap (λ t. fails (cond (t && bytes_eq xs []) [] (flag_word_fault rules false (long_of (45 ∷ c ∷ xs)) (45 ∷ c ∷ xs) (held rows p)))) e
    ∙ ap fails (short_word c xs (held rows p) e) ∙ short_fails c xs rows p valid)

pub lost_idle : (words : List Text) → AreTexts words → (rows : List Row) (p : Option (Text × List Text)) (k : ℕ)
    → fails (settle rows p) ≡ true → fails (faults (at_walk rows p idle k false) words) ≡ true
unfolding walk_fault walked
lost_idle [] texts rows p k e = fails_first (settle rows p) _ e
lost_idle (word ∷ rest) texts rows p k e =
    by_form (λ word. IsUtf8 word → fails (faults (at_walk rows p idle k false) (word ∷ rest)) ≡ true)
    (λ valid. ap fails (turn_goes_on (at_walk rows p idle k false) (at_walk rows p idle k true) (45 ∷ 45 ∷ []) rest refl refl) ∙ lost_over rest rows p idle k e)
    (λ x xs valid. turn_fails (at_walk rows p idle k false) (45 ∷ 45 ∷ x ∷ xs) rest
    (fails_first (word_fault top [] false idle (45 ∷ 45 ∷ x ∷ xs) (held rows p)) _
    (long_fails (arg_by_long rules (Rattle.clap.specs.Lexer.name_and_value (x ∷ xs)).0) (Rattle.clap.specs.Lexer.name_and_value (x ∷ xs)).1 rows
    p e)))
    (λ c xs apart valid. turn_fails (at_walk rows p idle k false) (45 ∷ c ∷ xs) rest (short_turn c xs rows p k apart valid))
    (λ word plain valid. turn_fails (at_walk rows p idle k false) word rest (ap fails (plain_turn rows p k word plain) ∙ stray k rows p e))
    word texts.0
