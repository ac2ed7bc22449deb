-- How bytes are cut into lines, from the front.
use Rattle.std.proofs.Common.{◌≡◌, ◌≢◌, ℕ, zero, suc, ◌≤◌, Bool, true, false, if◌then◌else◌, ◌==◌, List, [], ◌∷◌, ◌++◌, length, take, drop, refl, sym, ◌∙◌, ap, arith, append_assoc}
use Rattle.std.proofs.lemmas.List.{append-nil, drop_at}
use Rattle.std.proofs.lemmas.Bool.Decides.{nat_tests}
use Rattle.cep_rows.specs.Feed.{HasNoFeed, AreLines}
use Rattle.cep_rows.specs.Lines.{onto_first, raw_lines, onto_whole, whole_lines, joined, after_whole_lines}

no_test : (b : ℕ) → b ≢ 10 → (b == 10) ≡ false
no_test b other = grind (arith, nat_tests)

-- a byte that is no line feed goes onto the first line
raw_lines-other : (b : ℕ) (bytes : List ℕ) → b ≢ 10 → raw_lines (b ∷ bytes) ≡ onto_first b (raw_lines bytes)
raw_lines-other b bytes other =
    ap (λ (t : Bool). if t then [] ∷ raw_lines bytes else onto_first b (raw_lines bytes)) (no_test b other)

whole-other : (b : ℕ) (bytes : List ℕ) → b ≢ 10 → whole_lines (b ∷ bytes) ≡ onto_whole b (whole_lines bytes)
whole-other b bytes other =
    ap (λ (t : Bool). if t then [] ∷ whole_lines bytes else onto_whole b (whole_lines bytes)) (no_test b other)

-- a line that a line feed ends comes first
pub raw_lines-line : (line bytes : List ℕ) → HasNoFeed line → raw_lines (line ++ 10 ∷ bytes) ≡ line ∷ raw_lines bytes
raw_lines-line [] bytes none = refl
raw_lines-line (b ∷ line) bytes none =
    raw_lines-other b (line ++ 10 ∷ bytes) none.0 ∙ ap (onto_first b) (raw_lines-line line bytes none.1)

pub whole_lines-line : (line bytes : List ℕ) → HasNoFeed line → whole_lines (line ++ 10 ∷ bytes) ≡ line ∷ whole_lines bytes
whole_lines-line [] bytes none = refl
whole_lines-line (b ∷ line) bytes none =
    whole-other b (line ++ 10 ∷ bytes) none.0 ∙ ap (onto_whole b) (whole_lines-line line bytes none.1)

-- bytes without a line feed are one line, and no whole one
pub raw_lines-rest : (b : ℕ) (bytes : List ℕ) → HasNoFeed (b ∷ bytes) → raw_lines (b ∷ bytes) ≡ (b ∷ bytes) ∷ []
raw_lines-rest b [] none = raw_lines-other b [] none.0
raw_lines-rest b (c ∷ bytes) none = raw_lines-other b (c ∷ bytes) none.0 ∙ ap (onto_first b) (raw_lines-rest c bytes none.1)

pub whole_lines-rest : (bytes : List ℕ) → HasNoFeed bytes → whole_lines bytes ≡ []
whole_lines-rest [] none = refl
whole_lines-rest (b ∷ bytes) none = whole-other b bytes none.0 ∙ ap (onto_whole b) (whole_lines-rest bytes none.1)

joined-cons : (line : List ℕ) (lines : List (List ℕ)) (bytes : List ℕ) → joined (line ∷ lines) ++ bytes ≡ line ++ 10 ∷ (joined lines ++ bytes)
joined-cons line lines bytes =
    append_assoc (line ++ 10 ∷ []) (joined lines) bytes ∙ append_assoc line (10 ∷ []) (joined lines ++ bytes)

-- lines with their line feeds come first
pub raw_lines-joined : (lines : List (List ℕ)) (bytes : List ℕ) → AreLines lines → raw_lines (joined lines ++ bytes) ≡ lines ++ raw_lines bytes
raw_lines-joined [] bytes each = refl
raw_lines-joined (line ∷ lines) bytes each =
    ap raw_lines (joined-cons line lines bytes) ∙ raw_lines-line line (joined lines ++ bytes) each.0
    ∙ ap (λ (ls : List (List ℕ)). line ∷ ls) (raw_lines-joined lines bytes each.1)

pub whole_lines-joined : (lines : List (List ℕ)) (bytes : List ℕ) → AreLines lines → whole_lines (joined lines ++ bytes) ≡ lines ++ whole_lines bytes
whole_lines-joined [] bytes each = refl
whole_lines-joined (line ∷ lines) bytes each =
    ap whole_lines (joined-cons line lines bytes) ∙ whole_lines-line line (joined lines ++ bytes) each.0
    ∙ ap (λ (ls : List (List ℕ)). line ∷ ls) (whole_lines-joined lines bytes each.1)

-- and then a rest without a line feed
pub whole_lines-split : (lines : List (List ℕ)) (rest : List ℕ) → AreLines lines → HasNoFeed rest → whole_lines (joined lines ++ rest) ≡ lines
whole_lines-split lines rest each none =
    whole_lines-joined lines rest each ∙ ap (λ (ls : List (List ℕ)). lines ++ ls) (whole_lines-rest rest none) ∙ append-nil lines

pub after_whole_lines-split : (lines : List (List ℕ)) (rest : List ℕ) → AreLines lines → HasNoFeed rest → after_whole_lines (joined lines ++ rest) ≡ rest
after_whole_lines-split lines rest each none =
    ap (λ (ls : List (List ℕ)). drop (length (joined ls)) (joined lines ++ rest)) (whole_lines-split lines rest each none)
    ∙ drop_at (joined lines) rest (length (joined lines)) refl

-- one line more
pub joined-push : (lines : List (List ℕ)) (line bytes : List ℕ) → joined lines ++ (line ++ 10 ∷ bytes) ≡ joined (lines ++ line ∷ []) ++ bytes
joined-push [] line bytes = sym (joined-cons line [] bytes)
joined-push (first ∷ lines) line bytes =
    joined-cons first lines (line ++ 10 ∷ bytes) ∙ ap (λ (l : List ℕ). first ++ 10 ∷ l) (joined-push lines line bytes)
    ∙ sym (joined-cons first (lines ++ line ∷ []) bytes)

pub AreLines-push : (lines : List (List ℕ)) (line : List ℕ) → AreLines lines → HasNoFeed line → AreLines (lines ++ line ∷ [])
AreLines-push [] line each none = (none, tt)
AreLines-push (first ∷ lines) line each none = (each.0, AreLines-push lines line each.1 none)

-- the first line of some bytes, and those after it
pub record First (bytes : List ℕ) (least : ℕ) : Type 0 where
  pub line : List ℕ
  pub lines : List (List ℕ)
  pub is : raw_lines bytes ≡ line ∷ lines
  pub long : least ≤ length line

-- the first line is as long as a front without a line feed
pub first_line : (n : ℕ) (b : ℕ) (bytes : List ℕ) → n ≤ length (b ∷ bytes) → HasNoFeed (take n (b ∷ bytes)) → First (b ∷ bytes) n
first_line zero b bytes within none = any_line b bytes
  where
    onto : (b : ℕ) (lines : List (List ℕ)) → (line : List ℕ) × (others : List (List ℕ)) × (onto_first b lines ≡ line ∷ others)
    onto b [] = (b ∷ [], [], refl)
    onto b (line ∷ lines) = (b ∷ line, lines, refl)

    by_test : (t : Bool) (b : ℕ) (bytes : List ℕ) → (line : List ℕ) × (others : List (List ℕ))
        × ((if t then [] ∷ raw_lines bytes else onto_first b (raw_lines bytes)) ≡ line ∷ others)
    by_test true b bytes = ([], raw_lines bytes, refl)
    by_test false b bytes = onto b (raw_lines bytes)

    any_line : (b : ℕ) (bytes : List ℕ) → First (b ∷ bytes) 0
    any_line b bytes = let found = by_test (b == 10) b bytes in record { line = found.0; lines = found.1; is = found.2; long = omega arith }
first_line (suc zero) b [] within none = record { line = b ∷ []; lines = []; is = raw_lines-other b [] none.0; long = omega arith }
first_line (suc (suc n)) b [] within none = absurd (omega arith)
first_line (suc n) b (c ∷ bytes) within none =
    let later = first_line n c bytes (omega arith) none.1 in
    record {
      line = b ∷ later.line;
      lines = later.lines;
      is = raw_lines-other b (c ∷ bytes) none.0 ∙ ap (onto_first b) later.is;
      long = omega (arith, later.long);
    }

-- some bytes have some line
pub some_line : (b : ℕ) (bytes : List ℕ) → First (b ∷ bytes) 0
some_line b bytes = first_line 0 b bytes (omega arith) tt
