-- The lines of a list of bytes (this project's own). A line feed, the byte 10, ends a line and is no part of it.
use Rattle.std.specs.Prelude.{◌≡◌, ℕ, ◌<◌, ◌≤◌, List, [], ◌∷◌, ◌++◌, length, take, drop, flat_map, if◌then◌else◌, ◌==◌, nat_lt, Bool}
use Rattle.cep_rows.specs.Feed.{HasNoFeed}
use Rattle.cep_rows.specs.declared.line.Next.{Next}
use Rattle.cep_rows.specs.declared.line.Next.TheVariants.{Line, NotYet, TooLong}

-- a byte before the first of these lines
abbrev pub onto_first : ℕ → List (List ℕ) → List (List ℕ)
onto_first b [] = (b ∷ []) ∷ []
onto_first b (line ∷ lines) = (b ∷ line) ∷ lines

-- the raw lines: the pieces between line feeds, and what stands after the last one where that isn't empty
abbrev pub raw_lines : List ℕ → List (List ℕ)
raw_lines [] = []
raw_lines (b ∷ bytes) = if b == 10 then [] ∷ raw_lines bytes else onto_first b (raw_lines bytes)

-- a line of over 65,536 bytes is too long
abbrev pub is_too_long : List ℕ → Bool
is_too_long line = nat_lt 65536 (length line)

-- a byte before the first of these whole lines, if there is one
abbrev pub onto_whole : ℕ → List (List ℕ) → List (List ℕ)
onto_whole b [] = []
onto_whole b (line ∷ lines) = (b ∷ line) ∷ lines

-- the whole lines: those that a line feed ends
abbrev pub whole_lines : List ℕ → List (List ℕ)
whole_lines [] = []
whole_lines (b ∷ bytes) = if b == 10 then [] ∷ whole_lines bytes else onto_whole b (whole_lines bytes)

-- lines, each with its line feed
abbrev pub joined : List (List ℕ) → List ℕ
joined lines = flat_map (λ line. line ++ 10 ∷ []) lines

-- what stands after the whole lines
abbrev pub after_whole_lines : List ℕ → List ℕ
after_whole_lines bytes = drop (length (joined (whole_lines bytes))) bytes

-- the answer to a request for the next line, from the bytes kept before it to those kept after it
abbrev pub Gives : List ℕ → List ℕ → Next → Type 0
Gives before now (Line line) = (before ≡ line ++ 10 ∷ now) × HasNoFeed line × (length line ≤ 65536)
Gives before now NotYet = (now ≡ before) × HasNoFeed before × (length before ≤ 65536)
Gives before now TooLong = (now ≡ before) × (65536 < length before) × HasNoFeed (take 65537 before)
