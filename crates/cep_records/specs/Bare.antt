-- What of a line is read, and whether it can be read as fields (this project's own).
use Rattle.std.specs.Prelude.{ℕ, ◌-◌, ◌%◌, Bool, not, ◌&&◌, ◌==◌, if◌then◌else◌, List, [], ◌∷◌, length, take, drop}
use Rattle.std.specs.List.{list_any, count_by}
use Rattle.std.specs.Str.{bytes_eq, is_utf8}

-- U+FEFF in UTF-8
abbrev pub byte_order_mark : List ℕ
byte_order_mark = 0xEF ∷ 0xBB ∷ 0xBF ∷ []

abbrev pub begins_with_mark : List ℕ → Bool
begins_with_mark line = bytes_eq (take 3 line) byte_order_mark

-- the first row without a byte order mark before it
abbrev pub without_mark : ℕ → List ℕ → List ℕ
without_mark row line = if row == 1 && begins_with_mark line then drop 3 line else line

abbrev pub ends_with_return : List ℕ → Bool
ends_with_return line = bytes_eq (drop (length line - 1) line) (13 ∷ [])

-- the line without a CR behind it
abbrev pub without_return : List ℕ → List ℕ
without_return line = if ends_with_return line then take (length line - 1) line else line

-- what is read of a line with this row number
abbrev pub bare_line : ℕ → List ℕ → List ℕ
bare_line row line = without_return (without_mark row line)

abbrev pub is_return : ℕ → Bool
is_return byte = byte == 13

abbrev pub is_quote : ℕ → Bool
is_quote byte = byte == 34

-- UTF-8 that has no CR in it and no byte order mark before it
abbrev pub is_text : List ℕ → Bool
is_text line = is_utf8 line && not (list_any is_return line) && not (begins_with_mark line)

-- an odd number of quotes
abbrev pub has_open_quote : List ℕ → Bool
has_open_quote line = count_by is_quote line % 2 == 1
