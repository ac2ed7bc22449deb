-- Where the first line feed stands in a list of bytes.
use Rattle.std.proofs.Common.{Option, Some, None, MatchOption, min, ◌≡◌, ◌≢◌, ℕ, zero, suc, ◌+◌, ◌-◌, ◌<◌, ◌≤◌, List, [], ◌∷◌, ◌++◌, length, get_or, take, drop, sym, ◌∙◌, ap, subst, arith, add-one, take-append-drop, length-take, length-drop}
use Rattle.std.proofs.lemmas.List.{take_min, take-take, take_all, get_or-take, drop_more}
use Rattle.cep_rows.specs.Feed.{HasNoFeed, IsCutAt}

no_feed_suc : (bytes : List ℕ) (n : ℕ) → HasNoFeed (take n bytes) → get_or bytes n 0 ≢ 10 → HasNoFeed (take (suc n) bytes)
no_feed_suc [] n none other = tt
no_feed_suc (b ∷ bytes) zero none other = (other, tt)
no_feed_suc (b ∷ bytes) (suc n) none other = (none.0, no_feed_suc bytes n none.1 other)

-- one byte more that is no line feed
pub no_feed_more : (bytes : List ℕ) (n : ℕ) → HasNoFeed (take n bytes) → get_or bytes n 0 ≢ 10 → HasNoFeed (take (n + 1) bytes)
no_feed_more bytes n none other = rw add-one (no_feed_suc bytes n none other)

-- what is found in a front is found in the whole
pub cut_in_front : (bytes : List ℕ) (window place : ℕ) → IsCutAt place (take window bytes) → IsCutAt place bytes
cut_in_front bytes window place cut =
    let below : place < window = omega (arith, cut.within, length-take window bytes) in
    let short : place ≤ window = omega arith in
    record {
      within = omega (arith, cut.within, length-take window bytes);
      before = subst HasNoFeed (take-take place window bytes short) cut.before;
      here = sym (get_or-take window bytes place 0 below) ∙ cut.here;
    }

-- the line, its line feed and the rest
pub cut_apart : (bytes : List ℕ) (place : ℕ) → IsCutAt place bytes → bytes ≡ take place bytes ++ 10 ∷ drop (place + 1) bytes
cut_apart bytes place cut =
    sym (take-append-drop place bytes)
    ∙ ap (λ (rest : List ℕ). take place bytes ++ rest) (drop_more bytes place 0 cut.within ∙ ap (λ (b : ℕ). b ∷ drop (place + 1) bytes) cut.here)

pub drop_is_empty : (n : ℕ) (bytes : List ℕ) → n ≤ length bytes → drop n bytes ≡ [] → n ≡ length bytes
drop_is_empty n bytes within empty = omega (arith, ap length empty, length-drop n bytes)

pub no_feed_short : (bytes : List ℕ) (n : ℕ) → length bytes ≤ n → HasNoFeed (take n bytes) → HasNoFeed bytes
no_feed_short bytes n short none = subst HasNoFeed (take_all n bytes short) none

-- where a window of the limit's length is searched
pub found_in_window : (found : Option ℕ) (bytes : List ℕ) (window : ℕ) → window ≡ min 65537 (length bytes)
    → MatchOption found (HasNoFeed (take window bytes)) (λ place. IsCutAt place (take window bytes))
    → MatchOption found (HasNoFeed (take 65537 bytes)) (λ place. IsCutAt place bytes × (place ≤ 65536))
found_in_window None bytes window is none = subst HasNoFeed (ap (λ (n : ℕ). take n bytes) is ∙ take_min 65537 bytes) none
found_in_window (Some place) bytes window is cut =
    (cut_in_front bytes window place cut, omega (arith, cut.within, length-take window bytes))

-- a window of the limit's length that has no line feed
pub searched_front : (bytes : List ℕ) (window : ℕ) → window ≡ min 65537 (length bytes) → HasNoFeed (take 65537 bytes) → HasNoFeed (take window bytes)
searched_front bytes window is none = subst HasNoFeed (sym (ap (λ (n : ℕ). take n bytes) is ∙ take_min 65537 bytes)) none

-- the bytes from a place on, as a slice gives them
pub from_place : (bytes items now : List ℕ) (place : ℕ) → bytes ≡ items → drop place items ≡ now → take (length bytes - place) (drop place bytes) ≡ now
from_place bytes items now place is rest =
    take_all (length bytes - place) (drop place bytes) (omega (arith, length-drop place bytes)) ∙ ap (λ (l : List ℕ). drop place l) is ∙ rest
