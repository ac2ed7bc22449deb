-- A summary is UTF-8.
use Rattle.std.proofs.Common.{◌≡◌, ℕ, ◌<◌, ◌^◌, true, List, [], ◌∷◌, ◌++◌, codes, decimal, refl, arith}
use Rattle.std.specs.Prelude.{nat_lt}
use Rattle.std.specs.List.{list_all}
use Rattle.std.specs.Str.{IsAscii, IsUtf8}
use Rattle.std.proofs.lemmas.Bool.{and_parts}
use Rattle.std.proofs.lemmas.Bool.Decides.{nat_tests}
use Rattle.std.proofs.lemmas.Fmt.{IsAscii-decimal}
use Rattle.std.proofs.lemmas.Str.{IsAscii-append, IsUtf8-from_ascii}
use Rattle.std.proofs.lemmas.Str.Ascii.{IsAscii-cons, IsAscii-nil}
use Rattle.cep_load.specs.Summary.{counted, summary_of}

small : (b : ℕ) → nat_lt b 128 ≡ true → b < 128
small b h = grind (arith, nat_tests)

ascii : (bytes : List ℕ) → list_all (λ b. nat_lt b 128) bytes ≡ true → IsAscii bytes
ascii [] h = IsAscii-nil
ascii (b ∷ bytes) h =
    let split = and_parts (nat_lt b 128) (list_all (λ x. nat_lt x 128) bytes) h in
    IsAscii-cons b bytes (small b split.0) (ascii bytes split.1)

counted-ascii : (name : List ℕ) (n : ℕ) → IsAscii name → n < 2 ^ 64 → IsAscii (counted name n)
counted-ascii name n h fits =
    IsAscii-append name (32 ∷ (decimal n ++ 10 ∷ [])) h
    (IsAscii-cons 32 (decimal n ++ 10 ∷ []) (omega arith) (IsAscii-append (decimal n) (10 ∷ []) (IsAscii-decimal n fits)
    (IsAscii-cons 10 [] (omega arith) IsAscii-nil)))

pub summary_utf8 : (rows late matches timeouts greatest : ℕ) → rows < 2 ^ 64 → late < 2 ^ 64 → matches < 2 ^ 64 → timeouts < 2 ^ 64
    → greatest < 2 ^ 64 → IsUtf8 (summary_of rows late matches timeouts greatest)
summary_utf8 rows late matches timeouts greatest a b c d e =
    IsUtf8-from_ascii (summary_of rows late matches timeouts greatest)
    (IsAscii-append (counted (codes "rows") rows) _ (counted-ascii (codes "rows") rows (ascii (codes "rows") refl) a)
    (IsAscii-append (counted (codes "late") late) _ (counted-ascii (codes "late") late (ascii (codes "late") refl) b)
    (IsAscii-append (counted (codes "matches") matches) _ (counted-ascii (codes "matches") matches (ascii (codes "matches") refl) c)
    (IsAscii-append (counted (codes "timeouts") timeouts) _ (counted-ascii (codes "timeouts") timeouts (ascii (codes "timeouts") refl) d)
    (counted-ascii (codes "greatest held") greatest (ascii (codes "greatest held") refl) e)))))
