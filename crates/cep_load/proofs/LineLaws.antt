-- The lines that are still to come, one by one.
use Rattle.std.proofs.Common.{◌≡◌, ◌≢◌, ◌+◌, ◌-◌, ◌∷◌, [], ℕ, List, refl, add-one, arith}
use Rattle.cep_event.specs.declared.event.EventType.{EventType}
use Rattle.cep_load.specs.Records.{left_by, record_by, records_from}
use Rattle.cep_load.specs.Lines.{generated_lines, line_of, lines_from}

pub lines-none : (types : List EventType) (count number x : ℕ) → count ≡ 0 → lines_from types count number x ≡ []
unfolding records_from
lines-none types count number x none = rw none refl

pub lines-next : (types : List EventType) (count number x rest : ℕ) → count ≡ rest + 1
    → lines_from types count number x ≡ line_of types (record_by types number x) ∷ lines_from types rest (number + 1) (left_by types x)
unfolding records_from
lines-next types count number x rest one = rw (one, add-one rest) refl

-- there is a next line, and these are those behind it
pub told-next : (lines later after : List (List ℕ)) (line text : List ℕ) → lines ≡ line ∷ later → text ≡ line → after ≡ later → lines ≡ text ∷ after
told-next lines later after line text is told left = cc

pub not-none : (lines later : List (List ℕ)) (line : List ℕ) → lines ≡ line ∷ later → lines ≢ []
not-none lines later line is none = cc

-- before the first line
pub lines-first : (types declared : List EventType) (count seed : ℕ) → types ≡ declared → lines_from types (count - 0) (0 + 1) seed ≡ generated_lines declared seed count
lines-first types declared count seed is =
    let all : count - 0 ≡ count = omega arith in
    rw (all, is) refl
