-- What objects in memory answer, and what they are then (this project's own). Their calls are numbered from 1.
use Rattle.std.specs.Prelude.{ℕ, ◌+◌, ◌-◌, ◌^◌, ◌==◌, min, Bool, ◌||◌, if◌then◌else◌, List, ◌++◌, length, take, drop, Option, Some, None, option_map}
use Rattle.std.specs.List.{list_any}
use Rattle.cep_outside.specs.Named.{content_of}
use Rattle.cep_outside.specs.declared.named.Named.{Named}
use Rattle.cep_outside.specs.declared.source.Take.{Take}
use Rattle.cep_outside.specs.declared.source.Take.TheVariants.{Got, End, Failed}

-- one more, up to the greatest u64
abbrev pub next_count : ℕ → ℕ
next_count count = min (count + 1) (2 ^ 64 - 1)

-- the number is listed
abbrev pub is_listed : List ℕ → ℕ → Bool
is_listed numbers number = list_any (λ other. other == number) numbers

-- a source in memory: the bytes left, the most that a read gives, and the numbers of the calls that fail
pub record Giving : Type 0 where
  pub left : List ℕ
  pub piece : ℕ
  pub fails : List ℕ
  pub calls : ℕ
  pub faults : ℕ

-- the answer to a read that may give so many bytes
abbrev pub gives : ℕ → Take
gives count = if count == 0 then End else Got count

-- the answer to a read into a room of this length
abbrev pub answer_to_read : Giving → ℕ → Take
answer_to_read source room =
    if is_listed source.fails (next_count source.calls) then Failed else gives (min (min source.piece room) (length source.left))

-- what the source is after it
abbrev pub after_read : Giving → Take → Giving
after_read source (Got count) = record { left = drop count source.left; piece = source.piece; fails = source.fails; calls = next_count source.calls; faults = source.faults }
after_read source End = record { left = source.left; piece = source.piece; fails = source.fails; calls = next_count source.calls; faults = source.faults }
after_read source Failed = record { left = source.left; piece = source.piece; fails = source.fails; calls = next_count source.calls; faults = next_count source.faults }

-- a sink in memory: the bytes taken, how many it has room for, the most that a write takes, and the numbers of the calls that fail
pub record Taking : Type 0 where
  pub taken : List ℕ
  pub room : ℕ
  pub piece : ℕ
  pub fails : List ℕ
  pub calls : ℕ
  pub faults : ℕ

-- how many of so many bytes a write takes, none where it fails
abbrev pub answer_to_write : Taking → ℕ → Option ℕ
answer_to_write sink given =
    if (length sink.taken == sink.room) || is_listed sink.fails (next_count sink.calls) then None
    else Some (min (min sink.piece given) (sink.room - length sink.taken))

-- what the sink is after it
abbrev pub after_write : Taking → List ℕ → Option ℕ → Taking
after_write sink bytes (Some count) = record { taken = sink.taken ++ take count bytes; room = sink.room; piece = sink.piece; fails = sink.fails; calls = next_count sink.calls; faults = sink.faults }
after_write sink bytes None = record { taken = sink.taken; room = sink.room; piece = sink.piece; fails = sink.fails; calls = next_count sink.calls; faults = next_count sink.faults }

-- files in memory, and the numbers of the calls that fail
pub record Holding : Type 0 where
  pub files : List Named
  pub fails : List ℕ
  pub calls : ℕ
  pub faults : ℕ

-- how many bytes a load into a room of this length gives, none where it fails
abbrev pub answer_to_load : Holding → List ℕ → ℕ → Option ℕ
answer_to_load holding name room =
    if is_listed holding.fails (next_count holding.calls) then None
    else option_map (λ bytes. min (length bytes) room) (content_of holding.files name)

-- what the files are after it
abbrev pub after_load : Holding → Option ℕ → Holding
after_load holding (Some count) = record { files = holding.files; fails = holding.fails; calls = next_count holding.calls; faults = holding.faults }
after_load holding None = record { files = holding.files; fails = holding.fails; calls = next_count holding.calls; faults = next_count holding.faults }
