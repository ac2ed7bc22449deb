-- Files in memory (this project's own).
use Rattle.std.specs.Prelude.{ℕ, List, Option, option_map, find, bytes_eq}
use Rattle.cep_outside.specs.declared.named.Named.{Named}

-- what the first file of a name holds
abbrev pub content_of : List Named → List ℕ → Option (List ℕ)
content_of files name = option_map (λ file. file.bytes) (find (λ file. bytes_eq file.name name) files)
