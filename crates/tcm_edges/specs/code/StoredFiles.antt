-- Files in memory, one after another.
use Rattle.std.specs.Prelude.{ℕ, Bool, List, Option}
use Rattle.std.specs.Str.{bytes_eq}
use Rattle.std.specs.Option.{option_map}
use Rattle.tcm_edges.specs.Files.{Files, file_of, content}

-- whether a file, its name and its bytes, has this name
abbrev pub is_named : List ℕ → (List ℕ × List ℕ) → Bool
is_named name file = bytes_eq name file.0

-- the contents of a file, if the store tells its files
abbrev pub told_content : Option Files → List ℕ → Option (List ℕ)
told_content all name = option_map (λ all. content (file_of all name)) all
