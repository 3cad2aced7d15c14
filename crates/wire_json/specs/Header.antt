-- The one text of a header, which names the cluster whose log it begins.
use Rattle.std.specs.Prelude.{ℕ, List, [], ◌∷◌, ◌++◌, codes}
use Rattle.serde_json.specs.Data.{Data, object, no_members}
use Rattle.serde_json.specs.Written.{compact_text}
use Rattle.wire_json.specs.EntryTexts.{with_number, with_text}

-- the keys of a header
abbrev pub header_keys : List (List ℕ)
header_keys = codes "cluster" ∷ codes "format" ∷ []

-- the object of a header
abbrev pub header_data : List ℕ → Data
header_data cluster = object (with_text (codes "cluster") cluster (with_number (codes "format") 2 no_members))

-- the text of a header
unfoldable pub header_text : List ℕ → List ℕ
header_text cluster = compact_text (header_data cluster)

-- the line of a header
abbrev pub header_line : List ℕ → List ℕ
header_line cluster = header_text cluster ++ 10 ∷ []
