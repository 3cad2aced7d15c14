-- The name in a header that is read is a name.
use Rattle.std.proofs.Common.{◌≡◌, ℕ, ◌==◌, Bool, true, false, List, Option, Some, None, Result, Ok, codes, subst}
use Rattle.std.specs.Option.{IfSome}
use Rattle.cluster_terms.specs.Name.{is_name}
use Rattle.serde_json.specs.Data.{Data}
use Rattle.wire_json.proofs.entries.EntryCommands.{of_name}
use Rattle.wire_json.proofs.json_values.LineParts.{reading_parts}
use Rattle.wire_json.specs.Reading.{◌>>=◌, found, header_of, holds, reading}
use Rattle.wire_json.specs.Values.{name_at, number_at}
use Rattle.wire_json.specs.declared.line.Line.TheVariants as line
use Rattle.wire_json.specs.declared.line.ReadLineFault.{ReadLineFault}

abbrev IsName : List ℕ → Type 0
IsName name = is_name name ≡ true

abbrev header_by : Option (List ℕ) → Option ℕ → Result (List ℕ) ReadLineFault
header_by cluster format = do
  cluster ← found 7 cluster
  format ← found 7 format
  two ← holds 7 (format == 2)
  Ok cluster

header_named : (value : Data) (came : List ℕ) → header_of value ≡ Ok came → IsName came
unfolding header_of
header_named value came is = by (name_at (codes "cluster") value) (number_at (codes "format") value) (of_name (codes "cluster") value) is
  where
    by_format : (name : List ℕ) (two : Bool) → IsName name → (holds 7 two >>= (λ two. Ok name)) ≡ Ok came → IsName came
    by_format name true named is = (let same : name ≡ came = cc in subst IsName same named)
    by_format name false named is = absurd (cc)

    by : (cluster : Option (List ℕ)) (format : Option ℕ) → IfSome cluster IsName → header_by cluster format ≡ Ok came → IsName came
    by None format named is = absurd (cc)
    by (Some name) None named is = absurd (cc)
    by (Some name) (Some n) named is = by_format name (n == 2) named is

pub reading_name : (bytes : List ℕ) (came : List ℕ) → reading bytes ≡ Ok (line.Header came) → is_name came ≡ true
reading_name bytes came is = (let parts = reading_parts bytes (line.Header came) is in header_named parts.value came parts.made)
