-- The text of a header reads as the header.
use Rattle.std.proofs.Common.{◌≡◌, ℕ, ◌≤◌, List, length, Ok, IsTrue, codes, refl, ◌∙◌, arith}
use Rattle.cluster_terms.specs.Name.{is_name}
use Rattle.serde_json.specs.Written.{compact_text}
use Rattle.wire_json.specs.Header.{header_data, header_text}
use Rattle.wire_json.specs.Reading.{header_of, line_in, most_bytes, reading}
use Rattle.wire_json.specs.declared.line.Line.TheVariants as line
use Rattle.wire_json.proofs.entries.EntriesReadBack.{name_there}
use Rattle.wire_json.proofs.json_values.ReadingLemmas.{reading-text}
use Rattle.wire_json.proofs.json_values.TextBytes.{IsShort-name, IsUtf8-name, IsUtf8-tested}
use Rattle.wire_json.proofs.json_values.WholeData.{Fits-text, IsWhole}

line_there : (cluster : List ℕ) → IsTrue (is_name cluster) → line_in (header_data cluster) ≡ Ok (line.Header cluster)
unfolding line_in header_of
line_there cluster is = (let name = name_there cluster is in rw name)

pub whole_header : (cluster : List ℕ) → IsTrue (is_name cluster) → IsWhole (header_data cluster)
whole_header cluster is =
    ((IsUtf8-tested (codes "cluster") refl, IsUtf8-name cluster is, (IsUtf8-tested (codes "format") refl, omega arith, tt)), refl)

pub header_reads_back : (cluster : List ℕ) → IsTrue (is_name cluster) → reading (header_text cluster) ≡ Ok (line.Header cluster)
unfolding header_text
header_reads_back cluster is =
    let value = header_data cluster in
    let whole = whole_header cluster is in
    let short : length (compact_text value) ≤ most_bytes = omega (arith, (Fits-text value whole).1, (IsShort-name cluster is).1) in
    reading-text value whole (omega arith) short ∙ line_there cluster is
