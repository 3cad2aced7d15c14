-- How long the line of an entry is, and the text of a log.
use Rattle.std.proofs.Common.{ℕ, ◌*◌, ◌≤◌, List, [], ◌∷◌, ◌++◌, flat_map, length, IsTrue, arith, length-append}
use Rattle.std.specs.List.{AllByRecursion}
use Rattle.cluster_terms.specs.Name.{is_name}
use Rattle.transformations.specs.History.{most_epochs}
use Rattle.transformations.specs.declared.entry.Entry.{Entry}
use Rattle.wire_json.specs.Entries.{IsEntry}
use Rattle.wire_json.specs.EntryTexts.{entry_data, entry_line, entry_text}
use Rattle.wire_json.specs.Header.{header_data, header_line, header_text}
use Rattle.wire_json.proofs.entries.EntriesReadBack.{short_entry, whole_entry}
use Rattle.wire_json.proofs.headers.HeadersReadBack.{whole_header}
use Rattle.wire_json.proofs.json_values.TextBytes.{IsShort-name}
use Rattle.wire_json.proofs.json_values.WholeData.{Fits-text}

text_fits : (entry : Entry) → IsEntry entry → length (entry_text entry) ≤ 5999
unfolding entry_text
text_fits entry is = omega (arith, (Fits-text (entry_data entry) (whole_entry entry is)).1, short_entry entry is)

pub line_fits : (entry : Entry) → IsEntry entry → length (entry_line entry) ≤ 6000
line_fits entry is = omega (arith, length-append (entry_text entry) (10 ∷ []), text_fits entry is)

lines_fit : (log : List Entry) → AllByRecursion IsEntry log → length (flat_map entry_line log) ≤ 6000 * length log
lines_fit [] all = omega arith
lines_fit (entry ∷ log) all = omega (arith, length-append (entry_line entry) (flat_map entry_line log), line_fits entry all.0, lines_fit log all.1)

header_fits : (cluster : List ℕ) → IsTrue (is_name cluster) → length (header_text cluster) ≤ 999
unfolding header_text
header_fits cluster is = omega (arith, (Fits-text (header_data cluster) (whole_header cluster is)).1, (IsShort-name cluster is).1)

-- 536,870,912 is the most bytes of a file that is loaded
pub log_fits : (cluster : List ℕ) (log : List Entry) → IsTrue (is_name cluster) → AllByRecursion IsEntry log → length log ≤ most_epochs → length (header_line cluster ++ flat_map entry_line log) ≤ 536870912
log_fits cluster log is all few =
    omega (arith, length-append (header_line cluster) (flat_map entry_line log), length-append (header_text cluster) (10 ∷ []), header_fits cluster is, lines_fit log all, few)
