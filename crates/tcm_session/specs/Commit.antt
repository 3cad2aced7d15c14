-- The outcome of a script: of `commit`, with and without a log file.
use Rattle.std.specs.Prelude.{ℕ, true, if◌then◌else◌, List, [], length, take, nat_le, Option, Some, None, Result, Ok, Err}
use Rattle.std.specs.FinMap as map
use Rattle.tcm_edges.specs.Files.{Files, file_of, loaded_of}
use Rattle.tcm_edges.specs.declared.store.Loaded.{Loaded}
use Rattle.tcm_edges.specs.declared.store.Loaded.TheVariants as loaded
use Rattle.transformations.specs.declared.entry.Entry.{Entry}
use Rattle.script_session.specs.Lines.{whole_lines, script_lines}
use Rattle.script_session.specs.LogFiles.{base_of, entry_lines, log_for, with_added}
use Rattle.script_session.specs.Machine.{entries_added, session_over}
use Rattle.script_session.specs.declared.refused_line.RefusedLine.{RefusedLine}
use Rattle.tcm_session.specs.Limits.{input_limit, too_large_text}
use Rattle.tcm_session.specs.Outcome.{Outcome, ended_outcome}
use Rattle.tcm_session.specs.files.FileEnds.{refused_end, too_large_end}

-- where a script begins: the log, the name of the file that its entries are added to, if there is one, and the files
pub record Start : Type 0 where
  pub log : List Entry
  pub file : Option (List ℕ)
  pub files : Files

-- the files once the entries that these lines add are added to the file
abbrev pub files_with : Start → List (List ℕ) → Files
files_with start lines = with_added start.file (entry_lines (entries_added (session_over start.log) lines)) start.files

-- the outcome of a script within the limit: all its lines are answered
abbrev pub whole_outcome : Start → List ℕ → Outcome
whole_outcome start input =
    let lines = script_lines input in
    record { status = 0; log = start.log; lines = lines; last = []; reads = true; files = files_with start lines }

-- the outcome of a script that is too large: only the lines that end within the limit are answered
abbrev pub large_outcome : Start → List ℕ → Outcome
large_outcome start input =
    let lines = whole_lines (take input_limit input) in
    record { status = 8; log = start.log; lines = lines; last = too_large_text; reads = true; files = files_with start lines }

-- the outcome of a script, by its size
unfoldable pub script_outcome : Start → List ℕ → Outcome
script_outcome start input = if nat_le (length input) input_limit then whole_outcome start input else large_outcome start input

-- a script from the log in a file, which keeps its whole lines, or gets the header if it has none; if the log is
-- refused, no line is answered
abbrev pub outcome_from : List ℕ → List ℕ → Files → List ℕ → Result (List Entry) RefusedLine → List ℕ → Outcome
outcome_from name cluster all file (Ok log) input =
    script_outcome (record { log = log; file = Some name; files = map.insert all name (base_of cluster file) }) input
outcome_from name cluster all file (Err refused) input = ended_outcome (refused_end refused) all

-- the log must be that of this cluster
abbrev pub outcome_in : List ℕ → List ℕ → Files → List ℕ → List ℕ → Outcome
outcome_in name cluster all file input = outcome_from name cluster all file (log_for (Some cluster) file) input

-- a file that is absent has no line
abbrev pub outcome_loaded : List ℕ → List ℕ → Files → Loaded → List ℕ → Outcome
outcome_loaded name cluster all loaded.Absent input = outcome_in name cluster all [] input
outcome_loaded name cluster all (loaded.TooLarge size) input = ended_outcome too_large_end all
outcome_loaded name cluster all (loaded.Bytes file) input = outcome_in name cluster all file input

-- the outcome of `commit` without a log file
abbrev pub commit_outcome : Files → List ℕ → Outcome
commit_outcome all input = script_outcome (record { log = []; file = None; files = all }) input

-- the outcome of `commit` with the log file of a cluster
abbrev pub commit_to_outcome : List ℕ → List ℕ → Files → List ℕ → Outcome
commit_to_outcome name cluster all input = outcome_loaded name cluster all (loaded_of (file_of all name) input_limit) input
