-- The outcome of `mend2 OLD NEW CLUSTER`: a log file of the older format, OLD, written anew as that of a cluster, NEW.
use Rattle.std.specs.Prelude.{ℕ, List, ◌++◌, length, codes, decimal, Option, Some, None, Result, Ok, Err}
use Rattle.std.specs.FinMap as map
use Rattle.tcm_edges.specs.Files.{Files, file_of, loaded_of}
use Rattle.tcm_edges.specs.declared.store.Loaded.{Loaded}
use Rattle.tcm_edges.specs.declared.store.Loaded.TheVariants as loaded
use Rattle.transformations.specs.declared.entry.Entry.{Entry}
use Rattle.wire_json.specs.Header.{header_line}
use Rattle.script_lang.specs.AnswerTexts.{line}
use Rattle.script_session.specs.LogFiles.{entry_lines, old_log_of}
use Rattle.script_session.specs.declared.refused_line.RefusedLine.{RefusedLine}
use Rattle.tcm_session.specs.Limits.{input_limit}
use Rattle.tcm_session.specs.Outcome.{Outcome, ended_outcome}
use Rattle.tcm_session.specs.declared.ending.Ending.{Ending}
use Rattle.tcm_session.specs.files.FileEnds.{absent_end, refused_end, too_large_end}

-- the log file of a cluster: its header, and the line of each entry
abbrev pub log_text : List ℕ → List Entry → List ℕ
log_text cluster log = header_line cluster ++ entry_lines log

-- how the command ends, and the bytes of the file that it makes, if it makes one
pub record Mending : Type 0 where
  pub ending : Ending
  pub made : Option (List ℕ)

-- the command ends so, and makes no file
abbrev pub makes_nothing : Ending → Mending
makes_nothing ending = record { ending = ending; made = None }

-- the end once NEW is made, with the number of entries
abbrev pub mended_end : ℕ → Ending
mended_end entries = record { status = 0; text = line (codes "MENDED " ++ decimal entries) }

-- the end at a NEW that is there
abbrev pub file_there_end : List ℕ → Ending
file_there_end name = record { status = 7; text = line (codes "FILE-THERE " ++ name) }

-- by the log in OLD and the file that is found as NEW: NEW is made only where no file is there
abbrev pub mending_to : List ℕ → List ℕ → List Entry → Option (List ℕ) → Mending
mending_to new cluster log (Some file) = makes_nothing (file_there_end new)
mending_to new cluster log None = record { ending = mended_end (length log); made = Some (log_text cluster log) }

-- by the log in OLD, or its first line that is refused
abbrev pub mending_from : List ℕ → List ℕ → Result (List Entry) RefusedLine → Option (List ℕ) → Mending
mending_from new cluster (Ok log) found = mending_to new cluster log found
mending_from new cluster (Err refused) found = makes_nothing (refused_end refused)

-- by what the load of OLD gives
abbrev pub mending_loaded : List ℕ → List ℕ → List ℕ → Loaded → Option (List ℕ) → Mending
mending_loaded old new cluster loaded.Absent found = makes_nothing (absent_end old)
mending_loaded old new cluster (loaded.TooLarge size) found = makes_nothing too_large_end
mending_loaded old new cluster (loaded.Bytes file) found = mending_from new cluster (old_log_of file) found

-- by the files: `seen 0` are the files as the load of OLD finds them, and `seen 1` as that of NEW does
abbrev pub mending : List ℕ → List ℕ → List ℕ → (ℕ → Files) → Mending
mending old new cluster seen =
    mending_loaded old new cluster (loaded_of (file_of (seen 0) old) input_limit) (file_of (seen 1) new)

-- the files once a file is made, if one is
abbrev pub with_made : List ℕ → Option (List ℕ) → Files → Files
with_made new None all = all
with_made new (Some bytes) all = map.insert all new bytes

-- the outcome of a command that makes this file, if it makes one
abbrev pub made_outcome : List ℕ → Mending → Files → Outcome
made_outcome new mending all = ended_outcome mending.ending (with_made new mending.made all)

-- the outcome of `mend2`
abbrev pub mend_outcome : List ℕ → List ℕ → List ℕ → (ℕ → Files) → Outcome
mend_outcome old new cluster seen = made_outcome new (mending old new cluster seen) (seen 0)
