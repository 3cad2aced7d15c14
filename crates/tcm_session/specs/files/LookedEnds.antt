-- The end of a run that looks into the log in a file: what is said of the log, unless there is none.
use Rattle.std.specs.Prelude.{ℕ, List, Result, Ok, Err}
use Rattle.tcm_edges.specs.Files.{Files, file_of, loaded_of}
use Rattle.tcm_edges.specs.declared.store.Loaded.{Loaded}
use Rattle.tcm_edges.specs.declared.store.Loaded.TheVariants as loaded
use Rattle.transformations.specs.declared.entry.Entry.{Entry}
use Rattle.script_session.specs.LogFiles.{log_of}
use Rattle.script_session.specs.declared.refused_line.RefusedLine.{RefusedLine}
use Rattle.tcm_session.specs.Limits.{input_limit}
use Rattle.tcm_session.specs.declared.ending.Ending.{Ending}
use Rattle.tcm_session.specs.files.FileEnds.{absent_end, refused_end, too_large_end}

-- by the log in a file: what is said of it, or its first line that is refused
abbrev pub log_end : (List Entry → Ending) → Result (List Entry) RefusedLine → Ending
log_end said (Ok log) = said log
log_end said (Err refused) = refused_end refused

-- by what a load gives: an absent file, one that is too large, or bytes
abbrev pub file_end : List ℕ → (List Entry → Ending) → Loaded → Ending
file_end name said loaded.Absent = absent_end name
file_end name said (loaded.TooLarge size) = too_large_end
file_end name said (loaded.Bytes file) = log_end said (log_of file)

-- by the files; `seen 0` are the files as the load of the log finds them
abbrev pub looked_end : List ℕ → (List Entry → Ending) → (ℕ → Files) → Ending
looked_end name said seen = file_end name said (loaded_of (file_of (seen 0) name) input_limit)
