-- Opening a log file, and writing a file whole.
use Rattle.std.specs.Prelude.{◌≡◌, ℕ, List, [], length, Result, Ok, Err, Option, option_map, IfSome}
use Rattle.std.specs.FinMap as map
use Rattle.tcm_edges.specs.Files.{ChangesFile, Files, IsOldOrNew, OthersKept, content, file_of}
use Rattle.transformations.specs.declared.entry.Entry.{Entry}
use Rattle.script_session.specs.Lines.{open_line, whole_lines}
use Rattle.script_session.specs.LogFiles.{log_for, log_from}
use Rattle.script_session.specs.Machine.{SessionState, session_over}
use Rattle.script_session.specs.declared.refused_line.RefusedLine.{RefusedLine}
use Rattle.tcm_session.specs.declared.files.log_file.LogFault.{LogFault}
use Rattle.tcm_session.specs.declared.files.log_file.LogFault.TheVariants.{Refused, Memory}

-- a session over a log that was found good, and the number of bytes after the file's last line feed
pub record IsOpened (found : Result (List Entry) RefusedLine) (opened : List ℕ) (session : SessionState) (size : ℕ) : Type 0 where
  pub log : found ≡ Ok session.log
  pub over : session ≡ session_over session.log
  pub rest : size ≡ length opened

-- why a log isn't opened: its first refused line, or memory ran out
abbrev pub IsUnopened : Result (List Entry) RefusedLine → LogFault → Type 0
IsUnopened found (Refused refused) = found ≡ Err refused
IsUnopened found Memory = Unit {0}

-- the lines of a log file after its header, which was found good; or no whole line
pub record IsAfterHeader (want : Option (List ℕ)) (file lines : List ℕ) : Type 0 where
  pub log : log_for want file ≡ log_from 2 [] (whole_lines lines)
  pub opened : open_line file ≡ open_line lines

-- the store holds these bytes in a file, or no file if there are none
abbrev pub HoldsFile : List ℕ → List ℕ → Option Files → Type 0
HoldsFile name bytes files = IfSome files (λ all. content (file_of all name) ≡ bytes)

-- a file has these bytes, and no other file changed, if the store tells its files
abbrev pub IsWritten : List ℕ → List ℕ → Option Files → Option Files → Type 0
IsWritten name bytes old new = new ≡ option_map (λ all. map.insert all name bytes) old

-- a file is as before, or has these bytes, and no other file changed
abbrev pub IsKeptOrWritten : List ℕ → List ℕ → Option Files → Option Files → Type 0
IsKeptOrWritten name bytes old new = ChangesFile (IsOldOrNew bytes) old new name × OthersKept old new name
