-- The file of a log: the log in its lines, the first line that is refused, and the file once entries are added.
-- `cause.Line 0` stands where a case never comes.
use Rattle.std.specs.Prelude.{◌≡◌, ℕ, ◌+◌, if◌then◌else◌, List, [], ◌∷◌, ◌++◌, flat_map, length, Option, Some, None, option_map, Result, Ok, Err, ◌==◌, codes, decimal}
use Rattle.std.specs.FinMap as map
use Rattle.std.specs.Str.{bytes_eq}
use Rattle.tcm_edges.specs.Files.{Files, content, file_of}
use Rattle.transformations.specs.History.{commit_refusal}
use Rattle.transformations.specs.Log.{commands_of, entry_with_id}
use Rattle.transformations.specs.declared.entry.Entry.{Entry}
use Rattle.wire_json.specs.Reading.{reading}
use Rattle.wire_json.specs.EntryTexts.{entry_line}
use Rattle.wire_json.specs.Header.{header_line}
use Rattle.wire_json.specs.declared.line.Line.{Line}
use Rattle.wire_json.specs.declared.line.Line.TheVariants as line
use Rattle.wire_json.specs.declared.line.ReadLineFault.{ReadLineFault}
use Rattle.wire_json.specs.declared.line.ReadLineFault.TheVariants as read
use Rattle.script_lang.specs.AnswerTexts.{bad_image_text, line as with_feed, refusal_text}
use Rattle.script_session.specs.Lines.{whole_lines}
use Rattle.script_session.specs.declared.refused_line.Cause.{Cause}
use Rattle.script_session.specs.declared.refused_line.Cause.TheVariants as cause
use Rattle.script_session.specs.declared.refused_line.RefusedLine.{RefusedLine}

-- ---- the log in a file

-- the cause to refuse an entry whose epoch isn't the next one of a log
abbrev pub wrong_epoch : List Entry → Entry → Option Cause
wrong_epoch log entry =
    if entry.epoch == length log + 1 then None else Some (cause.Epoch (length log + 1) entry.epoch)

-- the cause to refuse an entry whose id is in the log
abbrev pub id_again : List Entry → Entry → Option Cause
id_again log entry = option_map (λ (earlier : Entry). cause.Id entry.id earlier.epoch) (entry_with_id log entry.id)

-- the cause to refuse an entry whose command is refused as the next one of a log
abbrev pub command_refused : List Entry → Entry → Option Cause
command_refused log entry = option_map (cause.Command entry.epoch) (commit_refusal (commands_of log) entry.cmd)

-- the first of some causes
abbrev pub first_cause : List (Option Cause) → Option Cause
first_cause [] = None
first_cause (Some cause ∷ later) = Some cause
first_cause (None ∷ later) = first_cause later

-- the first cause to refuse an entry as the next one of a log: its epoch, its id or its command
abbrev pub entry_cause : List Entry → Entry → Option Cause
entry_cause log entry = first_cause (wrong_epoch log entry ∷ id_again log entry ∷ command_refused log entry ∷ [])

-- this entry, or the cause to refuse it
abbrev pub unless_refused : Entry → Option Cause → Result Entry Cause
unless_refused entry None = Ok entry
unless_refused entry (Some cause) = Err cause

-- what was read as the next line of a log: its entry, or the first cause to refuse the line; `reading` never gives
-- Memory
abbrev pub entry_read : List Entry → Result Line ReadLineFault → Result Entry Cause
entry_read log (Ok (line.Header cluster)) = Err cause.Header
entry_read log (Ok (line.Entry entry)) = unless_refused entry (entry_cause log entry)
entry_read log (Ok (line.Snapshot image)) = Err cause.NotEntry
entry_read log (Err (read.Bad rule)) = Err (cause.Line rule)
entry_read log (Err read.Memory) = Err (cause.Line 0)

-- the entry of the next line of a log, or the first cause to refuse the line
unfoldable pub next_entry : List Entry → List ℕ → Result Entry Cause
next_entry log bytes = entry_read log (reading bytes)

-- goes on with what was made of a line, or refuses it as the line with this number of the file with this number
abbrev pub goes_on : {A B : Type 0} → ℕ → ℕ → Result A Cause → (A → Result B RefusedLine) → Result B RefusedLine
goes_on file number (Ok came) next = next came
goes_on file number (Err cause) next = Err (record { file = file; line = number; cause = cause })

-- the log that lines of entries make after a log, or the first line that is refused. Entry 1 stands on line `first`, so
-- the line after a log of n entries has the number n + first
abbrev pub log_from : ℕ → List Entry → List (List ℕ) → Result (List Entry) RefusedLine
log_from first log [] = Ok log
log_from first log (bytes ∷ lines) =
    goes_on 1 (length log + first) (next_entry log bytes) (λ entry. log_from first (log ++ entry ∷ []) lines)

-- the cause to refuse a header that names `came`, where the cluster must be `want`, if one is wanted
abbrev pub other_cluster : Option (List ℕ) → List ℕ → Option Cause
other_cluster None came = None
other_cluster (Some want) came = if bytes_eq want came then None else Some (cause.Cluster want came)

-- the cause to refuse what was read as the first line of a log file, which must be a header, of the cluster that is
-- wanted, if one is; `reading` never gives Memory
abbrev pub header_read : Option (List ℕ) → Result Line ReadLineFault → Option Cause
header_read want (Ok (line.Header came)) = other_cluster want came
header_read want (Ok (line.Entry entry)) = Some cause.Format
header_read want (Ok (line.Snapshot image)) = Some cause.Format
header_read want (Err (read.Bad rule)) = Some (cause.Line rule)
header_read want (Err read.Memory) = Some (cause.Line 0)

-- the cause to refuse the first line of a log file
unfoldable pub header_cause : Option (List ℕ) → List ℕ → Option Cause
header_cause want bytes = header_read want (reading bytes)

-- the log of the lines after the first line, unless this is refused
abbrev pub log_after : Option Cause → List (List ℕ) → Result (List Entry) RefusedLine
log_after None lines = log_from 2 [] lines
log_after (Some cause) lines = Err (record { file = 1; line = 1; cause = cause })

-- the log in the lines of a file; without a line it is empty
abbrev pub log_in : Option (List ℕ) → List (List ℕ) → Result (List Entry) RefusedLine
log_in want [] = Ok []
log_in want (bytes ∷ lines) = log_after (header_cause want bytes) lines

-- the log in a file, which must be that of a cluster, if one is wanted; bytes after the last line feed are no line
abbrev pub log_for : Option (List ℕ) → List ℕ → Result (List Entry) RefusedLine
log_for want file = log_in want (whole_lines file)

-- the log in a file, of whichever cluster
abbrev pub log_of : List ℕ → Result (List Entry) RefusedLine
log_of file = log_for None file

-- the log in a file of the older format, which has no header
abbrev pub old_log_of : List ℕ → Result (List Entry) RefusedLine
old_log_of file = log_from 1 [] (whole_lines file)

-- ---- the text for a line that is refused

-- the words for a cause
abbrev pub cause_text : Cause → List ℕ
cause_text (cause.Line rule) = codes "LINE " ++ decimal rule
cause_text cause.Format = codes "FORMAT"
cause_text cause.Header = codes "HEADER"
cause_text (cause.Cluster want came) = codes "CLUSTER " ++ want ++ codes " " ++ came
cause_text cause.NotEntry = codes "NOT-ENTRY"
cause_text (cause.Epoch want came) = codes "EPOCH " ++ decimal want ++ codes " " ++ decimal came
cause_text (cause.Id id epoch) = codes "ID " ++ decimal id ++ codes " " ++ decimal epoch
cause_text (cause.Image bad) = codes "IMAGE " ++ bad_image_text bad
cause_text (cause.Command epoch refusal) = codes "COMMAND " ++ decimal epoch ++ codes " " ++ refusal_text refusal
cause_text (cause.Fork epoch held came) = codes "FORK " ++ decimal epoch

-- the lines of the entries of a fork: the one that waits, and the one that came
abbrev pub fork_lines : Cause → List ℕ
fork_lines (cause.Fork epoch held came) = entry_line held ++ entry_line came
fork_lines _ = []

-- the line with the number of the file, the number of the line, and the cause
abbrev pub refused_head : RefusedLine → List ℕ
refused_head refused =
    with_feed (codes "REFUSED " ++ decimal refused.file ++ codes " " ++ decimal refused.line ++ codes " " ++ cause_text refused.cause)

-- the text for a line that is refused; after a fork it has the lines of the two entries, too
unfoldable pub refused_line_text : RefusedLine → List ℕ
refused_line_text refused = refused_head refused ++ fork_lines refused.cause

-- ---- the file after a run

-- the lines of entries
abbrev pub entry_lines : List Entry → List ℕ
entry_lines entries = flat_map entry_line entries

-- the files after a text is added to the file with this name, if a name is given; to add nothing makes no file
abbrev pub with_added : Option (List ℕ) → List ℕ → Files → Files
with_added None text all = all
with_added (Some name) [] all = all
with_added (Some name) (byte ∷ text) all = map.insert all name (content (file_of all name) ++ (byte ∷ text))

-- lines, each with its line feed; the header of a cluster, if there is no line
abbrev pub lines_or_header : List ℕ → List (List ℕ) → List ℕ
lines_or_header cluster [] = header_line cluster
lines_or_header cluster lines = flat_map with_feed lines

-- what a log file keeps when a script begins, before an entry is added: its whole lines, or the header
abbrev pub base_of : List ℕ → List ℕ → List ℕ
base_of cluster file = lines_or_header cluster (whole_lines file)

-- a text is added, if the store tells its files
abbrev pub Gains : Option (List ℕ) → List ℕ → Option Files → Option Files → Type 0
Gains name text old new = new ≡ option_map (with_added name text) old
