-- The replay of files: their lines are handed to one follower, one after another. `cause.Line 0` stands where a case
-- never comes.
use Rattle.std.specs.Prelude.{ℕ, suc, ◌+◌, ◌==◌, if◌then◌else◌, List, [], ◌∷◌, ◌++◌, flat_map, length, Option, Some, None, Result, Ok, Err, codes, decimal}
use Rattle.tcm_edges.specs.Files.{Files, file_of, loaded_of}
use Rattle.tcm_edges.specs.declared.store.Loaded.{Loaded}
use Rattle.tcm_edges.specs.declared.store.Loaded.TheVariants as loaded
use Rattle.transformations.specs.declared.entry.Entry.{Entry}
use Rattle.transformations.specs.declared.image.Image.{Image}
use Rattle.follower_log.specs.Follower.{FollowerState, empty_follower, hand_entry, hand_image}
use Rattle.follower_log.specs.declared.fault.FollowerFault.{FollowerFault}
use Rattle.follower_log.specs.declared.fault.FollowerFault.TheVariants as fault
use Rattle.follower_log.specs.declared.took.Took.{Took}
use Rattle.follower_log.specs.declared.took.Took.TheVariants.{Full}
use Rattle.wire_json.specs.Reading.{reading}
use Rattle.wire_json.specs.declared.line.Line.{Line}
use Rattle.wire_json.specs.declared.line.Line.TheVariants as line
use Rattle.wire_json.specs.declared.line.ReadLineFault.{ReadLineFault}
use Rattle.wire_json.specs.declared.line.ReadLineFault.TheVariants as read
use Rattle.script_lang.specs.AnswerTexts.{line as with_feed, nodes_text, place_text}
use Rattle.tcm_session.specs.Limits.{input_limit}
use Rattle.script_session.specs.Lines.{whole_lines}
use Rattle.tcm_session.specs.files.FileEnds.{absent_end, refused_end, too_large_end}
use Rattle.script_session.specs.LogFiles.{goes_on, other_cluster}
use Rattle.tcm_session.specs.declared.ending.Ending.{Ending}
use Rattle.script_session.specs.declared.refused_line.Cause.{Cause}
use Rattle.script_session.specs.declared.refused_line.Cause.TheVariants as cause
use Rattle.script_session.specs.declared.refused_line.RefusedLine.{RefusedLine}
use Rattle.tcm_session.specs.declared.files.replay.Replay.{Replay}

-- the replay before the first line
abbrev pub nothing_replayed : Replay
nothing_replayed = record { follower = empty_follower; lines = 0; full = 0; cluster = None }

-- ---- a line

-- 1 for a line that is answered Full, 0 for another one
abbrev pub full_count : Took → ℕ
full_count (Full epoch) = 1
full_count _ = 0

-- the replay after a line was answered; a fork, an entry whose command is refused, and an image that isn't valid refuse
-- the line (a step of a follower is never without memory)
abbrev pub answered : Replay → FollowerState → Result Took FollowerFault → Result Replay Cause
answered replay after (Ok took) =
    Ok (record replay { follower = after; lines = replay.lines + 1; full = replay.full + full_count took })
answered replay after (Err (fault.Fork epoch held came)) = Err (cause.Fork epoch held came)
answered replay after (Err (fault.Refused epoch refusal)) = Err (cause.Command epoch refusal)
answered replay after (Err (fault.BadImage bad)) = Err (cause.Image bad)
answered replay after (Err fault.Memory) = Err (cause.Line 0)
answered replay after (Err (fault.MemoryAt epoch)) = Err (cause.Line 0)

-- an entry is handed to the follower
abbrev pub entry_replayed : Replay → Entry → Result Replay Cause
entry_replayed replay entry = (let step = hand_entry replay.follower entry in answered replay step.after step.answer)

-- an image is handed to the follower
abbrev pub image_replayed : Replay → Image → Result Replay Cause
image_replayed replay image = (let step = hand_image replay.follower image in answered replay step.after step.answer)

-- a header, unless there is a cause to refuse it: it counts as a line, names the cluster of later headers, and changes
-- no follower
abbrev pub headed : Replay → List ℕ → Option Cause → Result Replay Cause
headed replay came None = Ok (record replay { lines = replay.lines + 1; cluster = Some came })
headed replay came (Some cause) = Err cause

-- a header stands on line 1 of its file, and names the cluster of the headers before it
abbrev pub header_replayed : ℕ → Replay → List ℕ → Result Replay Cause
header_replayed number replay came =
    if number == 1 then headed replay came (other_cluster replay.cluster came) else Err cause.Header

-- what was read as the line with this number of its file; a line that breaks a rule is refused, and `reading` never
-- gives Memory
abbrev pub read_replayed : ℕ → Replay → Result Line ReadLineFault → Result Replay Cause
read_replayed number replay (Ok (line.Header came)) = header_replayed number replay came
read_replayed number replay (Ok (line.Entry entry)) = entry_replayed replay entry
read_replayed number replay (Ok (line.Snapshot image)) = image_replayed replay image
read_replayed number replay (Err (read.Bad rule)) = Err (cause.Line rule)
read_replayed number replay (Err read.Memory) = Err (cause.Line 0)

-- the replay after a line, or the cause to refuse it
unfoldable pub line_replayed : ℕ → Replay → List ℕ → Result Replay Cause
line_replayed number replay bytes = read_replayed number replay (reading bytes)

-- ---- the lines of a file

-- the replay after lines of a file, of which the first has this number; or the first line that is refused
abbrev pub lines_replayed : ℕ → ℕ → Replay → List (List ℕ) → Result Replay RefusedLine
lines_replayed file number replay [] = Ok replay
lines_replayed file number replay (bytes ∷ lines) =
    goes_on file number (line_replayed number replay bytes) (λ next. lines_replayed file (number + 1) next lines)

-- ---- files

-- a line that is refused ends the replay
abbrev pub unless_ended : Result Replay RefusedLine → Result Replay Ending
unless_ended (Ok replay) = Ok replay
unless_ended (Err refused) = Err (refused_end refused)

-- the replay after a file; bytes after its last line feed are passed over
abbrev pub file_replayed : ℕ → Replay → List ℕ → Result Replay Ending
file_replayed file replay bytes = unless_ended (lines_replayed file 1 replay (whole_lines bytes))

-- the replay after the file with this number and this name was loaded
abbrev pub loaded_replayed : ℕ → List ℕ → Replay → Loaded → Result Replay Ending
loaded_replayed file name replay loaded.Absent = Err (absent_end name)
loaded_replayed file name replay (loaded.TooLarge size) = Err too_large_end
loaded_replayed file name replay (loaded.Bytes bytes) = file_replayed file replay bytes

-- goes on after a file, unless the replay has ended
abbrev pub then_replayed : Result Replay Ending → (Replay → Result Replay Ending) → Result Replay Ending
then_replayed (Ok replay) next = next replay
then_replayed (Err ending) next = Err ending

-- the replay after files, of which the first has this number; `seen i` are the files as load i, counted from 0, finds
-- them
abbrev pub files_replayed : ℕ → Replay → List (List ℕ) → (ℕ → Files) → Result Replay Ending
files_replayed file replay [] seen = Ok replay
files_replayed file replay (name ∷ names) seen =
    then_replayed (loaded_replayed file name replay (loaded_of (file_of (seen 0) name) input_limit))
    (λ next. files_replayed (file + 1) next names (λ i. seen (suc i)))

-- ---- the end of a replay

-- the counts of lines, the epoch of the follower, and the number of waiting entries
abbrev pub report_head : Replay → List ℕ
report_head replay =
    with_feed (codes "REPLAY " ++ decimal replay.lines ++ codes " at " ++ decimal replay.follower.image.epoch
    ++ codes " waiting " ++ decimal (length replay.follower.waiting) ++ codes " full " ++ decimal replay.full)

-- the report: the head, the nodes of the follower's image, and the placements of its keyspaces, ascending by name
unfoldable pub report_text : Replay → List ℕ
report_text replay =
    let image = replay.follower.image in report_head replay ++ nodes_text image ++ flat_map (place_text image) image.keyspaces

-- a replay that isn't ended before ends with its report
abbrev pub ending_of : Result Replay Ending → Ending
ending_of (Ok replay) = record { status = 0; text = report_text replay }
ending_of (Err ending) = ending

-- the end of a replay of files
abbrev pub replay_ending : List (List ℕ) → (ℕ → Files) → Ending
replay_ending names seen = ending_of (files_replayed 1 nothing_replayed names seen)
