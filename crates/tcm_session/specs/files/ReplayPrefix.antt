-- The entries and images of one log that a replay takes, and their longest gapless prefix.
use Rattle.std.specs.Prelude.{◌≡◌, ℕ, suc, List, [], ◌∷◌, Result, Ok, Err}
use Rattle.std.specs.List.{AllByRecursion}
use Rattle.tcm_edges.specs.Files.{Files, file_of, loaded_of}
use Rattle.tcm_edges.specs.declared.store.Loaded.{Loaded}
use Rattle.tcm_edges.specs.declared.store.Loaded.TheVariants as loaded
use Rattle.transformations.specs.declared.entry.Entry.{Entry}
use Rattle.transformations.specs.declared.image.Image.{Image}
use Rattle.follower_log.specs.Follower.{FollowerState, empty_follower, hand_entry, hand_image}
use Rattle.follower_log.specs.Prefix.{IsEntryOf, IsImageOf, Taken, nothing_taken, with_entry, with_image}
use Rattle.wire_json.specs.Reading.{reading}
use Rattle.wire_json.specs.declared.line.Line.{Line}
use Rattle.wire_json.specs.declared.line.Line.TheVariants as line
use Rattle.wire_json.specs.declared.line.ReadLineFault.{ReadLineFault}
use Rattle.tcm_session.specs.Limits.{input_limit}
use Rattle.script_session.specs.Lines.{whole_lines}
use Rattle.tcm_session.specs.files.Replay.{report_text}
use Rattle.script_session.specs.Taken.{ShowsPrefix, unless_full}
use Rattle.tcm_session.specs.declared.files.replay.Replay.{Replay}

-- ---- what is taken

-- a follower, and what it took
pub record Taking : Type 0 where
  pub follower : FollowerState
  pub taken : Taken

-- the follower before the first line, and nothing taken
abbrev pub nothing_yet : Taking
nothing_yet = record { follower = empty_follower; taken = nothing_taken }

-- an entry is handed over
abbrev pub entry_taken : Taking → Entry → Taking
entry_taken so_far entry =
    let step = hand_entry so_far.follower entry in
    record { follower = step.after; taken = unless_full step.answer so_far.taken (with_entry so_far.taken entry.epoch) }

-- an image is handed over
abbrev pub image_taken : Taking → Image → Taking
image_taken so_far image =
    let step = hand_image so_far.follower image in
    record { follower = step.after; taken = unless_full step.answer so_far.taken (with_image so_far.taken image.epoch) }

-- what was read as a line is handed over
abbrev pub read_taken : Taking → Result Line ReadLineFault → Taking
read_taken so_far (Ok (line.Header cluster)) = so_far
read_taken so_far (Ok (line.Entry entry)) = entry_taken so_far entry
read_taken so_far (Ok (line.Snapshot image)) = image_taken so_far image
read_taken so_far (Err fault) = so_far

-- lines are handed over, one after another
abbrev pub lines_taken : Taking → List (List ℕ) → Taking
lines_taken so_far [] = so_far
lines_taken so_far (bytes ∷ lines) = lines_taken (read_taken so_far (reading bytes)) lines

-- the whole lines of a file that was loaded; none, if it is absent or too large
abbrev pub loaded_lines : Loaded → List (List ℕ)
loaded_lines (loaded.Bytes bytes) = whole_lines bytes
loaded_lines _ = []

-- the lines of files are handed over, one file after another
abbrev pub files_taken : Taking → List (List ℕ) → (ℕ → Files) → Taking
files_taken so_far [] seen = so_far
files_taken so_far (name ∷ names) seen =
    files_taken (lines_taken so_far (loaded_lines (loaded_of (file_of (seen 0) name) input_limit))) names (λ i. seen (suc i))

-- what a replay of files takes
abbrev pub taken_of_files : List (List ℕ) → (ℕ → Files) → Taken
taken_of_files names seen = (files_taken nothing_yet names seen).taken

-- ---- files of one log

-- a line reads as an entry of a log, or as an image of it; or it is a header, of which nothing is asked
abbrev pub ReadsAsPart : List Entry → Result Line ReadLineFault → Type 0
ReadsAsPart log (Ok (line.Header cluster)) = Unit {0}
ReadsAsPart log (Ok (line.Entry entry)) = IsEntryOf log entry
ReadsAsPart log (Ok (line.Snapshot image)) = IsImageOf log image
ReadsAsPart log (Err fault) = ⊥

-- each of some lines reads so
abbrev pub AreLinesOf : List Entry → List (List ℕ) → Type 0
AreLinesOf log lines = AllByRecursion (λ bytes. ReadsAsPart log (reading bytes)) lines

-- each whole line of these files that isn't a header reads as an entry of a log, or as an image of it
abbrev pub AreFilesOf : List Entry → List (List ℕ) → (ℕ → Files) → Type 0
AreFilesOf log [] seen = Unit {0}
AreFilesOf log (name ∷ names) seen =
    AreLinesOf log (loaded_lines (loaded_of (file_of (seen 0) name) input_limit)) × AreFilesOf log names (λ i. seen (suc i))

-- ---- headers

-- a line that is a header names this cluster
abbrev pub MayHead : List ℕ → Result Line ReadLineFault → Type 0
MayHead cluster (Ok (line.Header came)) = came ≡ cluster
MayHead cluster read = Unit {0}

-- a line isn't a header
abbrev pub IsNoHeader : Result Line ReadLineFault → Type 0
IsNoHeader (Ok (line.Header came)) = ⊥
IsNoHeader read = Unit {0}

-- of the lines of a file at most the first is a header, and then it names this cluster
abbrev pub AreHeaded : List ℕ → List (List ℕ) → Type 0
AreHeaded cluster [] = Unit {0}
AreHeaded cluster (bytes ∷ lines) = MayHead cluster (reading bytes) × AllByRecursion (λ later. IsNoHeader (reading later)) lines

-- each of some files has such lines
abbrev pub AreHeadedFiles : List ℕ → List (List ℕ) → (ℕ → Files) → Type 0
AreHeadedFiles cluster [] seen = Unit {0}
AreHeadedFiles cluster (name ∷ names) seen =
    AreHeaded cluster (loaded_lines (loaded_of (file_of (seen 0) name) input_limit))
    × AreHeadedFiles cluster names (λ i. seen (suc i))

-- ---- the report

-- the printed bytes are the report, with some counts, of a follower that shows the longest gapless prefix
pub record ReportsPrefix (log : List Entry) (taken : Taken) (printed : List ℕ) : Type 0 where
  pub replay : Replay
  pub shows : ShowsPrefix log taken replay.follower
  pub is : printed ≡ report_text replay
