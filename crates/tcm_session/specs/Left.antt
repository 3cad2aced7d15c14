-- A run that a fault ended: the lines that it did, the bytes that it printed, and what it left in the files.
use Rattle.std.specs.Prelude.{◌≡◌, ◌≢◌, ◌⊎◌, ℕ, true, List, [], ◌∷◌, ◌++◌, Option, Some, None}
use Rattle.std.specs.Io.{StartsWith}
use Rattle.tcm_edges.specs.Files.{ChangesFile, Files, OthersKept, content, file_of}
use Rattle.script_session.specs.LogFiles.{base_of, entry_lines}
use Rattle.script_session.specs.Machine.{SessionState, answers, entries_added, reply, session_after, session_over}
use Rattle.tcm_session.specs.Outcome.{Outcome}
use Rattle.tcm_session.specs.Request.{CommitTo, Mend, Request}

-- ---- within the lines of a script

-- what is printed next: the answer to the next line, or the last text after the last line
abbrev pub next_text : SessionState → List (List ℕ) → List ℕ → List ℕ
next_text session [] last = last
next_text session (bytes ∷ lines) last = (reply session bytes).text

-- what is added to the log file next: the line of the entry that the next line adds, if it adds one
abbrev pub next_added : SessionState → List (List ℕ) → List ℕ
next_added session [] = []
next_added session (bytes ∷ lines) = entry_lines (reply session bytes).added

-- of the next text a prefix is printed, and of the next line of the file a prefix is added; printing begins only once
-- all of this line is added
pub record StopsNext (text entry printed added : List ℕ) : Type 0 where
  pub of_text : StartsWith text printed
  pub of_entry : StartsWith entry added
  pub order : printed ≢ [] → added ≡ entry

-- some of the lines are done: their answers are printed whole, and their entries added whole. Of the next answer a
-- prefix is printed, `answer_part`, and of the next entry's line a prefix is added, `entry_part`
pub record StopsIn (session : SessionState) (lines : List (List ℕ)) (last printed added : List ℕ) : Type 0 where
  pub done : List (List ℕ)
  pub rest : List (List ℕ)
  pub split : lines ≡ done ++ rest
  pub answer_part : List ℕ
  pub prints : printed ≡ answers session done ++ answer_part
  pub entry_part : List ℕ
  pub adds : added ≡ entry_lines (entries_added session done) ++ entry_part
  pub next : StopsNext (next_text (session_after session done) rest last) (next_added (session_after session done) rest) answer_part entry_part

-- each entry whose answer is printed whole is added whole, with those before it
abbrev pub HoldsAnswered : SessionState → List (List ℕ) → List ℕ → List ℕ → Type 0
HoldsAnswered session lines printed added =
    (before : List (List ℕ)) (bytes : List ℕ) (after : List (List ℕ)) → lines ≡ before ++ bytes ∷ after
    → StartsWith printed (answers session (before ++ bytes ∷ []))
    → StartsWith added (entry_lines (entries_added session (before ++ bytes ∷ [])))

-- ---- the files

-- the log file has its whole lines, or the header if it had none, and then what the lines of the outcome added before
-- the fault
pub record Grows (cluster : List ℕ) (o : Outcome) (printed : List ℕ) (status : ℕ) (file file' : Option (List ℕ)) : Type 0 where
  -- only a log that was found good, after which the input is read, changes
  pub good : o.reads ≡ true
  pub added : List ℕ
  pub stops : StopsIn (session_over o.log) o.lines o.last printed added
  pub holds : file' ≡ Some (base_of cluster (content file) ++ added)
  -- at status 4, a failed read, no part of an answer is printed, and no part of an entry added
  pub read_fault : status ≡ 4 → (stops.answer_part ≡ []) × (stops.entry_part ≡ [])

-- the log file is as before, and nothing is printed where the outcome reads its input; or `Grows` holds
abbrev pub LeavesLog : List ℕ → Outcome → List ℕ → ℕ → Option (List ℕ) → Option (List ℕ) → Type 0
LeavesLog cluster o printed status file file' =
    ((file' ≡ file) × (o.reads ≡ true → printed ≡ [])) ⊎ Grows cluster o printed status file file'

-- the file that is made is as before, or it was absent and is as in the outcome; bytes are printed only once it is as
-- in the outcome
pub record LeavesNew (name : List ℕ) (o : Outcome) (printed : List ℕ) (file file' : Option (List ℕ)) : Type 0 where
  pub whole : (file' ≡ file) ⊎ ((file ≡ None) × (file' ≡ file_of o.files name))
  pub order : printed ≢ [] → file' ≡ file_of o.files name

-- of all files only this one changes, as Change says
abbrev pub ChangesOnly : List ℕ → (Option (List ℕ) → Option (List ℕ) → Type 0) → Option Files → Option Files → Type 0
ChangesOnly name Change files files' = ChangesFile Change files files' name × OthersKept files files' name

-- what a fault leaves in the files, by what was asked for
abbrev pub LeavesFiles : Option Request → Option Files → Option Files → Outcome → List ℕ → ℕ → Type 0
LeavesFiles (Some (CommitTo log cluster)) files files' o printed status = ChangesOnly log (LeavesLog cluster o printed status) files files'
LeavesFiles (Some (Mend old new cluster)) files files' o printed status = ChangesOnly new (LeavesNew new o printed) files files'
LeavesFiles _ files files' o printed status = files' ≡ files
