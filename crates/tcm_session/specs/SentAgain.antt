-- A script that is sent again: what its commits are answered, and what becomes of the log.
use Rattle.std.specs.Prelude.{◌≡◌, ℕ, List, [], ◌∷◌, ◌++◌, take, Option, Some, Ok, IsOk}
use Rattle.transformations.specs.Log.{commit_of}
use Rattle.transformations.specs.declared.entry.Entry.{Entry}
use Rattle.script_lang.specs.Grammar.{line_of}
use Rattle.script_lang.specs.declared.script_line.ScriptLine.{ScriptLine}
use Rattle.script_lang.specs.declared.script_line.ScriptLine.TheVariants.{Commit}
use Rattle.script_session.specs.LogFiles.{base_of, entry_lines, log_for}
use Rattle.script_session.specs.Machine.{SessionState, entries_added, reply, session_after, session_next, session_over}

-- the text alone, if the line is a commit, and else none
abbrev pub answer_of_commit : Option ScriptLine → List ℕ → List (List ℕ)
answer_of_commit (Some (Commit id command)) text = text ∷ []
answer_of_commit said text = []

-- the answers to the commits among some lines
abbrev pub commit_answers : SessionState → List (List ℕ) → List (List ℕ)
commit_answers session [] = []
commit_answers session (bytes ∷ lines) =
    answer_of_commit (line_of bytes) (reply session bytes).text ++ commit_answers (session_next session bytes) lines

-- a line that is a commit is answered with an epoch
abbrev pub IsAccepted : SessionState → Option ScriptLine → Type 0
IsAccepted session (Some (Commit id command)) = IsOk (commit_of session.log id command).answer
IsAccepted session said = Unit {0}

-- each commit among some lines is answered with an epoch
abbrev pub AreAccepted : SessionState → List (List ℕ) → Type 0
AreAccepted session [] = Unit {0}
AreAccepted session (bytes ∷ lines) = IsAccepted session (line_of bytes) × AreAccepted (session_next session bytes) lines

-- the log after the first n lines of a script
abbrev pub log_at : List Entry → List (List ℕ) → ℕ → List Entry
log_at log lines n = (session_after (session_over log) (take n lines)).log

-- lines that are answered from one log come to the same as from another: each commit is answered with the same text,
-- and the log is the same afterwards
pub record ComesToSame (log log' : List Entry) (lines : List (List ℕ)) : Type 0 where
  pub answers : commit_answers (session_over log') lines ≡ commit_answers (session_over log) lines
  pub logs : (session_after (session_over log') lines).log ≡ (session_after (session_over log) lines).log

-- the bytes of a cluster's log file, once lines are answered from its log without a fault
abbrev pub file_after : List ℕ → List ℕ → List Entry → List (List ℕ) → List ℕ
file_after cluster file log lines = base_of cluster file ++ entry_lines (entries_added (session_over log) lines)

-- a log file that a fault left while lines were answered from a log: it reads as the log after the first n lines, and
-- the lines that are sent again make of it the file that one run without a fault makes, if each commit is accepted
pub record GoesOn (cluster : List ℕ) (log : List Entry) (lines : List (List ℕ)) (file file' : List ℕ) : Type 0 where
  pub n : ℕ
  pub reads : log_for (Some cluster) file' ≡ Ok (log_at log lines n)
  pub same : AreAccepted (session_over log) lines
      → file_after cluster file' (log_at log lines n) lines ≡ file_after cluster file log lines
