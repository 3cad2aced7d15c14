-- The parts of a run: where it stands, and what it reads, answers and writes.
use Rattle.std.specs.Prelude.{◌≡◌, ◌≢◌, ℕ, ◌≤◌, ◌==◌, ◌||◌, IsTrue, List, [], ◌++◌, length, take, Option, None, Result, OnOk, IfErr, IfSome}
use Rattle.std.specs.Io.KnownBytes.{Appends, Consumes, IsAtEnd}
use Rattle.tcm_edges.specs.Files.{Files}
use Rattle.tcm_edges.specs.Owed.{WritesPrefix}
use Rattle.tcm_session.specs.Counts.{Counts}
use Rattle.tcm_session.specs.code.RunFaults.{counts_by}
use Rattle.script_session.specs.Lines.{HasNoFeed, whole_lines, open_line}
use Rattle.script_session.specs.LogFiles.{Gains, entry_lines}
use Rattle.script_session.specs.Machine.{SessionState, answers, entries_added, session_after}
use Rattle.tcm_session.specs.Outcome.{Outcome, input_limit}
use Rattle.tcm_session.specs.Run.{AreSeen, RunsTo, Told}
use Rattle.tcm_session.specs.code.Stops.{Stopped, StopsThere}
use Rattle.tcm_session.specs.declared.run_fault.RunFault.{RunFault}
use Rattle.tcm_session.specs.declared.run_fault.RunFault.TheVariants as fault
use Rattle.tcm_session.specs.declared.scripts.pieces.ReadEnd.{ReadEnd}
use Rattle.tcm_session.specs.declared.scripts.pieces.ReadEnd.TheVariants as end
use Rattle.tcm_session.specs.declared.scripts.script.Script.{Script}

-- the most bytes that are kept of a line: one more than a line may have, so a line that is too long stays too long
abbrev pub most_kept : ℕ
most_kept = 16385

-- the bytes that are kept of a line
abbrev pub kept_of : List ℕ → List ℕ
kept_of bytes = take most_kept bytes

-- the bytes that are kept of a line that has begun
pub record IsBegun (bytes : List ℕ) : Type 0 where
  pub plain : HasNoFeed bytes
  pub few : length bytes ≤ most_kept

-- where a run stands: the session, what is kept of the line that has begun, the bytes that are written, and the files
pub record Standing : Type 0 where
  pub session : SessionState
  pub begun : List ℕ
  pub written : Option (List ℕ)
  pub files : Option Files

-- where a run stands, as a record
abbrev pub standing : SessionState → List ℕ → Option (List ℕ) → Option Files → Standing
standing session begun written files = record { session = session; begun = begun; written = written; files = files }

-- where a script stands
abbrev pub script_at : Script → Option (List ℕ) → Option Files → Standing
script_at script written files = standing script.session script.begun.items written files

-- the lines that end among bytes after the line that has begun
abbrev pub lines_ended : Standing → List ℕ → List (List ℕ)
lines_ended at bytes = whole_lines (at.begun ++ bytes)

-- bytes were taken: the lines that end among them are answered, and their entries are in the file
pub record Takes (file : Option (List ℕ)) (bytes : List ℕ) (at at' : Standing) : Type 0 where
  pub session : at'.session ≡ session_after at.session (lines_ended at bytes)
  pub begun : at'.begun ≡ kept_of (open_line (at.begun ++ bytes))
  pub answered : Appends at.written at'.written (answers at.session (lines_ended at bytes))
  pub files : Gains file (entry_lines (entries_added at.session (lines_ended at bytes))) at.files at'.files

-- reading stopped at a fault, after at most `most` bytes were read, within the lines that end among them; at a fault of
-- the source all these lines are done
pub record StopsAt (name : Option (List ℕ)) (cause : RunFault) (most : ℕ) (left : Option (List ℕ)) (at : Standing) (after : Told) : Type 0 where
  pub bytes : List ℕ
  pub consumed : Consumes left after.left bytes
  pub bounded : length bytes ≤ most
  pub stopped : Stopped (StopsThere (cause ≡ fault.Source) at.session (lines_ended at bytes)) name at.written after.written at.files after.files

-- one read of n bytes, which are taken
pub record ReadsOnce (file : Option (List ℕ)) (n : ℕ) (left left' : Option (List ℕ)) (at at' : Standing) : Type 0 where
  pub bytes : List ℕ
  pub count : length bytes ≡ n
  pub consumed : Consumes left left' bytes
  pub at_end : n ≡ 0 → IsAtEnd left'
  pub takes : Takes file bytes at at'

-- the bytes that are read at the limit: no byte at the end of the input, else one byte
abbrev pub PastBy : ReadEnd → Option (List ℕ) → List ℕ → Type 0
PastBy end.AtEnd left' past = IsAtEnd left' × (past ≡ [])
PastBy end.PastLimit left' past = length past ≡ 1

-- a read at the limit
pub record ReadsPast (ending : ReadEnd) (left left' : Option (List ℕ)) : Type 0 where
  pub past : List ℕ
  pub consumed : Consumes left left' past
  pub by : PastBy ending left' past

-- how the reading of a script ends: at its end, or with one byte past the limit
abbrev pub EndsBy : ReadEnd → Option (List ℕ) → List ℕ → List ℕ → Type 0
EndsBy end.AtEnd left' bytes past = IsAtEnd left' × (length bytes ≤ input_limit) × (past ≡ [])
EndsBy end.PastLimit left' bytes past = (length bytes ≡ input_limit) × (length past ≡ 1)

-- a script was read to its end, or one byte past the limit
pub record ReadsTo (file : Option (List ℕ)) (ending : ReadEnd) (left left' : Option (List ℕ)) (at at' : Standing) : Type 0 where
  pub bytes : List ℕ
  pub past : List ℕ
  pub consumed : Consumes left left' (bytes ++ past)
  pub ends : EndsBy ending left' bytes past
  pub takes : Takes file bytes at at'

-- a text is written, or a prefix of it at a fault
pub record Writes {T : Type 0} (text : List ℕ) (written written' : Option (List ℕ)) (before after : Counts) (result : Result T RunFault) : Type 0 where
  pub whole : OnOk result (Appends written written' text)
  pub part : WritesPrefix written written' text
  pub cause : after ≡ counts_by result before

-- a run that was given some input, and has the outcome of this input; Left holds if a fault ends it
pub record RunsFor (outcome_of : List ℕ → Outcome) (Left : Outcome → List ℕ → ℕ → Type 0) (InputKept : Type 0) (before after : Told) (status : ℕ) : Type 0 where
  pub given : List ℕ
  pub told_input : IfSome before.left (λ bytes. bytes ≡ given)
  pub to : RunsTo (outcome_of given) (Left (outcome_of given)) InputKept before after status

-- a store may hold these files: it tells nothing else
abbrev pub MayHold : Option Files → Files → Type 0
MayHold files all = IfSome files (λ these. these ≡ all)

-- a run over a store, for all files that the store may hold
abbrev pub RunsOnAny : (Files → List ℕ → Outcome) → (Outcome → List ℕ → ℕ → Type 0) → Type 0 → Told → Told → ℕ → Type 0
RunsOnAny outcome_of Left InputKept before after status =
    (all : Files) → MayHold before.files all → RunsFor (outcome_of all) Left InputKept before after status

-- a run over a store that may hold some files
pub record RunsOn (outcome_of : Files → List ℕ → Outcome) (Left : Outcome → List ℕ → ℕ → Type 0) (InputKept : Type 0) (before after : Told) (status : ℕ) : Type 0 where
  pub all : Files
  pub held : MayHold before.files all
  pub runs : RunsFor (outcome_of all) Left InputKept before after status

-- a run over a store whose loads may find some files
pub record RunsSeen (outcome_of : (ℕ → Files) → List ℕ → Outcome) (Left : Outcome → List ℕ → ℕ → Type 0) (InputKept : Type 0) (before after : Told) (status : ℕ) : Type 0 where
  pub seen : ℕ → Files
  pub held : AreSeen before.files seen
  pub runs : RunsFor (outcome_of seen) Left InputKept before after status

-- the statuses of runs that no fault ends
abbrev pub IsEnd : ℕ → Type 0
IsEnd status = IsTrue ((status == 0) || (status == 2) || (status == 3) || (status == 7) || (status == 8))

-- without the name of a file, the store isn't used, and so it doesn't fail
abbrev pub LeavesStore : {D T : Type 0} → Option (List ℕ) → D → D → Result T RunFault → Type 0
LeavesStore name store store' result = name ≡ None → (store' ≡ store) × IfErr result (λ e. e ≢ fault.Store)
