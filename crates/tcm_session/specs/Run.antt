-- What a run does, by what it is asked for: what it reads and prints, its status, and the files after it.
use Rattle.std.specs.Prelude.{◌≡◌, ◌≢◌, ℕ, ◌+◌, ◌≤◌, Bool, true, false, if◌then◌else◌, ◌==◌, List, ◌++◌, length, Option, Some, None, IfSome}
use Rattle.std.specs.Io.{StartsWith}
use Rattle.std.specs.Io.KnownBytes.{Appends, Consumes, IsAtEnd}
use Rattle.tcm_edges.specs.Causes.{one_more}
use Rattle.tcm_edges.specs.Files.{Files}
use Rattle.transformations.specs.declared.entry.Entry.{Entry}
use Rattle.tcm_session.specs.Commit.{commit_outcome, commit_to_outcome}
use Rattle.tcm_session.specs.Counts.{Counts}
use Rattle.tcm_session.specs.Gen.{gen_ending}
use Rattle.tcm_session.specs.Left.{ChangesOnly, LeavesLog, LeavesNew}
use Rattle.tcm_session.specs.Mend.{Mending, made_outcome, mending}
use Rattle.tcm_session.specs.Outcome.{Outcome, input_limit, printed_by}
use Rattle.tcm_session.specs.Request.{Cms, Commit, CommitTo, Gen, Mend, Plan, Replay, Request, Snapshot}
use Rattle.tcm_session.specs.Usage.{usage_end}
use Rattle.tcm_session.specs.declared.ending.Ending.{Ending}
use Rattle.tcm_session.specs.files.MemberRoute.{route_ending}
use Rattle.tcm_session.specs.files.Replay.{replay_ending}
use Rattle.tcm_session.specs.files.StateLine.{snapshot_ending}
use Rattle.tcm_session.specs.files.StreamPlan.{plan_ending}
use Rattle.script_session.specs.Lines.{whole_lines}
use Rattle.script_session.specs.Machine.{answers, session_over}

-- the statuses are 0 to 8. By the clauses, 0: what was asked for is done: lines answered, or a report, a state, counts,
-- a stream plan or a route printed, or a log file made. 1: memory ran out. 2: words that name no command. 3: a line of
-- a file is refused. 4, 5 and 6: the source, the sink or the store failed. 7: what is asked for isn't there: a file, an
-- epoch, a node's movement, a keyspace, or a node that is JOINED; or a file that is to be made is there. 8: an input or
-- a file is too large
abbrev pub IsStatus : ℕ → Type 0
IsStatus status = status ≤ 8

-- the status of a run that came to its end: memory didn't run out, and neither source, sink nor store failed
pub record IsFinal (status : ℕ) : Type 0 where
  pub memory : status ≢ 1
  pub source : status ≢ 4
  pub sink : status ≢ 5
  pub store : status ≢ 6

-- what the objects of a run tell: the bytes that are left of the input, those that are written, and the files
pub record Told : Type 0 where
  pub left : Option (List ℕ)
  pub written : Option (List ℕ)
  pub files : Option Files

-- what the objects tell, as a record
abbrev pub told : Option (List ℕ) → Option (List ℕ) → Option Files → Told
told left written files = record { left = left; written = written; files = files }

-- each load finds these files; a store that tells nothing may hold other files at each load
abbrev pub AreSeen : Option Files → (ℕ → Files) → Type 0
AreSeen files seen = IfSome files (λ these. (i : ℕ) → seen i ≡ these)

-- ---- scripts

-- there are an input of the run, and files as its load i, counted from 0, finds them. If the source tells its bytes,
-- they are the input; else it is some input. If the store tells its files, each load finds these; else they are some
-- files
pub record Given (left : Option (List ℕ)) (files : Option Files) : Type 0 where
  pub input : List ℕ
  pub seen : ℕ → Files
  pub told_input : IfSome left (λ bytes. bytes ≡ input)
  pub told_files : AreSeen files seen

-- a run that comes to this outcome
pub record ComesTo (o : Outcome) (written written' : Option (List ℕ)) (files' : Option Files) (ended : ℕ) : Type 0 where
  -- the printed bytes, which the sink gains: the bytes of the outcome begin with them
  pub printed : List ℕ
  pub wrote : Appends written written' printed
  pub prefix : StartsWith (printed_by o) printed
  -- at a final status the status, the printed bytes and the files are those of the outcome
  pub status : IsFinal ended → ended ≡ o.status
  pub whole : IsFinal ended → printed ≡ printed_by o
  pub files : IsFinal ended → IfSome files' (λ these. these ≡ o.files)

-- the bytes that a run reads from its source, with the log from which it answers lines
pub record HasRead (log : List Entry) (left left' written written' : Option (List ℕ)) (status : ℕ) : Type 0 where
  -- the bytes that are read: at most one more than the limit
  pub read : List ℕ
  pub consumed : Consumes left left' read
  pub most : length read ≤ input_limit + 1
  -- at status 4 the printed bytes are exactly the answers to the lines that end among the bytes read
  pub read_fault : status ≡ 4 → Appends written written' (answers (session_over log) (whole_lines read))

-- a script whose lines are answered has read its input to the end at status 0, and the byte past the limit at its
-- status 8; an outcome that reads no input keeps the source as it was, and doesn't end in 4
pub record ReadsAll (o : Outcome) (InputKept : Type 0) (left' : Option (List ℕ)) (read : List ℕ) (status : ℕ) : Type 0 where
  pub at_end : status ≡ 0 → o.reads ≡ true → IsAtEnd left'
  pub past_limit : status ≡ 8 → o.reads ≡ true → length read ≡ input_limit + 1
  pub unread : o.reads ≡ false → InputKept × (status ≢ 4)

-- a run that has this outcome: it prints it, and reads as it says; Left holds of the printed bytes and the status if a
-- fault or lack of memory (1, 4, 5 or 6) ends it
pub record RunsTo (o : Outcome) (Left : List ℕ → ℕ → Type 0) (InputKept : Type 0) (before after : Told) (status : ℕ) : Type 0 where
  pub comes : ComesTo o before.written after.written after.files status
  pub reads : HasRead o.log before.left after.left before.written after.written status
  pub all : ReadsAll o InputKept after.left reads.read status
  pub leaves : (IsFinal status → ⊥) → Left comes.printed status

-- a run of a script: its outcome is by the files, as its one load finds them, and by its input
pub record RunsScript (outcome_of : Files → List ℕ → Outcome) (Left : Outcome → List ℕ → ℕ → Type 0) (InputKept : Type 0) (before after : Told) (status : ℕ) : Type 0 where
  pub given : Given before.left before.files
  pub runs : RunsTo (outcome_of (given.seen 0) given.input) (Left (outcome_of (given.seen 0) given.input)) InputKept before after status

-- ---- other commands

-- an end is printed, or a prefix of its text if a fault or lack of memory comes first
pub record PrintsEnd (ending : Ending) (written written' : Option (List ℕ)) (ended : ℕ) : Type 0 where
  pub printed : List ℕ
  pub wrote : Appends written written' printed
  pub prefix : StartsWith ending.text printed
  pub status : IsFinal ended → ended ≡ ending.status
  pub whole : IsFinal ended → printed ≡ ending.text

-- a run that looks at most at files: it prints the end that they lead to, reads no input, and changes no file
pub record Looks (ending_of : (ℕ → Files) → Ending) (InputKept : Type 0) (before after : Told) (status : ℕ) : Type 0 where
  pub seen : ℕ → Files
  pub told_files : AreSeen before.files seen
  pub prints : PrintsEnd (ending_of seen) before.written after.written status
  pub unread : InputKept × (status ≢ 4)
  pub files : IsFinal status → IfSome after.files (λ these. these ≡ seen 0)
  pub leaves : (IsFinal status → ⊥) → after.files ≡ before.files

-- a run that makes a file: it prints the end that the files lead to, and reads no input; a fault or lack of memory
-- leaves the file as before, or it was absent and is whole, and no other file changes
pub record MakesFile (name : List ℕ) (mending_of : (ℕ → Files) → Mending) (InputKept : Type 0) (before after : Told) (status : ℕ) : Type 0 where
  pub seen : ℕ → Files
  pub told_files : AreSeen before.files seen
  pub prints : PrintsEnd (mending_of seen).ending before.written after.written status
  pub unread : InputKept × (status ≢ 4)
  pub files : IsFinal status → IfSome after.files (λ these. these ≡ (made_outcome name (mending_of seen) (seen 0)).files)
  pub leaves : (IsFinal status → ⊥)
      → ChangesOnly name (LeavesNew name (made_outcome name (mending_of seen) (seen 0)) prints.printed) before.files after.files

-- ---- each request

-- what a run for a request does
abbrev pub IsRun : Option Request → Type 0 → Told → Told → ℕ → Type 0
IsRun (Some Commit) InputKept before after status =
    RunsScript commit_outcome (λ o printed ended. after.files ≡ before.files) InputKept before after status
IsRun (Some (CommitTo log cluster)) InputKept before after status =
    RunsScript (commit_to_outcome log cluster) (λ o printed ended. ChangesOnly log (LeavesLog cluster o printed ended) before.files after.files) InputKept before after status
IsRun (Some (Replay files)) InputKept before after status = Looks (replay_ending files) InputKept before after status
IsRun (Some (Snapshot log epoch)) InputKept before after status = Looks (snapshot_ending log epoch) InputKept before after status
IsRun (Some (Gen start rounds)) InputKept before after status = Looks (λ _. gen_ending start rounds) InputKept before after status
IsRun (Some (Mend old new cluster)) InputKept before after status = MakesFile new (mending old new cluster) InputKept before after status
IsRun (Some (Plan log node keyspace)) InputKept before after status = Looks (plan_ending log node keyspace) InputKept before after status
IsRun (Some (Cms log from to)) InputKept before after status = Looks (route_ending log from to) InputKept before after status
IsRun None InputKept before after status = Looks (λ _. usage_end) InputKept before after status

-- ---- the status

-- the count of faults after a run: one more if its status says so, else the same
abbrev pub more_if : Bool → ℕ → ℕ
more_if failed count = if failed then one_more count else count

-- the meaning of a status, by the counts of faults before the run and after it: the run ends at its first fault, and
-- its status says where that came from
pub record HasStatus (before after : Counts) (status : ℕ) : Type 0 where
  pub is : IsStatus status
  pub source : after.source ≡ more_if (status == 4) before.source
  pub sink : after.sink ≡ more_if (status == 5) before.sink
  pub store : after.store ≡ more_if (status == 6) before.store

-- a run over objects that never fail, and that found memory
pub record ComesSurely (o : Outcome) (written written' : List ℕ) (files' : Files) (ended : ℕ) : Type 0 where
  pub status : ended ≡ o.status
  pub printed : written' ≡ written ++ printed_by o
  pub files : files' ≡ o.files
