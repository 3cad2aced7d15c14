-- The outcome of a run: the lines that it answers, what it prints, its status, and the files after it.
use Rattle.std.specs.Prelude.{ℕ, Bool, false, List, [], ◌++◌}
use Rattle.tcm_edges.specs.Files.{Files}
use Rattle.transformations.specs.declared.entry.Entry.{Entry}
pub use Rattle.tcm_session.specs.Limits.{input_limit, too_large_text}
use Rattle.script_session.specs.Machine.{answers, session_over}
use Rattle.tcm_session.specs.declared.ending.Ending.{Ending}

-- the outcome of a run
pub record Outcome : Type 0 where
  pub status : ℕ
  -- the log from which the lines are answered
  pub log : List Entry
  -- the lines that are answered
  pub lines : List (List ℕ)
  -- the text that is printed after their answers
  pub last : List ℕ
  -- whether the input is read
  pub reads : Bool
  -- the files afterwards
  pub files : Files

-- the bytes that an outcome prints
abbrev pub printed_by : Outcome → List ℕ
printed_by o = answers (session_over o.log) o.lines ++ o.last

-- an outcome that reads no input and answers no line, with these files afterwards
abbrev pub unread_outcome : ℕ → List ℕ → Files → Outcome
unread_outcome status last all = record { status = status; log = []; lines = []; last = last; reads = false; files = all }

-- the outcome of a run that reads no input, with this end and these files afterwards
abbrev pub ended_outcome : Ending → Files → Outcome
ended_outcome ending all = unread_outcome ending.status ending.text all
