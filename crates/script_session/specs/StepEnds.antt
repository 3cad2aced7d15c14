-- The ends of a step.
use Rattle.follower_log.specs.Follower.{FollowerState}
use Rattle.follower_log.specs.Prefix.{StandsFor, Taken, has_entry, is_base}
use Rattle.script_lang.specs.declared.script_line.ScriptLine.{ScriptLine}
use Rattle.script_lang.specs.declared.script_line.ScriptLine.TheVariants.{Deliver, Snapshot, Give}
use Rattle.std.specs.Prelude.{◌≡◌, ◌≢◌, ℕ, ◌≤◌, true, List, [], Option, None, Some, IfSome, Result, OnOk, IfErr}
use Rattle.tcm_edges.specs.Files.{ChangesFile, Files, GainsPart, OthersKept}
use Rattle.tcm_edges.specs.Shown.{EachLeft, StaysOnly}
use Rattle.transformations.specs.declared.entry.Entry.{Entry}
use Rattle.script_session.specs.LogFiles.{entry_lines}
use Rattle.script_session.specs.Machine.{SessionState, follower_named, with_follower}
use Rattle.script_session.specs.declared.fault.StepFault.{StepFault}
use Rattle.script_session.specs.declared.fault.StepFault.TheVariants as fault
use Rattle.script_session.specs.declared.session.followers.NamedFollower.{NamedFollower}

-- the store failed: the line adds an entry; the file gained a prefix of the entry's line, or nothing, and no other file
-- changed
pub record StoreFailed (name : List ℕ) (added : List Entry) (files files' : Option Files) : Type 0 where
  pub adds : added ≢ []
  pub part : ChangesFile (GainsPart (entry_lines added)) files files' name
  pub others : OthersKept files files' name

-- what a fault leaves of a step that is to add these entries: if memory ran out, the files are as before; the store
-- fails only if a log file is named
abbrev pub Leaves : StepFault → Option (List ℕ) → List Entry → Option Files → Option Files → Type 0
Leaves fault.Memory name added files files' = files' ≡ files
Leaves fault.Store None added files files' = ⊥
Leaves fault.Store (Some name) added files files' = StoreFailed name added files files'

-- what a crash may leave after a step, if before it one left only the files that the store told: after `Ok` those that
-- the store tells, and after a fault what it leaves, as Left says
pub record StepCrashes {D T : Type 0} (told : D → Option Files) (shows : D → Files → Type 0) (Left : StepFault → Option Files → Type 0) (store store' : D) (result : Result T StepFault) : Type 0 where
  pub ok : OnOk result (StaysOnly told shows store store')
  pub fault : IfErr result (λ e. EachLeft told shows store store' (Left e))

-- a follower follows a log: it stands for the log, and for something that it took from it
pub record FollowsLog (log : List Entry) (follower : FollowerState) : Type 0 where
  pub taken : Taken
  pub stands : StandsFor log taken follower

-- the follower that a line hands something to
abbrev pub handed_by : SessionState → Option ScriptLine → Option NamedFollower
handed_by session (Some (Deliver name epoch)) = follower_named session.followers name
handed_by session (Some (Snapshot name epoch)) = follower_named session.followers name
handed_by session (Some (Give name number)) = follower_named session.followers name
handed_by session _ = None

-- a follower stands for a log and for all that was taken from it, and maybe for more
pub record StandsOn (log : List Entry) (taken : Taken) (follower : FollowerState) : Type 0 where
  pub more : Taken
  pub entries : (epoch : ℕ) → has_entry taken epoch ≡ true → has_entry more epoch ≡ true
  pub images : (epoch : ℕ) → is_base taken epoch ≡ true → is_base more epoch ≡ true
  pub stands : StandsFor log more follower

-- what one follower took, another took, too: none of it is forgotten
abbrev pub ForgetsNothing : List Entry → FollowerState → FollowerState → Type 0
ForgetsNothing log before at = (taken : Taken) → StandsFor log taken before → StandsOn log taken at

-- a follower follows the log, no further back than one follower and no further on than another; it forgets nothing that
-- the first one took
pub record IsOnTheWay (log : List Entry) (before due at : FollowerState) : Type 0 where
  pub from : before.image.epoch ≤ at.image.epoch
  pub to : at.image.epoch ≤ due.image.epoch
  pub follows : FollowsLog log at
  pub keeps : ForgetsNothing log before at

-- a session in which one follower is elsewhere: between where it was and where it was to come
pub record Stops (f : NamedFollower) (session : SessionState) (due : List NamedFollower) (session' : SessionState) : Type 0 where
  pub at : FollowerState
  pub is : session' ≡ record session { followers = with_follower session.followers f.name at }
  pub between : IfSome (follower_named due f.name) (λ g. IsOnTheWay session.log f.follower g.follower at)

-- what lack of memory leaves of the session: the follower that the line hands something to may have stopped on the way,
-- and all else is as before
abbrev pub StopsAny : Option NamedFollower → SessionState → List NamedFollower → SessionState → Type 0
StopsAny None session due session' = session' ≡ session
StopsAny (Some f) session due session' = Stops f session due session'

-- what a fault leaves of the session; if the store failed, all is as before
abbrev pub LeavesSession : StepFault → Option NamedFollower → SessionState → List NamedFollower → SessionState → Type 0
LeavesSession fault.Memory handed session due session' = StopsAny handed session due session'
LeavesSession fault.Store handed session due session' = session' ≡ session
