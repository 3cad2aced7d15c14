-- What the parts of a step do.
use Rattle.std.specs.List.{AllByRecursion}
use Rattle.follower_log.specs.declared.fault.FollowerFault.{FollowerFault}
use Rattle.follower_log.specs.declared.fault.FollowerFault.TheVariants as follower_fault
use Rattle.follower_log.specs.declared.took.Took.{Took}
use Rattle.std.specs.Prelude.{◌≡◌, ℕ, ◌+◌, List, [], ◌∷◌, ◌++◌, length, take, Option, None, Some, Result, Err, IsOk, OnOk, OnErr, IfErr, IsOkAnd, IsTrue}
use Rattle.tcm_edges.specs.Files.{Files}
use Rattle.transformations.specs.History.{commit_refusal, is_command}
use Rattle.transformations.specs.Log.{commands_of, entry_with_id}
use Rattle.transformations.specs.declared.entry.Entry.{Entry}
use Rattle.catch_up.specs.Replies.{IsReplyFrom}
use Rattle.catch_up.specs.declared.message.Reply.{Reply as CatchUpReply}
use Rattle.follower_log.specs.Follower.{FollowerState}
use Rattle.script_lang.specs.AnswerTexts.{ok_text}
use Rattle.script_session.specs.Faults.{count_by}
use Rattle.script_session.specs.LogFiles.{Gains, entry_lines}
use Rattle.script_session.specs.Machine.{Reply, SessionState, handed_text, replied}
use Rattle.script_session.specs.declared.fault.StepFault.{StepFault}
use Rattle.script_session.specs.declared.fault.StepFault.TheVariants as fault
use Rattle.script_session.specs.declared.session.followers.NamedFollower.{NamedFollower}
use Rattle.script_session.specs.declared.refused_line.Cause.{Cause}
use Rattle.script_session.specs.StepEnds.{Leaves, FollowsLog, IsOnTheWay, StopsAny, LeavesSession}

-- each of these followers follows the log
abbrev pub AllFollow : List Entry → List NamedFollower → Type 0
AllFollow log followers = AllByRecursion (λ f. FollowsLog log f.follower) followers

-- each of these catch-up replies is one from the log
abbrev pub AllFrom : List Entry → List CatchUpReply → Type 0
AllFrom log replies = AllByRecursion (IsReplyFrom log) replies

-- where a step stands: what it changes, which is a session or its log, the output, the files that the store tells, and
-- the count of the store's faults
pub record At (X : Type 0) : Type 0 where
  pub state : X
  pub out : List ℕ
  pub files : Option Files
  pub faults : ℕ

-- where a step stands, as a record
abbrev pub at : {X : Type 0} → X → List ℕ → Option Files → ℕ → At X
at state out files faults = record { state = state; out = out; files = files; faults = faults }

-- a step that comes to this reply
pub record StepEnds {T : Type 0} (handed : Option NamedFollower) (reply : Reply) (name : Option (List ℕ)) (before after : At SessionState) (result : Result T StepFault) : Type 0 where
  pub text : OnOk result (after.out ≡ before.out ++ reply.text)
  pub kept : take (length before.out) after.out ≡ before.out
  pub next : OnOk result (after.state ≡ replied before.state reply)
  pub file : OnOk result (Gains name (entry_lines reply.added) before.files after.files)
  pub left : IfErr result (λ e. LeavesSession e handed before.state reply.followers after.state)
  pub fault : IfErr result (λ e. Leaves e name reply.added before.files after.files)
  pub count : after.faults ≡ count_by result before.faults

-- where a step stands that uses no file
pub record SessionAt : Type 0 where
  pub session : SessionState
  pub out : List ℕ

-- where it stands, as a record
abbrev pub session_at : SessionState → List ℕ → SessionAt
session_at session out = record { session = session; out = out }

-- a step that adds no entry and uses no file, and so fails only if memory runs out
pub record Alone {T : Type 0} (handed : Option NamedFollower) (reply : Reply) (before after : SessionAt) (result : Result T StepFault) : Type 0 where
  pub added : reply.added ≡ []
  pub text : OnOk result (after.out ≡ before.out ++ reply.text)
  pub kept : take (length before.out) after.out ≡ before.out
  pub next : OnOk result (after.session ≡ replied before.session reply)
  pub left : OnErr result (StopsAny handed before.session reply.followers after.session)
  pub memory : IfErr result (λ e. e ≡ fault.Memory)

-- an entry is noted: its answer is added to the output, the entry to the log, and its line to the file
pub record Notes {T : Type 0} (entry : Entry) (name : Option (List ℕ)) (before after : At (List Entry)) (result : Result T StepFault) : Type 0 where
  pub text : OnOk result (after.out ≡ before.out ++ ok_text entry.epoch)
  pub kept : take (length before.out) after.out ≡ before.out
  pub grown : OnOk result (after.state ≡ before.state ++ entry ∷ [])
  pub file : OnOk result (Gains name (entry_lines (entry ∷ [])) before.files after.files)
  pub err : OnErr result (after.state ≡ before.state)
  pub fault : IfErr result (λ e. Leaves e name (entry ∷ []) before.files after.files)
  pub count : after.faults ≡ count_by result before.faults

-- what a follower was handed is of the log of its session: a fork, a refusal and a bad image don't come
abbrev pub IsOfOneLog : Result Took FollowerFault → Type 0
IsOfOneLog (Err (follower_fault.Fork epoch held came)) = ⊥
IsOfOneLog (Err (follower_fault.Refused epoch refusal)) = ⊥
IsOfOneLog (Err (follower_fault.BadImage bad)) = ⊥
IsOfOneLog handed = Unit {0}

-- what became of what was handed over is added to the output, if memory was found
pub record AnswersHanded {T : Type 0} (handed : Result Took FollowerFault) (out out' : List ℕ) (result : Result T StepFault) : Type 0 where
  pub took : OnOk result (IsOk handed)
  pub text : OnOk result (out' ≡ out ++ handed_text handed)
  pub kept : take (length out) out' ≡ out
  pub memory : IfErr result (λ e. e ≡ fault.Memory)

-- a follower is handed what leads it to `due`: with memory it comes there, and else it stops on the way
pub record Hands {T E : Type 0} (log : List Entry) (due before after : FollowerState) (result : Result T E) : Type 0 where
  pub comes : OnOk result (after ≡ due)
  pub way : IsOnTheWay log before due after

-- a text is added to the output, and nothing else changes; only memory can run out
pub record OnlyAnswers {T : Type 0} (text out out' : List ℕ) (result : Result T StepFault) : Type 0 where
  pub answered : OnOk result (out' ≡ out ++ text)
  pub kept : take (length out) out' ≡ out
  pub memory : IfErr result (λ e. e ≡ fault.Memory)

-- an entry may follow a log: its epoch is the next, its id is new, and its command is accepted
pub record IsNextEntry (log : List Entry) (entry : Entry) : Type 0 where
  pub epoch : entry.epoch ≡ length log + 1
  pub fresh : entry_with_id log entry.id ≡ None
  pub formed : IsTrue (is_command entry.cmd)
  pub accepted : commit_refusal (commands_of log) entry.cmd ≡ None

-- the session after an entry more
abbrev pub with_next : SessionState → Entry → SessionState
with_next session entry = record session { log = session.log ++ entry ∷ [] }

-- a line of a log file is taken over, or refused for this cause
abbrev pub TakesLine : Option Cause → Result Entry Cause → SessionState → SessionState → Type 0
TakesLine None given session session' = IsOkAnd given (λ entry. session' ≡ with_next session entry)
TakesLine (Some cause) given session session' = (given ≡ Err cause) × (session' ≡ session)

-- the reply to a commit that is accepted with this entry
abbrev pub accepted_reply : SessionState → Entry → Reply
accepted_reply session entry =
    record {
      text = ok_text entry.epoch;
      added = entry ∷ [];
      followers = session.followers;
      replies = session.replies;
    }
