-- What holds of every system of processes over one shared log.
use Rattle.std.specs.Prelude.{◌≡◌, ◌≢◌, ◌⊎◌, ℕ, ◌+◌, ◌<◌, ◌≤◌, List, [], ◌∷◌, ◌++◌, flat_map, length, take, Some, Ok}
use Rattle.std.specs.List.{Contains, slice_get}
use Rattle.cluster_terms.specs.Quorum.{Meet}
use Rattle.transformations.specs.History.{state_after}
use Rattle.transformations.specs.Log.{IsLog, commands_of}
use Rattle.transformations.specs.Valid.{IsValid}
use Rattle.transformations.specs.declared.command.Command.{Command}
use Rattle.transformations.specs.declared.entry.Entry.{Entry as LogEntry}
use Rattle.wire_json.specs.Reading.{reading}
use Rattle.wire_json.specs.declared.line.Line.TheVariants.{Entry}
use Rattle.script_lang.specs.AnswerTexts.{line as with_feed}
use Rattle.script_lang.specs.Grammar.{line_of}
use Rattle.script_session.specs.Lines.{HasNoFeed}
use Rattle.script_session.specs.LogFiles.{log_for, log_in}
use Rattle.script_session.specs.Machine.{SessionState, reply}
use Rattle.script_session.specs.declared.session.followers.NamedFollower.{NamedFollower}
use Rattle.session_laws.specs.Shown.{AreAdjacent, AskAlike, Shown, shown_by}
use Rattle.share_machine.specs.Outcome.{ended, share_outcome}
use Rattle.share_machine.specs.Sharing.{Nothing, Script, next_place}
use Rattle.shared_log_laws.specs.System.{Acts, Answer, Comes, Dies, Event, Process, Replies, System, system_of}

-- ---- one log

-- these lines are the log of a cluster
abbrev pub HasLog : List ℕ → List (List ℕ) → List LogEntry → Type 0
HasLog cluster lines log = log_in (Some cluster) lines ≡ Ok log

-- the lines of the store are a log of the cluster, also as the file of these lines, and its states are valid
pub record IsSharedLog (cluster : List ℕ) (store : List (List ℕ)) : Type 0 where
  pub log : List LogEntry
  pub has : HasLog cluster store log
  pub file : log_for (Some cluster) (flat_map with_feed store) ≡ Ok log
  pub is : IsLog log
  pub valid : (epoch : ℕ) → IsValid (state_after (commands_of log) epoch)

-- a process knows the log of the first lines of the store, the next place is the one after these, and it goes on
pub record IsUpTo (cluster : List ℕ) (store : List (List ℕ)) (p : Process) : Type 0 where
  pub front : take (length p.told) store ≡ p.told
  pub log : HasLog cluster p.told p.sharing.session.log
  pub place : next_place p.sharing ≡ length p.told
  pub goes_on : p.sharing.waits ≢ Nothing

-- what stands in a store stays at its place
abbrev pub StaysIn : List (List ℕ) → List (List ℕ) → Type 0
StaysIn store later = take (length store) later ≡ store

-- ---- answers

-- at the place of an epoch stands the entry with this id and command
pub record StandsAt (store : List (List ℕ)) (epoch id : ℕ) (command : Command) : Type 0 where
  pub text : List ℕ
  pub at : slice_get store epoch ≡ Some text
  pub says : reading text ≡ Ok (Entry (record { id = id; epoch = epoch; cmd = command }))

-- an answer is that of the session machine, on the log in as many lines as the store had at some moment between the coming
-- of the script line and the answer
pub record IsLinear (cluster : List ℕ) (store : List (List ℕ)) (a : Answer) : Type 0 where
  pub since : a.process.came ≤ length a.process.told
  pub until : length a.process.told ≤ a.by
  pub within : a.by ≤ length store
  pub front : take (length a.process.told) store ≡ a.process.told
  pub log : HasLog cluster a.process.told a.session.log
  pub text : a.text ≡ (reply a.session a.line).text
  pub added : (reply a.session a.line).added ≡ []

-- the store had just its first n lines after some of the events
pub record WasWhole (cluster : List ℕ) (events : List Event) (n : ℕ) : Type 0 where
  pub before : List Event
  pub after : List Event
  pub split : events ≡ before ++ after
  pub was : (system_of cluster before).store ≡ take n (system_of cluster events).store

-- a session that a process has, or from which it answered
abbrev pub IsIn : System → SessionState → Type 0
IsIn s session =
    ((number : ℕ) × ((s.processes number).sharing.session ≡ session))
    ⊎ ((a : Answer) × (Contains s.answers a × (a.session ≡ session)))

-- ---- the run of a process

-- the bytes of the input that a process has had
abbrev pub input_of : Process → List ℕ
input_of p = flat_map with_feed p.heard

-- the outcome of `share` over the input of a process prints what the process printed
abbrev pub RunsShare : List ℕ → Process → Type 0
RunsShare cluster p = share_outcome cluster (input_of p) ≡ ended p.sharing p.said [] p.sharing.waits

-- an answer is what `share` prints last over the input up to it
pub record PrintsAnswer (cluster : List ℕ) (a : Answer) : Type 0 where
  pub before : List ℕ
  pub said : a.process.said ≡ before ++ a.text
  pub outcome : share_outcome cluster (input_of a.process) ≡ record { status = 0; printed = a.process.said }

-- a script line of an event is a line
abbrev pub HasLine : Event → Type 0
HasLine (Comes number line) = HasNoFeed line
HasLine (Acts offer) = Unit {0}
HasLine (Replies number more) = Unit {0}
HasLine (Dies number) = Unit {0}

-- ---- quorums and followers

-- the quorums that any two processes show to the same question meet, if their epochs are the same or next to each other in
-- a history, where the second is a movement epoch
abbrev pub SharedQuorumsMeet : System → List Command → Type 0
SharedQuorumsMeet s history =
    (one other : SessionState) (bytes bytes' : List ℕ) (p q : Shown) → IsIn s one → IsIn s other
    → shown_by one (line_of bytes) ≡ Some p → shown_by other (line_of bytes') ≡ Some q → AskAlike p q → AreAdjacent history p q → Meet p.sets q.sets

-- followers of any two processes show the same state for an epoch
abbrev pub FollowersAgree : System → Type 0
FollowersAgree s =
    (one other : SessionState) (f g : NamedFollower) → IsIn s one → IsIn s other → Contains one.followers f → Contains other.followers g
    → f.follower.image.epoch ≡ g.follower.image.epoch → f.follower.image ≡ g.follower.image

-- ---- a lone process

-- a process waits for a script line, and knows the whole log, which has its header
pub record IsAhead (s : System) (number : ℕ) : Type 0 where
  pub waits : (s.processes number).sharing.waits ≡ Script
  pub whole : length (s.processes number).told ≡ length s.store
  pub headed : 0 < length s.store

-- a script line comes to a process, the store acts on the offer that the process makes of it, and the reply comes
abbrev pub one_offer : System → ℕ → List ℕ → List Event
one_offer s number line = Comes number line ∷ Acts (length s.offers) ∷ Replies number 1 ∷ []

-- after some events there is one answer more, with this text; the store has these lines more, with one offer for each; and
-- the process is ahead again
pub record AnswersOnce (s later : System) (number : ℕ) (text : List ℕ) (lines : List (List ℕ)) : Type 0 where
  pub answer : Answer
  pub answers : later.answers ≡ s.answers ++ answer ∷ []
  pub says : answer.text ≡ text
  pub store : later.store ≡ s.store ++ lines
  pub offers : length later.offers ≡ length s.offers + length lines
  pub ahead : IsAhead later number

-- a script line comes to a process, and then the reply to the request for the rest of the log
abbrev pub one_read : ℕ → List ℕ → List Event
one_read number line = Comes number line ∷ Replies number 0 ∷ []
