-- The entries and images that a follower took in the lines of a script, and that it shows their longest gapless prefix.
-- Entries and images of one log are determined by their epochs, so `Taken` is two lists of numbers, and no follower
-- stores it.
use Rattle.std.specs.Prelude.{◌≡◌, ℕ, if◌then◌else◌, List, [], ◌∷◌, ◌++◌, Option, Some, None, Result, Ok, Err}
use Rattle.std.specs.Str.{bytes_eq}
use Rattle.catch_up.specs.declared.message.Reply.{Reply as CatchUpReply}
use Rattle.catch_up_laws.specs.Given.{given_image}
use Rattle.epoch_log.specs.Epochs.{entry_at}
use Rattle.follower_log.specs.Follower.{FollowerState, Handed, hand_entry, hand_valid}
use Rattle.follower_log.specs.Prefix.{IsPrefix, StandsFor, Taken, nothing_taken, with_entry, with_image}
use Rattle.follower_log.specs.declared.fault.FollowerFault.{FollowerFault}
use Rattle.follower_log.specs.declared.took.Took.{Took}
use Rattle.follower_log.specs.declared.took.Took.TheVariants.{At, Full}
use Rattle.transformations.specs.History.{state_after}
use Rattle.transformations.specs.Log.{commands_of}
use Rattle.transformations.specs.declared.entry.Entry.{Entry}
use Rattle.transformations.specs.declared.image.Image.{Image}
use Rattle.script_lang.specs.Grammar.{line_of}
use Rattle.script_lang.specs.declared.script_line.ScriptLine.{ScriptLine}
use Rattle.script_lang.specs.declared.script_line.ScriptLine.TheVariants.{Deliver, Snapshot, Give}
use Rattle.script_lang.specs.declared.script_line.Target.TheVariants.{Named}
use Rattle.script_session.specs.Machine.{SessionState, answer_from, follower_named, image_at, image_of, query_text, reply_numbered, session_after, session_next, session_over}
use Rattle.script_session.specs.declared.session.followers.NamedFollower.{NamedFollower}
use Rattle.script_session.specs.declared.session.query.Query.{Query}

-- what was handed over counts as taken, unless it is answered `FULL`; faults count, too, but don't come in one log
abbrev pub unless_full : Result Took FollowerFault → Taken → Taken → Taken
unless_full (Ok (Full epoch)) before after = before
unless_full answer before after = after

-- what a follower took, once it is handed an entry, if there is one
abbrev pub and_entry : FollowerState → Option Entry → Taken → Taken
and_entry follower None taken = taken
and_entry follower (Some entry) taken = unless_full (hand_entry follower entry).answer taken (with_entry taken entry.epoch)

-- what a follower took, once it is handed a valid image, if there is one
abbrev pub and_image : FollowerState → Result Image (List ℕ) → Taken → Taken
and_image follower (Err reason) taken = taken
and_image follower (Ok image) taken = unless_full (hand_valid follower image).answer taken (with_image taken image.epoch)

-- what a follower took, once it is handed entries, one after another
abbrev pub and_entries : FollowerState → List Entry → Taken → Taken
and_entries follower [] taken = taken
and_entries follower (entry ∷ entries) taken =
    and_entries (hand_entry follower entry).after entries (and_entry follower (Some entry) taken)

-- what a follower took, once it is handed the image of a catch-up reply, if it has one
abbrev pub and_start : FollowerState → Option Image → Taken → Taken
and_start follower None taken = taken
and_start follower (Some image) taken = and_image follower (Ok image) taken

-- what a follower took, once it is given a catch-up reply, if there is one: of its image, and then of its entries
abbrev pub and_reply : FollowerState → Option CatchUpReply → Taken → Taken
and_reply follower None taken = taken
and_reply follower (Some given) taken =
    and_entries (given_image follower given.image) given.entries (and_start follower given.image taken)

-- what is taken once a follower is handed something; without a follower, no more than before
abbrev pub by_follower : Option NamedFollower → (FollowerState → Taken) → Taken → Taken
by_follower None take taken = taken
by_follower (Some f) take taken = take f.follower

-- what the follower with this name took, once a line is answered
abbrev pub taken_by : SessionState → List ℕ → Option ScriptLine → Taken → Taken
taken_by session name (Some (Deliver to epoch)) taken =
    if bytes_eq to name
    then by_follower (follower_named session.followers name) (λ f. and_entry f (entry_at session.log epoch) taken) taken
    else taken
taken_by session name (Some (Snapshot to epoch)) taken =
    let image = image_at (commands_of session.log) epoch in
    if bytes_eq to name
    then by_follower (follower_named session.followers name) (λ f. and_image f image taken) taken
    else taken
taken_by session name (Some (Give to number)) taken =
    let given = reply_numbered session.replies number in
    if bytes_eq to name
    then by_follower (follower_named session.followers name) (λ f. and_reply f given taken) taken
    else taken
taken_by session name _ taken = taken

-- what the follower with this name took, once lines are answered, one after another
abbrev pub taken_in : SessionState → List ℕ → List (List ℕ) → Taken → Taken
taken_in session name [] taken = taken
taken_in session name (bytes ∷ lines) taken =
    taken_in (session_next session bytes) name lines (taken_by session name (line_of bytes) taken)

-- a follower shows the state of a log at the end of the longest gapless prefix of what it took
pub record ShowsPrefix (log : List Entry) (taken : Taken) (follower : FollowerState) : Type 0 where
  pub stands : StandsFor log taken follower
  pub longest : IsPrefix taken follower.image.epoch

-- each follower of the session after these lines, from a log on, shows the prefix of what it took in them
abbrev pub AllShowPrefixes : List Entry → List (List ℕ) → Type 0
AllShowPrefixes log lines =
    let session = session_after (session_over log) lines in
    (name : List ℕ) (f : NamedFollower) → follower_named session.followers name ≡ Some f
    → ShowsPrefix session.log (taken_in (session_over log) name lines nothing_taken) f.follower

-- all followers show such prefixes after each of some lines
abbrev pub FollowersShow : List Entry → List (List ℕ) → Type 0
FollowersShow log lines = (front rest : List (List ℕ)) → lines ≡ front ++ rest → AllShowPrefixes log front

-- a step that is answered `At` leaves the follower at the epoch of the answer
abbrev pub TellsEpoch : Handed → Type 0
TellsEpoch step = (epoch : ℕ) → step.answer ≡ Ok (At epoch) → step.after.image.epoch ≡ epoch

-- queries of a follower are answered from the state of the log at the follower's epoch
abbrev pub AnswerAsLog : SessionState → Type 0
AnswerAsLog session =
    let state_at = state_after (commands_of session.log) in
    (name : List ℕ) (f : NamedFollower) (asked : Query) → follower_named session.followers name ≡ Some f
    → query_text (image_of session (Named name)) asked ≡ answer_from asked (state_at f.follower.image.epoch)
