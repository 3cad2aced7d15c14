-- The session machine: a log, its followers and the replies to them, and the answer to each line.
use Rattle.std.specs.Prelude.{ℕ, ◌+◌, ◌-◌, ◌==◌, ℤ, if◌then◌else◌, List, [], ◌∷◌, ◌++◌, find, length, slice_get, Option, Some, None, is_some, Result, Ok, Err, nat_le, codes, decimal}
use Rattle.std.specs.Str.{bytes_eq}
use Rattle.catch_up.specs.Replies.{catch_up_reply, start_epoch}
use Rattle.catch_up.specs.declared.message.Reply.{Reply as CatchUpReply}
use Rattle.catch_up_laws.specs.Given.{given_reply}
use Rattle.cluster_terms.specs.Quorum.{datacenter_of}
use Rattle.cluster_terms.specs.declared.replication.Replication.{Replication}
use Rattle.transformations.specs.History.{state_after}
use Rattle.transformations.specs.Log.{commands_of, commit_of}
use Rattle.transformations.specs.Meeting.{datacenters_of, local_sets_at, sets_at}
use Rattle.transformations.specs.declared.command.Command.{Command}
use Rattle.transformations.specs.declared.entry.Entry.{Entry}
use Rattle.transformations.specs.declared.image.Image.{Image}
use Rattle.transformations.specs.declared.keyspace.KeyspaceRow.{KeyspaceRow}
use Rattle.transformations.specs.declared.refusal.Refusal.{Refusal}
use Rattle.placement_maps.specs.Served.{keyspace_of}
use Rattle.script_lang.specs.Grammar.{line_of}
use Rattle.script_lang.specs.AnswerTexts.{ok_text, no_text, epoch_text, reply_text, refusal_text, place_text, nodes_text, quorum_text}
use Rattle.script_lang.specs.declared.script_line.ScriptLine.{ScriptLine}
use Rattle.script_lang.specs.declared.script_line.ScriptLine.TheVariants.{Commit, Follower, Deliver, Snapshot, Ask, Give, Place, Nodes, Quorum, Local}
use Rattle.script_lang.specs.declared.script_line.Target.{Target}
use Rattle.script_lang.specs.declared.script_line.Target.TheVariants.{Epoch, Named}
use Rattle.epoch_log.specs.Epochs.{entry_at}
use Rattle.follower_log.specs.Follower.{FollowerState, Handed, empty_follower, hand_entry, hand_valid}
use Rattle.follower_log.specs.declared.fault.FollowerFault.{FollowerFault}
use Rattle.follower_log.specs.declared.took.Took.{Took}
use Rattle.follower_log.specs.declared.took.Took.TheVariants.{At, Old, Held, Full}
use Rattle.script_session.specs.declared.session.followers.NamedFollower.{NamedFollower}
use Rattle.script_session.specs.declared.session.query.Query.{Query}
use Rattle.script_session.specs.declared.session.query.Query.TheVariants as query

-- the session: its log, its followers in the order in which they were made, and the catch-up replies in the order in
-- which they were asked for
pub record SessionState : Type 0 where
  pub log : List Entry
  pub followers : List NamedFollower
  pub replies : List CatchUpReply

-- the session over a log, without followers and replies
abbrev pub session_over : List Entry → SessionState
session_over log = record { log = log; followers = []; replies = [] }

-- the answer to one line: its text, the entries that the line adds to the log, one or none, and the followers and the
-- catch-up replies after the line. A reply to a follower is a `CatchUpReply`
pub record Reply : Type 0 where
  pub text : List ℕ
  pub added : List Entry
  pub followers : List NamedFollower
  pub replies : List CatchUpReply

-- the answer to a line that changes nothing
abbrev pub only_answers : SessionState → List ℕ → Reply
only_answers session text = record { text = text; added = []; followers = session.followers; replies = session.replies }

-- the text for a commit: its epoch, or its refusal
abbrev pub commit_text : Result ℕ Refusal → List ℕ
commit_text (Ok epoch) = ok_text epoch
commit_text (Err refusal) = no_text (refusal_text refusal)

-- the answer to a commit
abbrev pub commit_reply : SessionState → ℕ → Command → Reply
commit_reply session id command =
    let committed = commit_of session.log id command in
    record {
      text = commit_text committed.answer;
      added = committed.added;
      followers = session.followers;
      replies = session.replies;
    }

-- the follower with this name, if there is one
abbrev pub follower_named : List NamedFollower → List ℕ → Option NamedFollower
follower_named followers name = find (λ f. bytes_eq f.name name) followers

-- the followers, once the one with this name is in another state
abbrev pub with_follower : List NamedFollower → List ℕ → FollowerState → List NamedFollower
with_follower [] name after = []
with_follower (f ∷ fs) name after =
    if bytes_eq f.name name then record f { follower = after } ∷ fs else f ∷ with_follower fs name after

-- the epoch of a follower; 0 if there is none
abbrev pub epoch_of_follower : Option NamedFollower → ℕ
epoch_of_follower None = 0
epoch_of_follower (Some f) = f.follower.image.epoch

-- the most followers
abbrev pub most_followers : ℕ
most_followers = 16

-- a follower that is new, at epoch 0
abbrev pub new_follower : List ℕ → NamedFollower
new_follower name = record { name = name; follower = empty_follower }

-- the answer to a line that makes a follower
abbrev pub made_reply : SessionState → List ℕ → Reply
made_reply session name =
    record {
      text = epoch_text (codes "AT") 0;
      added = [];
      followers = session.followers ++ new_follower name ∷ [];
      replies = session.replies;
    }

-- a follower is made, unless there are 16 already
abbrev pub follower_unless_full : SessionState → List ℕ → Reply
follower_unless_full session name =
    if nat_le most_followers (length session.followers) then only_answers session (no_text (codes "FOLLOWERS-FULL"))
    else made_reply session name

-- a follower is refused if its name is taken, and else if there are 16 already
abbrev pub follower_reply : SessionState → List ℕ → Reply
follower_reply session name =
    if is_some (follower_named session.followers name) then only_answers session (no_text (codes "FOLLOWER-TAKEN"))
    else follower_unless_full session name

-- the text for what became of what a follower was handed; a fork, a refusal and a bad image don't come in a session
abbrev pub handed_text : Result Took FollowerFault → List ℕ
handed_text (Ok (At epoch)) = epoch_text (codes "AT") epoch
handed_text (Ok (Old epoch)) = epoch_text (codes "OLD") epoch
handed_text (Ok (Held epoch)) = epoch_text (codes "HELD") epoch
handed_text (Ok (Full epoch)) = epoch_text (codes "FULL") epoch
handed_text (Err fault) = []

-- the answer to a line that brings the follower with this name to a state
abbrev pub moved_reply : SessionState → List ℕ → List ℕ → FollowerState → Reply
moved_reply session name text after =
    record { text = text; added = []; followers = with_follower session.followers name after; replies = session.replies }

-- the answer to a line that hands something to the follower with this name
abbrev pub handed_reply : SessionState → List ℕ → Handed → Reply
handed_reply session name step = moved_reply session name (handed_text step.answer) step.after

-- the reason that the log has no such entry or image, with its last epoch: the epoch hasn't come, or it is 0, which has
-- an image but no entry
abbrev pub no_epoch : List Command → List ℕ
no_epoch history = codes "EPOCH " ++ decimal (length history)

-- the image of an epoch, if the history has reached this epoch
abbrev pub image_at : List Command → ℕ → Result Image (List ℕ)
image_at history epoch =
    if nat_le epoch (length history) then Ok (state_after history epoch) else Err (no_epoch history)

-- a follower is handed the entry of an epoch, if the log has one
abbrev pub deliver_to : SessionState → List ℕ → FollowerState → Option Entry → Reply
deliver_to session name follower None = only_answers session (no_text (no_epoch (commands_of session.log)))
deliver_to session name follower (Some entry) = handed_reply session name (hand_entry follower entry)

-- a follower is handed the image of an epoch, if the log has reached it; the image is valid, as it is one of the log
abbrev pub snapshot_to : SessionState → List ℕ → FollowerState → Result Image (List ℕ) → Reply
snapshot_to session name follower (Err reason) = only_answers session (no_text reason)
snapshot_to session name follower (Ok image) = handed_reply session name (hand_valid follower image)

-- the most catch-up replies
abbrev pub most_replies : ℕ
most_replies = 64

-- the word for what the entries of a catch-up reply come after: the epoch that was asked from, or that of an image
abbrev pub start_word : Option Image → List ℕ
start_word None = codes "since"
start_word (Some image) = codes "image"

-- the text for a catch-up reply: its number, the epoch that its entries come after, and how many they are
abbrev pub asked_text : ℕ → CatchUpReply → List ℕ
asked_text number made = reply_text number (start_word made.image) (start_epoch made) (length made.entries)

-- the answer to a line that asks for a catch-up reply, which is kept as the last one
abbrev pub asked_reply : SessionState → CatchUpReply → Reply
asked_reply session made =
    record {
      text = asked_text (length session.replies + 1) made;
      added = [];
      followers = session.followers;
      replies = session.replies ++ made ∷ [];
    }

-- a follower asks for at most `max` entries after its epoch; it is refused if there are 64 replies already
abbrev pub ask_of : SessionState → ℕ → FollowerState → Reply
ask_of session max follower =
    if nat_le most_replies (length session.replies) then only_answers session (no_text (codes "REPLIES-FULL"))
    else asked_reply session (catch_up_reply session.log follower.image.epoch max)

-- the catch-up reply with a number; the first one has number 1
abbrev pub reply_numbered : List CatchUpReply → ℕ → Option CatchUpReply
reply_numbered replies number = if number == 0 then None else slice_get replies (number - 1)

-- a follower is given a catch-up reply, and is answered with the epoch that it reaches
abbrev pub give_to : SessionState → List ℕ → FollowerState → Option CatchUpReply → Reply
give_to session name follower None = only_answers session (no_text (codes "REPLY " ++ decimal (length session.replies)))
give_to session name follower (Some given) =
    let after = given_reply follower given in
    moved_reply session name (epoch_text (codes "AT") after.image.epoch) after

-- the answer to a line on a follower, if there is one
abbrev pub reply_of : SessionState → Option NamedFollower → (FollowerState → Reply) → Reply
reply_of session None reply = only_answers session (no_text (codes "FOLLOWER"))
reply_of session (Some f) reply = reply f.follower

-- the answer to a line on the follower with this name
abbrev pub on_follower : SessionState → List ℕ → (FollowerState → Reply) → Reply
on_follower session name reply = reply_of session (follower_named session.followers name) reply

-- the placements of a keyspace
abbrev pub placements : Image → Option KeyspaceRow → List ℕ
placements image None = no_text (codes "KEYSPACE")
placements image (Some keyspace) = place_text image keyspace

-- the quorums of a keyspace at a token
abbrev pub quorums : Image → ℤ → Option KeyspaceRow → List ℕ
quorums image t None = no_text (codes "KEYSPACE")
quorums image t (Some keyspace) = quorum_text (codes "QUORUM") image.epoch (sets_at image keyspace.replication t)

-- the local quorums of a datacenter, if the replication of the keyspace names it
abbrev pub local_quorums_in : Image → ℤ → Replication → Option (List ℕ × ℕ) → List ℕ
local_quorums_in image t replication None = no_text (codes "DC")
local_quorums_in image t replication (Some f) = quorum_text (codes "LOCAL") image.epoch (local_sets_at image replication f t)

-- the local quorums of a datacenter for a keyspace, at a token
abbrev pub local_quorums : Image → List ℕ → ℤ → Option KeyspaceRow → List ℕ
local_quorums image dc t None = no_text (codes "KEYSPACE")
local_quorums image dc t (Some keyspace) =
    local_quorums_in image t keyspace.replication (datacenter_of (datacenters_of keyspace.replication) dc)

-- the answer to a query from an image
abbrev pub answer_from : Query → Image → List ℕ
answer_from (query.Place name) image = placements image (keyspace_of image name)
answer_from query.Nodes image = nodes_text image
answer_from (query.Quorum name t) image = quorums image t (keyspace_of image name)
answer_from (query.Local name dc t) image = local_quorums image dc t (keyspace_of image name)

-- the image of a follower, or the reason that there is none
abbrev pub image_named : Option NamedFollower → Result Image (List ℕ)
image_named None = Err (codes "FOLLOWER")
image_named (Some f) = Ok f.follower.image

-- the image that a target names, or the reason that there is none
abbrev pub image_of : SessionState → Target → Result Image (List ℕ)
image_of session (Epoch e) = image_at (commands_of session.log) e
image_of session (Named name) = image_named (follower_named session.followers name)

-- the text for a query, from the image of its target
abbrev pub query_text : Result Image (List ℕ) → Query → List ℕ
query_text (Ok image) asked = answer_from asked image
query_text (Err reason) asked = no_text reason

-- the answer to a query, which changes nothing
abbrev pub query_reply : SessionState → Target → Query → Reply
query_reply session target asked = only_answers session (query_text (image_of session target) asked)

-- the answer to the content of a line; a line that isn't in the grammar changes nothing
abbrev pub reply_to : SessionState → Option ScriptLine → Reply
reply_to session None = only_answers session (no_text (codes "BAD-LINE"))
reply_to session (Some (Commit id command)) = commit_reply session id command
reply_to session (Some (Follower name)) = follower_reply session name
reply_to session (Some (Deliver name epoch)) = on_follower session name (λ f. deliver_to session name f (entry_at session.log epoch))
reply_to session (Some (Snapshot name epoch)) = on_follower session name (λ f. snapshot_to session name f (image_at (commands_of session.log) epoch))
reply_to session (Some (Ask name max)) = on_follower session name (ask_of session max)
reply_to session (Some (Give name number)) = on_follower session name (λ f. give_to session name f (reply_numbered session.replies number))
reply_to session (Some (Place target name)) = query_reply session target (query.Place name)
reply_to session (Some (Nodes target)) = query_reply session target query.Nodes
reply_to session (Some (Quorum target name t)) = query_reply session target (query.Quorum name t)
reply_to session (Some (Local target name dc t)) = query_reply session target (query.Local name dc t)

-- the answer to a line
unfoldable pub reply : SessionState → List ℕ → Reply
reply session bytes = reply_to session (line_of bytes)

-- the session after a line with this answer
abbrev pub replied : SessionState → Reply → SessionState
replied session reply =
    record { log = session.log ++ reply.added; followers = reply.followers; replies = reply.replies }

-- the session after a line
abbrev pub session_next : SessionState → List ℕ → SessionState
session_next session bytes = replied session (reply session bytes)

-- the session after lines, one after another
abbrev pub session_after : SessionState → List (List ℕ) → SessionState
session_after session [] = session
session_after session (bytes ∷ lines) = session_after (session_next session bytes) lines

-- the texts of the answers to lines, one after another
abbrev pub answers : SessionState → List (List ℕ) → List ℕ
answers session [] = []
answers session (bytes ∷ lines) = (reply session bytes).text ++ answers (session_next session bytes) lines

-- the entries that lines add to the log, one after another
abbrev pub entries_added : SessionState → List (List ℕ) → List Entry
entries_added session [] = []
entries_added session (bytes ∷ lines) = (reply session bytes).added ++ entries_added (session_next session bytes) lines
